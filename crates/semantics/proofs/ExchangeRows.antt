-- Atomic operations: worked rows, and the traps that they can have, by what the prover computes.
use Rattle.std.proofs.Common.{◌≡◌, ℕ, List, [], ◌∷◌, ◌++◌, Some, refl}
use Rattle.std.specs.List.{range_with_len}
use Rattle.std.specs.Int.{w64, to_le_bytes}
use Rattle.access_slots.specs.declared.slot.Record.{Record}
use Rattle.access_slots.specs.declared.slot.Mode.TheVariants as mode
use Rattle.access_slots.specs.declared.slot.Key.TheVariants.{Fixed}
use Rattle.access_slots.specs.declared.op.Op.TheVariants.{Read, Update}
use Rattle.access_slots.specs.declared.op.Said.{Said}
use Rattle.access_slots.specs.declared.op.Said.TheVariants.{Value, Absent, Done, Missing}
use Rattle.semantics.specs.Step.{EmptyRead, BadAccess, WroteR10, NothingSpelled}
use Rattle.semantics.specs.Row.{outcome_of, bytes_of_slots, Seen, Asks, Exits, Traps, seen_of}

-- mov r1, 7; stdw [r10-8], 40; atomic_fetch_add_dw [r10-8], r1; ldxdw r0, [r10-8]; add r0, r1; exit
old_and_new_number : outcome_of (bytes_of_slots (0x7000001b7 ∷ 0x28fff80a7a ∷ 0x1fff81adb ∷ 0xfff8a079 ∷ 0x100f ∷ 0x95 ∷ [])) [] ≡ Some (87, 6)
old_and_new_number = refl

-- mov r0, 40; mov r1, 9; stdw [r10-8], 40; atomic_cmpxchg_dw [r10-8], r1; ldxdw r2, [r10-8]; add r0, r2; exit
exchanged_where_equal : outcome_of (bytes_of_slots (0x28000000b7 ∷ 0x9000001b7 ∷ 0x28fff80a7a ∷ 0xf1fff81adb ∷ 0xfff8a279 ∷ 0x200f ∷ 0x95 ∷ [])) []
    ≡ Some (49, 7)
exchanged_where_equal = refl

-- the same with mov r0, 41
kept_where_unequal : outcome_of (bytes_of_slots (0x29000000b7 ∷ 0x9000001b7 ∷ 0x28fff80a7a ∷ 0xf1fff81adb ∷ 0xfff8a279 ∷ 0x200f ∷ 0x95 ∷ [])) []
    ≡ Some (80, 7)
kept_where_unequal = refl

-- lddw r0, 0x0000000100000028; mov r1, 9; stdw [r10-8], 40; atomic_cmpxchg_w [r10-8], r1; exit
compared_in_the_low_half : outcome_of (bytes_of_slots (0x2800000018 ∷ 0x100000000 ∷ 0x9000001b7 ∷ 0x28fff80a7a ∷ 0xf1fff81ac3 ∷ 0x95 ∷ [])) []
    ≡ Some (40, 5)
compared_in_the_low_half = refl

-- ---- traps

-- no arguments and no slots
abbrev seen_alone : List ℕ → Seen
seen_alone slots = seen_of (record { args = 0; slots = [] }) slots [] []

-- atomic_add_dw [r10-8], r5: nothing is in r5
source_is_empty : seen_alone (0xfff85adb ∷ 0x95 ∷ []) ≡ Traps EmptyRead
source_is_empty = refl

-- atomic_add_dw [r5+0], r10
base_is_empty : seen_alone (0xa5db ∷ 0x95 ∷ []) ≡ Traps EmptyRead
base_is_empty = refl

-- atomic_cmpxchg_dw [r10-8], r10: nothing is in r0
nothing_to_compare_with : seen_alone (0xf1fff8aadb ∷ 0x95 ∷ []) ≡ Traps EmptyRead
nothing_to_compare_with = refl

-- atomic_xchg_dw [r10-8], r10
exchanged_into_register_10 : seen_alone (0xe1fff8aadb ∷ 0x95 ∷ []) ≡ Traps WroteR10
exchanged_into_register_10 = refl

-- mov r0, 0; atomic_cmpxchg_dw [r10-8], r10; exit: register 10 is stored and not written
register_10_stored : seen_alone (0xb7 ∷ 0xf1fff8aadb ∷ 0x95 ∷ []) ≡ Exits 0 3
register_10_stored = refl

-- atomic_add_dw [r10-4], r10: beyond the stack
beyond_the_stack : seen_alone (0xfffcaadb ∷ 0x95 ∷ []) ≡ Traps BadAccess
beyond_the_stack = refl

-- with one argument, atomic_add_dw [r1+0], r1; and where unequal nothing changes: mov r0, 1; atomic_cmpxchg_dw [r1+0], r0
into_the_arguments : seen_of (record { args = 1; slots = [] }) (0x11db ∷ 0x95 ∷ []) (5 ∷ []) [] ≡ Traps BadAccess
into_the_arguments = refl

compared_in_the_arguments : seen_of (record { args = 1; slots = [] }) (0x1000000b7 ∷ 0xf1000001db ∷ 0x95 ∷ []) (5 ∷ []) [] ≡ Traps BadAccess
compared_in_the_arguments = refl

-- mov r0, 0; and then an imm that selects nothing: 2, and XCHG without FETCH
imm_that_selects_nothing : seen_alone (0xb7 ∷ 0x2fff80adb ∷ 0x95 ∷ []) ≡ Traps NothingSpelled
imm_that_selects_nothing = refl

exchange_without_fetch : seen_alone (0xb7 ∷ 0xe0fff80adb ∷ 0x95 ∷ []) ≡ Traps NothingSpelled
exchange_without_fetch = refl

-- the opcode for 2 bytes
on_two_bytes : seen_alone (0xb7 ∷ 0xfff80acb ∷ 0x95 ∷ []) ≡ Traps NothingSpelled
on_two_bytes = refl

-- ---- C functions by clang 14 (-target bpf -mcpu=v3 -O2)

-- u64 number = arguments[0]; u64 before = __sync_fetch_and_add(&number, arguments[1]); return 31 * before + number;
abbrev sum_on_the_stack : List ℕ
sum_on_the_stack = bytes_of_slots (0x1279 ∷ 0xfff82a7b ∷ 0x81079 ∷ 0x1fff80adb ∷ 0x1f00000027 ∷ 0xfff8a179 ∷ 0x100f ∷ 0x95 ∷ [])

stack_sum : outcome_of sum_on_the_stack (40 ∷ 7 ∷ []) ≡ Some (1287, 8)
stack_sum = refl

stack_sum_wraps : outcome_of sum_on_the_stack (18446744073709551615 ∷ 3 ∷ []) ≡ Some (18446744073709551587, 8)
stack_sum_wraps = refl

-- u64 *number = read_record(0); if (!number) return 0;
-- u64 before = __sync_fetch_and_add(number, arguments[0]); return update_record(0) ? 0 : before;
abbrev add_to_a_record : List Said → Seen
add_to_a_record answers =
    seen_of (record { args = 1; slots = record { mode = mode.Write; dc = 0; table = 0; key = Fixed 9 } ∷ [] })
    (0x17bf ∷ 0x6b7 ∷ 0x1b7 ∷ 0x100000085 ∷ 0x60015 ∷ 0x7679 ∷ 0x1000060db ∷ 0x1b7 ∷ 0x300000085 ∷ 0x10015 ∷ 0x6b7 ∷ 0x60bf ∷ 0x95 ∷ []) (7 ∷ []) answers

abbrev counter : Record
counter = record { dc = 0; table = 0; key = 9 }

-- a value that begins with this number
abbrev value : ℕ → List ℕ
value n = to_le_bytes w64 n ++ range_with_len 8 56

record_is_read : add_to_a_record [] ≡ Asks 0 (Read counter) 4
record_is_read = refl

record_is_counted_up : add_to_a_record (Value (value 40) ∷ []) ≡ Asks 0 (Update counter (value 47)) 9
record_is_counted_up = refl

record_was_written : add_to_a_record (Value (value 40) ∷ Done (Some (value 40)) ∷ []) ≡ Exits 40 12
record_was_written = refl

record_was_not_written : add_to_a_record (Value (value 40) ∷ Missing ∷ []) ≡ Exits 0 13
record_was_not_written = refl

record_is_absent : add_to_a_record (Absent ∷ []) ≡ Exits 0 7
record_is_absent = refl
