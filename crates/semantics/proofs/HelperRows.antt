-- Calls of helpers, with each answer that fits: what the prover computes of them.
-- The slots are what LLVM's assembler (llvm-mc 19) writes for the text beside them.
use Rattle.std.proofs.Common.{◌≡◌, ℕ, List, [], ◌∷◌, ◌++◌, Some, None, refl}
use Rattle.std.specs.List.{range_with_len}
use Rattle.std.specs.Int.{w64, to_le_bytes}
use Rattle.access_slots.specs.Declaration.{Declaration}
use Rattle.access_slots.specs.declared.slot.Record.{Record}
use Rattle.access_slots.specs.declared.slot.Mode.TheVariants as mode
use Rattle.access_slots.specs.declared.slot.Key.TheVariants.{Arg, Fixed}
use Rattle.access_slots.specs.declared.op.Op.TheVariants.{Read, Insert, Update, Delete}
use Rattle.access_slots.specs.declared.op.Said.{Said}
use Rattle.access_slots.specs.declared.op.Said.TheVariants.{Value, Absent, Done, Duplicate, Missing}
use Rattle.semantics.specs.Step.{EmptyRead, UnknownHelper, UndeclaredSlot, ReadOnlySlot}
use Rattle.semantics.specs.Reach.{zeros}
use Rattle.semantics.specs.Row.{Seen, Asks, Exits, Traps, seen_of}

-- one argument, 5, and two slots: the first for writing the record 3/7/9, the second for reading 4/8/5
abbrev two_slots : Declaration
two_slots =
    record {
      args = 1;
      slots = record { mode = mode.Write; dc = 3; table = 7; key = Fixed 9 } ∷ record { mode = mode.Read; dc = 4; table = 8; key = Arg 0 } ∷ [];
    }

abbrev first : Record
first = record { dc = 3; table = 7; key = 9 }

abbrev second : Record
second = record { dc = 4; table = 8; key = 5 }

-- a value that begins with this number and ends with the byte 63
abbrev value : ℕ → List ℕ
value n = to_le_bytes w64 n ++ range_with_len 8 56

abbrev called : List ℕ → List Said → Seen
called slots answers = seen_of two_slots slots (5 ∷ []) answers

-- ---- the question of each helper, and what each answer gives

-- r1 = 0; call 1; exit
read_asks : called (0x1b7 ∷ 0x100000085 ∷ 0x95 ∷ []) ([]) ≡ Asks 0 (Read first) 2
read_asks = refl

-- r1 = 1; call 1; exit
read_asks_by_an_argument : called (0x1000001b7 ∷ 0x100000085 ∷ 0x95 ∷ []) ([]) ≡ Asks 1 (Read second) 2
read_asks_by_an_argument = refl

-- r1 = 0; call 1; exit
read_value : called (0x1b7 ∷ 0x100000085 ∷ 0x95 ∷ []) (Value (value 77) ∷ []) ≡ Exits 196608 3
read_value = refl

-- r1 = 1; call 1; exit
read_value_of_the_second : called (0x1000001b7 ∷ 0x100000085 ∷ 0x95 ∷ []) (Value (value 77) ∷ []) ≡ Exits 196864 3
read_value_of_the_second = refl

-- r1 = 0; call 1; exit
read_absent : called (0x1b7 ∷ 0x100000085 ∷ 0x95 ∷ []) (Absent ∷ []) ≡ Exits 0 3
read_absent = refl

-- r1 = 0; call 1; r0 = *(u64 *)(r0 + 0); exit
read_fills_the_buffer : called (0x1b7 ∷ 0x100000085 ∷ 0x79 ∷ 0x95 ∷ []) (Value (value 77) ∷ []) ≡ Exits 77 4
read_fills_the_buffer = refl

-- r1 = 0; call 1; r0 = *(u8 *)(r0 + 63); exit
read_fills_the_buffers_end : called (0x1b7 ∷ 0x100000085 ∷ 0x3f0071 ∷ 0x95 ∷ []) (Value (value 77) ∷ []) ≡ Exits 63 4
read_fills_the_buffers_end = refl

-- r1 = 0; call 5; *(u64 *)(r0 + 0) = 7; *(u8 *)(r0 + 63) = 7; r6 = r0; r1 = 0; call 1; r0 = *(u64 *)(r6 + 0); exit
absent_empties_the_buffer : called (0x1b7 ∷ 0x500000085 ∷ 0x70000007a ∷ 0x7003f0072 ∷ 0x6bf ∷ 0x1b7 ∷ 0x100000085 ∷ 0x6079 ∷ 0x95 ∷ []) (Absent ∷ [])
    ≡ Exits 0 9
absent_empties_the_buffer = refl

-- r1 = 0; call 5; *(u64 *)(r0 + 0) = 7; *(u8 *)(r0 + 63) = 7; r6 = r0; r1 = 0; call 1; r0 = *(u8 *)(r6 + 63); exit
absent_empties_the_buffers_end : called (0x1b7 ∷ 0x500000085 ∷ 0x70000007a ∷ 0x7003f0072 ∷ 0x6bf ∷ 0x1b7 ∷ 0x100000085 ∷ 0x3f6071 ∷ 0x95 ∷ []) (Absent ∷ [])
    ≡ Exits 0 9
absent_empties_the_buffers_end = refl

-- r1 = 0; call 5; *(u64 *)(r0 + 0) = 7; r6 = r0; r1 = 1; call 1; r0 = *(u64 *)(r6 + 0); exit
read_of_the_second_leaves_the_first : called (0x1b7 ∷ 0x500000085 ∷ 0x70000007a ∷ 0x6bf ∷ 0x1000001b7 ∷ 0x100000085 ∷ 0x6079 ∷ 0x95 ∷ []) (Value (value 77) ∷ [])
    ≡ Exits 7 8
read_of_the_second_leaves_the_first = refl

-- r1 = 0; call 2; exit
insert_asks : called (0x1b7 ∷ 0x200000085 ∷ 0x95 ∷ []) ([]) ≡ Asks 0 (Insert first (zeros 64)) 2
insert_asks = refl

-- r1 = 0; call 2; exit
insert_done : called (0x1b7 ∷ 0x200000085 ∷ 0x95 ∷ []) (Done None ∷ []) ≡ Exits 0 3
insert_done = refl

-- r1 = 0; call 2; exit
insert_duplicate : called (0x1b7 ∷ 0x200000085 ∷ 0x95 ∷ []) (Duplicate ∷ []) ≡ Exits 1 3
insert_duplicate = refl

-- r1 = 0; call 3; exit
update_asks : called (0x1b7 ∷ 0x300000085 ∷ 0x95 ∷ []) ([]) ≡ Asks 0 (Update first (zeros 64)) 2
update_asks = refl

-- r1 = 0; call 3; exit
update_done : called (0x1b7 ∷ 0x300000085 ∷ 0x95 ∷ []) (Done (Some (value 77)) ∷ []) ≡ Exits 0 3
update_done = refl

-- r1 = 0; call 3; exit
update_missing : called (0x1b7 ∷ 0x300000085 ∷ 0x95 ∷ []) (Missing ∷ []) ≡ Exits 1 3
update_missing = refl

-- r1 = 0; call 1; r1 = 0; call 3; exit
update_sends_what_was_read : called (0x1b7 ∷ 0x100000085 ∷ 0x1b7 ∷ 0x300000085 ∷ 0x95 ∷ []) (Value (value 77) ∷ [])
    ≡ Asks 0 (Update first (value 77)) 4
update_sends_what_was_read = refl

-- r1 = 0; call 1; r6 = r0; r1 = 0; call 3; r0 = *(u64 *)(r6 + 0); exit
update_leaves_the_buffer : called (0x1b7 ∷ 0x100000085 ∷ 0x6bf ∷ 0x1b7 ∷ 0x300000085 ∷ 0x6079 ∷ 0x95 ∷ []) (Value (value 77) ∷ Missing ∷ [])
    ≡ Exits 77 7
update_leaves_the_buffer = refl

-- r1 = 0; call 4; exit
delete_asks : called (0x1b7 ∷ 0x400000085 ∷ 0x95 ∷ []) ([]) ≡ Asks 0 (Delete first) 2
delete_asks = refl

-- r1 = 0; call 4; exit
delete_done : called (0x1b7 ∷ 0x400000085 ∷ 0x95 ∷ []) (Done (Some (value 77)) ∷ []) ≡ Exits 0 3
delete_done = refl

-- r1 = 0; call 4; exit
delete_missing : called (0x1b7 ∷ 0x400000085 ∷ 0x95 ∷ []) (Missing ∷ []) ≡ Exits 1 3
delete_missing = refl

-- r1 = 0; call 5; exit
buffer_asks_nothing : called (0x1b7 ∷ 0x500000085 ∷ 0x95 ∷ []) ([]) ≡ Exits 196608 3
buffer_asks_nothing = refl

-- r1 = 1; call 5; exit
buffer_of_the_second : called (0x1000001b7 ∷ 0x500000085 ∷ 0x95 ∷ []) ([]) ≡ Exits 196864 3
buffer_of_the_second = refl

-- r1 = 0; call 5; r0 = *(u64 *)(r0 + 56); exit
buffer_begins_as_zeros : called (0x1b7 ∷ 0x500000085 ∷ 0x380079 ∷ 0x95 ∷ []) ([]) ≡ Exits 0 4
buffer_begins_as_zeros = refl

-- ---- registers over a call: 6 to 10 are kept

-- r6 = 46; r1 = 0; call 5; r0 = r6; exit
register_6_is_kept : called (0x2e000006b7 ∷ 0x1b7 ∷ 0x500000085 ∷ 0x60bf ∷ 0x95 ∷ []) ([]) ≡ Exits 46 5
register_6_is_kept = refl

-- r6 = 46; r1 = 0; call 1; r0 = r6; exit
register_6_is_kept_over_a_question : called (0x2e000006b7 ∷ 0x1b7 ∷ 0x100000085 ∷ 0x60bf ∷ 0x95 ∷ []) (Absent ∷ []) ≡ Exits 46 5
register_6_is_kept_over_a_question = refl

-- r7 = 47; r1 = 0; call 5; r0 = r7; exit
register_7_is_kept : called (0x2f000007b7 ∷ 0x1b7 ∷ 0x500000085 ∷ 0x70bf ∷ 0x95 ∷ []) ([]) ≡ Exits 47 5
register_7_is_kept = refl

-- r7 = 47; r1 = 0; call 1; r0 = r7; exit
register_7_is_kept_over_a_question : called (0x2f000007b7 ∷ 0x1b7 ∷ 0x100000085 ∷ 0x70bf ∷ 0x95 ∷ []) (Absent ∷ []) ≡ Exits 47 5
register_7_is_kept_over_a_question = refl

-- r8 = 48; r1 = 0; call 5; r0 = r8; exit
register_8_is_kept : called (0x30000008b7 ∷ 0x1b7 ∷ 0x500000085 ∷ 0x80bf ∷ 0x95 ∷ []) ([]) ≡ Exits 48 5
register_8_is_kept = refl

-- r8 = 48; r1 = 0; call 1; r0 = r8; exit
register_8_is_kept_over_a_question : called (0x30000008b7 ∷ 0x1b7 ∷ 0x100000085 ∷ 0x80bf ∷ 0x95 ∷ []) (Absent ∷ []) ≡ Exits 48 5
register_8_is_kept_over_a_question = refl

-- r9 = 49; r1 = 0; call 5; r0 = r9; exit
register_9_is_kept : called (0x31000009b7 ∷ 0x1b7 ∷ 0x500000085 ∷ 0x90bf ∷ 0x95 ∷ []) ([]) ≡ Exits 49 5
register_9_is_kept = refl

-- r9 = 49; r1 = 0; call 1; r0 = r9; exit
register_9_is_kept_over_a_question : called (0x31000009b7 ∷ 0x1b7 ∷ 0x100000085 ∷ 0x90bf ∷ 0x95 ∷ []) (Absent ∷ []) ≡ Exits 49 5
register_9_is_kept_over_a_question = refl

-- r1 = 0; call 1; r0 = r10; exit
register_10_is_kept : called (0x1b7 ∷ 0x100000085 ∷ 0xa0bf ∷ 0x95 ∷ []) (Absent ∷ []) ≡ Exits 66048 4
register_10_is_kept = refl

-- *(u64 *)(r10 - 8) = 9; r1 = 0; call 1; r0 = *(u64 *)(r10 - 8); exit
the_stack_is_kept : called (0x9fff80a7a ∷ 0x1b7 ∷ 0x100000085 ∷ 0xfff8a079 ∷ 0x95 ∷ []) (Absent ∷ []) ≡ Exits 9 5
the_stack_is_kept = refl

-- ---- 1 to 5 are empty afterwards

-- r1 = 0; call 5; r0 = r1; exit
register_1_is_empty : called (0x1b7 ∷ 0x500000085 ∷ 0x10bf ∷ 0x95 ∷ []) ([]) ≡ Traps EmptyRead
register_1_is_empty = refl

-- r1 = 0; call 1; r0 = r1; exit
register_1_is_empty_after_a_question : called (0x1b7 ∷ 0x100000085 ∷ 0x10bf ∷ 0x95 ∷ []) (Absent ∷ []) ≡ Traps EmptyRead
register_1_is_empty_after_a_question = refl

-- r2 = 7; r1 = 0; call 5; r0 = r2; exit
register_2_is_empty : called (0x7000002b7 ∷ 0x1b7 ∷ 0x500000085 ∷ 0x20bf ∷ 0x95 ∷ []) ([]) ≡ Traps EmptyRead
register_2_is_empty = refl

-- r2 = 7; r1 = 0; call 1; r0 = r2; exit
register_2_is_empty_after_a_question : called (0x7000002b7 ∷ 0x1b7 ∷ 0x100000085 ∷ 0x20bf ∷ 0x95 ∷ []) (Absent ∷ []) ≡ Traps EmptyRead
register_2_is_empty_after_a_question = refl

-- r3 = 7; r1 = 0; call 5; r0 = r3; exit
register_3_is_empty : called (0x7000003b7 ∷ 0x1b7 ∷ 0x500000085 ∷ 0x30bf ∷ 0x95 ∷ []) ([]) ≡ Traps EmptyRead
register_3_is_empty = refl

-- r3 = 7; r1 = 0; call 1; r0 = r3; exit
register_3_is_empty_after_a_question : called (0x7000003b7 ∷ 0x1b7 ∷ 0x100000085 ∷ 0x30bf ∷ 0x95 ∷ []) (Absent ∷ []) ≡ Traps EmptyRead
register_3_is_empty_after_a_question = refl

-- r4 = 7; r1 = 0; call 5; r0 = r4; exit
register_4_is_empty : called (0x7000004b7 ∷ 0x1b7 ∷ 0x500000085 ∷ 0x40bf ∷ 0x95 ∷ []) ([]) ≡ Traps EmptyRead
register_4_is_empty = refl

-- r4 = 7; r1 = 0; call 1; r0 = r4; exit
register_4_is_empty_after_a_question : called (0x7000004b7 ∷ 0x1b7 ∷ 0x100000085 ∷ 0x40bf ∷ 0x95 ∷ []) (Absent ∷ []) ≡ Traps EmptyRead
register_4_is_empty_after_a_question = refl

-- r5 = 7; r1 = 0; call 5; r0 = r5; exit
register_5_is_empty : called (0x7000005b7 ∷ 0x1b7 ∷ 0x500000085 ∷ 0x50bf ∷ 0x95 ∷ []) ([]) ≡ Traps EmptyRead
register_5_is_empty = refl

-- r5 = 7; r1 = 0; call 1; r0 = r5; exit
register_5_is_empty_after_a_question : called (0x7000005b7 ∷ 0x1b7 ∷ 0x100000085 ∷ 0x50bf ∷ 0x95 ∷ []) (Absent ∷ []) ≡ Traps EmptyRead
register_5_is_empty_after_a_question = refl

-- ---- calls that trap

-- r1 = 0; call 6; exit
no_such_helper : called (0x1b7 ∷ 0x600000085 ∷ 0x95 ∷ []) ([]) ≡ Traps UnknownHelper
no_such_helper = refl

-- r1 = 0; call 0; exit
no_helper_0 : called (0x1b7 ∷ 0x85 ∷ 0x95 ∷ []) ([]) ≡ Traps UnknownHelper
no_helper_0 = refl

-- r1 = 0; call -1; exit
no_helper_below_0 : called (0x1b7 ∷ 0xffffffff00000085 ∷ 0x95 ∷ []) ([]) ≡ Traps UnknownHelper
no_helper_below_0 = refl

-- r1 = 2; call 1; exit
read_of_no_slot : called (0x2000001b7 ∷ 0x100000085 ∷ 0x95 ∷ []) ([]) ≡ Traps UndeclaredSlot
read_of_no_slot = refl

-- r1 = 2; call 2; exit
insert_of_no_slot : called (0x2000001b7 ∷ 0x200000085 ∷ 0x95 ∷ []) ([]) ≡ Traps UndeclaredSlot
insert_of_no_slot = refl

-- r1 = 2; call 3; exit
update_of_no_slot : called (0x2000001b7 ∷ 0x300000085 ∷ 0x95 ∷ []) ([]) ≡ Traps UndeclaredSlot
update_of_no_slot = refl

-- r1 = 2; call 4; exit
delete_of_no_slot : called (0x2000001b7 ∷ 0x400000085 ∷ 0x95 ∷ []) ([]) ≡ Traps UndeclaredSlot
delete_of_no_slot = refl

-- r1 = 2; call 5; exit
buffer_of_no_slot : called (0x2000001b7 ∷ 0x500000085 ∷ 0x95 ∷ []) ([]) ≡ Traps UndeclaredSlot
buffer_of_no_slot = refl

-- r1 = 1; call 2; exit
insert_through_a_slot_for_reading : called (0x1000001b7 ∷ 0x200000085 ∷ 0x95 ∷ []) ([]) ≡ Traps ReadOnlySlot
insert_through_a_slot_for_reading = refl

-- r1 = 1; call 3; exit
update_through_a_slot_for_reading : called (0x1000001b7 ∷ 0x300000085 ∷ 0x95 ∷ []) ([]) ≡ Traps ReadOnlySlot
update_through_a_slot_for_reading = refl

-- r1 = 1; call 4; exit
delete_through_a_slot_for_reading : called (0x1000001b7 ∷ 0x400000085 ∷ 0x95 ∷ []) ([]) ≡ Traps ReadOnlySlot
delete_through_a_slot_for_reading = refl

-- r6 = 1; r1 = 0; call 5; call 5; exit
call_without_a_slot : called (0x1000006b7 ∷ 0x1b7 ∷ 0x500000085 ∷ 0x500000085 ∷ 0x95 ∷ []) ([]) ≡ Traps EmptyRead
call_without_a_slot = refl

-- r1 = 0x100000000 ll; call 5; exit
slot_by_the_whole_register : called (0x118 ∷ 0x100000000 ∷ 0x500000085 ∷ 0x95 ∷ []) ([]) ≡ Traps UndeclaredSlot
slot_by_the_whole_register = refl
