-- Each cause of a trap, and what is just not one: what the prover computes.
-- The slots are what LLVM's assembler (llvm-mc 19) writes for the text beside them, but for slots that no instruction spells.
use Rattle.std.proofs.Common.{◌≡◌, ℕ, List, [], ◌∷◌, refl}
use Rattle.access_slots.specs.Declaration.{Declaration}
use Rattle.access_slots.specs.declared.slot.Mode.TheVariants as mode
use Rattle.access_slots.specs.declared.slot.Key.TheVariants.{Arg, Fixed}
use Rattle.semantics.specs.Step.{EmptyRead, BadAccess, WroteR10, OutOfCode, NothingSpelled}
use Rattle.semantics.specs.Row.{Seen, Exits, Traps, Goes, seen_of}

-- one argument, 5, and two slots: the first for writing the record 3/7/9, the second for reading 4/8/5
abbrev two_slots : Declaration
two_slots =
    record {
      args = 1;
      slots = record { mode = mode.Write; dc = 3; table = 7; key = Fixed 9 } ∷ record { mode = mode.Read; dc = 4; table = 8; key = Arg 0 } ∷ [];
    }

abbrev seen_with : List ℕ → Seen
seen_with slots = seen_of two_slots slots (5 ∷ []) []

-- ---- a register that is read is empty

-- r0 = r5; exit
move_of_an_empty_register : seen_with (0x50bf ∷ 0x95 ∷ []) ≡ Traps EmptyRead
move_of_an_empty_register = refl

-- r10 += r0; exit
register_0_begins_empty : seen_with (0xa0f ∷ 0x95 ∷ []) ≡ Traps EmptyRead
register_0_begins_empty = refl

-- r10 += r2; exit
register_2_begins_empty : seen_with (0x2a0f ∷ 0x95 ∷ []) ≡ Traps EmptyRead
register_2_begins_empty = refl

-- r10 += r3; exit
register_3_begins_empty : seen_with (0x3a0f ∷ 0x95 ∷ []) ≡ Traps EmptyRead
register_3_begins_empty = refl

-- r10 += r4; exit
register_4_begins_empty : seen_with (0x4a0f ∷ 0x95 ∷ []) ≡ Traps EmptyRead
register_4_begins_empty = refl

-- r10 += r5; exit
register_5_begins_empty : seen_with (0x5a0f ∷ 0x95 ∷ []) ≡ Traps EmptyRead
register_5_begins_empty = refl

-- r10 += r6; exit
register_6_begins_empty : seen_with (0x6a0f ∷ 0x95 ∷ []) ≡ Traps EmptyRead
register_6_begins_empty = refl

-- r10 += r7; exit
register_7_begins_empty : seen_with (0x7a0f ∷ 0x95 ∷ []) ≡ Traps EmptyRead
register_7_begins_empty = refl

-- r10 += r8; exit
register_8_begins_empty : seen_with (0x8a0f ∷ 0x95 ∷ []) ≡ Traps EmptyRead
register_8_begins_empty = refl

-- r10 += r9; exit
register_9_begins_empty : seen_with (0x9a0f ∷ 0x95 ∷ []) ≡ Traps EmptyRead
register_9_begins_empty = refl

-- r0 += 1; exit
add_to_an_empty_register : seen_with (0x100000007 ∷ 0x95 ∷ []) ≡ Traps EmptyRead
add_to_an_empty_register = refl

-- w0 += 1; exit
narrow_add_to_an_empty_register : seen_with (0x100000004 ∷ 0x95 ∷ []) ≡ Traps EmptyRead
narrow_add_to_an_empty_register = refl

-- r0 = 1; r0 += r5; exit
add_of_an_empty_register : seen_with (0x1000000b7 ∷ 0x500f ∷ 0x95 ∷ []) ≡ Traps EmptyRead
add_of_an_empty_register = refl

-- r0 = -r0; exit
negation_of_an_empty_register : seen_with (0x87 ∷ 0x95 ∷ []) ≡ Traps EmptyRead
negation_of_an_empty_register = refl

-- r0 = be16 r0; exit
order_of_an_empty_register : seen_with (0x10000000dc ∷ 0x95 ∷ []) ≡ Traps EmptyRead
order_of_an_empty_register = refl

-- r0 = (s8)r5; exit
sign_of_an_empty_register : seen_with (0x850bf ∷ 0x95 ∷ []) ≡ Traps EmptyRead
sign_of_an_empty_register = refl

-- if r5 == 0 goto +0; r0 = 0; exit
jump_by_an_empty_register : seen_with (0x515 ∷ 0xb7 ∷ 0x95 ∷ []) ≡ Traps EmptyRead
jump_by_an_empty_register = refl

-- r0 = 0; if r0 == r5 goto +0; exit
jump_by_an_empty_second_register : seen_with (0xb7 ∷ 0x501d ∷ 0x95 ∷ []) ≡ Traps EmptyRead
jump_by_an_empty_second_register = refl

-- r0 = *(u8 *)(r5 + 0); exit
load_by_an_empty_register : seen_with (0x5071 ∷ 0x95 ∷ []) ≡ Traps EmptyRead
load_by_an_empty_register = refl

-- r0 = *(s8 *)(r5 + 0); exit
signed_load_by_an_empty_register : seen_with (0x5091 ∷ 0x95 ∷ []) ≡ Traps EmptyRead
signed_load_by_an_empty_register = refl

-- *(u8 *)(r5 + 0) = 1; exit
store_by_an_empty_register : seen_with (0x100000572 ∷ 0x95 ∷ []) ≡ Traps EmptyRead
store_by_an_empty_register = refl

-- *(u64 *)(r10 - 8) = r5; exit
store_of_an_empty_register : seen_with (0xfff85a7b ∷ 0x95 ∷ []) ≡ Traps EmptyRead
store_of_an_empty_register = refl

-- exit
exit_without_a_value : seen_with (0x95 ∷ []) ≡ Traps EmptyRead
exit_without_a_value = refl

-- r1 = 0; call 5; call 5; exit
call_with_an_empty_register : seen_with (0x1b7 ∷ 0x500000085 ∷ 0x500000085 ∷ 0x95 ∷ []) ≡ Traps EmptyRead
call_with_an_empty_register = refl

-- ---- memory that no region holds, or that isn't written

-- r0 = *(u8 *)(r10 - 512); exit
load_of_u8_at_the_stacks_first_byte : seen_with (0xfe00a071 ∷ 0x95 ∷ []) ≡ Exits 0 2
load_of_u8_at_the_stacks_first_byte = refl

-- r0 = *(u8 *)(r10 - 513); exit
load_of_u8_below_the_stack : seen_with (0xfdffa071 ∷ 0x95 ∷ []) ≡ Traps BadAccess
load_of_u8_below_the_stack = refl

-- r0 = *(u8 *)(r10 - 1); exit
load_of_u8_at_the_stacks_end : seen_with (0xffffa071 ∷ 0x95 ∷ []) ≡ Exits 0 2
load_of_u8_at_the_stacks_end = refl

-- r0 = *(u8 *)(r10 - 0); exit
load_of_u8_past_the_stack : seen_with (0xa071 ∷ 0x95 ∷ []) ≡ Traps BadAccess
load_of_u8_past_the_stack = refl

-- r0 = 1; *(u8 *)(r10 - 512) = r0; exit
store_of_u8_at_the_stacks_first_byte : seen_with (0x1000000b7 ∷ 0xfe000a73 ∷ 0x95 ∷ []) ≡ Exits 1 3
store_of_u8_at_the_stacks_first_byte = refl

-- r0 = 1; *(u8 *)(r10 - 513) = r0; exit
store_of_u8_below_the_stack : seen_with (0x1000000b7 ∷ 0xfdff0a73 ∷ 0x95 ∷ []) ≡ Traps BadAccess
store_of_u8_below_the_stack = refl

-- r0 = 1; *(u8 *)(r10 - 1) = r0; exit
store_of_u8_at_the_stacks_end : seen_with (0x1000000b7 ∷ 0xffff0a73 ∷ 0x95 ∷ []) ≡ Exits 1 3
store_of_u8_at_the_stacks_end = refl

-- r0 = 1; *(u8 *)(r10 - 0) = r0; exit
store_of_u8_past_the_stack : seen_with (0x1000000b7 ∷ 0xa73 ∷ 0x95 ∷ []) ≡ Traps BadAccess
store_of_u8_past_the_stack = refl

-- *(u8 *)(r10 - 0) = 1; exit
store_of_a_number_as_u8_past_the_stack : seen_with (0x100000a72 ∷ 0x95 ∷ []) ≡ Traps BadAccess
store_of_a_number_as_u8_past_the_stack = refl

-- r0 = *(u16 *)(r10 - 512); exit
load_of_u16_at_the_stacks_first_byte : seen_with (0xfe00a069 ∷ 0x95 ∷ []) ≡ Exits 0 2
load_of_u16_at_the_stacks_first_byte = refl

-- r0 = *(u16 *)(r10 - 513); exit
load_of_u16_below_the_stack : seen_with (0xfdffa069 ∷ 0x95 ∷ []) ≡ Traps BadAccess
load_of_u16_below_the_stack = refl

-- r0 = *(u16 *)(r10 - 2); exit
load_of_u16_at_the_stacks_end : seen_with (0xfffea069 ∷ 0x95 ∷ []) ≡ Exits 0 2
load_of_u16_at_the_stacks_end = refl

-- r0 = *(u16 *)(r10 - 1); exit
load_of_u16_past_the_stack : seen_with (0xffffa069 ∷ 0x95 ∷ []) ≡ Traps BadAccess
load_of_u16_past_the_stack = refl

-- r0 = 1; *(u16 *)(r10 - 512) = r0; exit
store_of_u16_at_the_stacks_first_byte : seen_with (0x1000000b7 ∷ 0xfe000a6b ∷ 0x95 ∷ []) ≡ Exits 1 3
store_of_u16_at_the_stacks_first_byte = refl

-- r0 = 1; *(u16 *)(r10 - 513) = r0; exit
store_of_u16_below_the_stack : seen_with (0x1000000b7 ∷ 0xfdff0a6b ∷ 0x95 ∷ []) ≡ Traps BadAccess
store_of_u16_below_the_stack = refl

-- r0 = 1; *(u16 *)(r10 - 2) = r0; exit
store_of_u16_at_the_stacks_end : seen_with (0x1000000b7 ∷ 0xfffe0a6b ∷ 0x95 ∷ []) ≡ Exits 1 3
store_of_u16_at_the_stacks_end = refl

-- r0 = 1; *(u16 *)(r10 - 1) = r0; exit
store_of_u16_past_the_stack : seen_with (0x1000000b7 ∷ 0xffff0a6b ∷ 0x95 ∷ []) ≡ Traps BadAccess
store_of_u16_past_the_stack = refl

-- *(u16 *)(r10 - 1) = 1; exit
store_of_a_number_as_u16_past_the_stack : seen_with (0x1ffff0a6a ∷ 0x95 ∷ []) ≡ Traps BadAccess
store_of_a_number_as_u16_past_the_stack = refl

-- r0 = *(u32 *)(r10 - 512); exit
load_of_u32_at_the_stacks_first_byte : seen_with (0xfe00a061 ∷ 0x95 ∷ []) ≡ Exits 0 2
load_of_u32_at_the_stacks_first_byte = refl

-- r0 = *(u32 *)(r10 - 513); exit
load_of_u32_below_the_stack : seen_with (0xfdffa061 ∷ 0x95 ∷ []) ≡ Traps BadAccess
load_of_u32_below_the_stack = refl

-- r0 = *(u32 *)(r10 - 4); exit
load_of_u32_at_the_stacks_end : seen_with (0xfffca061 ∷ 0x95 ∷ []) ≡ Exits 0 2
load_of_u32_at_the_stacks_end = refl

-- r0 = *(u32 *)(r10 - 3); exit
load_of_u32_past_the_stack : seen_with (0xfffda061 ∷ 0x95 ∷ []) ≡ Traps BadAccess
load_of_u32_past_the_stack = refl

-- r0 = 1; *(u32 *)(r10 - 512) = r0; exit
store_of_u32_at_the_stacks_first_byte : seen_with (0x1000000b7 ∷ 0xfe000a63 ∷ 0x95 ∷ []) ≡ Exits 1 3
store_of_u32_at_the_stacks_first_byte = refl

-- r0 = 1; *(u32 *)(r10 - 513) = r0; exit
store_of_u32_below_the_stack : seen_with (0x1000000b7 ∷ 0xfdff0a63 ∷ 0x95 ∷ []) ≡ Traps BadAccess
store_of_u32_below_the_stack = refl

-- r0 = 1; *(u32 *)(r10 - 4) = r0; exit
store_of_u32_at_the_stacks_end : seen_with (0x1000000b7 ∷ 0xfffc0a63 ∷ 0x95 ∷ []) ≡ Exits 1 3
store_of_u32_at_the_stacks_end = refl

-- r0 = 1; *(u32 *)(r10 - 3) = r0; exit
store_of_u32_past_the_stack : seen_with (0x1000000b7 ∷ 0xfffd0a63 ∷ 0x95 ∷ []) ≡ Traps BadAccess
store_of_u32_past_the_stack = refl

-- *(u32 *)(r10 - 3) = 1; exit
store_of_a_number_as_u32_past_the_stack : seen_with (0x1fffd0a62 ∷ 0x95 ∷ []) ≡ Traps BadAccess
store_of_a_number_as_u32_past_the_stack = refl

-- r0 = *(u64 *)(r10 - 512); exit
load_of_u64_at_the_stacks_first_byte : seen_with (0xfe00a079 ∷ 0x95 ∷ []) ≡ Exits 0 2
load_of_u64_at_the_stacks_first_byte = refl

-- r0 = *(u64 *)(r10 - 513); exit
load_of_u64_below_the_stack : seen_with (0xfdffa079 ∷ 0x95 ∷ []) ≡ Traps BadAccess
load_of_u64_below_the_stack = refl

-- r0 = *(u64 *)(r10 - 8); exit
load_of_u64_at_the_stacks_end : seen_with (0xfff8a079 ∷ 0x95 ∷ []) ≡ Exits 0 2
load_of_u64_at_the_stacks_end = refl

-- r0 = *(u64 *)(r10 - 7); exit
load_of_u64_past_the_stack : seen_with (0xfff9a079 ∷ 0x95 ∷ []) ≡ Traps BadAccess
load_of_u64_past_the_stack = refl

-- r0 = 1; *(u64 *)(r10 - 512) = r0; exit
store_of_u64_at_the_stacks_first_byte : seen_with (0x1000000b7 ∷ 0xfe000a7b ∷ 0x95 ∷ []) ≡ Exits 1 3
store_of_u64_at_the_stacks_first_byte = refl

-- r0 = 1; *(u64 *)(r10 - 513) = r0; exit
store_of_u64_below_the_stack : seen_with (0x1000000b7 ∷ 0xfdff0a7b ∷ 0x95 ∷ []) ≡ Traps BadAccess
store_of_u64_below_the_stack = refl

-- r0 = 1; *(u64 *)(r10 - 8) = r0; exit
store_of_u64_at_the_stacks_end : seen_with (0x1000000b7 ∷ 0xfff80a7b ∷ 0x95 ∷ []) ≡ Exits 1 3
store_of_u64_at_the_stacks_end = refl

-- r0 = 1; *(u64 *)(r10 - 7) = r0; exit
store_of_u64_past_the_stack : seen_with (0x1000000b7 ∷ 0xfff90a7b ∷ 0x95 ∷ []) ≡ Traps BadAccess
store_of_u64_past_the_stack = refl

-- *(u64 *)(r10 - 7) = 1; exit
store_of_a_number_as_u64_past_the_stack : seen_with (0x1fff90a7a ∷ 0x95 ∷ []) ≡ Traps BadAccess
store_of_a_number_as_u64_past_the_stack = refl

-- r0 = *(u64 *)(r1 + 0); exit
load_of_the_argument : seen_with (0x1079 ∷ 0x95 ∷ []) ≡ Exits 5 2
load_of_the_argument = refl

-- r0 = *(u64 *)(r1 + 1); exit
load_past_the_argument : seen_with (0x11079 ∷ 0x95 ∷ []) ≡ Traps BadAccess
load_past_the_argument = refl

-- r0 = *(u64 *)(r1 - 1); exit
load_before_the_argument : seen_with (0xffff1079 ∷ 0x95 ∷ []) ≡ Traps BadAccess
load_before_the_argument = refl

-- r0 = *(u64 *)(r1 + 8); exit
load_of_another_argument : seen_with (0x81079 ∷ 0x95 ∷ []) ≡ Traps BadAccess
load_of_another_argument = refl

-- r0 = 1; *(u64 *)(r1 + 0) = r0; exit
store_into_the_arguments : seen_with (0x1000000b7 ∷ 0x17b ∷ 0x95 ∷ []) ≡ Traps BadAccess
store_into_the_arguments = refl

-- r0 = 1; *(u8 *)(r1 + 7) = 1; exit
store_of_a_number_into_the_arguments : seen_with (0x1000000b7 ∷ 0x100070172 ∷ 0x95 ∷ []) ≡ Traps BadAccess
store_of_a_number_into_the_arguments = refl

-- r1 = 0; call 5; r0 = *(u64 *)(r0 + 56); exit
load_of_a_buffers_last_bytes : seen_with (0x1b7 ∷ 0x500000085 ∷ 0x380079 ∷ 0x95 ∷ []) ≡ Exits 0 4
load_of_a_buffers_last_bytes = refl

-- r1 = 0; call 5; r0 = *(u64 *)(r0 + 57); exit
load_past_a_buffer : seen_with (0x1b7 ∷ 0x500000085 ∷ 0x390079 ∷ 0x95 ∷ []) ≡ Traps BadAccess
load_past_a_buffer = refl

-- r1 = 0; call 5; r0 = *(u64 *)(r0 - 1); exit
load_before_a_buffer : seen_with (0x1b7 ∷ 0x500000085 ∷ 0xffff0079 ∷ 0x95 ∷ []) ≡ Traps BadAccess
load_before_a_buffer = refl

-- r1 = 1; call 5; *(u64 *)(r0 + 56) = 3; r0 = *(u64 *)(r0 + 56); exit
store_into_a_buffer_for_reading : seen_with (0x1000001b7 ∷ 0x500000085 ∷ 0x30038007a ∷ 0x380079 ∷ 0x95 ∷ []) ≡ Exits 3 5
store_into_a_buffer_for_reading = refl

-- r1 = 1; call 5; *(u64 *)(r0 + 57) = 3; exit
store_past_a_buffer : seen_with (0x1000001b7 ∷ 0x500000085 ∷ 0x30039007a ∷ 0x95 ∷ []) ≡ Traps BadAccess
store_past_a_buffer = refl

-- r1 = 1; call 5; r0 = *(u64 *)(r0 + 256); exit
load_of_an_undeclared_slots_buffer : seen_with (0x1000001b7 ∷ 0x500000085 ∷ 0x1000079 ∷ 0x95 ∷ []) ≡ Traps BadAccess
load_of_an_undeclared_slots_buffer = refl

-- r0 = 0; r0 = *(u8 *)(r0 + 0); exit
load_at_0 : seen_with (0xb7 ∷ 0x71 ∷ 0x95 ∷ []) ≡ Traps BadAccess
load_at_0 = refl

-- r0 = 65536; r0 = *(u8 *)(r0 + 0); exit
load_at_a_number : seen_with (0x10000000000b7 ∷ 0x71 ∷ 0x95 ∷ []) ≡ Exits 0 3
load_at_a_number = refl

-- r0 = -1; r0 = *(u8 *)(r0 + 1); exit
address_beyond_64_bits : seen_with (0xffffffff000000b7 ∷ 0x10071 ∷ 0x95 ∷ []) ≡ Traps BadAccess
address_beyond_64_bits = refl

-- ---- register 10 is written

-- r10 = 5; exit
number_into_register_10 : seen_with (0x500000ab7 ∷ 0x95 ∷ []) ≡ Traps WroteR10
number_into_register_10 = refl

-- r10 = r1; exit
register_into_register_10 : seen_with (0x1abf ∷ 0x95 ∷ []) ≡ Traps WroteR10
register_into_register_10 = refl

-- w10 = 5; exit
narrow_number_into_register_10 : seen_with (0x500000ab4 ∷ 0x95 ∷ []) ≡ Traps WroteR10
narrow_number_into_register_10 = refl

-- r10 += 8; exit
add_to_register_10 : seen_with (0x800000a07 ∷ 0x95 ∷ []) ≡ Traps WroteR10
add_to_register_10 = refl

-- r10 = -r10; exit
negation_of_register_10 : seen_with (0xa87 ∷ 0x95 ∷ []) ≡ Traps WroteR10
negation_of_register_10 = refl

-- r10 = (s32)r1; exit
sign_into_register_10 : seen_with (0x201abf ∷ 0x95 ∷ []) ≡ Traps WroteR10
sign_into_register_10 = refl

-- r10 = le64 r10; exit
order_of_register_10 : seen_with (0x4000000ad4 ∷ 0x95 ∷ []) ≡ Traps WroteR10
order_of_register_10 = refl

-- r10 = 1 ll; exit
wide_number_into_register_10 : seen_with (0x100000a18 ∷ 0x0 ∷ 0x95 ∷ []) ≡ Traps WroteR10
wide_number_into_register_10 = refl

-- r10 = *(u64 *)(r1 + 0); exit
load_into_register_10 : seen_with (0x1a79 ∷ 0x95 ∷ []) ≡ Traps WroteR10
load_into_register_10 = refl

-- r10 = *(s32 *)(r1 + 0); exit
signed_load_into_register_10 : seen_with (0x1a81 ∷ 0x95 ∷ []) ≡ Traps WroteR10
signed_load_into_register_10 = refl

-- ---- a place outside of the code

-- goto +1; exit; r0 = 0
code_falls_off : seen_with (0x10005 ∷ 0x95 ∷ 0xb7 ∷ []) ≡ Traps OutOfCode
code_falls_off = refl

-- r0 = 0
code_falls_off_with_its_last_step : seen_with (0xb7 ∷ []) ≡ Goes
code_falls_off_with_its_last_step = refl

-- goto +1; exit
jump_past_the_code : seen_with (0x10005 ∷ 0x95 ∷ []) ≡ Traps OutOfCode
jump_past_the_code = refl

-- gotol +1; exit
long_jump_past_the_code : seen_with (0x100000006 ∷ 0x95 ∷ []) ≡ Traps OutOfCode
long_jump_past_the_code = refl

-- goto -2; exit
jump_before_the_code : seen_with (0xfffe0005 ∷ 0x95 ∷ []) ≡ Traps OutOfCode
jump_before_the_code = refl

-- gotol -2; exit
long_jump_before_the_code : seen_with (0xfffffffe00000006 ∷ 0x95 ∷ []) ≡ Traps OutOfCode
long_jump_before_the_code = refl

-- r0 = 0; if r0 == 0 goto +1; exit
conditional_jump_past_the_code : seen_with (0xb7 ∷ 0x10015 ∷ 0x95 ∷ []) ≡ Traps OutOfCode
conditional_jump_past_the_code = refl

-- r0 = 0; if r0 != 0 goto +1; exit
conditional_jump_that_is_not_taken : seen_with (0xb7 ∷ 0x10055 ∷ 0x95 ∷ []) ≡ Exits 0 3
conditional_jump_that_is_not_taken = refl

-- the slot 0x18
wide_instruction_cut : seen_with (0x18 ∷ []) ≡ Traps OutOfCode
wide_instruction_cut = refl

-- ---- a slot that spells nothing

-- goto +1; r0 = 1 ll; exit
jump_into_a_wide_instruction : seen_with (0x10005 ∷ 0x100000018 ∷ 0x0 ∷ 0x95 ∷ []) ≡ Traps NothingSpelled
jump_into_a_wide_instruction = refl

-- r0 = 3; goto +2; r0 = 1 ll; exit
jump_over_a_wide_instruction : seen_with (0x3000000b7 ∷ 0x20005 ∷ 0x100000018 ∷ 0x0 ∷ 0x95 ∷ []) ≡ Exits 3 3
jump_over_a_wide_instruction = refl

-- r0 = 1; the slot 0x8f; exit
negation_by_a_register : seen_with (0x1000000b7 ∷ 0x8f ∷ 0x95 ∷ []) ≡ Traps NothingSpelled
negation_by_a_register = refl

-- the slot 0xbb7; exit
register_11 : seen_with (0xbb7 ∷ 0x95 ∷ []) ≡ Traps NothingSpelled
register_11 = refl

-- r0 = 1; the slot 0x100000095
unused_field : seen_with (0x1000000b7 ∷ 0x100000095 ∷ []) ≡ Traps NothingSpelled
unused_field = refl

-- the slot 0x30; exit
packet_access : seen_with (0x30 ∷ 0x95 ∷ []) ≡ Traps NothingSpelled
packet_access = refl

-- the slot 0x99; exit
unknown_class_of_load : seen_with (0x99 ∷ 0x95 ∷ []) ≡ Traps NothingSpelled
unknown_class_of_load = refl

-- ---- jumps back: the run goes on, and a run has as many steps as slots

-- goto -1; exit
jump_to_itself : seen_with (0xffff0005 ∷ 0x95 ∷ []) ≡ Goes
jump_to_itself = refl

-- r0 = 0; if r0 == 2 goto +2; r0 += 1; goto -3; exit
jump_back_once : seen_with (0xb7 ∷ 0x200020015 ∷ 0x100000007 ∷ 0xfffd0005 ∷ 0x95 ∷ []) ≡ Goes
jump_back_once = refl
