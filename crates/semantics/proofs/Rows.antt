-- Worked rows: the definitions, computed by the prover, give these answers and counts.
use Rattle.std.proofs.Common.{◌≡◌, [], ◌∷◌, Some, None, refl}
use Rattle.semantics.specs.Row.{outcome_of, bytes_of_slots}

-- mov r0, 7; mov r1, 5; add r0, r1; exit
seven_and_five : outcome_of (0xb7 ∷ 0 ∷ 0 ∷ 0 ∷ 7 ∷ 0 ∷ 0 ∷ 0 ∷ 0xb7 ∷ 1 ∷ 0 ∷ 0 ∷ 5 ∷ 0 ∷ 0 ∷ 0 ∷ 0x0f ∷ 0x10 ∷ 0 ∷ 0 ∷
    0 ∷ 0 ∷ 0 ∷ 0 ∷ 0x95 ∷ 0 ∷ 0 ∷ 0 ∷ 0 ∷ 0 ∷ 0 ∷ 0 ∷ []) []
    ≡ Some (12, 4)
seven_and_five = refl

-- the same number divided by 0 is 0, modulo 0 is itself
divided_by_zero : outcome_of (bytes_of_slots (0x7000000b7 ∷ 0x1b7 ∷ 0x103f ∷ 0x95 ∷ [])) [] ≡ Some (0, 4)
divided_by_zero = refl

modulo_zero : outcome_of (bytes_of_slots (0x7000000b7 ∷ 0x1b7 ∷ 0x109f ∷ 0x95 ∷ [])) [] ≡ Some (7, 4)
modulo_zero = refl

-- lddw r0, 0x0000000100000007; mov r1, 0; mod32 r0, r1: the upper half becomes zero
modulo_zero_narrow : outcome_of (bytes_of_slots (0x700000018 ∷ 0x100000000 ∷ 0x1b7 ∷ 0x109c ∷ 0x95 ∷ [])) [] ≡ Some (7, 4)
modulo_zero_narrow = refl

-- lddw r0, 0x8000000000000000; then sdiv r0, -1; smod r0, -1; lsh r0, 64
least_divided : outcome_of (bytes_of_slots (0x18 ∷ 0x8000000000000000 ∷ 0xffffffff00010037 ∷ 0x95 ∷ [])) [] ≡ Some (9223372036854775808, 3)
least_divided = refl

least_modulo : outcome_of (bytes_of_slots (0x18 ∷ 0x8000000000000000 ∷ 0xffffffff00010097 ∷ 0x95 ∷ [])) [] ≡ Some (0, 3)
least_modulo = refl

shifted_by_the_width : outcome_of (bytes_of_slots (0x18 ∷ 0x8000000000000000 ∷ 0x4000000067 ∷ 0x95 ∷ [])) [] ≡ Some (9223372036854775808, 3)
shifted_by_the_width = refl

-- mov r0, 4660; be16 r0; exit
big_endian : outcome_of (bytes_of_slots (0x1234000000b7 ∷ 0x10000000dc ∷ 0x95 ∷ [])) [] ≡ Some (13330, 3)
big_endian = refl

-- mov32 r0, -1; exit
narrow_move : outcome_of (bytes_of_slots (0xffffffff000000b4 ∷ 0x95 ∷ [])) [] ≡ Some (4294967295, 2)
narrow_move = refl

-- mov r0, 0; exit; mov r0, r5; exit
not_reached : outcome_of (bytes_of_slots (0xb7 ∷ 0x95 ∷ 0x50bf ∷ 0x95 ∷ [])) [] ≡ Some (0, 2)
not_reached = refl

-- mov r0, 7; jeq r0, 7, +1; mov r0, 1; exit
jump_taken : outcome_of (bytes_of_slots (0x7000000b7 ∷ 0x700010015 ∷ 0x1000000b7 ∷ 0x95 ∷ [])) [] ≡ Some (7, 3)
jump_taken = refl

-- mov r0, 128; movs8 r0, r0; exit, and with movs8_32
extended_byte : outcome_of (bytes_of_slots (0x80000000b7 ∷ 0x800bf ∷ 0x95 ∷ [])) [] ≡ Some (18446744073709551488, 3)
extended_byte = refl

extended_byte_narrow : outcome_of (bytes_of_slots (0x80000000b7 ∷ 0x800bc ∷ 0x95 ∷ [])) [] ≡ Some (4294967168, 3)
extended_byte_narrow = refl

-- mov r0, -7; sdiv r0, 2; exit, and with smod
towards_zero : outcome_of (bytes_of_slots (0xfffffff9000000b7 ∷ 0x200010037 ∷ 0x95 ∷ [])) [] ≡ Some (18446744073709551613, 3)
towards_zero = refl

sign_of_the_dividend : outcome_of (bytes_of_slots (0xfffffff9000000b7 ∷ 0x200010097 ∷ 0x95 ∷ [])) [] ≡ Some (18446744073709551615, 3)
sign_of_the_dividend = refl

-- mov32 r0, -8; arsh32 r0, 1; exit
narrow_sign_shifted : outcome_of (bytes_of_slots (0xfffffff8000000b4 ∷ 0x1000000c4 ∷ 0x95 ∷ [])) [] ≡ Some (4294967292, 3)
narrow_sign_shifted = refl

-- at 32 bits a count of 33 is 1: mov r0, 1; lsh32 r0, 33; then mov32 r0, -8 with rsh32, with arsh32
narrow_left_by_33 : outcome_of (bytes_of_slots (0x1000000b7 ∷ 0x2100000064 ∷ 0x95 ∷ [])) [] ≡ Some (2, 3)
narrow_left_by_33 = refl

narrow_right_by_33 : outcome_of (bytes_of_slots (0xfffffff8000000b4 ∷ 0x2100000074 ∷ 0x95 ∷ [])) [] ≡ Some (2147483644, 3)
narrow_right_by_33 = refl

narrow_signed_right_by_33 : outcome_of (bytes_of_slots (0xfffffff8000000b4 ∷ 0x21000000c4 ∷ 0x95 ∷ [])) [] ≡ Some (4294967292, 3)
narrow_signed_right_by_33 = refl

-- mov r0, -1; jslt32 r0, 0, +1; mov r0, 9; exit
narrow_signed_jump : outcome_of (bytes_of_slots (0xffffffff000000b7 ∷ 0x100c6 ∷ 0x9000000b7 ∷ 0x95 ∷ [])) [] ≡ Some (18446744073709551615, 3)
narrow_signed_jump = refl

-- mov r0, r10; xor r0, 0; exit: the stack's end
stack_end : outcome_of (bytes_of_slots (0xa0bf ∷ 0xa7 ∷ 0x95 ∷ [])) [] ≡ Some (66048, 3)
stack_end = refl

-- ldxdw r0, [r1+8]; exit with arguments 5 and 6; with 5 alone the access isn't within the arguments
second_argument : outcome_of (bytes_of_slots (0x81079 ∷ 0x95 ∷ [])) (5 ∷ 6 ∷ []) ≡ Some (6, 2)
second_argument = refl

no_second_argument : outcome_of (bytes_of_slots (0x81079 ∷ 0x95 ∷ [])) (5 ∷ []) ≡ None
no_second_argument = refl

-- stxdw [r10-4], r1: a store past the stack's end
past_the_stack : outcome_of (bytes_of_slots (0xfffc1a7b ∷ 0xb7 ∷ 0x95 ∷ [])) (5 ∷ []) ≡ None
past_the_stack = refl

-- ---- by 0 and by -1 (RFC 9669, section 4.1: a quotient by 0 is 0, a number modulo 0 stays, in class ALU with its upper half 0)
-- The slots are what LLVM's assembler (llvm-mc 19) writes for the text beside them.

-- r0 = 0x8123456789abcdef ll; r1 = 0; r0 /= r1; exit
divided_by_zero_in_a_register : outcome_of (bytes_of_slots (0x89abcdef00000018 ∷ 0x8123456700000000 ∷ 0x1b7 ∷ 0x103f ∷ 0x95 ∷ [])) [] ≡ Some (0, 4)
divided_by_zero_in_a_register = refl

-- r0 = 0x8123456789abcdef ll; r0 /= 0; exit
divided_by_the_number_zero : outcome_of (bytes_of_slots (0x89abcdef00000018 ∷ 0x8123456700000000 ∷ 0x37 ∷ 0x95 ∷ [])) [] ≡ Some (0, 3)
divided_by_the_number_zero = refl

-- r0 = 0x8123456789abcdef ll; r1 = 0x100000000 ll; w0 /= w1; exit
narrow_divided_by_zero_in_a_register : outcome_of (bytes_of_slots (0x89abcdef00000018 ∷ 0x8123456700000000 ∷ 0x118 ∷ 0x100000000 ∷ 0x103c ∷ 0x95 ∷ [])) []
    ≡ Some (0, 4)
narrow_divided_by_zero_in_a_register = refl

-- r0 = 0x8123456789abcdef ll; w0 /= 0; exit
narrow_divided_by_the_number_zero : outcome_of (bytes_of_slots (0x89abcdef00000018 ∷ 0x8123456700000000 ∷ 0x34 ∷ 0x95 ∷ [])) [] ≡ Some (0, 3)
narrow_divided_by_the_number_zero = refl

-- r0 = 0x8123456789abcdef ll; r1 = 0; r0 s/= r1; exit
signed_divided_by_zero_in_a_register : outcome_of (bytes_of_slots (0x89abcdef00000018 ∷ 0x8123456700000000 ∷ 0x1b7 ∷ 0x1103f ∷ 0x95 ∷ [])) []
    ≡ Some (0, 4)
signed_divided_by_zero_in_a_register = refl

-- r0 = 0x8123456789abcdef ll; r0 s/= 0; exit
signed_divided_by_the_number_zero : outcome_of (bytes_of_slots (0x89abcdef00000018 ∷ 0x8123456700000000 ∷ 0x10037 ∷ 0x95 ∷ [])) [] ≡ Some (0, 3)
signed_divided_by_the_number_zero = refl

-- r0 = 0x8123456789abcdef ll; r1 = 0x100000000 ll; w0 s/= w1; exit
narrow_signed_divided_by_zero_in_a_register : outcome_of (bytes_of_slots (0x89abcdef00000018 ∷ 0x8123456700000000 ∷ 0x118 ∷ 0x100000000 ∷ 0x1103c ∷ 0x95 ∷ [])) []
    ≡ Some (0, 4)
narrow_signed_divided_by_zero_in_a_register = refl

-- r0 = 0x8123456789abcdef ll; w0 s/= 0; exit
narrow_signed_divided_by_the_number_zero : outcome_of (bytes_of_slots (0x89abcdef00000018 ∷ 0x8123456700000000 ∷ 0x10034 ∷ 0x95 ∷ [])) []
    ≡ Some (0, 3)
narrow_signed_divided_by_the_number_zero = refl

-- r0 = 0x8123456789abcdef ll; r1 = 0; r0 %= r1; exit
modulo_by_zero_in_a_register : outcome_of (bytes_of_slots (0x89abcdef00000018 ∷ 0x8123456700000000 ∷ 0x1b7 ∷ 0x109f ∷ 0x95 ∷ [])) []
    ≡ Some (9305357566071262703, 4)
modulo_by_zero_in_a_register = refl

-- r0 = 0x8123456789abcdef ll; r0 %= 0; exit
modulo_by_the_number_zero : outcome_of (bytes_of_slots (0x89abcdef00000018 ∷ 0x8123456700000000 ∷ 0x97 ∷ 0x95 ∷ [])) []
    ≡ Some (9305357566071262703, 3)
modulo_by_the_number_zero = refl

-- r0 = 0x8123456789abcdef ll; r1 = 0x100000000 ll; w0 %= w1; exit
narrow_modulo_by_zero_in_a_register : outcome_of (bytes_of_slots (0x89abcdef00000018 ∷ 0x8123456700000000 ∷ 0x118 ∷ 0x100000000 ∷ 0x109c ∷ 0x95 ∷ [])) []
    ≡ Some (2309737967, 4)
narrow_modulo_by_zero_in_a_register = refl

-- r0 = 0x8123456789abcdef ll; w0 %= 0; exit
narrow_modulo_by_the_number_zero : outcome_of (bytes_of_slots (0x89abcdef00000018 ∷ 0x8123456700000000 ∷ 0x94 ∷ 0x95 ∷ [])) [] ≡ Some (2309737967, 3)
narrow_modulo_by_the_number_zero = refl

-- r0 = 0x8123456789abcdef ll; r1 = 0; r0 s%= r1; exit
signed_modulo_by_zero_in_a_register : outcome_of (bytes_of_slots (0x89abcdef00000018 ∷ 0x8123456700000000 ∷ 0x1b7 ∷ 0x1109f ∷ 0x95 ∷ [])) []
    ≡ Some (9305357566071262703, 4)
signed_modulo_by_zero_in_a_register = refl

-- r0 = 0x8123456789abcdef ll; r0 s%= 0; exit
signed_modulo_by_the_number_zero : outcome_of (bytes_of_slots (0x89abcdef00000018 ∷ 0x8123456700000000 ∷ 0x10097 ∷ 0x95 ∷ [])) []
    ≡ Some (9305357566071262703, 3)
signed_modulo_by_the_number_zero = refl

-- r0 = 0x8123456789abcdef ll; r1 = 0x100000000 ll; w0 s%= w1; exit
narrow_signed_modulo_by_zero_in_a_register : outcome_of (bytes_of_slots (0x89abcdef00000018 ∷ 0x8123456700000000 ∷ 0x118 ∷ 0x100000000 ∷ 0x1109c ∷ 0x95 ∷ [])) []
    ≡ Some (2309737967, 4)
narrow_signed_modulo_by_zero_in_a_register = refl

-- r0 = 0x8123456789abcdef ll; w0 s%= 0; exit
narrow_signed_modulo_by_the_number_zero : outcome_of (bytes_of_slots (0x89abcdef00000018 ∷ 0x8123456700000000 ∷ 0x10094 ∷ 0x95 ∷ [])) []
    ≡ Some (2309737967, 3)
narrow_signed_modulo_by_the_number_zero = refl

-- r0 = 0x8000000000000000 ll; r1 = -1; r0 s/= r1; exit
least_divided_by_a_register : outcome_of (bytes_of_slots (0x18 ∷ 0x8000000000000000 ∷ 0xffffffff000001b7 ∷ 0x1103f ∷ 0x95 ∷ [])) []
    ≡ Some (9223372036854775808, 4)
least_divided_by_a_register = refl

-- r0 = 0x80000000 ll; w0 s/= -1; exit
narrow_least_divided : outcome_of (bytes_of_slots (0x8000000000000018 ∷ 0x0 ∷ 0xffffffff00010034 ∷ 0x95 ∷ [])) [] ≡ Some (2147483648, 3)
narrow_least_divided = refl

-- r0 = 0x80000000 ll; r1 = -1; w0 s/= w1; exit
narrow_least_divided_by_a_register : outcome_of (bytes_of_slots (0x8000000000000018 ∷ 0x0 ∷ 0xffffffff000001b7 ∷ 0x1103c ∷ 0x95 ∷ [])) []
    ≡ Some (2147483648, 4)
narrow_least_divided_by_a_register = refl

-- r0 = 0x8000000000000000 ll; r1 = -1; r0 s%= r1; exit
least_modulo_by_a_register : outcome_of (bytes_of_slots (0x18 ∷ 0x8000000000000000 ∷ 0xffffffff000001b7 ∷ 0x1109f ∷ 0x95 ∷ [])) [] ≡ Some (0, 4)
least_modulo_by_a_register = refl

-- r0 = 0x80000000 ll; w0 s%= -1; exit
narrow_least_modulo : outcome_of (bytes_of_slots (0x8000000000000018 ∷ 0x0 ∷ 0xffffffff00010094 ∷ 0x95 ∷ [])) [] ≡ Some (0, 3)
narrow_least_modulo = refl

-- r0 = 0x80000000 ll; r1 = -1; w0 s%= w1; exit
narrow_least_modulo_by_a_register : outcome_of (bytes_of_slots (0x8000000000000018 ∷ 0x0 ∷ 0xffffffff000001b7 ∷ 0x1109c ∷ 0x95 ∷ [])) [] ≡ Some (0, 4)
narrow_least_modulo_by_a_register = refl
