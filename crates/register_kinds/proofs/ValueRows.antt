-- The table of kinds, line by line: numbers, copies, sums, addresses and all other operations. What each instruction gives, and what it is refused for,
-- computed by the prover. Offsets count from a region's first byte.
use Rattle.std.proofs.Common.{◌≡◌, refl}
use Rattle.std.specs.Prelude.{pos, negsuc}
use Rattle.bpf_encoding.specs.declared.insn.Register.TheVariants.{R0, R1, R2, R3, R4, R5, R6, R7, R8, R10}
use Rattle.bpf_encoding.specs.declared.insn.Width.TheVariants.{Bits32, Bits64}
use Rattle.bpf_encoding.specs.declared.insn.Size.TheVariants.{Word, Half, Byte, Double}
use Rattle.bpf_encoding.specs.declared.insn.SignedSize.TheVariants.{SignedWord, SignedHalf, SignedByte}
use Rattle.bpf_encoding.specs.declared.insn.Source.TheVariants.{Imm, Reg}
use Rattle.bpf_encoding.specs.declared.insn.Operation.TheVariants.{Add, Sub, Mul, Div, SignedDiv, Or, And, LeftShift, RightShift, Mod, SignedMod, Xor}
use Rattle.bpf_encoding.specs.declared.insn.Operation.TheVariants.{Mov, SignedRightShift}
use Rattle.bpf_encoding.specs.declared.insn.Extension.TheVariants.{Byte64, Half64, Word64, Byte32, Half32}
use Rattle.bpf_encoding.specs.declared.insn.ByteOrder.TheVariants.{Little, Big, Swap}
use Rattle.bpf_encoding.specs.declared.insn.OrderWidth.TheVariants.{Order16, Order32, Order64}
use Rattle.bpf_encoding.specs.declared.insn.Insn.TheVariants.{Alu, Negate, MoveSigned, Order, LoadWide, Load, LoadSigned}
use Rattle.register_kinds.specs.declared.kind.Kind.TheVariants.{Number, Const, Stack, Args, Buffer, MaybeBuffer}
use Rattle.register_kinds.proofs.TableStart.{does, gives}

-- ---- numbers and copies

move_of_a_number : does (Alu Bits64 Mov R0 (Imm (pos 7))) ≡ gives 0 (Const 7)
move_of_a_number = refl

move_of_a_negative_number : does (Alu Bits64 Mov R0 (Imm (negsuc 0))) ≡ gives 0 (Const 18446744073709551615)
move_of_a_negative_number = refl

narrow_move_of_a_negative_number : does (Alu Bits32 Mov R0 (Imm (negsuc 0))) ≡ gives 0 (Const 4294967295)
narrow_move_of_a_negative_number = refl

wide_number : does (LoadWide R0 1234605616436508552) ≡ gives 0 (Const 1234605616436508552)
wide_number = refl

greatest_wide_number : does (LoadWide R0 18446744073709551615) ≡ gives 0 (Const 18446744073709551615)
greatest_wide_number = refl

copy_of_the_arguments : does (Alu Bits64 Mov R0 (Reg R1)) ≡ gives 0 (Args (pos 0))
copy_of_the_arguments = refl

copy_of_a_number : does (Alu Bits64 Mov R0 (Reg R2)) ≡ gives 0 Number
copy_of_a_number = refl

copy_of_a_constant : does (Alu Bits64 Mov R0 (Reg R3)) ≡ gives 0 (Const 5)
copy_of_a_constant = refl

copy_of_a_stack_address : does (Alu Bits64 Mov R0 (Reg R4)) ≡ gives 0 (Stack (pos 496))
copy_of_a_stack_address = refl

copy_of_what_may_be_a_buffer : does (Alu Bits64 Mov R0 (Reg R5)) ≡ gives 0 (MaybeBuffer 0)
copy_of_what_may_be_a_buffer = refl

copy_of_a_buffer : does (Alu Bits64 Mov R0 (Reg R6)) ≡ gives 0 (Buffer 1 (pos 8))
copy_of_a_buffer = refl

copy_of_the_stacks_end : does (Alu Bits64 Mov R0 (Reg R10)) ≡ gives 0 (Stack (pos 512))
copy_of_the_stacks_end = refl

narrow_copy_of_a_constant : does (Alu Bits32 Mov R0 (Reg R3)) ≡ gives 0 (Const 5)
narrow_copy_of_a_constant = refl

narrow_copy_of_a_greater_constant : does (Alu Bits32 Mov R0 (Reg R8)) ≡ gives 0 (Const 5)
narrow_copy_of_a_greater_constant = refl

narrow_copy_of_the_arguments : does (Alu Bits32 Mov R0 (Reg R1)) ≡ gives 0 Number
narrow_copy_of_the_arguments = refl

narrow_copy_of_a_number : does (Alu Bits32 Mov R0 (Reg R2)) ≡ gives 0 Number
narrow_copy_of_a_number = refl

narrow_copy_of_a_stack_address : does (Alu Bits32 Mov R0 (Reg R4)) ≡ gives 0 Number
narrow_copy_of_a_stack_address = refl

narrow_copy_of_what_may_be_a_buffer : does (Alu Bits32 Mov R0 (Reg R5)) ≡ gives 0 Number
narrow_copy_of_what_may_be_a_buffer = refl

narrow_copy_of_a_buffer : does (Alu Bits32 Mov R0 (Reg R6)) ≡ gives 0 Number
narrow_copy_of_a_buffer = refl

-- ---- sums and differences of constants wrap

sum_of_constants : does (Alu Bits64 Add R3 (Reg R8)) ≡ gives 3 (Const 4294967306)
sum_of_constants = refl

sum_wraps : does (Alu Bits64 Add R3 (Reg R7)) ≡ gives 3 (Const 4)
sum_wraps = refl

sum_with_a_number : does (Alu Bits64 Add R3 (Imm (negsuc 5))) ≡ gives 3 (Const 18446744073709551615)
sum_with_a_number = refl

difference_of_constants : does (Alu Bits64 Sub R8 (Reg R3)) ≡ gives 8 (Const 4294967296)
difference_of_constants = refl

difference_wraps : does (Alu Bits64 Sub R3 (Reg R8)) ≡ gives 3 (Const 18446744069414584320)
difference_wraps = refl

difference_with_a_number : does (Alu Bits64 Sub R3 (Imm (negsuc 5))) ≡ gives 3 (Const 11)
difference_with_a_number = refl

narrow_sum_of_constants : does (Alu Bits32 Add R3 (Imm (pos 1))) ≡ gives 3 Number
narrow_sum_of_constants = refl

narrow_difference_of_constants : does (Alu Bits32 Sub R3 (Imm (pos 1))) ≡ gives 3 Number
narrow_difference_of_constants = refl

sum_with_a_register_that_has_a_number : does (Alu Bits64 Add R3 (Reg R2)) ≡ gives 3 Number
sum_with_a_register_that_has_a_number = refl

sum_of_a_number_and_a_constant : does (Alu Bits64 Add R2 (Reg R3)) ≡ gives 2 Number
sum_of_a_number_and_a_constant = refl

difference_with_a_register_that_has_a_number : does (Alu Bits64 Sub R3 (Reg R2)) ≡ gives 3 Number
difference_with_a_register_that_has_a_number = refl

-- ---- addresses moved by constants

stack_address_on : does (Alu Bits64 Add R4 (Imm (pos 8))) ≡ gives 4 (Stack (pos 504))
stack_address_on = refl

stack_address_on_by_a_register : does (Alu Bits64 Add R4 (Reg R3)) ≡ gives 4 (Stack (pos 501))
stack_address_on_by_a_register = refl

stack_address_back : does (Alu Bits64 Add R4 (Imm (negsuc 7))) ≡ gives 4 (Stack (pos 488))
stack_address_back = refl

stack_address_back_by_a_register : does (Alu Bits64 Add R4 (Reg R7)) ≡ gives 4 (Stack (pos 495))
stack_address_back_by_a_register = refl

stack_address_less_a_number : does (Alu Bits64 Sub R4 (Imm (pos 8))) ≡ gives 4 (Stack (pos 488))
stack_address_less_a_number = refl

stack_address_less_a_register : does (Alu Bits64 Sub R4 (Reg R7)) ≡ gives 4 (Stack (pos 497))
stack_address_less_a_register = refl

constant_and_a_stack_address : does (Alu Bits64 Add R3 (Reg R4)) ≡ gives 3 (Stack (pos 501))
constant_and_a_stack_address = refl

constant_less_a_stack_address : does (Alu Bits64 Sub R3 (Reg R4)) ≡ gives 3 Number
constant_less_a_stack_address = refl

arguments_on : does (Alu Bits64 Add R1 (Imm (pos 8))) ≡ gives 1 (Args (pos 8))
arguments_on = refl

arguments_back : does (Alu Bits64 Sub R1 (Imm (pos 8))) ≡ gives 1 (Args (negsuc 7))
arguments_back = refl

constant_and_the_arguments : does (Alu Bits64 Add R3 (Reg R1)) ≡ gives 3 (Args (pos 5))
constant_and_the_arguments = refl

buffer_on : does (Alu Bits64 Add R6 (Reg R3)) ≡ gives 6 (Buffer 1 (pos 13))
buffer_on = refl

buffer_back : does (Alu Bits64 Sub R6 (Reg R3)) ≡ gives 6 (Buffer 1 (pos 3))
buffer_back = refl

constant_and_a_buffer : does (Alu Bits64 Add R3 (Reg R6)) ≡ gives 3 (Buffer 1 (pos 13))
constant_and_a_buffer = refl

what_may_be_a_buffer_on : does (Alu Bits64 Add R5 (Imm (pos 0))) ≡ gives 5 Number
what_may_be_a_buffer_on = refl

sum_of_addresses : does (Alu Bits64 Add R4 (Reg R4)) ≡ gives 4 Number
sum_of_addresses = refl

difference_of_addresses : does (Alu Bits64 Sub R4 (Reg R4)) ≡ gives 4 Number
difference_of_addresses = refl

address_and_a_number_not_known : does (Alu Bits64 Add R4 (Reg R2)) ≡ gives 4 Number
address_and_a_number_not_known = refl

address_less_a_number_not_known : does (Alu Bits64 Sub R4 (Reg R2)) ≡ gives 4 Number
address_less_a_number_not_known = refl

narrow_sum_with_an_address : does (Alu Bits32 Add R4 (Imm (pos 8))) ≡ gives 4 Number
narrow_sum_with_an_address = refl

address_moved_by_a_great_constant : does (Alu Bits64 Add R4 (Reg R8)) ≡ gives 4 Number
address_moved_by_a_great_constant = refl

-- ---- they stay within 65536 bytes of their region's first byte

stack_address_just_near_enough : does (Alu Bits64 Add R4 (Imm (pos 65040))) ≡ gives 4 (Stack (pos 65536))
stack_address_just_near_enough = refl

stack_address_just_too_far : does (Alu Bits64 Add R4 (Imm (pos 65041))) ≡ gives 4 Number
stack_address_just_too_far = refl

stack_address_just_near_enough_before : does (Alu Bits64 Sub R4 (Imm (pos 66032))) ≡ gives 4 (Stack (negsuc 65535))
stack_address_just_near_enough_before = refl

stack_address_just_too_far_before : does (Alu Bits64 Sub R4 (Imm (pos 66033))) ≡ gives 4 Number
stack_address_just_too_far_before = refl

stack_address_one_before_its_region : does (Alu Bits64 Add R4 (Imm (negsuc 496))) ≡ gives 4 (Stack (negsuc 0))
stack_address_one_before_its_region = refl

stack_address_two_before_its_region : does (Alu Bits64 Add R4 (Imm (negsuc 497))) ≡ gives 4 (Stack (negsuc 1))
stack_address_two_before_its_region = refl

stack_address_65_on : does (Alu Bits64 Add R4 (Imm (negsuc 430))) ≡ gives 4 (Stack (pos 65))
stack_address_65_on = refl

arguments_just_near_enough : does (Alu Bits64 Add R1 (Imm (pos 65536))) ≡ gives 1 (Args (pos 65536))
arguments_just_near_enough = refl

arguments_just_too_far : does (Alu Bits64 Add R1 (Imm (pos 65537))) ≡ gives 1 Number
arguments_just_too_far = refl

arguments_just_near_enough_before : does (Alu Bits64 Sub R1 (Imm (pos 65536))) ≡ gives 1 (Args (negsuc 65535))
arguments_just_near_enough_before = refl

arguments_just_too_far_before : does (Alu Bits64 Sub R1 (Imm (pos 65537))) ≡ gives 1 Number
arguments_just_too_far_before = refl

arguments_one_before_its_region : does (Alu Bits64 Add R1 (Imm (negsuc 0))) ≡ gives 1 (Args (negsuc 0))
arguments_one_before_its_region = refl

arguments_two_before_its_region : does (Alu Bits64 Add R1 (Imm (negsuc 1))) ≡ gives 1 (Args (negsuc 1))
arguments_two_before_its_region = refl

arguments_65_on : does (Alu Bits64 Add R1 (Imm (pos 65))) ≡ gives 1 (Args (pos 65))
arguments_65_on = refl

buffer_just_near_enough : does (Alu Bits64 Add R6 (Imm (pos 65528))) ≡ gives 6 (Buffer 1 (pos 65536))
buffer_just_near_enough = refl

buffer_just_too_far : does (Alu Bits64 Add R6 (Imm (pos 65529))) ≡ gives 6 Number
buffer_just_too_far = refl

buffer_just_near_enough_before : does (Alu Bits64 Sub R6 (Imm (pos 65544))) ≡ gives 6 (Buffer 1 (negsuc 65535))
buffer_just_near_enough_before = refl

buffer_just_too_far_before : does (Alu Bits64 Sub R6 (Imm (pos 65545))) ≡ gives 6 Number
buffer_just_too_far_before = refl

buffer_one_before_its_region : does (Alu Bits64 Add R6 (Imm (negsuc 8))) ≡ gives 6 (Buffer 1 (negsuc 0))
buffer_one_before_its_region = refl

buffer_two_before_its_region : does (Alu Bits64 Add R6 (Imm (negsuc 9))) ≡ gives 6 (Buffer 1 (negsuc 1))
buffer_two_before_its_region = refl

buffer_65_on : does (Alu Bits64 Add R6 (Imm (pos 57))) ≡ gives 6 (Buffer 1 (pos 65))
buffer_65_on = refl

-- ---- any other operation, and any load, gives a number

product_of_constants : does (Alu Bits64 Mul R3 (Imm (pos 1))) ≡ gives 3 Number
product_of_constants = refl

product_of_an_address : does (Alu Bits64 Mul R4 (Reg R3)) ≡ gives 4 Number
product_of_an_address = refl

narrow_product_of_constants : does (Alu Bits32 Mul R3 (Reg R3)) ≡ gives 3 Number
narrow_product_of_constants = refl

quotient_of_constants : does (Alu Bits64 Div R3 (Imm (pos 1))) ≡ gives 3 Number
quotient_of_constants = refl

quotient_of_an_address : does (Alu Bits64 Div R4 (Reg R3)) ≡ gives 4 Number
quotient_of_an_address = refl

narrow_quotient_of_constants : does (Alu Bits32 Div R3 (Reg R3)) ≡ gives 3 Number
narrow_quotient_of_constants = refl

signed_quotient_of_constants : does (Alu Bits64 SignedDiv R3 (Imm (pos 1))) ≡ gives 3 Number
signed_quotient_of_constants = refl

signed_quotient_of_an_address : does (Alu Bits64 SignedDiv R4 (Reg R3)) ≡ gives 4 Number
signed_quotient_of_an_address = refl

narrow_signed_quotient_of_constants : does (Alu Bits32 SignedDiv R3 (Reg R3)) ≡ gives 3 Number
narrow_signed_quotient_of_constants = refl

or_of_constants : does (Alu Bits64 Or R3 (Imm (pos 1))) ≡ gives 3 Number
or_of_constants = refl

or_of_an_address : does (Alu Bits64 Or R4 (Reg R3)) ≡ gives 4 Number
or_of_an_address = refl

narrow_or_of_constants : does (Alu Bits32 Or R3 (Reg R3)) ≡ gives 3 Number
narrow_or_of_constants = refl

and_of_constants : does (Alu Bits64 And R3 (Imm (pos 1))) ≡ gives 3 Number
and_of_constants = refl

and_of_an_address : does (Alu Bits64 And R4 (Reg R3)) ≡ gives 4 Number
and_of_an_address = refl

narrow_and_of_constants : does (Alu Bits32 And R3 (Reg R3)) ≡ gives 3 Number
narrow_and_of_constants = refl

left_shift_of_constants : does (Alu Bits64 LeftShift R3 (Imm (pos 1))) ≡ gives 3 Number
left_shift_of_constants = refl

left_shift_of_an_address : does (Alu Bits64 LeftShift R4 (Reg R3)) ≡ gives 4 Number
left_shift_of_an_address = refl

narrow_left_shift_of_constants : does (Alu Bits32 LeftShift R3 (Reg R3)) ≡ gives 3 Number
narrow_left_shift_of_constants = refl

right_shift_of_constants : does (Alu Bits64 RightShift R3 (Imm (pos 1))) ≡ gives 3 Number
right_shift_of_constants = refl

right_shift_of_an_address : does (Alu Bits64 RightShift R4 (Reg R3)) ≡ gives 4 Number
right_shift_of_an_address = refl

narrow_right_shift_of_constants : does (Alu Bits32 RightShift R3 (Reg R3)) ≡ gives 3 Number
narrow_right_shift_of_constants = refl

remainder_of_constants : does (Alu Bits64 Mod R3 (Imm (pos 1))) ≡ gives 3 Number
remainder_of_constants = refl

remainder_of_an_address : does (Alu Bits64 Mod R4 (Reg R3)) ≡ gives 4 Number
remainder_of_an_address = refl

narrow_remainder_of_constants : does (Alu Bits32 Mod R3 (Reg R3)) ≡ gives 3 Number
narrow_remainder_of_constants = refl

signed_remainder_of_constants : does (Alu Bits64 SignedMod R3 (Imm (pos 1))) ≡ gives 3 Number
signed_remainder_of_constants = refl

signed_remainder_of_an_address : does (Alu Bits64 SignedMod R4 (Reg R3)) ≡ gives 4 Number
signed_remainder_of_an_address = refl

narrow_signed_remainder_of_constants : does (Alu Bits32 SignedMod R3 (Reg R3)) ≡ gives 3 Number
narrow_signed_remainder_of_constants = refl

exclusive_or_of_constants : does (Alu Bits64 Xor R3 (Imm (pos 1))) ≡ gives 3 Number
exclusive_or_of_constants = refl

exclusive_or_of_an_address : does (Alu Bits64 Xor R4 (Reg R3)) ≡ gives 4 Number
exclusive_or_of_an_address = refl

narrow_exclusive_or_of_constants : does (Alu Bits32 Xor R3 (Reg R3)) ≡ gives 3 Number
narrow_exclusive_or_of_constants = refl

signed_right_shift_of_constants : does (Alu Bits64 SignedRightShift R3 (Imm (pos 1))) ≡ gives 3 Number
signed_right_shift_of_constants = refl

signed_right_shift_of_an_address : does (Alu Bits64 SignedRightShift R4 (Reg R3)) ≡ gives 4 Number
signed_right_shift_of_an_address = refl

narrow_signed_right_shift_of_constants : does (Alu Bits32 SignedRightShift R3 (Reg R3)) ≡ gives 3 Number
narrow_signed_right_shift_of_constants = refl

negation_64 : does (Negate Bits64 R3) ≡ gives 3 Number
negation_64 = refl

negation_32 : does (Negate Bits32 R3) ≡ gives 3 Number
negation_32 = refl

sign_extended_byte64 : does (MoveSigned Byte64 R0 R3) ≡ gives 0 Number
sign_extended_byte64 = refl

sign_extended_half64 : does (MoveSigned Half64 R0 R3) ≡ gives 0 Number
sign_extended_half64 = refl

sign_extended_word64 : does (MoveSigned Word64 R0 R3) ≡ gives 0 Number
sign_extended_word64 = refl

sign_extended_byte32 : does (MoveSigned Byte32 R0 R3) ≡ gives 0 Number
sign_extended_byte32 = refl

sign_extended_half32 : does (MoveSigned Half32 R0 R3) ≡ gives 0 Number
sign_extended_half32 = refl

order_little_16 : does (Order Little Order16 R3) ≡ gives 3 Number
order_little_16 = refl

order_little_32 : does (Order Little Order32 R3) ≡ gives 3 Number
order_little_32 = refl

order_little_64 : does (Order Little Order64 R3) ≡ gives 3 Number
order_little_64 = refl

order_big_16 : does (Order Big Order16 R3) ≡ gives 3 Number
order_big_16 = refl

order_big_32 : does (Order Big Order32 R3) ≡ gives 3 Number
order_big_32 = refl

order_big_64 : does (Order Big Order64 R3) ≡ gives 3 Number
order_big_64 = refl

order_swap_16 : does (Order Swap Order16 R3) ≡ gives 3 Number
order_swap_16 = refl

order_swap_32 : does (Order Swap Order32 R3) ≡ gives 3 Number
order_swap_32 = refl

order_swap_64 : does (Order Swap Order64 R3) ≡ gives 3 Number
order_swap_64 = refl

load_byte : does (Load Byte R0 R10 (negsuc 7)) ≡ gives 0 Number
load_byte = refl

load_half : does (Load Half R0 R10 (negsuc 7)) ≡ gives 0 Number
load_half = refl

load_word : does (Load Word R0 R10 (negsuc 7)) ≡ gives 0 Number
load_word = refl

load_double : does (Load Double R0 R10 (negsuc 7)) ≡ gives 0 Number
load_double = refl

signed_load_byte : does (LoadSigned SignedByte R0 R10 (negsuc 7)) ≡ gives 0 Number
signed_load_byte = refl

signed_load_half : does (LoadSigned SignedHalf R0 R10 (negsuc 7)) ≡ gives 0 Number
signed_load_half = refl

signed_load_word : does (LoadSigned SignedWord R0 R10 (negsuc 7)) ≡ gives 0 Number
signed_load_word = refl
