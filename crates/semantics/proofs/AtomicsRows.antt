-- Code, and answers of others to it: the Linux kernel's interpreter, on programs with each atomic operation.
-- The definitions, computed, give these answers.
-- A slot is written as the 64-bit number that its bytes are, little-endian. Made by tools/outside_rows.py.
use Rattle.std.proofs.Common.{◌≡◌, [], ◌∷◌, Some, refl}
use Rattle.semantics.specs.Row.{answer_to}

-- add_dw
atomics_0 : answer_to (0x89abcdef00000218 ∷ 0x8123456700000000 ∷ 0xfff82a7b ∷ 0xfff02a7b ∷ 0x7654321700000018 ∷
    0xfedcba9800000000 ∷ 0x7654321700000118 ∷ 0xfedcba9800000000 ∷ 0xfff81adb ∷ 0xfff31adb ∷ 0x1f00000027 ∷ 0x100f ∷
    0x1f00000027 ∷ 0xfff8a379 ∷ 0x300f ∷ 0x1f00000027 ∷ 0xfff0a379 ∷ 0x300f ∷ 0x95 ∷ []) ([])
    ≡ Some 17052990077665907758
atomics_0 = refl

-- add_w
atomics_1 : answer_to (0x89abcdef00000218 ∷ 0x8123456700000000 ∷ 0xfff82a7b ∷ 0xfff02a7b ∷ 0x7654321700000018 ∷
    0xfedcba9800000000 ∷ 0x7654321700000118 ∷ 0xfedcba9800000000 ∷ 0xfff81ac3 ∷ 0xfff31ac3 ∷ 0x1f00000027 ∷ 0x100f ∷
    0x1f00000027 ∷ 0xfff8a379 ∷ 0x300f ∷ 0x1f00000027 ∷ 0xfff0a379 ∷ 0x300f ∷ 0x95 ∷ []) ([]) ≡ Some 8641787117492296073
atomics_1 = refl

-- fetch_add_dw
atomics_2 : answer_to (0x89abcdef00000218 ∷ 0x8123456700000000 ∷ 0xfff82a7b ∷ 0xfff02a7b ∷ 0x7654321700000018 ∷
    0xfedcba9800000000 ∷ 0x7654321700000118 ∷ 0xfedcba9800000000 ∷ 0x1fff81adb ∷ 0x1fff31adb ∷ 0x1f00000027 ∷ 0x100f ∷
    0x1f00000027 ∷ 0xfff8a379 ∷ 0x300f ∷ 0x1f00000027 ∷ 0xfff0a379 ∷ 0x300f ∷ 0x95 ∷ []) ([]) ≡ Some 88858324980318166
atomics_2 = refl

-- fetch_add_w
atomics_3 : answer_to (0x89abcdef00000218 ∷ 0x8123456700000000 ∷ 0xfff82a7b ∷ 0xfff02a7b ∷ 0x7654321700000018 ∷
    0xfedcba9800000000 ∷ 0x7654321700000118 ∷ 0xfedcba9800000000 ∷ 0x1fff81ac3 ∷ 0x1fff31ac3 ∷ 0x1f00000027 ∷ 0x100f ∷
    0x1f00000027 ∷ 0xfff8a379 ∷ 0x300f ∷ 0x1f00000027 ∷ 0xfff0a379 ∷ 0x300f ∷ 0x95 ∷ []) ([])
    ≡ Some 13648349319783676539
atomics_3 = refl

-- or_dw
atomics_4 : answer_to (0x89abcdef00000218 ∷ 0x8123456700000000 ∷ 0xfff82a7b ∷ 0xfff02a7b ∷ 0x7654321700000018 ∷
    0xfedcba9800000000 ∷ 0x7654321700000118 ∷ 0xfedcba9800000000 ∷ 0x40fff81adb ∷ 0x40fff31adb ∷ 0x1f00000027 ∷ 0x100f ∷
    0x1f00000027 ∷ 0xfff8a379 ∷ 0x300f ∷ 0x1f00000027 ∷ 0xfff0a379 ∷ 0x300f ∷ 0x95 ∷ []) ([])
    ≡ Some 17043345015103609008
atomics_4 = refl

-- or_w
atomics_5 : answer_to (0x89abcdef00000218 ∷ 0x8123456700000000 ∷ 0xfff82a7b ∷ 0xfff02a7b ∷ 0x7654321700000018 ∷
    0xfedcba9800000000 ∷ 0x7654321700000118 ∷ 0xfedcba9800000000 ∷ 0x40fff81ac3 ∷ 0x40fff31ac3 ∷ 0x1f00000027 ∷ 0x100f ∷
    0x1f00000027 ∷ 0xfff8a379 ∷ 0x300f ∷ 0x1f00000027 ∷ 0xfff0a379 ∷ 0x300f ∷ 0x95 ∷ []) ([]) ≡ Some 8632142188591765680
atomics_5 = refl

-- fetch_or_dw
atomics_6 : answer_to (0x89abcdef00000218 ∷ 0x8123456700000000 ∷ 0xfff82a7b ∷ 0xfff02a7b ∷ 0x7654321700000018 ∷
    0xfedcba9800000000 ∷ 0x7654321700000118 ∷ 0xfedcba9800000000 ∷ 0x41fff81adb ∷ 0x41fff31adb ∷ 0x1f00000027 ∷ 0x100f ∷
    0x1f00000027 ∷ 0xfff8a379 ∷ 0x300f ∷ 0x1f00000027 ∷ 0xfff0a379 ∷ 0x300f ∷ 0x95 ∷ []) ([]) ≡ Some 9232493479675197858
atomics_6 = refl

-- fetch_or_w
atomics_7 : answer_to (0x89abcdef00000218 ∷ 0x8123456700000000 ∷ 0xfff82a7b ∷ 0xfff02a7b ∷ 0x7654321700000018 ∷
    0xfedcba9800000000 ∷ 0x7654321700000118 ∷ 0xfedcba9800000000 ∷ 0x41fff81ac3 ∷ 0x41fff31ac3 ∷ 0x1f00000027 ∷ 0x100f ∷
    0x1f00000027 ∷ 0xfff8a379 ∷ 0x300f ∷ 0x1f00000027 ∷ 0xfff0a379 ∷ 0x300f ∷ 0x95 ∷ []) ([])
    ≡ Some 13648066579788102050
atomics_7 = refl

-- and_dw
atomics_8 : answer_to (0x89abcdef00000218 ∷ 0x8123456700000000 ∷ 0xfff82a7b ∷ 0xfff02a7b ∷ 0x7654321700000018 ∷
    0xfedcba9800000000 ∷ 0x7654321700000118 ∷ 0xfedcba9800000000 ∷ 0x50fff81adb ∷ 0x50fff31adb ∷ 0x1f00000027 ∷ 0x100f ∷
    0x1f00000027 ∷ 0xfff8a379 ∷ 0x300f ∷ 0x1f00000027 ∷ 0xfff0a379 ∷ 0x300f ∷ 0x95 ∷ []) ([]) ≡ Some 5994588694859536653
atomics_8 = refl

-- and_w
atomics_9 : answer_to (0x89abcdef00000218 ∷ 0x8123456700000000 ∷ 0xfff82a7b ∷ 0xfff02a7b ∷ 0x7654321700000018 ∷
    0xfedcba9800000000 ∷ 0x7654321700000118 ∷ 0xfedcba9800000000 ∷ 0x50fff81ac3 ∷ 0x50fff31ac3 ∷ 0x1f00000027 ∷ 0x100f ∷
    0x1f00000027 ∷ 0xfff8a379 ∷ 0x300f ∷ 0x1f00000027 ∷ 0xfff0a379 ∷ 0x300f ∷ 0x95 ∷ []) ([]) ≡ Some 8608197623006681512
atomics_9 = refl

-- fetch_and_dw
atomics_10 : answer_to (0x89abcdef00000218 ∷ 0x8123456700000000 ∷ 0xfff82a7b ∷ 0xfff02a7b ∷ 0x7654321700000018 ∷
    0xfedcba9800000000 ∷ 0x7654321700000118 ∷ 0xfedcba9800000000 ∷ 0x51fff81adb ∷ 0x51fff31adb ∷ 0x1f00000027 ∷ 0x100f ∷
    0x1f00000027 ∷ 0xfff8a379 ∷ 0x300f ∷ 0x1f00000027 ∷ 0xfff0a379 ∷ 0x300f ∷ 0x95 ∷ []) ([]) ≡ Some 1842958771536951900
atomics_10 = refl

-- fetch_and_w
atomics_11 : answer_to (0x89abcdef00000218 ∷ 0x8123456700000000 ∷ 0xfff82a7b ∷ 0xfff02a7b ∷ 0x7654321700000018 ∷
    0xfedcba9800000000 ∷ 0x7654321700000118 ∷ 0xfedcba9800000000 ∷ 0x51fff81ac3 ∷ 0x51fff31ac3 ∷ 0x1f00000027 ∷ 0x100f ∷
    0x1f00000027 ∷ 0xfff8a379 ∷ 0x300f ∷ 0x1f00000027 ∷ 0xfff0a379 ∷ 0x300f ∷ 0x95 ∷ []) ([])
    ≡ Some 13599953284980177562
atomics_11 = refl

-- xor_dw
atomics_12 : answer_to (0x89abcdef00000218 ∷ 0x8123456700000000 ∷ 0xfff82a7b ∷ 0xfff02a7b ∷ 0x7654321700000018 ∷
    0xfedcba9800000000 ∷ 0x7654321700000118 ∷ 0xfedcba9800000000 ∷ 0xa0fff81adb ∷ 0xa0fff31adb ∷ 0x1f00000027 ∷ 0x100f ∷
    0x1f00000027 ∷ 0xfff8a379 ∷ 0x300f ∷ 0x1f00000027 ∷ 0xfff0a379 ∷ 0x300f ∷ 0x95 ∷ []) ([])
    ≡ Some 17033699952541310413
atomics_12 = refl

-- xor_w
atomics_13 : answer_to (0x89abcdef00000218 ∷ 0x8123456700000000 ∷ 0xfff82a7b ∷ 0xfff02a7b ∷ 0x7654321700000018 ∷
    0xfedcba9800000000 ∷ 0x7654321700000118 ∷ 0xfedcba9800000000 ∷ 0xa0fff81ac3 ∷ 0xa0fff31ac3 ∷ 0x1f00000027 ∷ 0x100f ∷
    0x1f00000027 ∷ 0xfff8a379 ∷ 0x300f ∷ 0x1f00000027 ∷ 0xfff0a379 ∷ 0x300f ∷ 0x95 ∷ []) ([]) ≡ Some 8622497126547249111
atomics_13 = refl

-- fetch_xor_dw
atomics_14 : answer_to (0x89abcdef00000218 ∷ 0x8123456700000000 ∷ 0xfff82a7b ∷ 0xfff02a7b ∷ 0x7654321700000018 ∷
    0xfedcba9800000000 ∷ 0x7654321700000118 ∷ 0xfedcba9800000000 ∷ 0xa1fff81adb ∷ 0xa1fff31adb ∷ 0x1f00000027 ∷ 0x100f ∷
    0x1f00000027 ∷ 0xfff8a379 ∷ 0x300f ∷ 0x1f00000027 ∷ 0xfff0a379 ∷ 0x300f ∷ 0x95 ∷ []) ([])
    ≡ Some 18376128634370077860
atomics_14 = refl

-- fetch_xor_w
atomics_15 : answer_to (0x89abcdef00000218 ∷ 0x8123456700000000 ∷ 0xfff82a7b ∷ 0xfff02a7b ∷ 0x7654321700000018 ∷
    0xfedcba9800000000 ∷ 0x7654321700000118 ∷ 0xfedcba9800000000 ∷ 0xa1fff81ac3 ∷ 0xa1fff31ac3 ∷ 0x1f00000027 ∷ 0x100f ∷
    0x1f00000027 ∷ 0xfff8a379 ∷ 0x300f ∷ 0x1f00000027 ∷ 0xfff0a379 ∷ 0x300f ∷ 0x95 ∷ []) ([])
    ≡ Some 13647783706648541385
atomics_15 = refl

-- xchg_dw
atomics_16 : answer_to (0x89abcdef00000218 ∷ 0x8123456700000000 ∷ 0xfff82a7b ∷ 0xfff02a7b ∷ 0x7654321700000018 ∷
    0xfedcba9800000000 ∷ 0x7654321700000118 ∷ 0xfedcba9800000000 ∷ 0xe1fff81adb ∷ 0xe1fff31adb ∷ 0x1f00000027 ∷ 0x100f ∷
    0x1f00000027 ∷ 0xfff8a379 ∷ 0x300f ∷ 0x1f00000027 ∷ 0xfff0a379 ∷ 0x300f ∷ 0x95 ∷ []) ([])
    ≡ Some 17060994641488887580
atomics_16 = refl

-- xchg_w
atomics_17 : answer_to (0x89abcdef00000218 ∷ 0x8123456700000000 ∷ 0xfff82a7b ∷ 0xfff02a7b ∷ 0x7654321700000018 ∷
    0xfedcba9800000000 ∷ 0x7654321700000118 ∷ 0xfedcba9800000000 ∷ 0xe1fff81ac3 ∷ 0xe1fff31ac3 ∷ 0x1f00000027 ∷ 0x100f ∷
    0x1f00000027 ∷ 0xfff8a379 ∷ 0x300f ∷ 0x1f00000027 ∷ 0xfff0a379 ∷ 0x300f ∷ 0x95 ∷ []) ([])
    ≡ Some 13638421446158486154
atomics_17 = refl

-- cmpxchg_dw against 0x8123456789abcdef
atomics_18 : answer_to (0x89abcdef00000218 ∷ 0x8123456700000000 ∷ 0xfff82a7b ∷ 0xfff02a7b ∷ 0x89abcdef00000018 ∷
    0x8123456700000000 ∷ 0x7654321700000118 ∷ 0xfedcba9800000000 ∷ 0xf1fff81adb ∷ 0x1f00000027 ∷ 0x100f ∷ 0x1f00000027 ∷
    0xfff8a379 ∷ 0x300f ∷ 0x1f00000027 ∷ 0xfff0a379 ∷ 0x300f ∷ 0x95 ∷ []) ([]) ≡ Some 18446744073709526720
atomics_18 = refl

-- cmpxchg_w against 0x8123456789abcdef
atomics_19 : answer_to (0x89abcdef00000218 ∷ 0x8123456700000000 ∷ 0xfff82a7b ∷ 0xfff02a7b ∷ 0x89abcdef00000018 ∷
    0x8123456700000000 ∷ 0x7654321700000118 ∷ 0xfedcba9800000000 ∷ 0xf1fff81ac3 ∷ 0x1f00000027 ∷ 0x100f ∷ 0x1f00000027 ∷
    0xfff8a379 ∷ 0x300f ∷ 0x1f00000027 ∷ 0xfff0a379 ∷ 0x300f ∷ 0x95 ∷ []) ([]) ≡ Some 16069232525775445696
atomics_19 = refl

-- cmpxchg_dw against 0xfedcba9889abcdef
atomics_20 : answer_to (0x89abcdef00000218 ∷ 0x8123456700000000 ∷ 0xfff82a7b ∷ 0xfff02a7b ∷ 0x89abcdef00000018 ∷
    0xfedcba9800000000 ∷ 0x7654321700000118 ∷ 0xfedcba9800000000 ∷ 0xf1fff81adb ∷ 0x1f00000027 ∷ 0x100f ∷ 0x1f00000027 ∷
    0xfff8a379 ∷ 0x300f ∷ 0x1f00000027 ∷ 0xfff0a379 ∷ 0x300f ∷ 0x95 ∷ []) ([]) ≡ Some 14306474848276938216
atomics_20 = refl

-- cmpxchg_w against 0xfedcba9889abcdef
atomics_21 : answer_to (0x89abcdef00000218 ∷ 0x8123456700000000 ∷ 0xfff82a7b ∷ 0xfff02a7b ∷ 0x89abcdef00000018 ∷
    0xfedcba9800000000 ∷ 0x7654321700000118 ∷ 0xfedcba9800000000 ∷ 0xf1fff81ac3 ∷ 0x1f00000027 ∷ 0x100f ∷ 0x1f00000027 ∷
    0xfff8a379 ∷ 0x300f ∷ 0x1f00000027 ∷ 0xfff0a379 ∷ 0x300f ∷ 0x95 ∷ []) ([]) ≡ Some 16069232525775445696
atomics_21 = refl

-- cmpxchg_dw against 0x8123456789abcdee
atomics_22 : answer_to (0x89abcdef00000218 ∷ 0x8123456700000000 ∷ 0xfff82a7b ∷ 0xfff02a7b ∷ 0x89abcdee00000018 ∷
    0x8123456700000000 ∷ 0x7654321700000118 ∷ 0xfedcba9800000000 ∷ 0xf1fff81adb ∷ 0x1f00000027 ∷ 0x100f ∷ 0x1f00000027 ∷
    0xfff8a379 ∷ 0x300f ∷ 0x1f00000027 ∷ 0xfff0a379 ∷ 0x300f ∷ 0x95 ∷ []) ([]) ≡ Some 14306474848276938216
atomics_22 = refl

-- cmpxchg_w against 0x8123456789abcdee
atomics_23 : answer_to (0x89abcdef00000218 ∷ 0x8123456700000000 ∷ 0xfff82a7b ∷ 0xfff02a7b ∷ 0x89abcdee00000018 ∷
    0x8123456700000000 ∷ 0x7654321700000118 ∷ 0xfedcba9800000000 ∷ 0xf1fff81ac3 ∷ 0x1f00000027 ∷ 0x100f ∷ 0x1f00000027 ∷
    0xfff8a379 ∷ 0x300f ∷ 0x1f00000027 ∷ 0xfff0a379 ∷ 0x300f ∷ 0x95 ∷ []) ([]) ≡ Some 16069232535835213288
atomics_23 = refl

-- cmpxchg_dw against 0x89abcdef
atomics_24 : answer_to (0x89abcdef00000218 ∷ 0x8123456700000000 ∷ 0xfff82a7b ∷ 0xfff02a7b ∷ 0x89abcdef00000018 ∷ 0x0 ∷
    0x7654321700000118 ∷ 0xfedcba9800000000 ∷ 0xf1fff81adb ∷ 0x1f00000027 ∷ 0x100f ∷ 0x1f00000027 ∷ 0xfff8a379 ∷ 0x300f
    ∷ 0x1f00000027 ∷ 0xfff0a379 ∷ 0x300f ∷ 0x95 ∷ []) ([]) ≡ Some 14306474848276938216
atomics_24 = refl

-- cmpxchg_w against 0x89abcdef
atomics_25 : answer_to (0x89abcdef00000218 ∷ 0x8123456700000000 ∷ 0xfff82a7b ∷ 0xfff02a7b ∷ 0x89abcdef00000018 ∷ 0x0 ∷
    0x7654321700000118 ∷ 0xfedcba9800000000 ∷ 0xf1fff81ac3 ∷ 0x1f00000027 ∷ 0x100f ∷ 0x1f00000027 ∷ 0xfff8a379 ∷ 0x300f
    ∷ 0x1f00000027 ∷ 0xfff0a379 ∷ 0x300f ∷ 0x95 ∷ []) ([]) ≡ Some 16069232525775445696
atomics_25 = refl

-- cmpxchg_dw against 0xfedcba9876543217
atomics_26 : answer_to (0x89abcdef00000218 ∷ 0x8123456700000000 ∷ 0xfff82a7b ∷ 0xfff02a7b ∷ 0x7654321700000018 ∷
    0xfedcba9800000000 ∷ 0x7654321700000118 ∷ 0xfedcba9800000000 ∷ 0xf1fff81adb ∷ 0x1f00000027 ∷ 0x100f ∷ 0x1f00000027 ∷
    0xfff8a379 ∷ 0x300f ∷ 0x1f00000027 ∷ 0xfff0a379 ∷ 0x300f ∷ 0x95 ∷ []) ([]) ≡ Some 14306474848276938216
atomics_26 = refl

-- cmpxchg_w against 0xfedcba9876543217
atomics_27 : answer_to (0x89abcdef00000218 ∷ 0x8123456700000000 ∷ 0xfff82a7b ∷ 0xfff02a7b ∷ 0x7654321700000018 ∷
    0xfedcba9800000000 ∷ 0x7654321700000118 ∷ 0xfedcba9800000000 ∷ 0xf1fff81ac3 ∷ 0x1f00000027 ∷ 0x100f ∷ 0x1f00000027 ∷
    0xfff8a379 ∷ 0x300f ∷ 0x1f00000027 ∷ 0xfff0a379 ∷ 0x300f ∷ 0x95 ∷ []) ([]) ≡ Some 16069232535835213288
atomics_27 = refl
