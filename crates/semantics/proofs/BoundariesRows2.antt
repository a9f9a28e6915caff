-- Code, and answers of others to it: the Linux kernel's interpreter, on programs at the boundaries of each instruction.
-- The definitions, computed, give these answers.
-- A slot is written as the 64-bit number that its bytes are, little-endian. Made by tools/outside_rows.py.
use Rattle.std.proofs.Common.{◌≡◌, [], ◌∷◌, Some, refl}
use Rattle.semantics.specs.Row.{answer_to}

-- jsle by number
boundaries_86 : answer_to (0xb7 ∷ 0x500000118 ∷ 0x0 ∷ 0x5000101d5 ∷ 0x100000007 ∷ 0x500000118 ∷ 0x0 ∷ 0x7000101d5 ∷
    0x200000007 ∷ 0x700000118 ∷ 0x0 ∷ 0x5000101d5 ∷ 0x400000007 ∷ 0xffffffff00000118 ∷ 0xffffffff00000000 ∷ 0x1000101d5
    ∷ 0x800000007 ∷ 0x100000118 ∷ 0x0 ∷ 0xffffffff000101d5 ∷ 0x1000000007 ∷ 0x500000118 ∷ 0x100000000 ∷ 0x5000101d5 ∷
    0x2000000007 ∷ 0x118 ∷ 0x8000000000000000 ∷ 0x80000000000101d5 ∷ 0x4000000007 ∷ 0x600000118 ∷ 0x0 ∷ 0x9000101d5 ∷
    0x8000000007 ∷ 0xfffffff900000118 ∷ 0xffffffff00000000 ∷ 0xfffffff9000101d5 ∷ 0x10000000007 ∷ 0x8000000500000118 ∷
    0x0 ∷ 0x5000101d5 ∷ 0x20000000007 ∷ 0x95 ∷ []) ([]) ≡ Some 564
boundaries_86 = refl

-- jsle32 by register
boundaries_87 : answer_to (0xb7 ∷ 0x500000118 ∷ 0x0 ∷ 0x500000218 ∷ 0x0 ∷ 0x121de ∷ 0x100000007 ∷ 0x500000118 ∷ 0x0 ∷
    0x700000218 ∷ 0x0 ∷ 0x121de ∷ 0x200000007 ∷ 0x700000118 ∷ 0x0 ∷ 0x500000218 ∷ 0x0 ∷ 0x121de ∷ 0x400000007 ∷
    0xffffffff00000118 ∷ 0xffffffff00000000 ∷ 0x100000218 ∷ 0x0 ∷ 0x121de ∷ 0x800000007 ∷ 0x100000118 ∷ 0x0 ∷
    0xffffffff00000218 ∷ 0xffffffff00000000 ∷ 0x121de ∷ 0x1000000007 ∷ 0x500000118 ∷ 0x100000000 ∷ 0x500000218 ∷ 0x0 ∷
    0x121de ∷ 0x2000000007 ∷ 0x118 ∷ 0x8000000000000000 ∷ 0x8000000000000218 ∷ 0xffffffff00000000 ∷ 0x121de ∷
    0x4000000007 ∷ 0x600000118 ∷ 0x0 ∷ 0x900000218 ∷ 0x0 ∷ 0x121de ∷ 0x8000000007 ∷ 0xfffffff900000118 ∷
    0xffffffff00000000 ∷ 0xfffffff900000218 ∷ 0xffffffff00000000 ∷ 0x121de ∷ 0x10000000007 ∷ 0x8000000500000118 ∷ 0x0 ∷
    0x500000218 ∷ 0x0 ∷ 0x121de ∷ 0x20000000007 ∷ 0x95 ∷ []) ([]) ≡ Some 84
boundaries_87 = refl

-- jsle32 by number
boundaries_88 : answer_to (0xb7 ∷ 0x500000118 ∷ 0x0 ∷ 0x5000101d6 ∷ 0x100000007 ∷ 0x500000118 ∷ 0x0 ∷ 0x7000101d6 ∷
    0x200000007 ∷ 0x700000118 ∷ 0x0 ∷ 0x5000101d6 ∷ 0x400000007 ∷ 0xffffffff00000118 ∷ 0xffffffff00000000 ∷ 0x1000101d6
    ∷ 0x800000007 ∷ 0x100000118 ∷ 0x0 ∷ 0xffffffff000101d6 ∷ 0x1000000007 ∷ 0x500000118 ∷ 0x100000000 ∷ 0x5000101d6 ∷
    0x2000000007 ∷ 0x118 ∷ 0x8000000000000000 ∷ 0x80000000000101d6 ∷ 0x4000000007 ∷ 0x600000118 ∷ 0x0 ∷ 0x9000101d6 ∷
    0x8000000007 ∷ 0xfffffff900000118 ∷ 0xffffffff00000000 ∷ 0xfffffff9000101d6 ∷ 0x10000000007 ∷ 0x8000000500000118 ∷
    0x0 ∷ 0x5000101d6 ∷ 0x20000000007 ∷ 0x95 ∷ []) ([]) ≡ Some 84
boundaries_88 = refl

-- goto +0
boundaries_89 : answer_to (0x1000000b7 ∷ 0x5 ∷ 0x200000007 ∷ 0x400000007 ∷ 0x800000007 ∷ 0x1000000007 ∷ 0x95 ∷ []) ([])
    ≡ Some 31
boundaries_89 = refl

-- goto +1
boundaries_90 : answer_to (0x1000000b7 ∷ 0x10005 ∷ 0x200000007 ∷ 0x400000007 ∷ 0x800000007 ∷ 0x1000000007 ∷ 0x95 ∷ [])
    ([]) ≡ Some 29
boundaries_90 = refl

-- goto +3
boundaries_91 : answer_to (0x1000000b7 ∷ 0x30005 ∷ 0x200000007 ∷ 0x400000007 ∷ 0x800000007 ∷ 0x1000000007 ∷ 0x95 ∷ [])
    ([]) ≡ Some 17
boundaries_91 = refl

-- gotol +0
boundaries_92 : answer_to (0x1000000b7 ∷ 0x6 ∷ 0x200000007 ∷ 0x400000007 ∷ 0x800000007 ∷ 0x1000000007 ∷ 0x95 ∷ []) ([])
    ≡ Some 31
boundaries_92 = refl

-- gotol +1
boundaries_93 : answer_to (0x1000000b7 ∷ 0x100000006 ∷ 0x200000007 ∷ 0x400000007 ∷ 0x800000007 ∷ 0x1000000007 ∷ 0x95 ∷
    []) ([]) ≡ Some 29
boundaries_93 = refl

-- gotol +3
boundaries_94 : answer_to (0x1000000b7 ∷ 0x300000006 ∷ 0x200000007 ∷ 0x400000007 ∷ 0x800000007 ∷ 0x1000000007 ∷ 0x95 ∷
    []) ([]) ≡ Some 17
boundaries_94 = refl

-- load of u8
boundaries_95 : answer_to (0x89abcdef00000118 ∷ 0x8123456700000000 ∷ 0xfff81a7b ∷ 0x102030400000118 ∷ 0x7f00ff8000000000
    ∷ 0xfff01a7b ∷ 0xfff0a071 ∷ 0x9bf ∷ 0xfff3a071 ∷ 0x1f00000927 ∷ 0x90f ∷ 0xfff5a071 ∷ 0x1f00000927 ∷ 0x90f ∷
    0xfff8a071 ∷ 0x1f00000927 ∷ 0x90f ∷ 0x90bf ∷ 0x95 ∷ []) ([]) ≡ Some 128269
boundaries_95 = refl

-- load of u16
boundaries_96 : answer_to (0x89abcdef00000118 ∷ 0x8123456700000000 ∷ 0xfff81a7b ∷ 0x102030400000118 ∷ 0x7f00ff8000000000
    ∷ 0xfff01a7b ∷ 0xfff0a069 ∷ 0x9bf ∷ 0xfff3a069 ∷ 0x1f00000927 ∷ 0x90f ∷ 0xfff5a069 ∷ 0x1f00000927 ∷ 0x90f ∷
    0xfff8a069 ∷ 0x1f00000927 ∷ 0x90f ∷ 0x90bf ∷ 0x95 ∷ []) ([]) ≡ Some 54550285
boundaries_96 = refl

-- load of u32
boundaries_97 : answer_to (0x89abcdef00000118 ∷ 0x8123456700000000 ∷ 0xfff81a7b ∷ 0x102030400000118 ∷ 0x7f00ff8000000000
    ∷ 0xfff01a7b ∷ 0xfff0a061 ∷ 0x9bf ∷ 0xfff3a061 ∷ 0x1f00000927 ∷ 0x90f ∷ 0xfff5a061 ∷ 0x1f00000927 ∷ 0x90f ∷
    0xfff8a061 ∷ 0x1f00000927 ∷ 0x90f ∷ 0x90bf ∷ 0x95 ∷ []) ([]) ≡ Some 646699376397
boundaries_97 = refl

-- load of u64
boundaries_98 : answer_to (0x89abcdef00000118 ∷ 0x8123456700000000 ∷ 0xfff81a7b ∷ 0x102030400000118 ∷ 0x7f00ff8000000000
    ∷ 0xfff01a7b ∷ 0xfff0a079 ∷ 0x9bf ∷ 0xfff3a079 ∷ 0x1f00000927 ∷ 0x90f ∷ 0xfff5a079 ∷ 0x1f00000927 ∷ 0x90f ∷
    0xfff8a079 ∷ 0x1f00000927 ∷ 0x90f ∷ 0x90bf ∷ 0x95 ∷ []) ([]) ≡ Some 10377401916061212429
boundaries_98 = refl

-- load of s8
boundaries_99 : answer_to (0x89abcdef00000118 ∷ 0x8123456700000000 ∷ 0xfff81a7b ∷ 0x102030400000118 ∷ 0x7f00ff8000000000
    ∷ 0xfff01a7b ∷ 0xfff0a091 ∷ 0x9bf ∷ 0xfff3a091 ∷ 0x1f00000927 ∷ 0x90f ∷ 0xfff5a091 ∷ 0x1f00000927 ∷ 0x90f ∷
    0xfff8a091 ∷ 0x1f00000927 ∷ 0x90f ∷ 0x90bf ∷ 0x95 ∷ []) ([]) ≡ Some 120077
boundaries_99 = refl

-- load of s16
boundaries_100 : answer_to (0x89abcdef00000118 ∷ 0x8123456700000000 ∷ 0xfff81a7b ∷ 0x102030400000118 ∷
    0x7f00ff8000000000 ∷ 0xfff01a7b ∷ 0xfff0a089 ∷ 0x9bf ∷ 0xfff3a089 ∷ 0x1f00000927 ∷ 0x90f ∷ 0xfff5a089 ∷ 0x1f00000927
    ∷ 0x90f ∷ 0xfff8a089 ∷ 0x1f00000927 ∷ 0x90f ∷ 0x90bf ∷ 0x95 ∷ []) ([]) ≡ Some 18446744073701056269
boundaries_100 = refl

-- load of s32
boundaries_101 : answer_to (0x89abcdef00000118 ∷ 0x8123456700000000 ∷ 0xfff81a7b ∷ 0x102030400000118 ∷
    0x7f00ff8000000000 ∷ 0xfff01a7b ∷ 0xfff0a081 ∷ 0x9bf ∷ 0xfff3a081 ∷ 0x1f00000927 ∷ 0x90f ∷ 0xfff5a081 ∷ 0x1f00000927
    ∷ 0x90f ∷ 0xfff8a081 ∷ 0x1f00000927 ∷ 0x90f ∷ 0x90bf ∷ 0x95 ∷ []) ([]) ≡ Some 509260422925
boundaries_101 = refl

-- store of u8
boundaries_102 : answer_to (0x89abcdef00000118 ∷ 0x8123456700000000 ∷ 0xfff81a7b ∷ 0x102030400000118 ∷
    0x7f00ff8000000000 ∷ 0xfff01a7b ∷ 0x7654321700000218 ∷ 0xfedcba9800000000 ∷ 0xfff32a73 ∷ 0xfff82a73 ∷ 0xfff8a079 ∷
    0x9bf ∷ 0xfff0a079 ∷ 0x1f00000927 ∷ 0x90f ∷ 0x90bf ∷ 0x95 ∷ []) ([]) ≡ Some 2469774737280063693
boundaries_102 = refl

-- store of a number as u8
boundaries_103 : answer_to (0x89abcdef00000118 ∷ 0x8123456700000000 ∷ 0xfff81a7b ∷ 0x102030400000118 ∷
    0x7f00ff8000000000 ∷ 0xfff01a7b ∷ 0xfffffffefff30a72 ∷ 0xfffffffefff80a72 ∷ 0xfff8a079 ∷ 0x9bf ∷ 0xfff0a079 ∷
    0x1f00000927 ∷ 0x90f ∷ 0x90bf ∷ 0x95 ∷ []) ([]) ≡ Some 2469774741155607750
boundaries_103 = refl

-- store of u16
boundaries_104 : answer_to (0x89abcdef00000118 ∷ 0x8123456700000000 ∷ 0xfff81a7b ∷ 0x102030400000118 ∷
    0x7f00ff8000000000 ∷ 0xfff01a7b ∷ 0x7654321700000218 ∷ 0xfedcba9800000000 ∷ 0xfff32a6b ∷ 0xfff82a6b ∷ 0xfff8a079 ∷
    0x9bf ∷ 0xfff0a079 ∷ 0x1f00000927 ∷ 0x90f ∷ 0x90bf ∷ 0x95 ∷ []) ([]) ≡ Some 2469774402271384525
boundaries_104 = refl

-- store of a number as u16
boundaries_105 : answer_to (0x89abcdef00000118 ∷ 0x8123456700000000 ∷ 0xfff81a7b ∷ 0x102030400000118 ∷
    0x7f00ff8000000000 ∷ 0xfff01a7b ∷ 0xfffffffefff30a6a ∷ 0xfffffffefff80a6a ∷ 0xfff8a079 ∷ 0x9bf ∷ 0xfff0a079 ∷
    0x1f00000927 ∷ 0x90f ∷ 0x90bf ∷ 0x95 ∷ []) ([]) ≡ Some 2469775286616851142
boundaries_105 = refl

-- store of u32
boundaries_106 : answer_to (0x89abcdef00000118 ∷ 0x8123456700000000 ∷ 0xfff81a7b ∷ 0x102030400000118 ∷
    0x7f00ff8000000000 ∷ 0xfff01a7b ∷ 0x7654321700000218 ∷ 0xfedcba9800000000 ∷ 0xfff32a63 ∷ 0xfff82a63 ∷ 0xfff8a079 ∷
    0x9bf ∷ 0xfff0a079 ∷ 0x1f00000927 ∷ 0x90f ∷ 0x90bf ∷ 0x95 ∷ []) ([]) ≡ Some 2502800422976361421
boundaries_106 = refl

-- store of a number as u32
boundaries_107 : answer_to (0x89abcdef00000118 ∷ 0x8123456700000000 ∷ 0xfff81a7b ∷ 0x102030400000118 ∷
    0x7f00ff8000000000 ∷ 0xfff01a7b ∷ 0xfffffffefff30a62 ∷ 0xfffffffefff80a62 ∷ 0xfff8a079 ∷ 0x9bf ∷ 0xfff0a079 ∷
    0x1f00000927 ∷ 0x90f ∷ 0x90bf ∷ 0x95 ∷ []) ([]) ≡ Some 2541551467219780294
boundaries_107 = refl

-- store of u64
boundaries_108 : answer_to (0x89abcdef00000118 ∷ 0x8123456700000000 ∷ 0xfff81a7b ∷ 0x102030400000118 ∷
    0x7f00ff8000000000 ∷ 0xfff01a7b ∷ 0x7654321700000218 ∷ 0xfedcba9800000000 ∷ 0xfff32a7b ∷ 0xfff82a7b ∷ 0xfff8a079 ∷
    0x9bf ∷ 0xfff0a079 ∷ 0x1f00000927 ∷ 0x90f ∷ 0x90bf ∷ 0x95 ∷ []) ([]) ≡ Some 8444509509416915917
boundaries_108 = refl

-- store of a number as u64
boundaries_109 : answer_to (0x89abcdef00000118 ∷ 0x8123456700000000 ∷ 0xfff81a7b ∷ 0x102030400000118 ∷
    0x7f00ff8000000000 ∷ 0xfff01a7b ∷ 0xfffffffefff30a7a ∷ 0xfffffffefff80a7a ∷ 0xfff8a079 ∷ 0x9bf ∷ 0xfff0a079 ∷
    0x1f00000927 ∷ 0x90f ∷ 0x90bf ∷ 0x95 ∷ []) ([]) ≡ Some 18446744073676128966
boundaries_109 = refl
