-- Each word of the assembly text: what it says is what LLVM's assembler (llvm-mc 19) writes for the text beside it.
-- A slot is written as the 64-bit number that its bytes are, little-endian. Made by tools/word_rows.py.
use Rattle.std.proofs.Common.{◌≡◌, [], ◌∷◌, refl}
use Rattle.std.specs.Prelude.{codes}
use Rattle.bpf_asm.specs.Cutting.{trim}
use Rattle.bpf_asm.proofs.WordStart.{said, spelled}

-- r0 += r3
word_0 : said (codes "add r0, r3") ≡ spelled (0x300f ∷ [])
unfolding trim
word_0 = refl

-- r0 += -1
word_1 : said (codes "add r0, -1") ≡ spelled (0xffffffff00000007 ∷ [])
unfolding trim
word_1 = refl

-- w0 += w3
word_2 : said (codes "add32 r0, r3") ≡ spelled (0x300c ∷ [])
unfolding trim
word_2 = refl

-- w0 += 7
word_3 : said (codes "add32 r0, 0x7") ≡ spelled (0x700000004 ∷ [])
unfolding trim
word_3 = refl

-- r1 -= r4
word_4 : said (codes "sub r1, r4") ≡ spelled (0x411f ∷ [])
unfolding trim
word_4 = refl

-- r1 -= -2
word_5 : said (codes "sub r1, -2") ≡ spelled (0xfffffffe00000117 ∷ [])
unfolding trim
word_5 = refl

-- w1 -= w4
word_6 : said (codes "sub32 r1, r4") ≡ spelled (0x411c ∷ [])
unfolding trim
word_6 = refl

-- w1 -= 8
word_7 : said (codes "sub32 r1, 0x8") ≡ spelled (0x800000114 ∷ [])
unfolding trim
word_7 = refl

-- r2 *= r5
word_8 : said (codes "mul r2, r5") ≡ spelled (0x522f ∷ [])
unfolding trim
word_8 = refl

-- r2 *= -3
word_9 : said (codes "mul r2, -3") ≡ spelled (0xfffffffd00000227 ∷ [])
unfolding trim
word_9 = refl

-- w2 *= w5
word_10 : said (codes "mul32 r2, r5") ≡ spelled (0x522c ∷ [])
unfolding trim
word_10 = refl

-- w2 *= 9
word_11 : said (codes "mul32 r2, 0x9") ≡ spelled (0x900000224 ∷ [])
unfolding trim
word_11 = refl

-- r3 /= r6
word_12 : said (codes "div r3, r6") ≡ spelled (0x633f ∷ [])
unfolding trim
word_12 = refl

-- r3 /= -4
word_13 : said (codes "div r3, -4") ≡ spelled (0xfffffffc00000337 ∷ [])
unfolding trim
word_13 = refl

-- w3 /= w6
word_14 : said (codes "div32 r3, r6") ≡ spelled (0x633c ∷ [])
unfolding trim
word_14 = refl

-- w3 /= 10
word_15 : said (codes "div32 r3, 0xA") ≡ spelled (0xa00000334 ∷ [])
unfolding trim
word_15 = refl

-- r4 s/= r7
word_16 : said (codes "sdiv r4, r7") ≡ spelled (0x1743f ∷ [])
unfolding trim
word_16 = refl

-- r4 s/= -5
word_17 : said (codes "sdiv r4, -5") ≡ spelled (0xfffffffb00010437 ∷ [])
unfolding trim
word_17 = refl

-- w4 s/= w7
word_18 : said (codes "sdiv32 r4, r7") ≡ spelled (0x1743c ∷ [])
unfolding trim
word_18 = refl

-- w4 s/= 11
word_19 : said (codes "sdiv32 r4, 0xB") ≡ spelled (0xb00010434 ∷ [])
unfolding trim
word_19 = refl

-- r5 |= r8
word_20 : said (codes "or r5, r8") ≡ spelled (0x854f ∷ [])
unfolding trim
word_20 = refl

-- r5 |= -6
word_21 : said (codes "or r5, -6") ≡ spelled (0xfffffffa00000547 ∷ [])
unfolding trim
word_21 = refl

-- w5 |= w8
word_22 : said (codes "or32 r5, r8") ≡ spelled (0x854c ∷ [])
unfolding trim
word_22 = refl

-- w5 |= 12
word_23 : said (codes "or32 r5, 0xC") ≡ spelled (0xc00000544 ∷ [])
unfolding trim
word_23 = refl

-- r6 &= r9
word_24 : said (codes "and r6, r9") ≡ spelled (0x965f ∷ [])
unfolding trim
word_24 = refl

-- r6 &= -7
word_25 : said (codes "and r6, -7") ≡ spelled (0xfffffff900000657 ∷ [])
unfolding trim
word_25 = refl

-- w6 &= w9
word_26 : said (codes "and32 r6, r9") ≡ spelled (0x965c ∷ [])
unfolding trim
word_26 = refl

-- w6 &= 13
word_27 : said (codes "and32 r6, 0xD") ≡ spelled (0xd00000654 ∷ [])
unfolding trim
word_27 = refl

-- r7 <<= r10
word_28 : said (codes "lsh r7, r10") ≡ spelled (0xa76f ∷ [])
unfolding trim
word_28 = refl

-- r7 <<= -8
word_29 : said (codes "lsh r7, -8") ≡ spelled (0xfffffff800000767 ∷ [])
unfolding trim
word_29 = refl

-- w7 <<= w10
word_30 : said (codes "lsh32 r7, r10") ≡ spelled (0xa76c ∷ [])
unfolding trim
word_30 = refl

-- w7 <<= 14
word_31 : said (codes "lsh32 r7, 0xE") ≡ spelled (0xe00000764 ∷ [])
unfolding trim
word_31 = refl

-- r8 >>= r0
word_32 : said (codes "rsh r8, r0") ≡ spelled (0x87f ∷ [])
unfolding trim
word_32 = refl

-- r8 >>= -9
word_33 : said (codes "rsh r8, -9") ≡ spelled (0xfffffff700000877 ∷ [])
unfolding trim
word_33 = refl

-- w8 >>= w0
word_34 : said (codes "rsh32 r8, r0") ≡ spelled (0x87c ∷ [])
unfolding trim
word_34 = refl

-- w8 >>= 15
word_35 : said (codes "rsh32 r8, 0xF") ≡ spelled (0xf00000874 ∷ [])
unfolding trim
word_35 = refl

-- r9 %= r1
word_36 : said (codes "mod r9, r1") ≡ spelled (0x199f ∷ [])
unfolding trim
word_36 = refl

-- r9 %= -10
word_37 : said (codes "mod r9, -10") ≡ spelled (0xfffffff600000997 ∷ [])
unfolding trim
word_37 = refl

-- w9 %= w1
word_38 : said (codes "mod32 r9, r1") ≡ spelled (0x199c ∷ [])
unfolding trim
word_38 = refl

-- w9 %= 16
word_39 : said (codes "mod32 r9, 0x10") ≡ spelled (0x1000000994 ∷ [])
unfolding trim
word_39 = refl

-- r0 s%= r2
word_40 : said (codes "smod r0, r2") ≡ spelled (0x1209f ∷ [])
unfolding trim
word_40 = refl

-- r0 s%= -11
word_41 : said (codes "smod r0, -11") ≡ spelled (0xfffffff500010097 ∷ [])
unfolding trim
word_41 = refl

-- w0 s%= w2
word_42 : said (codes "smod32 r0, r2") ≡ spelled (0x1209c ∷ [])
unfolding trim
word_42 = refl

-- w0 s%= 17
word_43 : said (codes "smod32 r0, 0x11") ≡ spelled (0x1100010094 ∷ [])
unfolding trim
word_43 = refl

-- r1 ^= r3
word_44 : said (codes "xor r1, r3") ≡ spelled (0x31af ∷ [])
unfolding trim
word_44 = refl

-- r1 ^= -12
word_45 : said (codes "xor r1, -12") ≡ spelled (0xfffffff4000001a7 ∷ [])
unfolding trim
word_45 = refl

-- w1 ^= w3
word_46 : said (codes "xor32 r1, r3") ≡ spelled (0x31ac ∷ [])
unfolding trim
word_46 = refl

-- w1 ^= 18
word_47 : said (codes "xor32 r1, 0x12") ≡ spelled (0x12000001a4 ∷ [])
unfolding trim
word_47 = refl

-- r2 = r4
word_48 : said (codes "mov r2, r4") ≡ spelled (0x42bf ∷ [])
unfolding trim
word_48 = refl

-- r2 = -13
word_49 : said (codes "mov r2, -13") ≡ spelled (0xfffffff3000002b7 ∷ [])
unfolding trim
word_49 = refl

-- w2 = w4
word_50 : said (codes "mov32 r2, r4") ≡ spelled (0x42bc ∷ [])
unfolding trim
word_50 = refl

-- w2 = 19
word_51 : said (codes "mov32 r2, 0x13") ≡ spelled (0x13000002b4 ∷ [])
unfolding trim
word_51 = refl

-- r3 s>>= r5
word_52 : said (codes "arsh r3, r5") ≡ spelled (0x53cf ∷ [])
unfolding trim
word_52 = refl

-- r3 s>>= -14
word_53 : said (codes "arsh r3, -14") ≡ spelled (0xfffffff2000003c7 ∷ [])
unfolding trim
word_53 = refl

-- w3 s>>= w5
word_54 : said (codes "arsh32 r3, r5") ≡ spelled (0x53cc ∷ [])
unfolding trim
word_54 = refl

-- w3 s>>= 20
word_55 : said (codes "arsh32 r3, 0x14") ≡ spelled (0x14000003c4 ∷ [])
unfolding trim
word_55 = refl

-- r1 = -r1
word_56 : said (codes "neg r1") ≡ spelled (0x187 ∷ [])
unfolding trim
word_56 = refl

-- w2 = -w2
word_57 : said (codes "neg32 r2") ≡ spelled (0x284 ∷ [])
unfolding trim
word_57 = refl

-- r0 = le16 r0
word_58 : said (codes "le16 r0") ≡ spelled (0x10000000d4 ∷ [])
unfolding trim
word_58 = refl

-- r3 = be16 r3
word_59 : said (codes "be16 r3") ≡ spelled (0x10000003dc ∷ [])
unfolding trim
word_59 = refl

-- r6 = bswap16 r6
word_60 : said (codes "swap16 r6") ≡ spelled (0x10000006d7 ∷ [])
unfolding trim
word_60 = refl

-- r1 = le32 r1
word_61 : said (codes "le32 r1") ≡ spelled (0x20000001d4 ∷ [])
unfolding trim
word_61 = refl

-- r4 = be32 r4
word_62 : said (codes "be32 r4") ≡ spelled (0x20000004dc ∷ [])
unfolding trim
word_62 = refl

-- r7 = bswap32 r7
word_63 : said (codes "swap32 r7") ≡ spelled (0x20000007d7 ∷ [])
unfolding trim
word_63 = refl

-- r2 = le64 r2
word_64 : said (codes "le64 r2") ≡ spelled (0x40000002d4 ∷ [])
unfolding trim
word_64 = refl

-- r5 = be64 r5
word_65 : said (codes "be64 r5") ≡ spelled (0x40000005dc ∷ [])
unfolding trim
word_65 = refl

-- r8 = bswap64 r8
word_66 : said (codes "swap64 r8") ≡ spelled (0x40000008d7 ∷ [])
unfolding trim
word_66 = refl

-- r0 = (s8)r1
word_67 : said (codes "movs8 r0, r1") ≡ spelled (0x810bf ∷ [])
unfolding trim
word_67 = refl

-- r1 = (s16)r2
word_68 : said (codes "movs16 r1, r2") ≡ spelled (0x1021bf ∷ [])
unfolding trim
word_68 = refl

-- r2 = (s32)r3
word_69 : said (codes "movs32 r2, r3") ≡ spelled (0x2032bf ∷ [])
unfolding trim
word_69 = refl

-- w4 = (s8)w5
word_70 : said (codes "movs8_32 r4, r5") ≡ spelled (0x854bc ∷ [])
unfolding trim
word_70 = refl

-- w5 = (s16)w6
word_71 : said (codes "movs16_32 r5, r6") ≡ spelled (0x1065bc ∷ [])
unfolding trim
word_71 = refl

-- r1 = 0x1122334455667788 ll
word_72 : said (codes "lddw r1, 0x1122334455667788") ≡ spelled (0x5566778800000118 ∷ 0x1122334400000000 ∷ [])
unfolding trim
word_72 = refl

-- r9 = -1 ll
word_73 : said (codes "lddw r9, 18446744073709551615") ≡ spelled (0xffffffff00000918 ∷ 0xffffffff00000000 ∷ [])
unfolding trim
word_73 = refl

-- goto +3
word_74 : said (codes "ja +3") ≡ spelled (0x30005 ∷ [])
unfolding trim
word_74 = refl

-- goto -2
word_75 : said (codes "ja -2") ≡ spelled (0xfffe0005 ∷ [])
unfolding trim
word_75 = refl

-- gotol +700
word_76 : said (codes "ja32 +700") ≡ spelled (0x2bc00000006 ∷ [])
unfolding trim
word_76 = refl

-- if r0 == r4 goto -5
word_77 : said (codes "jeq r0, r4, -5") ≡ spelled (0xfffb401d ∷ [])
unfolding trim
word_77 = refl

-- if r0 == 7 goto -5
word_78 : said (codes "jeq r0, 7, -5") ≡ spelled (0x7fffb0015 ∷ [])
unfolding trim
word_78 = refl

-- if w0 == w4 goto -5
word_79 : said (codes "jeq32 r0, r4, -5") ≡ spelled (0xfffb401e ∷ [])
unfolding trim
word_79 = refl

-- if w0 == 7 goto -5
word_80 : said (codes "jeq32 r0, 7, -5") ≡ spelled (0x7fffb0016 ∷ [])
unfolding trim
word_80 = refl

-- if r1 > r5 goto -4
word_81 : said (codes "jgt r1, r5, -4") ≡ spelled (0xfffc512d ∷ [])
unfolding trim
word_81 = refl

-- if r1 > 6 goto -4
word_82 : said (codes "jgt r1, 6, -4") ≡ spelled (0x6fffc0125 ∷ [])
unfolding trim
word_82 = refl

-- if w1 > w5 goto -4
word_83 : said (codes "jgt32 r1, r5, -4") ≡ spelled (0xfffc512e ∷ [])
unfolding trim
word_83 = refl

-- if w1 > 6 goto -4
word_84 : said (codes "jgt32 r1, 6, -4") ≡ spelled (0x6fffc0126 ∷ [])
unfolding trim
word_84 = refl

-- if r2 >= r6 goto -3
word_85 : said (codes "jge r2, r6, -3") ≡ spelled (0xfffd623d ∷ [])
unfolding trim
word_85 = refl

-- if r2 >= 5 goto -3
word_86 : said (codes "jge r2, 5, -3") ≡ spelled (0x5fffd0235 ∷ [])
unfolding trim
word_86 = refl

-- if w2 >= w6 goto -3
word_87 : said (codes "jge32 r2, r6, -3") ≡ spelled (0xfffd623e ∷ [])
unfolding trim
word_87 = refl

-- if w2 >= 5 goto -3
word_88 : said (codes "jge32 r2, 5, -3") ≡ spelled (0x5fffd0236 ∷ [])
unfolding trim
word_88 = refl

-- if r3 & r7 goto -2
word_89 : said (codes "jset r3, r7, -2") ≡ spelled (0xfffe734d ∷ [])
unfolding trim
word_89 = refl

-- if r3 & 4 goto -2
word_90 : said (codes "jset r3, 4, -2") ≡ spelled (0x4fffe0345 ∷ [])
unfolding trim
word_90 = refl

-- if w3 & w7 goto -2
word_91 : said (codes "jset32 r3, r7, -2") ≡ spelled (0xfffe734e ∷ [])
unfolding trim
word_91 = refl

-- if w3 & 4 goto -2
word_92 : said (codes "jset32 r3, 4, -2") ≡ spelled (0x4fffe0346 ∷ [])
unfolding trim
word_92 = refl

-- if r4 != r8 goto -1
word_93 : said (codes "jne r4, r8, -1") ≡ spelled (0xffff845d ∷ [])
unfolding trim
word_93 = refl

-- if r4 != 3 goto -1
word_94 : said (codes "jne r4, 3, -1") ≡ spelled (0x3ffff0455 ∷ [])
unfolding trim
word_94 = refl

-- if w4 != w8 goto -1
word_95 : said (codes "jne32 r4, r8, -1") ≡ spelled (0xffff845e ∷ [])
unfolding trim
word_95 = refl

-- if w4 != 3 goto -1
word_96 : said (codes "jne32 r4, 3, -1") ≡ spelled (0x3ffff0456 ∷ [])
unfolding trim
word_96 = refl

-- if r5 s> r9 goto +0
word_97 : said (codes "jsgt r5, r9, +0") ≡ spelled (0x956d ∷ [])
unfolding trim
word_97 = refl

-- if r5 s> 2 goto +0
word_98 : said (codes "jsgt r5, 2, +0") ≡ spelled (0x200000565 ∷ [])
unfolding trim
word_98 = refl

-- if w5 s> w9 goto +0
word_99 : said (codes "jsgt32 r5, r9, +0") ≡ spelled (0x956e ∷ [])
unfolding trim
word_99 = refl
