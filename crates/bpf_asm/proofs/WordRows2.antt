-- Each word of the assembly text: what it says is what LLVM's assembler (llvm-mc 19) writes for the text beside it.
-- A slot is written as the 64-bit number that its bytes are, little-endian. Made by tools/word_rows.py.
use Rattle.std.proofs.Common.{◌≡◌, [], ◌∷◌, refl}
use Rattle.std.specs.Prelude.{codes}
use Rattle.bpf_asm.specs.Cutting.{trim}
use Rattle.bpf_asm.proofs.WordStart.{said, spelled}

-- if w5 s> 2 goto +0
word_100 : said (codes "jsgt32 r5, 2, +0") ≡ spelled (0x200000566 ∷ [])
unfolding trim
word_100 = refl

-- if r6 s>= r10 goto +1
word_101 : said (codes "jsge r6, r10, +1") ≡ spelled (0x1a67d ∷ [])
unfolding trim
word_101 = refl

-- if r6 s>= 1 goto +1
word_102 : said (codes "jsge r6, 1, +1") ≡ spelled (0x100010675 ∷ [])
unfolding trim
word_102 = refl

-- if w6 s>= w10 goto +1
word_103 : said (codes "jsge32 r6, r10, +1") ≡ spelled (0x1a67e ∷ [])
unfolding trim
word_103 = refl

-- if w6 s>= 1 goto +1
word_104 : said (codes "jsge32 r6, 1, +1") ≡ spelled (0x100010676 ∷ [])
unfolding trim
word_104 = refl

-- if r7 < r0 goto +2
word_105 : said (codes "jlt r7, r0, +2") ≡ spelled (0x207ad ∷ [])
unfolding trim
word_105 = refl

-- if r7 < 0 goto +2
word_106 : said (codes "jlt r7, 0, +2") ≡ spelled (0x207a5 ∷ [])
unfolding trim
word_106 = refl

-- if w7 < w0 goto +2
word_107 : said (codes "jlt32 r7, r0, +2") ≡ spelled (0x207ae ∷ [])
unfolding trim
word_107 = refl

-- if w7 < 0 goto +2
word_108 : said (codes "jlt32 r7, 0, +2") ≡ spelled (0x207a6 ∷ [])
unfolding trim
word_108 = refl

-- if r8 <= r1 goto +3
word_109 : said (codes "jle r8, r1, +3") ≡ spelled (0x318bd ∷ [])
unfolding trim
word_109 = refl

-- if r8 <= -1 goto +3
word_110 : said (codes "jle r8, -1, +3") ≡ spelled (0xffffffff000308b5 ∷ [])
unfolding trim
word_110 = refl

-- if w8 <= w1 goto +3
word_111 : said (codes "jle32 r8, r1, +3") ≡ spelled (0x318be ∷ [])
unfolding trim
word_111 = refl

-- if w8 <= -1 goto +3
word_112 : said (codes "jle32 r8, -1, +3") ≡ spelled (0xffffffff000308b6 ∷ [])
unfolding trim
word_112 = refl

-- if r9 s< r2 goto +4
word_113 : said (codes "jslt r9, r2, +4") ≡ spelled (0x429cd ∷ [])
unfolding trim
word_113 = refl

-- if r9 s< -2 goto +4
word_114 : said (codes "jslt r9, -2, +4") ≡ spelled (0xfffffffe000409c5 ∷ [])
unfolding trim
word_114 = refl

-- if w9 s< w2 goto +4
word_115 : said (codes "jslt32 r9, r2, +4") ≡ spelled (0x429ce ∷ [])
unfolding trim
word_115 = refl

-- if w9 s< -2 goto +4
word_116 : said (codes "jslt32 r9, -2, +4") ≡ spelled (0xfffffffe000409c6 ∷ [])
unfolding trim
word_116 = refl

-- if r10 s<= r3 goto +5
word_117 : said (codes "jsle r10, r3, +5") ≡ spelled (0x53add ∷ [])
unfolding trim
word_117 = refl

-- if r10 s<= -3 goto +5
word_118 : said (codes "jsle r10, -3, +5") ≡ spelled (0xfffffffd00050ad5 ∷ [])
unfolding trim
word_118 = refl

-- if w10 s<= w3 goto +5
word_119 : said (codes "jsle32 r10, r3, +5") ≡ spelled (0x53ade ∷ [])
unfolding trim
word_119 = refl

-- if w10 s<= -3 goto +5
word_120 : said (codes "jsle32 r10, -3, +5") ≡ spelled (0xfffffffd00050ad6 ∷ [])
unfolding trim
word_120 = refl

-- r0 = *(u8 *)(r1 + 8)
word_121 : said (codes "ldxb r0, [r1+8]") ≡ spelled (0x81071 ∷ [])
unfolding trim
word_121 = refl

-- *(u8 *)(r7 - 8) = -1
word_122 : said (codes "stb [r7-8], -1") ≡ spelled (0xfffffffffff80772 ∷ [])
unfolding trim
word_122 = refl

-- *(u8 *)(r5 + 0) = r0
word_123 : said (codes "stxb [r5+0], r0") ≡ spelled (0x573 ∷ [])
unfolding trim
word_123 = refl

-- r2 = *(s8 *)(r3 - 8)
word_124 : said (codes "ldxsb r2, [r3-8]") ≡ spelled (0xfff83291 ∷ [])
unfolding trim
word_124 = refl

-- r1 = *(u16 *)(r2 + 9)
word_125 : said (codes "ldxh r1, [r2+9]") ≡ spelled (0x92169 ∷ [])
unfolding trim
word_125 = refl

-- *(u16 *)(r8 - 9) = -2
word_126 : said (codes "sth [r8-9], -2") ≡ spelled (0xfffffffefff7086a ∷ [])
unfolding trim
word_126 = refl

-- *(u16 *)(r6 + 1) = r1
word_127 : said (codes "stxh [r6+1], r1") ≡ spelled (0x1166b ∷ [])
unfolding trim
word_127 = refl

-- r3 = *(s16 *)(r4 - 9)
word_128 : said (codes "ldxsh r3, [r4-9]") ≡ spelled (0xfff74389 ∷ [])
unfolding trim
word_128 = refl

-- r2 = *(u32 *)(r3 + 10)
word_129 : said (codes "ldxw r2, [r3+10]") ≡ spelled (0xa3261 ∷ [])
unfolding trim
word_129 = refl

-- *(u32 *)(r9 - 10) = -3
word_130 : said (codes "stw [r9-10], -3") ≡ spelled (0xfffffffdfff60962 ∷ [])
unfolding trim
word_130 = refl

-- *(u32 *)(r7 + 2) = r2
word_131 : said (codes "stxw [r7+2], r2") ≡ spelled (0x22763 ∷ [])
unfolding trim
word_131 = refl

-- r4 = *(s32 *)(r5 - 10)
word_132 : said (codes "ldxsw r4, [r5-10]") ≡ spelled (0xfff65481 ∷ [])
unfolding trim
word_132 = refl

-- r3 = *(u64 *)(r4 + 11)
word_133 : said (codes "ldxdw r3, [r4+11]") ≡ spelled (0xb4379 ∷ [])
unfolding trim
word_133 = refl

-- *(u64 *)(r10 - 11) = -4
word_134 : said (codes "stdw [r10-11], -4") ≡ spelled (0xfffffffcfff50a7a ∷ [])
unfolding trim
word_134 = refl

-- *(u64 *)(r8 + 3) = r3
word_135 : said (codes "stxdw [r8+3], r3") ≡ spelled (0x3387b ∷ [])
unfolding trim
word_135 = refl

-- lock *(u32 *)(r1 + 0) += w3
word_136 : said (codes "atomic_add_w [r1+0], r3") ≡ spelled (0x31c3 ∷ [])
unfolding trim
word_136 = refl

-- w3 = atomic_fetch_add((u32 *)(r1 + 0), w3)
word_137 : said (codes "atomic_fetch_add_w [r1+0], r3") ≡ spelled (0x1000031c3 ∷ [])
unfolding trim
word_137 = refl

-- lock *(u64 *)(r1 + 0) += r3
word_138 : said (codes "atomic_add_dw [r1+0], r3") ≡ spelled (0x31db ∷ [])
unfolding trim
word_138 = refl

-- r3 = atomic_fetch_add((u64 *)(r1 + 0), r3)
word_139 : said (codes "atomic_fetch_add_dw [r1+0], r3") ≡ spelled (0x1000031db ∷ [])
unfolding trim
word_139 = refl

-- lock *(u32 *)(r2 + 8) |= w4
word_140 : said (codes "atomic_or_w [r2+8], r4") ≡ spelled (0x40000842c3 ∷ [])
unfolding trim
word_140 = refl

-- w4 = atomic_fetch_or((u32 *)(r2 + 8), w4)
word_141 : said (codes "atomic_fetch_or_w [r2+8], r4") ≡ spelled (0x41000842c3 ∷ [])
unfolding trim
word_141 = refl

-- lock *(u64 *)(r2 + 8) |= r4
word_142 : said (codes "atomic_or_dw [r2+8], r4") ≡ spelled (0x40000842db ∷ [])
unfolding trim
word_142 = refl

-- r4 = atomic_fetch_or((u64 *)(r2 + 8), r4)
word_143 : said (codes "atomic_fetch_or_dw [r2+8], r4") ≡ spelled (0x41000842db ∷ [])
unfolding trim
word_143 = refl

-- lock *(u32 *)(r3 + 16) &= w5
word_144 : said (codes "atomic_and_w [r3+16], r5") ≡ spelled (0x50001053c3 ∷ [])
unfolding trim
word_144 = refl

-- w5 = atomic_fetch_and((u32 *)(r3 + 16), w5)
word_145 : said (codes "atomic_fetch_and_w [r3+16], r5") ≡ spelled (0x51001053c3 ∷ [])
unfolding trim
word_145 = refl

-- lock *(u64 *)(r3 + 16) &= r5
word_146 : said (codes "atomic_and_dw [r3+16], r5") ≡ spelled (0x50001053db ∷ [])
unfolding trim
word_146 = refl

-- r5 = atomic_fetch_and((u64 *)(r3 + 16), r5)
word_147 : said (codes "atomic_fetch_and_dw [r3+16], r5") ≡ spelled (0x51001053db ∷ [])
unfolding trim
word_147 = refl

-- lock *(u32 *)(r4 + 24) ^= w6
word_148 : said (codes "atomic_xor_w [r4+24], r6") ≡ spelled (0xa0001864c3 ∷ [])
unfolding trim
word_148 = refl

-- w6 = atomic_fetch_xor((u32 *)(r4 + 24), w6)
word_149 : said (codes "atomic_fetch_xor_w [r4+24], r6") ≡ spelled (0xa1001864c3 ∷ [])
unfolding trim
word_149 = refl

-- lock *(u64 *)(r4 + 24) ^= r6
word_150 : said (codes "atomic_xor_dw [r4+24], r6") ≡ spelled (0xa0001864db ∷ [])
unfolding trim
word_150 = refl

-- r6 = atomic_fetch_xor((u64 *)(r4 + 24), r6)
word_151 : said (codes "atomic_fetch_xor_dw [r4+24], r6") ≡ spelled (0xa1001864db ∷ [])
unfolding trim
word_151 = refl

-- w2 = xchg32_32(r1 - 4, w2)
word_152 : said (codes "atomic_xchg_w [r1-4], r2") ≡ spelled (0xe1fffc21c3 ∷ [])
unfolding trim
word_152 = refl

-- r3 = xchg_64(r10 - 8, r3)
word_153 : said (codes "atomic_xchg_dw [r10-8], r3") ≡ spelled (0xe1fff83adb ∷ [])
unfolding trim
word_153 = refl

-- w0 = cmpxchg32_32(r4 - 4, w0, w5)
word_154 : said (codes "atomic_cmpxchg_w [r4-4], r5") ≡ spelled (0xf1fffc54c3 ∷ [])
unfolding trim
word_154 = refl

-- r0 = cmpxchg_64(r6 - 8, r0, r7)
word_155 : said (codes "atomic_cmpxchg_dw [r6-8], r7") ≡ spelled (0xf1fff876db ∷ [])
unfolding trim
word_155 = refl

-- call 5
word_156 : said (codes "call 5") ≡ spelled (0x500000085 ∷ [])
unfolding trim
word_156 = refl

-- exit
word_157 : said (codes "exit") ≡ spelled (0x95 ∷ [])
unfolding trim
word_157 = refl
