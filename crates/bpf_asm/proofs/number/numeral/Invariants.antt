use Rattle.bpf_asm.proofs.Numerals.{SoFar}
use Rattle.bpf_asm.proofs.number.numeral.Given as goal

abbrev pub invariant-loop-byte : goal.invariant-loop-byte
invariant-loop-byte l = SoFar l.radix l.text l.byte-index l.value
