use Rattle.std.proofs.Common.{◌≡◌, ◌≤◌, ◌++◌, length, drop}
use Rattle.bpf_encoding.specs.Spelling.{places_of}
use Rattle.bpf_encoding.proofs.code.places_of.Given as goal

abbrev pub invariant-loop-insn : goal.invariant-loop-insn
invariant-loop-insn l = record {
  all : l.places.items ++ places_of (drop l.insn-index l.insns) ≡ places_of l.insns;
  short : length l.places.items ≤ 4096;
}
