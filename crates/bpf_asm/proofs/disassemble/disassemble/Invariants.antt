use Rattle.std.proofs.Common.{◌≡◌, ◌++◌, take, drop}
use Rattle.std.specs.Prelude.{string_bytes}
use Rattle.bpf_asm.specs.Parts.{text_of}
use Rattle.bpf_asm.proofs.Lines.{AllOperands}
use Rattle.bpf_asm.proofs.disassemble.disassemble.Given as goal

abbrev pub invariant-loop-place : goal.invariant-loop-place
invariant-loop-place l = (string_bytes l.text ++ text_of (drop l.place-index l.place-items) ≡ text_of l.place-items)
    × AllOperands (take l.place-index l.place-items)
