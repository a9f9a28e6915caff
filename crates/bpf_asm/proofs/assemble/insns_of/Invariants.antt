use Rattle.std.proofs.Common.{◌≡◌, ◌+◌, length, drop, ◌≤◌}
use Rattle.std.specs.Str.Lines.{lines}
use Rattle.bpf_encoding.specs.Spelling.{places_of}
use Rattle.bpf_asm.specs.Lines.{insns_from}
use Rattle.bpf_asm.proofs.Assembling.{prefixed}
use Rattle.bpf_asm.proofs.assemble.insns_of.Given as goal

abbrev pub invariant-lines : goal.invariant-lines
invariant-lines l =
    (goal.iterator-lines).can_next l.line-iterator ×
    (goal.iterator-lines).is_finite l.line-iterator ×
    (l.number ≡ length l.yielded) × (l.slots ≡ length (places_of l.insns.items)) × (l.slots ≤ 4096) ×
    (prefixed l.insns.items (insns_from (l.number + 1) l.slots (drop l.number (lines l.text))) ≡ insns_from 1 0 (lines l.text))
