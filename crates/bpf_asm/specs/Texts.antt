-- What is read of a line's operands.
use Rattle.std.specs.Prelude.{◌≡◌, ℕ, List, length}
use Rattle.bpf_asm.specs.Cutting.{text_at}
use Rattle.bpf_asm.specs.declared.cut.Operands.{Operands}

-- the first three, and their count
abbrev pub AreOperands : List (List ℕ) → Operands → Type 0
AreOperands texts o = (o.first.now ≡ text_at 0 texts) × (o.second.now ≡ text_at 1 texts) ×
    (o.third.now ≡ text_at 2 texts) × (o.count ≡ length texts)
