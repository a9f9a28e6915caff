use Rattle.std.proofs.Common.{◌≡◌, List, ℕ, ◌+◌, Bool, true, ◌++◌, length, drop, ap, ap₂, sym, ◌∙◌}
use Rattle.std.specs.Prelude.{◌&&◌}
use Rattle.std.specs.Int.{w64, to_le_bytes}
use Rattle.log_file.specs.Bytes.{based_version, session_bytes, own_bytes}
use Rattle.log_file.specs.Replacement.{are_left}
use Rattle.log_file.proofs.replacement.may_be_left.Goals as goal
use Rattle.log_file.proofs.replacement.may_be_left.Goals.{then-is_numbered, else-is_numbered}

pub returns : goal.returns
returns c =
    let h = c.args.header.now in
    let bytes = c.args.bytes.now in
    let head = to_le_bytes w64 0 ++ to_le_bytes w64 (72 + length (session_bytes h.session)) in
    let headed = are_left (own_bytes (based_version h.session) h) (drop 24 bytes) in
    let first = c.are_left-is_numbered.ensures ∙ ap (λ (l : List ℕ). are_left l bytes) (c.deref.ensures.value ∙ c.in_ok-head.ensures) in
    elim c.if-is_numbered.branch [
      | then-is_numbered w ↦
          let numbered : are_left head bytes ≡ true = sym first ∙ w.if-is_numbered.true in
          let same : c.are_left-is_headed.result ≡ headed = c.are_left-is_headed.ensures
          ∙ ap₂ are_left (c.deref-2.ensures.value ∙ c.in_ok-front.ensures) c.behind.ensures in
          w.result-is ∙ (same ∙ sym (ap (λ (b : Bool). b && headed) numbered))
      | else-is_numbered w ↦
          let numbered = sym first ∙ w.if-is_numbered.false in
          w.result-is ∙ (w.if-is_numbered.false ∙ sym (ap (λ (b : Bool). b && headed) numbered))
    ]
