use Rattle.std.proofs.Common.{◌∙◌, ℕ, List, length, take, drop, ap, sym, subst}
use Rattle.std.specs.Int.{w64, from_le_bytes}
use Rattle.log_command.specs.Front.{IsHeaderSize}
use Rattle.log_command.proofs.FrontLemmas.{of_log}
use Rattle.log_command.proofs.front.may_begin.Goals as goal

pub returns-then-long-ne0 : goal.returns-then-long-ne0
returns-then-long-ne0 c = λ no. λ rest. λ s. λ digest. λ stored.
    let cut = c.split_at.ensures.front in
    let h = of_log c.args.front.now rest s (ap length (sym cut) ∙ c.split_at.ensures.front_len) digest stored in
    c.if-long-ne0.true
    (c.long.ensures ∙ ap (from_le_bytes w64) (c.split_at-2.ensures.front ∙ ap (λ (b : List ℕ). take 8 b) cut) ∙ h.number)

pub returns : goal.returns
returns c = λ no. λ rest. λ s. λ digest. λ stored.
    let cut = c.split_at.ensures.front in
    let h = of_log c.args.front.now rest s (ap length (sym cut) ∙ c.split_at.ensures.front_len) digest stored in
    let size = c.long-2.ensures ∙ ap (from_le_bytes w64) (c.split_at-2.ensures.back ∙ ap (λ (b : List ℕ). drop 8 b) cut) in
    c.is_header_size.ensures no (subst IsHeaderSize (sym size) h.size)
