use Rattle.std.proofs.Common.{◌≡◌, ℕ, ◌-◌, List, take, drop, length, true, false, sym, ◌∙◌, ap, rules}
use Rattle.std.specs.Int.{w64, to_le_bytes}
use Rattle.std.proofs.lemmas.List.{take_rest}
use Rattle.frame_file.specs.Frame.{checksum}
use Rattle.frame_file.proofs.Frames.{first_part, second_part, third_part, head_parts}
use Rattle.frame_file.proofs.frame.is_head.Goals as goal

pub returns-then-not-is_numbered : goal.returns-then-not-is_numbered
returns-then-not-is_numbered c = (
  λ no. absurd (cc),
  λ is.
      let same : take 8 c.args.head.now ≡ to_le_bytes w64 c.args.number = ap (λ (b : List ℕ). take 8 b) is ∙ first_part c.args.number c.args.payload.now in
      let yes : c.eq-is_numbered.result ≡ true = search (rules, same) in
      absurd (let bad : true ≡ false = sym yes ∙ c.if-not-is_numbered.true in cc),
)

pub returns-then-not-is_measured : goal.returns-then-not-is_measured
returns-then-not-is_measured c = (
  λ no. absurd (cc),
  λ is.
      let same : take 8 (drop 8 c.args.head.now) ≡ to_le_bytes w64 (length c.args.payload.now)
      = ap (λ (b : List ℕ). take 8 (drop 8 b)) is ∙ second_part c.args.number c.args.payload.now in
      let yes : c.eq-is_measured.result ≡ true = search (rules, same) in
      absurd (let bad : true ≡ false = sym yes ∙ c.if-not-is_measured.true in cc),
)

pub returns : goal.returns
returns c = (
  λ yes.
      let one : take 8 c.args.head.now ≡ to_le_bytes w64 c.args.number = search rules in
      let two : take 8 (drop 8 c.args.head.now) ≡ to_le_bytes w64 (length c.args.payload.now) = search rules in
      let seen : take (length c.args.head.now - 16) (drop 16 c.args.head.now) ≡ to_le_bytes w64
      (checksum c.args.number c.args.payload.now) = search (rules, yes) in
      let three = sym (take_rest c.args.head.now 16) ∙ seen in
      head_parts c.args.number c.args.payload.now c.args.head.now one two three,
  λ is.
      let same : drop 16 c.args.head.now ≡ to_le_bytes w64 (checksum c.args.number c.args.payload.now)
      = ap (λ (b : List ℕ). drop 16 b) is ∙ third_part c.args.number c.args.payload.now in
      search (rules, same),
)
