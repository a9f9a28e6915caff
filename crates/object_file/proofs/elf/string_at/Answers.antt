use Rattle.std.proofs.Common.{◌≡◌, ◌∙◌, ℕ, List, take, ap, sym}
use Rattle.std.specs.Prelude.{◌==◌, Option, Some, None}
use Rattle.std.specs.List.{position}
use Rattle.std.specs.Option.{option_map}
use Rattle.object_file.specs.Elf.{string_in}
use Rattle.std.proofs.lemmas.List.{take_min}
use Rattle.object_file.proofs.elf.string_at.Goals as goal

-- the string of a text whose front has this first zero
by_zero : (text front : List ℕ) (zero : Option ℕ) → front ≡ take 267 text → position (λ byte. byte == 0) front ≡ zero
    → string_in text ≡ option_map (λ end. take end text) zero
by_zero text front zero same first = ap (λ (t : List ℕ). option_map (λ end. take end text) (position (λ byte. byte == 0) t)) (sym same) ∙ ap (option_map (λ end. take end text)) first

pub returns-in-None-clause-none : goal.returns-in-None-clause-none
returns-in-None-clause-none c =
    ap string_in (sym c.split_at.ensures.back)
    ∙ by_zero c.split_at.result.1.now c.split_at-2.result.0.now None
    (c.split_at-2.ensures.front ∙ ap (λ (k : ℕ). take k c.split_at.result.1.now) c.min.ensures ∙ take_min 267 c.split_at.result.1.now) (sym c.first_zero.ensures ∙ c.in-None.is)

pub returns-in-Some-clause-some : goal.returns-in-Some-clause-some
returns-in-Some-clause-some c =
    ap string_in (sym c.split_at.ensures.back)
    ∙ by_zero c.split_at.result.1.now c.split_at-2.result.0.now (Some c.in-Some.end)
    (c.split_at-2.ensures.front ∙ ap (λ (k : ℕ). take k c.split_at.result.1.now) c.min.ensures ∙ take_min 267 c.split_at.result.1.now) (sym c.first_zero.ensures ∙ c.in-Some.is)
