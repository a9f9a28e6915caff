use Rattle.std.proofs.Common.{ℕ, ◌+◌, ◌<◌, ◌^◌, List, [], ◌∷◌, arith, sym, subst}
use Rattle.request_numbers.specs.Given.{Given, Rising}
use Rattle.request_numbers.specs.Places.{numbers_of}
use Rattle.request_numbers.proofs.numbers.Numbers.pass.Goals as goal

rising_later : (low last : ℕ) (ns : List ℕ) → Rising low last ns → Rising low (last + 1) ns
rising_later low last [] h = omega (arith, h)
rising_later low last (n ∷ ns) h = (h.0, rising_later n last ns h.1)

pub invariant_of-self : goal.invariant_of-self
invariant_of-self c =
    let few = subst (λ (g : Given). g.last < 2 ^ 62) (sym c.self.view_is) c.requires in
    let kept = c.self.invariant.1 in (
      omega (arith, few),
      record {
        rising = rising_later 0 c.self.inside.last (numbers_of c.self.inside.places.items) kept.rising;
        first = kept.first;
        all = kept.all;
        half = kept.half;
        room = kept.room;
      },
    )
