use Rattle.std.proofs.Common.{ℕ, inl, inr, sym, subst, arith}
use Rattle.std.proofs.lemmas.Bool.{cases_lt}
use Rattle.embedding.specs.Serving.{IsOpenAt, NoneIsOpen}
use Rattle.embedding.proofs.opened.first_open.Goals as goal

pub returns-in-Some-clause-first : goal.returns-in-Some-clause-first
returns-in-Some-clause-first c =
    subst (λ (n : ℕ). NoneIsOpen c.args.state.now c.args.from n) (sym c.in-Some.ensures.place) c.loop-place.invariant

pub loop-place-preserved : goal.loop-place-preserved
loop-place-preserved c = λ place txn proc from before is.
    elim (cases_lt place c.loop-place.place) [
      | inl earlier ↦ c.loop-place.invariant place txn proc from earlier is
      | inr later ↦ c.in_default.ensures.none txn proc
          (subst (λ (n : ℕ). IsOpenAt c.args.state.now n txn proc) (omega (arith, before, later)) is)
    ]
