use Rattle.std.proofs.Common.{◌≡◌, ℕ, length, inl, inr, sym, ap, subst, arith}
use Rattle.std.proofs.lemmas.Bool.{cases_lt}
use Rattle.embedding.specs.Serving.{WaitsAt, NoneWaits}
use Rattle.embedding.proofs.opened.first_waiting.Goals as goal

pub returns-in-Some-clause-first : goal.returns-in-Some-clause-first
returns-in-Some-clause-first c =
    subst (λ (n : ℕ). NoneWaits c.args.state.now c.args.dc c.args.from n) (sym c.in-Some.ensures.place) c.loop-at.invariant

pub loop-at-preserved : goal.loop-at-preserved
loop-at-preserved c = λ place txn proc sent from before is.
    elim (cases_lt place c.loop-at.at) [
      | inl earlier ↦ c.loop-at.invariant place txn proc sent from earlier is
      | inr later ↦ c.in_default.ensures.none txn proc sent
          (subst (λ (n : ℕ). WaitsAt c.args.state.now c.args.dc n txn proc sent) (omega (arith, before, later)) is)
    ]

pub returns-clause-none : goal.returns-clause-none
returns-clause-none c = λ place txn proc sent from before is.
    let whole : length c.log.result.now.events ≡ length c.args.state.now.events = ap length c.log.ensures in
    let end = c.len-at-end.ensures in let past = c.loop-at-test.false in
    c.loop-at.invariant place txn proc sent from (omega (arith, before, whole, end, past)) is
