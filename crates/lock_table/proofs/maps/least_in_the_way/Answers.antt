use Rattle.std.proofs.Common.{sym, subst, ◌∙◌, Option}
use Rattle.lock_table.specs.declared.maps.Holding.{Holding}
use Rattle.lock_table.specs.Holds.{IsHeld}
use Rattle.lock_table.proofs.HoldLemmas.{nobody_bars, none_bars, first_bars}
use Rattle.lock_table.proofs.maps.least_in_the_way.Goals as goal

pub returns-in_default : goal.returns-in_default
returns-in_default c = λ h before behind is.
    nobody_bars h c.args.lock.now.mode before behind (subst (λ (o : Option Holding). IsHeld h o before behind) (sym c.in_default.ensures.value) is)

pub returns-then-not-excludes : goal.returns-then-not-excludes
returns-then-not-excludes c = λ h before behind is.
    none_bars h c.args.lock.now.mode c.in-Some.held.now before behind (subst (λ (o : Option Holding). IsHeld h o before behind) (sym c.in-Some.ensures.value) is)
    (sym c.excludes.ensures ∙ c.if-not-excludes.true)

pub returns : goal.returns
returns c = λ h before behind is.
    first_bars h c.args.lock.now.mode c.in-Some.held.now before behind (subst (λ (o : Option Holding). IsHeld h o before behind) (sym c.in-Some.ensures.value) is)
    (sym c.excludes.ensures ∙ c.if-not-excludes.false)
