use Rattle.std.proofs.Common.{◌≡◌, List, None, refl, ap, subst}
use Rattle.std.specs.Prelude.{slice_get}
use Rattle.transactions.specs.declared.Site.{Site}
use Rattle.transactions.specs.Legal.{Legal}
use Rattle.transactions.proofs.StandingLemmas.{none_some}
use Rattle.tc_world.specs.Examples.{down_site}
use Rattle.tc_world.proofs.ComingBack.{all_at}
use Rattle.tc_world.proofs.LivingLemmas.{living_legal}
use Rattle.tc_world.proofs.ExampleLemmas.{empty_lived, empty_known}
use Rattle.tc_world.proofs.examples.worlds_that_live.Goals as goal

pub returns-clause-lived : goal.returns-clause-lived
returns-clause-lived c n rows ops = empty_lived n rows ops

pub returns-clause-known : goal.returns-clause-known
returns-clause-known c n rows ops = empty_known n rows ops

pub returns-clause-down : goal.returns-clause-down
returns-clause-down c w is fresh =
    let up : down_site.redo ≡ None =
    all_at (λ (t : Site). t.redo ≡ None) w.core.sites 0 down_site (ap (λ (xs : List Site). slice_get xs 0) is) fresh.up in
    absurd (none_some down_site.redo _ up refl)

pub returns-clause-unlived : goal.returns-clause-unlived
returns-clause-unlived c w o is lived =
    let legal = subst (Legal w.core.procs) is (living_legal w lived) in
    absurd (none_some _ legal.0.s refl legal.0.is)
