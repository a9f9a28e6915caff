use Rattle.std.proofs.Common.{◌≡◌, ◌∙◌, List, ap, sym, subst, arith}
use Rattle.std.proofs.lemmas.Bool.Decides.{nat_tests}
use mathlib.Core.List.{IsPrefix}
use Rattle.tc_log.specs.declared.event.Event.{Event}
use Rattle.worker_pool.proofs.Handing.{prefix_same}
use Rattle.worker_pool.proofs.handed.Handed.is_same.Goals as goal

pub returns : goal.returns
returns g c = λ yes. (
    let both = c.learn.new.self.log in
    let this : IsPrefix c.self.inside.seen.log both = subst (λ (l : List (List Event)). IsPrefix l both)
    (ap (λ s. s.log) c.again-both.ensures) c.learn.ensures.2 in
    let count : c.self.inside.batches ≡ c.other.inside.batches = grind (arith, nat_tests, yes) in
    let same : c.self.inside.seen.log ≡ c.other.inside.seen.log =
    prefix_same c.self.inside.seen.log c.other.inside.seen.log both this c.learn.ensures.3 (sym c.self.invariant.0 ∙ (count ∙ c.other.invariant.0)) in
    sym c.self.view_is ∙ (same ∙ c.other.view_is))
