use Rattle.std.proofs.Common.{sym, ◌∙◌, ap}
use Rattle.tc_world.specs.Whole.{Whole}
use Rattle.tc_world.proofs.Closing.{none_yet, one_more, all_given_up}
use Rattle.tc_world.proofs.world.World.close.Goals as goal

pub loop-request-init : goal.loop-request-init
loop-request-init c = none_yet c.self.inside.state c.args.self.core c.self.inside.requests.items
    (ap (λ (w : Whole). w.core) c.self.view_is) c.known.ensures.legal c.self.invariant

pub loop-request-preserved : goal.loop-request-preserved
loop-request-preserved c =
    one_more c.args.self.core c.loop-request.state c.give_up-number.new.self c.loop-request.requests.items
    c.pop.new.self.items c.in-Some.request c.loop-request.invariant c.in-Some.ensures.items
    c.give_up-number.ensures.open_here

pub returns-clause-kept : goal.returns-clause-kept
returns-clause-kept c = c.loop-request.invariant.kept

pub returns-clause-given_up : goal.returns-clause-given_up
returns-clause-given_up c n = all_given_up c.args.self.core c.loop-request.state c.loop-request.requests.items n
    c.loop-request.invariant (sym c.loop-request.requests.ok.0 ∙ c.in_default.ensures.cases.0)
