use Rattle.std.proofs.Common.{◌≡◌, ◌∷◌, [], ◌++◌}
use Rattle.interpreter.proofs.Answering.{goes_on, paused}
use Rattle.component_tests.proofs.machine_tests.hear.Goals as goal

pub resume-call-requires-clause-started : goal.resume-call-requires-clause-started
resume-call-requires-clause-started c = c.requires.asks.started

pub resume-call-requires-clause-continues : goal.resume-call-requires-clause-continues
resume-call-requires-clause-continues c =
    (c.requires.asks.answers ++ c.args.said ∷ [], goes_on c.args.verified.now c.args.call.now.machine c.args.op c.args.said c.requires.asks c.requires.fits c.requires.room)

pub returns : goal.returns
returns c =
    let v = c.args.verified.now in
    let m = c.args.call.now.machine in
    let answers = c.requires.asks.answers ++ c.args.said ∷ [] in
    let on = goes_on v m c.args.op c.args.said c.requires.asks c.requires.fits c.requires.room in
    let e = c.resume-call.ensures in
    paused v m c.resume-call.new.self c.resume-call.result answers e.started e.same.0 e.same.1 on.1 (e.stops answers on)
