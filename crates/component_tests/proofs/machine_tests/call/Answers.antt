use Rattle.std.proofs.Common.{◌≡◌, []}
use Rattle.interpreter.proofs.Answering.{goes_on_from_the_entry, paused}
use Rattle.component_tests.proofs.machine_tests.call.Goals as goal

pub returns : goal.returns
returns c =
    let v = c.args.verified.now in
    let s = c.start-machine.ensures in
    let m = c.start-machine.result in
    let stops = c.resume-pause.ensures.stops [] (goes_on_from_the_entry v m c.args.args.now c.plain.result s.entry s.args.0 s.args.1) in
    paused v m c.resume-pause.new.self c.resume-pause.result [] c.resume-pause.ensures.started c.resume-pause.ensures.same.0 c.resume-pause.ensures.same.1 tt stops
