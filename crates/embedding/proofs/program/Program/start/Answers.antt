use Rattle.std.proofs.Common.{◌≡◌, [], sym, subst, ◌∙◌}
use Rattle.semantics.specs.Step.{Bases}
use Rattle.semantics.specs.Reach.{entry}
use Rattle.interpreter.specs.Runs.{setting_of}
use Rattle.embedding.specs.Running.{IsFine, Stands}
use Rattle.embedding.proofs.RunningLemmas.{begun, fine_by, stops_by}
use Rattle.embedding.proofs.program.Program.start.Goals as goal

pub invariant_of-self : goal.invariant_of-self
invariant_of-self c =
    let v = c.self.inside.verified in let m = c.resume-pause.new.self in let p = c.resume-pause.result in
    let s = c.start-machine.ensures in let r = c.resume-pause.ensures in
    let at = subst (λ (b : Bases). c.start-machine.result.config ≡ entry (setting_of v c.args.args.now b)) c.plain.ensures s.entry in
    let stands : Stands v m p [] = begun v c.start-machine.result m p c.args.args.now at s.args.0 (s.args.1 ∙ c.plain.ensures) r.started r.same.0 r.same.1 r.stops in
    subst (IsFine v) (sym c.waiting-self-inside.ensures) (fine_by v m p [] stands)

pub returns-clause-stops : goal.returns-clause-stops
returns-clause-stops c =
    let v = c.self.inside.verified in let m = c.resume-pause.new.self in let p = c.resume-pause.result in
    let s = c.start-machine.ensures in let r = c.resume-pause.ensures in
    let at = subst (λ (b : Bases). c.start-machine.result.config ≡ entry (setting_of v c.args.args.now b)) c.plain.ensures s.entry in
    let stands : Stands v m p [] = begun v c.start-machine.result m p c.args.args.now at s.args.0 (s.args.1 ∙ c.plain.ensures) r.started r.same.0 r.same.1 r.stops in
    stops_by v m p c.args.args.now [] c.executed-executed.result c.waiting-self-inside.result stands (r.same.0 ∙ s.args.0) c.executed-executed.ensures c.waiting-self-inside.ensures
