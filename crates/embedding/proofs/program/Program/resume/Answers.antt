use Rattle.std.proofs.Common.{◌≡◌, true, [], ◌∷◌, ◌++◌, Some, sym, subst, ◌∙◌}
use Rattle.access_slots.specs.Access.{fits}
use Rattle.access_slots.specs.declared.op.Op.{Op}
use Rattle.embedding.specs.Running.{Held, IsFine, WaitsBehind}
use Rattle.embedding.proofs.RunningLemmas.{from_question, went_on, fine_by, stops_by, waits_on}
use Rattle.embedding.proofs.program.Program.resume.Goals as goal

pub resume-pause-requires-clause-continues : goal.resume-pause-requires-clause-continues
resume-pause-requires-clause-continues c =
    let v = c.self.inside.verified in let run = c.in-Some.run' in
    let fine : IsFine v (Some run) = subst (IsFine v) (sym c.replace.ensures.value ∙ c.in-Some.is) c.self.invariant in
    (fine.0 ++ c.args.said ∷ [], from_question v run.machine run.op fine.0 c.args.said fine.1 (sym c.fits.ensures ∙ c.if-not-fits.false) (sym c.is_no_room.ensures ∙ c.if-is_no_room.false))

pub invariant_of-self-2 : goal.invariant_of-self-2
invariant_of-self-2 c =
    let v = c.self.inside.verified in let run = c.in-Some.run' in let r = c.resume-pause.ensures in
    let fine : IsFine v (Some run) = subst (IsFine v) (sym c.replace.ensures.value ∙ c.in-Some.is) c.self.invariant in
    let fit = sym c.fits.ensures ∙ c.if-not-fits.false in let room = sym c.is_no_room.ensures ∙ c.if-is_no_room.false in
    subst (IsFine v) (sym c.waiting-self-inside.ensures) (fine_by v c.resume-pause.new.self c.resume-pause.result (fine.0 ++ c.args.said ∷ [])
    (went_on v run.machine c.resume-pause.new.self run.op c.resume-pause.result fine.0 c.args.said fine.1 fit room r.started r.same.0 r.same.1 r.stops))

pub returns-clause-goes_on : goal.returns-clause-goes_on
returns-clause-goes_on c = λ args answers o waits.
    let v = c.self.inside.verified in let run = c.in-Some.run' in let r = c.resume-pause.ensures in
    let here : WaitsBehind v args answers o c.self.inside.run = subst (λ (h : Held). WaitsBehind h.code args answers o h.run) (sym c.self.view_is) waits in
    let w = waits_on v c.self.inside.run run args answers o (sym c.replace.ensures.value ∙ c.in-Some.is) here in
    let fit = subst (λ (x : Op). fits x c.args.said ≡ true) w.0 (sym c.fits.ensures ∙ c.if-not-fits.false) in
    let room = sym c.is_no_room.ensures ∙ c.if-is_no_room.false in
    stops_by v c.resume-pause.new.self c.resume-pause.result args (answers ++ c.args.said ∷ []) c.executed-executed.result c.waiting-self-inside.result
    (went_on v run.machine c.resume-pause.new.self o c.resume-pause.result answers c.args.said w.2 fit room r.started r.same.0 r.same.1 r.stops)
    (r.same.0 ∙ w.1) c.executed-executed.ensures c.waiting-self-inside.ensures
