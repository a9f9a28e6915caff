use Rattle.std.proofs.Common.{◌≡◌, List, [], ◌∷◌, ◌++◌, sym, ◌∙◌, ap, subst}
use Rattle.std.specs.Prelude.{is_some, reverse}
use Rattle.verifier.specs.Checked.{Checked}
use Rattle.interpreter.specs.Standing.{Standing}
use Rattle.transactions.specs.Reached.{plain}
use Rattle.transactions.proofs.StandingLemmas.{some_same}
use Rattle.tc_core.proofs.Resuming.{pauses_plain}
use Rattle.call_results.specs.Results.{holds_record}
use Rattle.call_results.specs.Joining.Along.{Runs, MayHear}
use Rattle.call_results.specs.declared.rerun.Rerun.{Rerun}
use Rattle.call_results.proofs.Answering.{names_slot, there_then, goes_on}
use Rattle.call_results.proofs.rerun.Rerun.resume.Goals as goal

pub note-requires : goal.note-requires
note-requires c =
    let a = c.requires.asked in
    ap is_some (names_slot a.0 c.args.self.now a.1 a.2 c.args.op c.args.said.now a.4).1

pub resume-self-requires-clause-continues : goal.resume-self-requires-clause-continues
resume-self-requires-clause-continues c =
    let a = c.requires.asked in
    let r = c.args.self.now in
    let code = c.in-Some.code.now in
    let same : a.0 ≡ code = some_same a.0 code (sym a.3 ∙ sym c.in-Some.ensures) in
    let may = subst (λ (x : Checked). MayHear x r a.1 a.2 c.args.op c.args.said.now) same a.4 in
    let machine : c.note.new.self.machine ≡ r.machine = ap (λ (x : Rerun). x.machine) c.note.ensures.rest in
    (a.2 ++ c.args.said.now ∷ [], goes_on code r c.note.new.self.machine a.1 a.2 c.args.op c.args.said.now may c.requires.room machine)

pub returns-clause-runs : goal.returns-clause-runs
returns-clause-runs c = λ q args answers loaded hears.
    let r = c.args.self.now in
    let n = c.note.new.self in
    let said = c.args.said.now in
    let code = c.in-Some.code.now in
    let same : q ≡ code = some_same q code (sym loaded ∙ sym c.in-Some.ensures) in
    let may = subst (λ (x : Checked). MayHear x r args answers c.args.op said) same hears in
    let machine : n.machine ≡ r.machine = ap (λ (x : Rerun). x.machine) c.note.ensures.rest in
    let slot : n.slot ≡ r.slot = ap (λ (x : Rerun). x.slot) c.note.ensures.rest in
    let call = ap (λ (x : Standing). x.args) machine ∙ may.runs.call in
    let layout = ap (λ (x : Standing). x.bases) machine ∙ may.runs.layout in
    let stops = c.resume-self.ensures.stops (answers ++ said ∷ []) (goes_on code r n.machine args answers c.args.op said may c.requires.room machine) in
    let after : Rerun = record n { machine = c.resume-self.new.self; pause = c.resume-self.result } in
    subst (λ (x : Checked). Runs x after args (answers ++ said ∷ [])) (sym same) (record {
      started = c.resume-self.ensures.started;
      call = c.resume-self.ensures.same.0 ∙ call;
      layout = c.resume-self.ensures.same.1 ∙ layout;
      pauses = pauses_plain code n.machine _ _ args (answers ++ said ∷ []) call layout stops;
      there = there_then code r args answers c.args.op said n.is_there may c.note.ensures.there
          ∙ ap (λ k. holds_record (plain code args) k (reverse (answers ++ said ∷ []))) (sym slot);
    })
