use Rattle.std.proofs.Common.{◌≡◌, ℕ, List, [], ◌∙◌, ap, subst, sym, refl}
use Rattle.semantics.specs.Step.{Bases}
use Rattle.semantics.specs.Reach.{AreArguments, reach, entry, Asked, Exited}
use Rattle.semantics.specs.Row.{plain_bases}
use Rattle.interpreter.specs.Runs.{setting_of}
use Rattle.text_commands.specs.Execution.{answered}
use Rattle.text_commands.proofs.Answered.{exits, never_asks, plain_layout, at_same}
use Rattle.text_commands.proofs.execute.answer.Goals as goal

pub unreachable-requires : goal.unreachable-requires
unreachable-requires c =
    let v = c.args.verified.now in
    let m = c.start-machine.result in
    let e = c.start-machine.ensures in
    let at_entry = at_same (λ (a : List ℕ) (b : Bases). m.config ≡ entry (setting_of v a b)) m.args c.args.args.now m.bases c.plain.result (sym e.args.0) (sym e.args.1) e.entry in
    let asked = c.in-Ask.ensures.stops [] (at_entry, refl) in
    let fine = c.requires.safe.always c.args.args.now plain_bases [] plain_layout (subst (AreArguments v.decl) e.args.0 e.started.arguments) tt in
    let there = at_same (λ (a : List ℕ) (b : Bases). reach (setting_of v a b) [] ≡ Asked asked.0 c.in-Ask.field-0 c.resume.new.self.config)
    c.args.args.now m.args plain_bases m.bases e.args.0 (e.args.1 ∙ c.plain.ensures) asked.1 in
    never_asks (setting_of v c.args.args.now plain_bases) (reach (setting_of v c.args.args.now plain_bases) []) asked.0 c.in-Ask.field-0 c.resume.new.self.config c.requires.slots fine there

pub returns : goal.returns
returns c =
    let v = c.args.verified.now in
    let m = c.start-machine.result in
    let e = c.start-machine.ensures in
    let at_entry = at_same (λ (a : List ℕ) (b : Bases). m.config ≡ entry (setting_of v a b)) m.args c.args.args.now m.bases c.plain.result (sym e.args.0) (sym e.args.1) e.entry in
    let there = at_same (λ (a : List ℕ) (b : Bases). reach (setting_of v a b) [] ≡ Exited c.in-Exit.value c.resume.new.self.config)
    c.args.args.now m.args plain_bases m.bases e.args.0 (e.args.1 ∙ c.plain.ensures) (c.in-Exit.ensures.stops [] (at_entry, refl)) in
    ap answered (exits (reach (setting_of v c.args.args.now plain_bases) []) c.in-Exit.value c.executed.result c.resume.new.self.config there c.executed.ensures)
