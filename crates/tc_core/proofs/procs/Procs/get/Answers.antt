use Rattle.std.proofs.Common.{Some, ◌∙◌, ap, sym}
use Rattle.std.specs.Prelude.{slice_get}
use Rattle.std.specs.Option.{option_map}
use Rattle.std.specs.Arc.{arc_value}
use Rattle.std.proofs.lemmas.Option.{slice_get-map}
use Rattle.indexmap.specs.IndexMap.{values}
use Rattle.verifier.specs.Checked.{Checked}
use Rattle.tc_core.specs.Loaded.{Loaded}
use Rattle.tc_core.proofs.procs.Procs.get.Goals as goal

pub returns-in-Some : goal.returns-in-Some
returns-in-Some c =
    ap (λ (q : Checked). Some q) c.deref.ensures
    ∙ (ap (option_map arc_value) (ap (option_map (λ e. e.1)) c.in-Some.ensures.entry
    ∙ sym (slice_get-map (λ e. e.1) c.self.inside.by_name.entries c.args.number))
    ∙ (sym (slice_get-map arc_value (values c.self.inside.by_name) c.args.number)
    ∙ ap (λ (l : Loaded). slice_get l.codes c.args.number) c.self.view_is))

pub returns-in-None : goal.returns-in-None
returns-in-None c =
    ap (option_map arc_value) (ap (option_map (λ e. e.1)) c.in-None.ensures.entry ∙ sym (slice_get-map (λ e. e.1) c.self.inside.by_name.entries c.args.number))
    ∙ (sym (slice_get-map arc_value (values c.self.inside.by_name) c.args.number)
    ∙ ap (λ (l : Loaded). slice_get l.codes c.args.number) c.self.view_is)
