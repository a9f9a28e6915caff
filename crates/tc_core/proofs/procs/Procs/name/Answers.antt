use Rattle.std.proofs.Common.{ℕ, List, Some, ◌∙◌, ap, sym}
use Rattle.std.specs.Prelude.{slice_get}
use Rattle.std.specs.Option.{option_map}
use Rattle.std.specs.String.{string_bytes}
use Rattle.indexmap.specs.IndexMap.{keys}
use Rattle.tc_core.specs.Loaded.{Loaded}
use Rattle.std.proofs.lemmas.Option.{slice_get-map}
use Rattle.tc_core.proofs.procs.Procs.name.Goals as goal

pub returns-in-Some : goal.returns-in-Some
returns-in-Some c =
    ap (λ (bytes : List ℕ). Some bytes) c.as_str.ensures.value
    ∙ (ap (option_map string_bytes) (ap (option_map (λ e. e.0)) c.in-Some.ensures.entry
    ∙ sym (slice_get-map (λ e. e.0) c.self.inside.by_name.entries c.args.number))
    ∙ (sym (slice_get-map string_bytes (keys c.self.inside.by_name) c.args.number)
    ∙ ap (λ (l : Loaded). slice_get l.names c.args.number) c.self.view_is))

pub returns-in-None : goal.returns-in-None
returns-in-None c =
    ap (option_map string_bytes) (ap (option_map (λ e. e.0)) c.in-None.ensures.entry
    ∙ sym (slice_get-map (λ e. e.0) c.self.inside.by_name.entries c.args.number))
    ∙ (sym (slice_get-map string_bytes (keys c.self.inside.by_name) c.args.number)
    ∙ ap (λ (l : Loaded). slice_get l.names c.args.number) c.self.view_is)
