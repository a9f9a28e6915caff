use Rattle.std.proofs.Common.{◌≡◌, ◌++◌, [], ◌∷◌, None, ◌∙◌, ap, map}
use Rattle.std.specs.Arc.{arc_value}
use Rattle.std.specs.String.{string_bytes}
use Rattle.indexmap.specs.IndexMap.{keys, values, get_by_text}
use Rattle.indexmap.proofs.CallerLemmas.{insert_entry-new}
use Rattle.tc_core.proofs.ListLemmas.{map-push}
use Rattle.tc_core.proofs.procs.add.Goals as goal

pub returns-clause-codes : goal.returns-clause-codes
returns-clause-codes c =
    let old = c.args.by_name.now in
    let none : get_by_text c.reserve.new.self (string_bytes c.in-Ok.name) ≡ None = rw (c.in-Ok.ensures.ok, c.reserve.ensures.entries) c.requires in
    let entries = c.in-Ok-insert.ensures.entries
    ∙ (insert_entry-new _ c.reserve.new.self c.in-Ok.name c.in-Ok-new.shared none
    ∙ ap (λ es. es ++ (c.in-Ok.name, c.in-Ok-new.shared) ∷ []) c.reserve.ensures.entries) in
    ap (λ es. map arc_value (map (λ e. e.1) es)) entries
    ∙ (ap (map arc_value) (map-push (λ e. e.1) old.entries (c.in-Ok.name, c.in-Ok-new.shared))
    ∙ (map-push arc_value (values old) c.in-Ok-new.shared ∙ ap (λ q. map arc_value (values old) ++ q ∷ []) c.in-Ok-new.ensures.ok))

pub returns-clause-names : goal.returns-clause-names
returns-clause-names c =
    let old = c.args.by_name.now in
    let none : get_by_text c.reserve.new.self (string_bytes c.in-Ok.name) ≡ None = rw (c.in-Ok.ensures.ok, c.reserve.ensures.entries) c.requires in
    let entries = c.in-Ok-insert.ensures.entries
    ∙ (insert_entry-new _ c.reserve.new.self c.in-Ok.name c.in-Ok-new.shared none
    ∙ ap (λ es. es ++ (c.in-Ok.name, c.in-Ok-new.shared) ∷ []) c.reserve.ensures.entries) in
    ap (λ es. map string_bytes (map (λ e. e.0) es)) entries
    ∙ (ap (map string_bytes) (map-push (λ e. e.0) old.entries (c.in-Ok.name, c.in-Ok-new.shared))
    ∙ (map-push string_bytes (keys old) c.in-Ok.name ∙ ap (λ b. map string_bytes (keys old) ++ b ∷ []) c.in-Ok.ensures.ok))
