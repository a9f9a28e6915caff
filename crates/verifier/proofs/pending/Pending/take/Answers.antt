use Rattle.std.proofs.Common.{◌≡◌, ◌==◌, ◌<◌, ℕ, Some, None, Option, List, length, drop, cond, slice_set, refl, sym, subst, ap, ap₂, ◌∙◌, arith}
use Rattle.std.specs.Prelude.{IfSome, slice_get, swap_remove}
use Rattle.std.proofs.lemmas.List.{take_at}
use Rattle.verifier.specs.declared.pending.Target.{Target}
use Rattle.verifier.specs.Joining.Table.{Table, kept}
use Rattle.verifier.specs.Joining.Pending.{table_of, mended, AreTied}
use Rattle.verifier.proofs.Waiting.{stood, found, long_as, waits_there, target_within, taken_tied, taken_kept, moved_inside}
use Rattle.verifier.proofs.pending.Pending.take.Goals as goal

pub swap_remove-target-requires : goal.swap_remove-target-requires
swap_remove-target-requires c =
    let places = c.self.inside.places.items in
    let targets = c.self.inside.targets.items in
    let inside : c.args.slot < length places = (let long = long_as places targets c.args.self.now c.self.view_is in omega (arith, c.requires, long)) in
    let stands = stood places c.args.slot c.index.result.now (Some c.in_ok-place.place) inside c.index.ensures c.in_ok-place.was in
    let within = target_within targets c.in_ok-place.place c.args.slot (c.self.invariant.there c.args.slot c.in_ok-place.place stands) in
    omega (arith, within, c.self.inside.targets.ok)

pub mend-requires : goal.mend-requires
mend-requires c =
    let places = c.self.inside.places.items in
    let targets = c.self.inside.targets.items in
    let inside : c.args.slot < length places = (let long = long_as places targets c.args.self.now c.self.view_is in omega (arith, c.requires, long)) in
    let stands = stood places c.args.slot c.index.result.now (Some c.in_ok-place.place) inside c.index.ensures c.in_ok-place.was in
    let moved = moved_inside places targets c.args.slot c.in_ok-place.place c.swap_remove-target.result c.self.invariant stands in
    subst (λ (ps : List (Option ℕ)). IfSome (slice_get c.deref.result.now c.in_ok-place.place) (λ (moved : Target). moved.slot < length ps)) (sym c.deref_mut.ensures.value)
    (subst (λ (ts : List Target). IfSome (slice_get ts c.in_ok-place.place) (λ (moved : Target). moved.slot < length (slice_set places c.args.slot None)))
    (sym (c.deref.ensures.value ∙ c.swap_remove-target.ensures.items)) moved)

pub invariant_of-self : goal.invariant_of-self
invariant_of-self c =
    let places = c.self.inside.places.items in
    let targets = c.self.inside.targets.items in
    let inside : c.args.slot < length places = (let long = long_as places targets c.args.self.now c.self.view_is in omega (arith, c.requires, long)) in
    let stands = stood places c.args.slot c.index.result.now (Some c.in_ok-place.place) inside c.index.ensures c.in_ok-place.was in
    let all : length c.mend.new.places ≡ c.self.inside.places.len = omega (arith, c.mend.auto.places, c.deref_mut.ensures.len) in
    let whole = take_at c.mend.new.places (drop (length c.mend.new.places) (slice_set places c.args.slot None)) c.self.inside.places.len all in
    let new =
    c.mend.ensures
    ∙ ap₂ (λ (ps : List (Option ℕ)) (ts : List Target). mended ps (slice_get ts c.in_ok-place.place) c.in_ok-place.place)
    c.deref_mut.ensures.value (c.deref.ensures.value ∙ c.swap_remove-target.ensures.items) in
    let rest = swap_remove targets c.in_ok-place.place c.swap_remove-target.result in
    let tied = taken_tied places targets c.args.slot c.in_ok-place.place c.swap_remove-target.result c.self.invariant stands in
    subst (λ (ps : List (Option ℕ)). AreTied ps c.swap_remove-target.new.self.items) (sym (whole ∙ new))
    (subst (λ (ts : List Target). AreTied (mended (slice_set places c.args.slot None) (slice_get rest c.in_ok-place.place) c.in_ok-place.place) ts)
    (sym c.swap_remove-target.ensures.items) tied)

pub returns-clause-long : goal.returns-clause-long
returns-clause-long c =
    let places = c.self.inside.places.items in
    let targets = c.self.inside.targets.items in
    let all : length c.mend.new.places ≡ c.self.inside.places.len = omega (arith, c.mend.auto.places, c.deref_mut.ensures.len) in
    let whole = take_at c.mend.new.places (drop (length c.mend.new.places) (slice_set places c.args.slot None)) c.self.inside.places.len all in
    let long = long_as places targets c.args.self.now c.self.view_is in
    let now = long_as c.mend.new.places c.swap_remove-target.new.self.items (table_of c.mend.new.places c.swap_remove-target.new.self.items) refl in
    ap (λ (ps : List (Option ℕ)). length (table_of ps c.swap_remove-target.new.self.items)) whole
    ∙ omega (arith, all, long, now, c.self.inside.places.ok)

pub returns-clause-taken : goal.returns-clause-taken
returns-clause-taken c =
    let places = c.self.inside.places.items in
    let targets = c.self.inside.targets.items in
    let inside : c.args.slot < length places = (let long = long_as places targets c.args.self.now c.self.view_is in omega (arith, c.requires, long)) in
    let stands = stood places c.args.slot c.index.result.now (Some c.in_ok-place.place) inside c.index.ensures c.in_ok-place.was in
    let within = target_within targets c.in_ok-place.place c.args.slot (c.self.invariant.there c.args.slot c.in_ok-place.place stands) in
    let here = found targets c.in_ok-place.place c.swap_remove-target.result within c.swap_remove-target.ensures.value in
    waits_there places targets c.args.slot c.in_ok-place.place c.swap_remove-target.result stands here
    ∙ ap (λ (table : Table). kept table c.args.slot) c.self.view_is

pub returns-clause-left : goal.returns-clause-left
returns-clause-left c = λ at.
    let places = c.self.inside.places.items in
    let targets = c.self.inside.targets.items in
    let inside : c.args.slot < length places = (let long = long_as places targets c.args.self.now c.self.view_is in omega (arith, c.requires, long)) in
    let stands = stood places c.args.slot c.index.result.now (Some c.in_ok-place.place) inside c.index.ensures c.in_ok-place.was in
    let all : length c.mend.new.places ≡ c.self.inside.places.len = omega (arith, c.mend.auto.places, c.deref_mut.ensures.len) in
    let whole = take_at c.mend.new.places (drop (length c.mend.new.places) (slice_set places c.args.slot None)) c.self.inside.places.len all in
    let new =
    c.mend.ensures
    ∙ ap₂ (λ (ps : List (Option ℕ)) (ts : List Target). mended ps (slice_get ts c.in_ok-place.place) c.in_ok-place.place)
    c.deref_mut.ensures.value (c.deref.ensures.value ∙ c.swap_remove-target.ensures.items) in
    ap₂ (λ (ps : List (Option ℕ)) (ts : List Target). kept (table_of ps ts) at) (whole ∙ new) c.swap_remove-target.ensures.items
    ∙ taken_kept places targets c.args.slot c.in_ok-place.place c.swap_remove-target.result c.self.invariant stands at
    ∙ ap (λ (table : Table). cond (at == c.args.slot) None (kept table at)) c.self.view_is
