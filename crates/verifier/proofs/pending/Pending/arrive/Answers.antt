use Rattle.std.proofs.Common.{◌≡◌, ◌<◌, ℕ, Some, None, Option, List, length, slice_set, sym, subst, ap, ap₂, ◌∙◌, arith}
use Rattle.register_kinds.specs.Arriving.{along}
use Rattle.verifier.specs.declared.pending.Target.{Target}
use Rattle.verifier.specs.Joining.Table.{Table, kept}
use Rattle.verifier.specs.Joining.Pending.{table_of, AreTied}
use Rattle.verifier.proofs.Waiting.{stood, found, target_within, joined_tied, joined_kept, pushed_tied, pushed_kept}
use Rattle.verifier.proofs.pending.Pending.arrive.Goals as goal

pub index_mut-requires : goal.index_mut-requires
index_mut-requires c =
    let places = c.self.inside.places.items in
    let inside : c.in-Some.slot < length places = omega (arith, c.if-slot-len.false, c.len.ensures, c.self.inside.places.ok) in
    let stands = stood places c.in-Some.slot c.index.result.now (Some c.in-Some-index.place) inside c.index.ensures c.in-Some-index.is in
    let within = target_within c.self.inside.targets.items c.in-Some-index.place c.in-Some.slot (c.self.invariant.there c.in-Some.slot c.in-Some-index.place stands) in
    omega (arith, within, c.self.inside.targets.ok)

pub invariant_of-self : goal.invariant_of-self
invariant_of-self c =
    let places = c.self.inside.places.items in
    let targets = c.self.inside.targets.items in
    let inside : c.in-Some.slot < length places = omega (arith, c.if-slot-len.false, c.len.ensures, c.self.inside.places.ok) in
    let stands = stood places c.in-Some.slot c.index.result.now (Some c.in-Some-index.place) inside c.index.ensures c.in-Some-index.is in
    let within = target_within targets c.in-Some-index.place c.in-Some.slot (c.self.invariant.there c.in-Some.slot c.in-Some-index.place stands) in
    let here = found targets c.in-Some-index.place c.index_mut.result.now within c.index_mut.ensures.value in
    joined_tied places targets c.in-Some-index.place c.index_mut.result.now c.join.new.self here c.self.invariant

pub invariant_of-self-in-None : goal.invariant_of-self-in-None
invariant_of-self-in-None c =
    let places = c.self.inside.places.items in
    let targets = c.self.inside.targets.items in
    let inside : c.in-Some.slot < length places = omega (arith, c.if-slot-len.false, c.len.ensures, c.self.inside.places.ok) in
    let none = stood places c.in-Some.slot c.index.result.now None inside c.index.ensures c.in-None.is in
    let long : length targets ≡ c.len-place.result = omega (arith, c.len-place.ensures, c.self.inside.targets.ok) in
    subst (λ (ts : List Target). AreTied (slice_set places c.in-Some.slot (Some c.len-place.result)) ts) (sym c.in_ok-push-in-None.ensures.items)
    (pushed_tied places targets c.in-Some.slot c.len-place.result c.args.kinds.now c.self.invariant long inside none)

pub returns-in-Some-index-clause-ok : goal.returns-in-Some-index-clause-ok
returns-in-Some-index-clause-ok c = λ at lt.
    let places = c.self.inside.places.items in
    let targets = c.self.inside.targets.items in
    let inside : c.in-Some.slot < length places = omega (arith, c.if-slot-len.false, c.len.ensures, c.self.inside.places.ok) in
    let stands = stood places c.in-Some.slot c.index.result.now (Some c.in-Some-index.place) inside c.index.ensures c.in-Some-index.is in
    let within = target_within targets c.in-Some-index.place c.in-Some.slot (c.self.invariant.there c.in-Some.slot c.in-Some-index.place stands) in
    let here = found targets c.in-Some-index.place c.index_mut.result.now within c.index_mut.ensures.value in
    joined_kept places targets c.in-Some-index.place c.index_mut.result.now c.join.new.self here c.self.invariant c.in-Some.slot c.args.kinds.now stands c.join.ensures.value at
    ∙ ap₂ (λ (to : Option ℕ) (table : Table). along to (Some c.args.kinds.now) at (kept table at)) (sym c.in-Some.is) c.self.view_is

pub returns-in_ok-push-in-None-clause-ok : goal.returns-in_ok-push-in-None-clause-ok
returns-in_ok-push-in-None-clause-ok c = λ at lt.
    let places = c.self.inside.places.items in
    let targets = c.self.inside.targets.items in
    let inside : c.in-Some.slot < length places = omega (arith, c.if-slot-len.false, c.len.ensures, c.self.inside.places.ok) in
    let none = stood places c.in-Some.slot c.index.result.now None inside c.index.ensures c.in-None.is in
    let long : length targets ≡ c.len-place.result = omega (arith, c.len-place.ensures, c.self.inside.targets.ok) in
    ap (λ (ts : List Target). kept (table_of (slice_set places c.in-Some.slot (Some c.len-place.result)) ts) at) c.in_ok-push-in-None.ensures.items
    ∙ pushed_kept places targets c.in-Some.slot c.len-place.result c.args.kinds.now c.self.invariant long inside none at
    ∙ ap₂ (λ (to : Option ℕ) (table : Table). along to (Some c.args.kinds.now) at (kept table at)) (sym c.in-Some.is) c.self.view_is
