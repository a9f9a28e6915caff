use Rattle.std.proofs.Common.{◌≡◌, List, Some, None, refl, sym, ap, ◌∙◌}
use Rattle.std.specs.Prelude.{reverse, slice_get}
use Rattle.access_slots.specs.Declaration.{Declaration}
use Rattle.tc_log.specs.declared.event.Entry.{Entry}
use Rattle.tc_log.specs.declared.event.Event.{Event}
use Rattle.tc_log.specs.declared.event.Event.TheVariants.{Admit}
use Rattle.tc_log.specs.Entered.{seen}
use Rattle.tc_core.specs.Loaded.{Loaded}
use Rattle.embedding.proofs.AdmittedLemmas.{has_its_procedure, takes_these, are_its_locks, open_at}
use Rattle.embedding.proofs.opened.locks_at.Goals as goal

pub returns-in_default-get-clause-none : goal.returns-in_default-get-clause-none
returns-in_default-get-clause-none c = λ txn proc _.
    let a = c.in-Some-Admit in
    let at : slice_get (reverse c.args.state.now.events) c.args.place ≡ Some (Admit a.txn a.proc a.args.now)
    = ap (λ (es : List Event). slice_get (reverse es) c.args.place) (sym c.log.ensures) ∙ (sym a.ensures ∙ ap (λ (e : Entry). Some (seen e)) a.field-0-is) in
    let none : slice_get c.args.state.now.procs a.proc ≡ None
    = ap (λ (l : Loaded). slice_get l.codes a.proc) (sym c.procs.ensures) ∙ sym c.in_default-get.ensures in
    has_its_procedure c.args.state.now.procs c.args.state.now.events c.known.ensures.legal c.args.place a.txn a.proc a.args.now at none

pub resolve-requires : goal.resolve-requires
resolve-requires c =
    let a = c.in-Some-Admit in let q = c.in-Some-get.code.now in
    let at : slice_get (reverse c.args.state.now.events) c.args.place ≡ Some (Admit a.txn a.proc a.args.now)
    = ap (λ (es : List Event). slice_get (reverse es) c.args.place) (sym c.log.ensures) ∙ (sym a.ensures ∙ ap (λ (e : Entry). Some (seen e)) a.field-0-is) in
    let some : slice_get c.args.state.now.procs a.proc ≡ Some q
    = ap (λ (l : Loaded). slice_get l.codes a.proc) (sym c.procs.ensures) ∙ sym c.in-Some-get.ensures in
    takes_these c.args.state.now.procs c.args.state.now.events c.known.ensures.legal c.args.place a.txn a.proc a.args.now at q some
    ∙ ap (λ (d : Declaration). d.args) (sym c.decl.ensures)

pub returns-clause-its : goal.returns-clause-its
returns-clause-its c =
    let a = c.in-Some-Admit in let q = c.in-Some-get.code.now in
    let at : slice_get (reverse c.args.state.now.events) c.args.place ≡ Some (Admit a.txn a.proc a.args.now)
    = ap (λ (es : List Event). slice_get (reverse es) c.args.place) (sym c.log.ensures) ∙ (sym a.ensures ∙ ap (λ (e : Entry). Some (seen e)) a.field-0-is) in
    let some : slice_get c.args.state.now.procs a.proc ≡ Some q
    = ap (λ (l : Loaded). slice_get l.codes a.proc) (sym c.procs.ensures) ∙ sym c.in-Some-get.ensures in
    are_its_locks c.args.state.now c.args.place a.txn a.proc a.args.now c.in-Some.txn.serial a.args.now c.decl.result.now q c.resolve.result
    c.known.ensures.legal at c.in-Some.ensures.found.0 c.in-Some.ensures.found.1 some refl c.decl.ensures
    c.resolve.ensures.value c.resolve.ensures.rising

pub returns-clause-some : goal.returns-clause-some
returns-clause-some c =
    let a = c.in-Some-Admit in
    let at : slice_get (reverse c.args.state.now.events) c.args.place ≡ Some (Admit a.txn a.proc a.args.now)
    = ap (λ (es : List Event). slice_get (reverse es) c.args.place) (sym c.log.ensures) ∙ (sym a.ensures ∙ ap (λ (e : Entry). Some (seen e)) a.field-0-is) in
    open_at c.args.state.now c.args.place c.in-Some.txn.serial a.txn a.proc a.args.now at c.in-Some.ensures.found.0 c.in-Some.ensures.found.1
