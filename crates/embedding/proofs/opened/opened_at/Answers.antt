use Rattle.std.proofs.Common.{◌≡◌, List, Some, sym, ap, ◌∙◌}
use Rattle.std.specs.Prelude.{reverse, slice_get}
use Rattle.tc_log.specs.declared.event.Entry.{Entry}
use Rattle.tc_log.specs.declared.event.Event.{Event}
use Rattle.tc_log.specs.declared.event.Event.TheVariants.{Admit}
use Rattle.tc_log.specs.Entered.{seen}
use Rattle.embedding.proofs.AdmittedLemmas.{open_at}
use Rattle.embedding.proofs.opened.opened_at.Goals as goal

pub returns-in-Some-clause-some : goal.returns-in-Some-clause-some
returns-in-Some-clause-some c =
    let a = c.in-Some-Admit in
    let at : slice_get (reverse c.args.state.now.events) c.args.place ≡ Some (Admit a.txn a.proc a.field-0-2.now)
    = ap (λ (es : List Event). slice_get (reverse es) c.args.place) (sym c.log.ensures) ∙ (sym a.ensures ∙ ap (λ (e : Entry). Some (seen e)) a.field-0-is) in
    open_at c.args.state.now c.args.place c.in-Some.txn.serial a.txn a.proc a.field-0-2.now at c.in-Some.ensures.found.0 c.in-Some.ensures.found.1
