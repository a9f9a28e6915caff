use Rattle.std.proofs.Common.{◌≡◌, ℕ, List, length, sym, ◌∙◌, ap, subst}
use Rattle.std.proofs.lemmas.List.{length-map}
use Rattle.transactions.specs.declared.Site.{Site}
use Rattle.tc_core.specs.Core.{Core}
use Rattle.tc_core.specs.Kept.{AreStarts}
use Rattle.tc_core.specs.Recovery.{site_noted}
use Rattle.tc_core.proofs.StartLemmas.{starts_first}
use Rattle.tc_core.proofs.state.TcState.recovered.Goals as goal

pub returns-clause-kept : goal.returns-clause-kept
returns-clause-kept c =
    let is = c.in_ok-book.ensures.kept in
    let sites = c.in-Ok.sites.items in
    let h = c.in_ok-book.book.log.events in
    let many : length sites ≡ c.dcs.result = ap (length {A = Site}) c.in-Ok.ensures
    ∙ (length-map c.args.notes.now site_noted ∙ (c.requires.notes
    ∙ (ap (λ (x : Core). x.dcs) (sym c.self.view_is) ∙ sym c.dcs.ensures))) in
    rw (← c.self.view_is) (record {
      kept = is.kept;
      from = is.from;
      doubts = is.doubts;
      marked = is.marked;
      starts = subst (λ (xs : List ℕ). AreStarts sites xs h) (sym c.in-Ok-starts.ensures) (starts_first c.dcs.result sites h many);
    })
