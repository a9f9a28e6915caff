use Rattle.std.proofs.Common.{ℕ, List, sym, ◌∙◌, ap, subst}
use Rattle.tc_log.specs.declared.event.Event.{Event}
use Rattle.history.specs.Anew.{begun}
use Rattle.transactions.specs.Legal.{Legal}
use Rattle.tc_core.specs.Core.{Core}
use Rattle.tc_core.specs.Recovery.{AllReach, IsForgotten}
use Rattle.tc_core.proofs.RecoveryLemmas.{all-first, none_there, recovered-core}
use Rattle.tc_core.proofs.state.TcState.recover.Goals as goal

pub returns-in-None-clause-begun : goal.returns-in-None-clause-begun
returns-in-None-clause-begun c =
    sym (ap (λ (x : Core). x.events) c.self.view_is)
    ∙ none_there c.self.inside.book.log.events (sym c.is_empty.ensures ∙ c.if-not-is_empty.false)

pub returns-in-None-clause-legal : goal.returns-in-None-clause-legal
returns-in-None-clause-legal c =
    subst (λ (h : List Event). Legal c.args.self.now.procs h) (c.in-Ok.ensures.events ∙ all-first _ _ c.len.ensures)
    c.in-Ok.ensures.kept.kept.legal

pub returns-in-None-clause-ok : goal.returns-in-None-clause-ok
returns-in-None-clause-ok c =
    rw c.replace.ensures.after
    (recovered-core c.self.inside.procs c.self.inside.book c.in-Ok.book c.args.self.now c.args.log.now.events c.args.notes.now _
    c.self.view_is c.len.ensures c.in-Ok.ensures.events c.in-Ok.ensures.given_up c.in-Ok.ensures.sites)

pub returns-in-None-clause-reaches : goal.returns-in-None-clause-reaches
returns-in-None-clause-reaches c =
    subst (λ (n : ℕ). AllReach n c.args.notes.now)
    (c.from-begun.ensures ∙ (c.in-Ok.ensures.kept.from ∙ ap begun (c.in-Ok.ensures.events ∙ all-first _ _ c.len.ensures)))
    c.in-None.ensures.none

pub returns-in-Some-clause-fault : goal.returns-in-Some-clause-fault
returns-in-Some-clause-fault c = (
  subst (λ (h : List Event). Legal c.args.self.now.procs h) (c.in-Ok.ensures.events ∙ all-first _ _ c.len.ensures)
      c.in-Ok.ensures.kept.kept.legal,
  subst (λ (n : ℕ). IsForgotten n c.args.notes.now c.in-Some.dc)
      (c.from-begun.ensures ∙ (c.in-Ok.ensures.kept.from ∙ ap begun (c.in-Ok.ensures.events ∙ all-first _ _ c.len.ensures)))
      c.in-Some.ensures.some,
)
