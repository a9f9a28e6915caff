use Rattle.std.proofs.Common.{Option, sym, ◌∙◌, ap}
use Rattle.transactions.specs.Next.{next_in}
use Rattle.transactions.specs.Standing.{Standing}
use Rattle.tc_core.specs.Blocked.{is_stranded, stranded_by}
use Rattle.tc_core.specs.Core.{Core}
use Rattle.tc_core.specs.Kept.{core_of}
use Rattle.tc_core.specs.Replies.{next_at}
use Rattle.tc_core.proofs.BlockedLemmas.{stranded_kept}
use Rattle.tc_core.proofs.KeptLemmas.{places-absent, seen-at}
use Rattle.tc_core.proofs.state.TcState.is_stranded.Goals as goal

pub returns-in-Some : goal.returns-in-Some
returns-in-Some c =
    let core : Core = core_of c.self.inside.procs c.self.inside.book in let tx = c.at.result.now in let t = c.args.txn.serial in
    let w = seen-at _ _ _ _ tx c.self.invariant.0 c.in-Some.ensures.found c.at.ensures in
    let marks = c.self.invariant.0.marked.marks c.in-Some.key tx c.at.ensures in
    c.is_stranded.ensures ∙ (sym (stranded_kept core t tx w marks) ∙ ap (λ (x : Core). is_stranded x t) c.self.view_is)

pub returns-in-None : goal.returns-in-None
unfolding next_at
returns-in-None c =
    let core : Core = core_of c.self.inside.procs c.self.inside.book in let t = c.args.txn.serial in
    let none = places-absent _ _ _ c.self.invariant.0.kept.places t c.in-None.ensures.absent in
    sym (ap (λ (s : Option Standing). stranded_by core.given_up (next_in core.procs s)) none) ∙ ap (λ (x : Core). is_stranded x t) c.self.view_is
