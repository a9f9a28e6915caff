use Rattle.std.proofs.Common.{subst}
use Rattle.transactions.specs.Legal.{Legal}
use Rattle.tc_core.specs.Checking.{IsFault}
use Rattle.tc_core.specs.Core.{Core}
use Rattle.tc_core.specs.declared.checking.CheckFault.{CheckFault}
use Rattle.tc_core.proofs.RecoveryLemmas.{none_illegal}
use Rattle.tc_core.proofs.state.TcState.crash.Goals as goal

pub unreachable-requires : goal.unreachable-requires
unreachable-requires c =
    let ps = c.args.self.now.procs in
    let h = c.self.inside.book.log.events in
    none_illegal ps h c.in-Err-LogIllegal.field-0-0 (subst (λ (x : Core). Legal x.procs h) c.self.view_is c.self.invariant.0.kept.legal)
    (subst (λ (f : CheckFault). IsFault ps h f) c.in-Err-LogIllegal.field-0-is c.in-Err-LogIllegal.ensures.fault)
