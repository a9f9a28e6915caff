use Rattle.std.proofs.Common.{subst, inl, inr}
use Rattle.tc_core.specs.AtOnce.{HasRunAtOnce}
use Rattle.tc_core.specs.declared.state.Asked.{Asked}
use Rattle.worker_pool.specs.Doubts.{IsGoing}
use Rattle.worker_pool.proofs.AtOnceLemmas.{run_opens}
use Rattle.worker_pool.proofs.Known.{known_same, known_then}
use Rattle.worker_pool.proofs.pool_state.PoolState.advance.Goals as goal

pub unreachable-requires : goal.unreachable-requires
unreachable-requires g c =
    let goes = c.run_at_once.ensures.goes in
    elim c.in-Running.is [
      | inl is ↦ subst IsGoing is goes
      | inr is ↦ subst IsGoing is goes
    ]

pub send-requires-clause-is_open : goal.send-requires-clause-is_open
send-requires-clause-is_open g c =
    let old = c.args.self.now.state in
    let now = c.run_at_once.new.self.state in
    let t = c.in-Begun.txn.serial in
    run_opens t old now c.in-Request.request (subst (λ (asked : Asked). HasRunAtOnce t old now asked) c.in-Request.is c.run_at_once.ensures.ran)

pub returns-in-Request-clause-known : goal.returns-in-Request-clause-known
returns-in-Request-clause-known g c =
    known_then c.args.self.now.state c.run_at_once.new.self.state c.send.new.self.state c.run_at_once.ensures.sites c.send.ensures.known

pub returns-in-Undoing-clause-known : goal.returns-in-Undoing-clause-known
returns-in-Undoing-clause-known g c =
    known_then c.args.self.now.state c.run_at_once.new.self.state c.undo.new.self.state c.run_at_once.ensures.sites c.undo.ensures.known

pub returns-in-Over-clause-known : goal.returns-in-Over-clause-known
returns-in-Over-clause-known g c =
    let now = c.run_at_once.new.self.state in
    known_then c.args.self.now.state now c.end.new.self.state c.run_at_once.ensures.sites (known_same now c.end.new.self.state c.end.ensures.sites)

pub returns-in-Stuck-clause-known : goal.returns-in-Stuck-clause-known
returns-in-Stuck-clause-known g c =
    let now = c.run_at_once.new.self.state in
    known_then c.args.self.now.state now c.doubt.new.self.state c.run_at_once.ensures.sites (known_same now c.doubt.new.self.state c.doubt.ensures.sites)
