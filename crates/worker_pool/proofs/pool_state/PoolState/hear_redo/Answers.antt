use Rattle.std.proofs.Common.{◌≡◌, ◌∙◌, ℕ, true, false, sym, subst}
use Rattle.access_slots.specs.Locks.{target}
use Rattle.transactions.specs.InFlight.{site_at}
use Rattle.worker_pool.specs.Joining.Seen.{Seen}
use Rattle.worker_pool.specs.Restarts.{HasCome, IsKnownRedone}
use Rattle.worker_pool.proofs.pool_state.PoolState.hear_redo.Goals as goal
use Rattle.worker_pool.proofs.pool_state.PoolState.hear_redo.Goals.{else-is_held-via-then-is_held+else-is_err, else-is_held-via-else-is_held}

pub returns-clause-redone : goal.returns-clause-redone
returns-clause-redone g c = λ held it. (
    let x = c.args.reply.now in
    let d = (target c.args.attempt.now.wire.op).dc in
    let old = c.args.self.now.state in
    let mid = c.else-is_held.self in
    let now : HasCome (site_at mid.state.sites d) x.incarnation x.number = elim c.else-is_held.branch [
      | else-is_held-via-then-is_held+else-is_err w ↦
          subst (λ (v : Seen). HasCome (site_at v.state.sites d) x.incarnation x.number) (sym w.self-is)
          (subst (λ (k : ℕ). IsKnownRedone old w.redone.new.self.state k x) w.dc.ensures w.redone.ensures.redone it)
      | else-is_held-via-else-is_held w ↦ absurd (let bad : true ≡ false = sym (c.is_held.ensures.1 held) ∙ w.if-is_held.false in cc)
    ] in
    c.carry_on.ensures.known d x.incarnation x.number now)
