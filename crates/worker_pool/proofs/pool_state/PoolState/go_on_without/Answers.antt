use Rattle.std.proofs.Common.{◌≡◌, ◌∙◌, ap}
use Rattle.worker_pool.specs.Joining.Seen.{Seen}
use Rattle.worker_pool.proofs.Known.{known_then}
use Rattle.worker_pool.proofs.pool_state.PoolState.go_on_without.Goals as goal
use Rattle.worker_pool.proofs.pool_state.PoolState.go_on_without.Goals.{in-Some, in_default}

pub returns-clause-known : goal.returns-clause-known
returns-clause-known g c =
    let old = c.args.self.now in
    let mid = c.match-take.self in
    let same : mid.state.sites ≡ old.state.sites = elim c.match-take.branch [
      | in-Some w ↦ ap (λ (v : Seen). v.state.sites) w.self-is ∙ w.give_up.ensures.sites
      | in_default w ↦ ap (λ (v : Seen). v.state.sites) w.self-is
    ] in
    known_then old.state mid.state c.advance.new.self.state same c.advance.ensures.known
