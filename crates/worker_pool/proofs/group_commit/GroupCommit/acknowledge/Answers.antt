use Rattle.std.proofs.Common.{◌≡◌, ◌≤◌, None, subst}
use Rattle.worker_pool.specs.Acknowledged.{Acknowledged}
use Rattle.worker_pool.proofs.Handing.{kept_in, kept_behind, not_some}
use Rattle.worker_pool.proofs.group_commit.GroupCommit.acknowledge.Goals as goal

pub kept-requires : goal.kept-requires
kept-requires g c =
    let i = c.self.inside in
    let sound : i.fault ≡ None = not_some i.fault c.if-is_some.ensures in
    let all = c.self.invariant.1 sound in
    let enough = subst (λ (v : Acknowledged). v.logged ≤ i.events) c.ready.view_is c.if-ready-self.false in
    kept_behind g.J.RunSpec.kept g.J.RunSpec.before g.J.RunSpec.start.events c.args.ready.logged i.handed
    (kept_in g.K.Journal.has_kept g.J.RunSpec.kept g.J.RunSpec.before g.J.RunSpec.start.events i.journal i.handed c.args.ready.logged i.events
    all.0 c.self.invariant.2 all.1 enough)
