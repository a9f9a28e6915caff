use Rattle.std.proofs.Common.{arith, ap}
use Rattle.history.specs.Calls.{admitted}
use Rattle.tc_core.specs.Core.{Core}
use Rattle.tc_world.specs.Beginning.{admitted_before}
use Rattle.tc_world.proofs.CrashLemmas.{fewer_admitted}
use Rattle.tc_world.proofs.world.World.crash.Goals as goal

pub make_again-requires-clause-room : goal.make_again-requires-clause-room
make_again-requires-clause-room c =
    let few = fewer_admitted _ c.args.events c.self.inside.state.events c.known.ensures.legal in
    let now = ap (λ (x : Core). admitted x.events) c.in_ok-crash.ensures.ok in
    let before = ap (λ (x : Core). admitted_before x.events) c.in_ok-crash.ensures.ok in
    let all = c.admitted_since.ensures in
    let room = c.in_ok-reserve.ensures.ok in
    let same = c.crash.ensures.room in
    omega (arith, few, now, before, all, room, same)
