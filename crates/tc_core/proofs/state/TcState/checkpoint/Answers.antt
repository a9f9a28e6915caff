use Rattle.std.proofs.Common.{arith, ◌≡◌, ◌∙◌}
use Rattle.transactions.specs.Room.{each_one, total}
use Rattle.tc_core.proofs.Anewing.{none_pending}
use Rattle.tc_core.proofs.state.TcState.checkpoint.Goals as goal

pub begin_behind-requires-clause-none : goal.begin_behind-requires-clause-none
begin_behind-requires-clause-none c =
    let k = c.self.invariant.0.kept in
    let many = c.len-open.ensures in
    let few = c.if-open-gt0.false in
    let count = k.rooms.count in
    let none : total each_one c.self.inside.book.log.events ≡ 0 = omega (arith, many, few, count) in
    k.pending_is ∙ none_pending c.self.inside.procs.codes c.self.inside.book.log.events k.legal none
