use Rattle.std.proofs.Common.{subst}
use Rattle.program_files.specs.Streams.{stream, Gets, Begins}
use Rattle.program_files.specs.Following.{EndsBehind}
use Rattle.program_files.specs.declared.following.End.TheVariants as end
use Rattle.program_files.proofs.FollowEnds.{refused_stops, cut_stops, unwritten_stops}
use Rattle.procd.proofs.program.run_on.Goals as goal

pub returns-in-Ok : goal.returns-in-Ok
returns-in-Ok g c =
    let h : EndsBehind c.args.part (stream (g.W.Write.contents c.args.streams.now.out) (g.W.Write.contents c.follow.new.out))
    (stream (g.E.Write.contents c.args.streams.now.err) (g.E.Write.contents c.follow.new.err)) (end.Refused c.in-Refused.report)
    = rw c.in-Refused.is at c.follow.ensures in
    let written = subst (Gets _) c.as_str.ensures.value c.in-Ok.ensures.whole in
    refused_stops c.args.path.now c.args.part _ _ _ h.0 h.1 _ h.2 _ h.3.0.0 _ c.in-Refused.report.status h.3.0.1 h.3.1 written

pub returns-in-Refused : goal.returns-in-Refused
returns-in-Refused g c =
    let h : EndsBehind c.args.part (stream (g.W.Write.contents c.args.streams.now.out) (g.W.Write.contents c.follow.new.out))
    (stream (g.E.Write.contents c.args.streams.now.err) (g.E.Write.contents c.follow.new.err)) (end.Refused c.in-Refused.report)
    = rw c.in-Refused.is at c.follow.ensures in
    let begun = subst (Begins _) c.as_str.ensures.value c.tell.ensures.part in
    cut_stops c.args.path.now c.args.part _ _ _ h.0 h.1 _ h.2 _ _ h.3.0.0 _ c.in-Refused.report.status _ h.3.0.1 h.3.1 begun c.cannot_write.ensures.status
    c.cannot_write.ensures.told

pub returns-in-Unwritten : goal.returns-in-Unwritten
returns-in-Unwritten g c =
    let h : EndsBehind c.args.part (stream (g.W.Write.contents c.args.streams.now.out) (g.W.Write.contents c.follow.new.out))
    (stream (g.E.Write.contents c.args.streams.now.err) (g.E.Write.contents c.follow.new.err)) (end.Unwritten c.in-Unwritten.error)
    = rw c.in-Unwritten.is at c.follow.ensures in
    unwritten_stops c.args.path.now c.args.part _ _ _ h.0 h.1 _ h.2 _ c.cannot_write-in-Unwritten.result h.3 c.cannot_write-in-Unwritten.ensures.status
    c.cannot_write-in-Unwritten.ensures.told
