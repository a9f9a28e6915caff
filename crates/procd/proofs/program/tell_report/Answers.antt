use Rattle.std.proofs.Common.{Bool, refl, rules, inl, inr, subst}
use Rattle.std.specs.Prelude.{string_bytes}
use Rattle.command_line.specs.Task.{wish_of, may_tell}
use Rattle.procd.specs.Joining.Further.{Keeps, Reads, Writes}
use Rattle.procd.specs.Report.{IsReport}
use Rattle.program_files.specs.Streams.{stream, Gets, Begins}
use Rattle.procd.specs.Streams.{TellsIf}
use Rattle.procd.proofs.Faults.{unkept_ends, unread_ends, unwritten_ends}
use Rattle.procd.proofs.program.tell_report.Goals as goal

pub returns : goal.returns
returns g c =
    let lines = string_bytes c.in-Ok.report.lines in
    let said : IsReport (wish_of c.args.wanted.now.task) c.args.text.now c.in-Ok.report.status lines = search rules in
    let written : Gets (stream (g.W.Write.contents c.args.streams.now.out) (g.W.Write.contents c.tell.new.to)) lines = search rules in
    let told : TellsIf (may_tell (wish_of c.args.wanted.now.task)) (stream (g.E.Write.contents c.args.streams.now.err) (g.E.Write.contents c.tell_notes.new.err))
    = subst (λ (b : Bool). TellsIf b (stream (g.E.Write.contents c.args.streams.now.err)
    (g.E.Write.contents c.tell_notes.new.err))) c.may_tell.ensures c.tell_notes.ensures in
    inr (inr (inr (inr (lines, said, written, told))))

pub returns-in-Err : goal.returns-in-Err
returns-in-Err g c =
    let lines = string_bytes c.in-Ok.report.lines in
    let said : IsReport (wish_of c.args.wanted.now.task) c.args.text.now c.in-Ok.report.status lines = search rules in
    let begun : Begins (stream (g.W.Write.contents c.args.streams.now.out) (g.W.Write.contents c.tell.new.to)) lines
    = subst (Begins (stream (g.W.Write.contents c.args.streams.now.out) (g.W.Write.contents c.tell.new.to))) c.as_str.ensures.value c.tell.ensures.part in
    inr (inr (inr (inl (c.in-Ok.report.status, lines, said, c.cannot_write.ensures.status, begun, c.cannot_write.ensures.told))))

pub returns-in-Err-Unread : goal.returns-in-Err-Unread
returns-in-Err-Unread g c =
    let of_task : Reads (wish_of c.args.wanted.now.task) c.in-Err-Unread.path.now = search rules in
    unread_ends c.args.wanted.now.file.now (wish_of c.args.wanted.now.task) c.args.text.now _ _ _ c.in-Err-Unread.path.now
    of_task c.cannot_read-in-Err-Unread.ensures refl

pub returns-in-Err-Unwritten : goal.returns-in-Err-Unwritten
returns-in-Err-Unwritten g c =
    let of_task : Writes (wish_of c.args.wanted.now.task) c.in-Err-Unwritten.path.now = search rules in
    unwritten_ends c.args.wanted.now.file.now (wish_of c.args.wanted.now.task) c.args.text.now _ _ _ c.in-Err-Unwritten.path.now
    of_task c.cannot_write_file.ensures refl

pub returns-in-Err-Partition : goal.returns-in-Err-Partition
returns-in-Err-Partition g c =
    let of_task : Keeps (wish_of c.args.wanted.now.task) c.in-Err-Partition.log.now = search rules in
    unkept_ends c.args.wanted.now.file.now (wish_of c.args.wanted.now.task) c.args.text.now _ _ _ c.in-Err-Partition.log.now
    of_task c.cannot_keep.ensures refl
