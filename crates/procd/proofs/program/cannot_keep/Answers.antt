use Rattle.std.proofs.Common.{◌∙◌}
use Rattle.procd.proofs.Faults.{part_unread, part_unwritten}
use Rattle.procd.proofs.program.cannot_keep.Goals as goal

pub returns-in-Unread : goal.returns-in-Unread
returns-in-Unread g c =
    part_unread c.args.log.now c.as_str-path.result.now c.args.number _ c.cannot_read.result (c.as_str-path.ensures.value ∙ c.in-Ok.ensures)
    c.cannot_read.ensures

pub returns-in-NotKept : goal.returns-in-NotKept
returns-in-NotKept g c =
    part_unwritten c.args.log.now c.as_str-path.result.now c.args.number _ c.cannot_write_file.result (c.as_str-path.ensures.value ∙ c.in-Ok.ensures)
    c.cannot_write_file.ensures
