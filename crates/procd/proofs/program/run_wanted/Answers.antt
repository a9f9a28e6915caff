use Rattle.std.proofs.Common.{refl}
use Rattle.command_line.specs.Task.{wish_of}
use Rattle.procd.proofs.Faults.{no_memory_runs, read_runs, unread_runs, kind_runs, followed_runs}
use Rattle.procd.proofs.program.run_wanted.Goals as goal

pub returns-in-Refused : goal.returns-in-Refused
returns-in-Refused g c =
    let way = rw c.in-Refused.is at c.way_of.ensures in
    kind_runs c.args.wanted.now.file.now (wish_of c.args.wanted.now.task) _ _ _ _ way.0 way.1 c.in-Refused.kind c.refuse_kind.ensures

pub returns-in-Followed : goal.returns-in-Followed
returns-in-Followed g c =
    let way = rw c.in-Followed.is at c.way_of.ensures in
    followed_runs c.args.wanted.now.file.now (wish_of c.args.wanted.now.task) _ _ _ _ way.0 c.in-Followed.part way.1 c.run_on.ensures

pub returns-in-Ok : goal.returns-in-Ok
returns-in-Ok g c =
    let way = rw c.in-Read.is at c.way_of.ensures in
    read_runs c.args.wanted.now.file.now (wish_of c.args.wanted.now.task) _ _ _ _ way c.in-Ok.text.items c.in-Ok.ensures.given
    (rw c.as_slice-text.ensures.value at c.tell_report.ensures)

pub returns-in-Err-Memory : goal.returns-in-Err-Memory
returns-in-Err-Memory g c =
    no_memory_runs c.args.wanted.now.file.now (wish_of c.args.wanted.now.task) _ _ _ _ c.no_memory.ensures.status refl c.no_memory.ensures.told

pub returns-in-Err-Unread : goal.returns-in-Err-Unread
returns-in-Err-Unread g c =
    let way = rw c.in-Read.is at c.way_of.ensures in
    unread_runs c.args.wanted.now.file.now (wish_of c.args.wanted.now.task) _ _ _ _ way c.cannot_read.ensures refl
