use Rattle.std.proofs.Common.{◌++◌, take, rules}
use Rattle.std.proofs.KnownBytes.{Appends-trans}
use Rattle.program_files.proofs.Streaming.{begins_by, moves_front}
use Rattle.program_files.proofs.writing.tell.Goals as goal

pub returns-then-is_empty-clause-part : goal.returns-then-is_empty-clause-part
returns-then-is_empty-clause-part g c =
    let inv = c.loop.invariant in
    begins_by _ _ inv.0 c.loop.rest.now (search rules) inv.2

pub returns-in-Err-clause-part : goal.returns-in-Err-clause-part
returns-in-Err-clause-part g c =
    let inv = c.loop.invariant in
    begins_by _ _ inv.0 c.loop.rest.now (search rules) (search (Appends-trans, rules))

pub returns-clause-part : goal.returns-clause-part
returns-clause-part g c =
    let inv = c.loop.invariant in
    begins_by _ _ inv.0 c.loop.rest.now (search rules) inv.2

pub loop-preserved : goal.loop-preserved
loop-preserved g c =
    let inv = c.loop.invariant in
    let n = c.in-Ok.n in
    let rest = c.loop.rest.now in
    (inv.0 ++ take n rest, moves_front c.as_bytes-rest.result.now inv.0 rest n inv.1, Appends-trans _ _ _ inv.0 (take n rest) inv.2 c.in-Ok.ensures.bytes)
