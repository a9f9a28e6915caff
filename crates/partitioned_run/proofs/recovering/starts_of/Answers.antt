use Rattle.std.proofs.Common.{rules, ◌≡◌, ◌++◌, ◌∷◌, []}
use Rattle.std.specs.Prelude.{is_some}
use Rattle.scripts.specs.Reading.{contents_of}
use Rattle.script_loading.specs.Loading.{begun, empty_stores}
use Rattle.partitioned_run.proofs.RecoveringLemmas.{starts_more}
use Rattle.partitioned_run.proofs.recovering.starts_of.Goals as goal

pub partitions-preserved : goal.partitions-preserved
partitions-preserved g c =
    let l = c.partitions in
    let s = contents_of c.args.task.script.now in
    let start = c.in-Ok-Ready.start in
    let pushed : c.push.new.self.items ≡ l.starts.items ++ start ∷ [] = search rules in
    let is = rw c.in-Ok-Ready.field-0-is at c.in-Ok-Ready.ensures in
    starts_more (is_some c.args.task.log) (begun s) (empty_stores s) c.args.task.division.now.partitions l.starts.items c.push.new.self.items start l.number
    pushed l.invariant.0 l.invariant.1 is.0 is.1
