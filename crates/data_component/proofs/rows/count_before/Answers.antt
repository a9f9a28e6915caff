use Rattle.std.proofs.Common.{rules}
use Rattle.std.proofs.lemmas.List.Sorted.{IsPartitionPoint-from_clause}
use Rattle.access_slots.specs.Locks.{record_eq, record_less}
use Rattle.data_component.proofs.Finding.{below, partitioned, place_is}
use Rattle.data_component.proofs.Orders.{records}
use Rattle.data_component.proofs.rows.count_before.Goals as goal

pub returns-clause-value : goal.returns-clause-value
returns-clause-value c =
    let rows = c.args.rows.now in
    let key = c.args.«record».now in
    place_is record_eq record_less records key rows c.partition_point.result c.partition_point.ensures.bound
    (IsPartitionPoint-from_clause (below record_eq record_less records key) rows c.partition_point.result
    c.partition_point.ensures.partitioned (partitioned record_eq record_less records key rows c.requires) (λ a r f' k.
    search rules))
