use Rattle.std.proofs.Common.{rules, nat_lt}
use Rattle.std.proofs.lemmas.List.Sorted.{IsPartitionPoint-from_clause}
use Rattle.data_component.proofs.Finding.{below, partitioned, place_is}
use Rattle.data_component.proofs.Orders.{numbers, number_eq}
use Rattle.data_component.proofs.kept.count_before.Goals as goal

pub returns-clause-value : goal.returns-clause-value
returns-clause-value c =
    let kept = c.args.kept.now in
    let key = c.args.number in
    place_is number_eq nat_lt numbers key kept c.partition_point.result c.partition_point.ensures.bound
    (IsPartitionPoint-from_clause (below number_eq nat_lt numbers key) kept c.partition_point.result
    c.partition_point.ensures.partitioned (partitioned number_eq nat_lt numbers key kept c.requires) (λ a r f' k.
    search rules))
