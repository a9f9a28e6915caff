use Rattle.std.proofs.Common.{rules, nat_lt}
use Rattle.std.proofs.lemmas.List.Sorted.{IsPartitionPoint-from_clause}
use Rattle.request_numbers.proofs.Closing.{partitioned, place_is}
use Rattle.request_numbers.proofs.numbers.place_of.Goals as goal

pub returns : goal.returns
returns c =
    let places = c.args.places.now in
    let key = c.args.number in
    place_is key places c.partition_point.result c.partition_point.ensures.bound
    (IsPartitionPoint-from_clause (λ p. nat_lt p.number key) places c.partition_point.result
    c.partition_point.ensures.partitioned (partitioned key 0 c.requires.0 places c.requires.1) (λ a r f' k. search
    rules))
