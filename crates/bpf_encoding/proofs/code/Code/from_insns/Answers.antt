use Rattle.std.proofs.Common.{◌<◌, length, arith}
use Rattle.std.proofs.lemmas.Bool.Decides.{nat_tests}
use Rattle.bpf_encoding.proofs.Written.{insns_are_code}
use Rattle.bpf_encoding.proofs.code.Code.from_insns.Goals as goal

pub invariant_of-result : goal.invariant_of-result
invariant_of-result c =
    let some : 0 < length c.args.insns.now = grind (arith, nat_tests) in
    insns_are_code c.args.insns.now c.in_ok-places.places.items some c.in_ok-places.ensures.ok c.in_ok-places.ensures.short
