use Rattle.std.proofs.Common.{◌<◌, ◌/◌, length, arith}
use Rattle.std.proofs.lemmas.Bool.Decides.{nat_tests}
use Rattle.std.proofs.lemmas.Result.{err_from_is_err_and}
use Rattle.bpf_encoding.proofs.Growing.{is_code, only_memory}
use Rattle.bpf_encoding.proofs.decode.decode.Goals as goal

pub places_of-requires : goal.places_of-requires
places_of-requires c = (length c.args.bytes.now / 8, omega arith)

pub returns-in_err-places-clause-only : goal.returns-in_err-places-clause-only
returns-in_err-places-clause-only c = λ places spells. let p = err_from_is_err_and c.from_residual.result
    c.from_residual.ensures.1 in rw (p.1, p.2) (only_memory c.args.bytes.now places _ spells c.in_err-places.ensures.err)

pub invariant_of-result : goal.invariant_of-result
invariant_of-result c = let some : 0 < length c.args.bytes.now = grind (arith, nat_tests) in
    (is_code c.args.bytes.now c.in_ok-places.places.items some c.if-bytes-ne0.false c.if-bytes.false c.in_ok-places.ensures.fields c.in_ok-places.ensures.whole).code

pub returns-clause-spelled : goal.returns-clause-spelled
returns-clause-spelled c = let some : 0 < length c.args.bytes.now = grind (arith, nat_tests) in
    is_code c.args.bytes.now c.in_ok-places.places.items some c.if-bytes-ne0.false c.if-bytes.false c.in_ok-places.ensures.fields c.in_ok-places.ensures.whole
