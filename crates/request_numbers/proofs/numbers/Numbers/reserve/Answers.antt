use Rattle.std.proofs.Common.{arith, ◌≡◌, ◌+◌, ◌*◌}
use Rattle.std.proofs.lemmas.Result.{on_ok_weaker}
use Rattle.request_numbers.proofs.Closing.{open_few}
use Rattle.request_numbers.proofs.numbers.Numbers.reserve.Goals as goal

pub returns-in-Some-clause-ok : goal.returns-in-Some-clause-ok
returns-in-Some-clause-ok c =
    let least : c.in-Some.least ≡ c.args.more * 2 + c.self.inside.pending = c.in-Some.ensures in
    let few = open_few c.self.inside.places.items in
    let all = c.self.invariant.1.all in
    let length = c.self.inside.places.ok.0 in
    let same = c.reserve.ensures.len in
    on_ok_weaker c.reserve.result (λ fit. omega (arith, fit, least, few, all, length, same)) c.reserve.ensures.ok
