use Rattle.std.proofs.Common.{◌≡◌, ◌<◌, length, arith, rules}
use Rattle.run_calls.proofs.ServerLemmas.{all_served}
use Rattle.run_calls.proofs.answering.handed_back.Goals as goal

pub returns : goal.returns
returns g c = λ dcs promised many.
    let joined = c.in_ok-join_promised in
    let back = joined.field-0.items in
    let servers = c.args.servers.items in
    let as_many : length back ≡ length servers = search rules in
    all_served dcs back servers promised many as_many
    (λ i dc below.
    let within : i < c.args.servers.len = omega (arith, below, c.args.servers.ok.0) in
    let kept = (joined.ensures.each i dc within).1 in
    (kept.handle, kept.handle_is, kept.kept))
