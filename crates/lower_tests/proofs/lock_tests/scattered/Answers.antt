use Rattle.std.proofs.Common.{◌≡◌, ℕ, ◌<◌, ◌∙◌, arith}
use Rattle.std.proofs.lemmas.Bool.{ne_eqb}
use Rattle.lower_tests.proofs.lock_tests.scattered.Goals as goal

-- who is still to come isn't the transaction that came
pub txns-preserved : goal.txns-preserved
txns-preserved g c = λ t less r.
    let other = ne_eqb t c.txns.txn (λ same. omega (arith, less, same)) in
    c.release.ensures t (λ q. c.grant.ensures.others t q other ∙ c.txns.invariant t (omega (arith, less)) q) r
