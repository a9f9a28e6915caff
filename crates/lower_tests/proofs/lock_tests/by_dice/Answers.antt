use Rattle.std.proofs.Common.{◌≡◌, ℕ, ◌<◌, ◌∙◌, arith}
use Rattle.std.proofs.lemmas.Bool.{ne_eqb}
use Rattle.lock_table.specs.Facts.{held_by, HoldsNothing}
use Rattle.lower_tests.proofs.lock_tests.by_dice.Goals as goal

-- who is still to come isn't the transaction that came
pub txns-preserved : goal.txns-preserved
txns-preserved g c = λ t less r.
    let other = ne_eqb t c.txns.txn (λ same. omega (arith, less, same)) in
    let granted : HoldsNothing (held_by c.grant.new.map) t = λ q. c.grant.ensures.others t q other ∙ c.txns.invariant t (omega (arith, less)) q in
    c.release-in-txns.ensures t (c.release.ensures t granted) r
