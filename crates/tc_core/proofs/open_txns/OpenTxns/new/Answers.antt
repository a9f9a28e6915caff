use Rattle.std.proofs.Common.{◌≡◌, Some, None, arith, refl}
use Rattle.tc_core.proofs.open_txns.OpenTxns.new.Goals as goal

pub invariant_of-result : goal.invariant_of-result
invariant_of-result c = (
  record {
    keyed = λ key tx at. absurd (let none : None ≡ Some tx = rw c.new.ensures.empty at at in cc);
    listed = λ t key at. absurd (let none : None ≡ Some key = rw c.new-2.ensures at at in cc);
  },
  (let len = c.new-3.ensures.len in record { begin = rw c.new.ensures.empty (omega (arith, len)); end = rw c.new.ensures.empty (omega (arith, len)) }),
)

pub returns : goal.returns
returns c = rw c.new.ensures.empty refl
