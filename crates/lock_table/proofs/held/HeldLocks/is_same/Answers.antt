use Rattle.std.proofs.Common.{refl}
use Rattle.std.proofs.lemmas.Slice.Eq.{slice_eq-Decides}
use denote.Enum.Bare.{sameb}
use Rattle.access_slots.specs.contracts.slot.Mode.{the_type}
use Rattle.access_slots.proofs.Records.{lock_decides}
use Rattle.lock_table.proofs.held.HeldLocks.is_same.Goals as goal

pub returns : goal.returns
returns c =
    rw (← c.self.view_is, ← c.as_slice.ensures.value, ← c.locks.ensures.value)
    (slice_eq-Decides (λ a b. lock_decides (sameb the_type) (refl, refl, refl, refl) a b) _ _ _ c.eq.ensures)
