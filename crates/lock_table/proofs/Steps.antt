-- Locks one after another.
use Rattle.std.proofs.Common.{◌≡◌, ℕ, ◌+◌, ◌<◌, List, ◌∷◌, length, drop}
use Rattle.std.proofs.Common.{get_or, add-one, sym, ap, subst, ◌∙◌}
use Rattle.std.proofs.Math.Seq.{drop-cons}
use Rattle.access_slots.specs.declared.slot.Mode.TheVariants as mode
use Rattle.access_slots.specs.declared.lock.Lock.{Lock}
use Rattle.access_slots.specs.Locks.{RisingFrom, Rising}
use Rattle.access_slots.proofs.Locking.{rising_rest}

pub opened : (locks : List Lock) (i : ℕ) (d : Lock) → i < length locks → drop i locks ≡ get_or locks i d ∷ drop (i + 1) locks
opened locks i d inside = drop-cons locks i d inside ∙ ap (λ (n : ℕ). get_or locks i d ∷ drop n locks) (sym (add-one i))

abbrev pub any_lock : Lock
any_lock = record { «record» = record { dc = 0; table = 0; key = 0 }; mode = mode.Read }

module _ (locks : List Lock) (i : ℕ) (inside : i < length locks) (rises : Rising (drop i locks)) where
  pub above : (d : Lock) → RisingFrom (get_or locks i d).«record» (drop (i + 1) locks)
  above d = subst Rising (opened locks i d inside) rises

  pub rising_after : Rising (drop (i + 1) locks)
  rising_after = rising_rest (get_or locks i any_lock) (drop (i + 1) locks) (above any_lock)
