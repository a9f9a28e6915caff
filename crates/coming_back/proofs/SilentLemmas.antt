-- A data component says nothing only where it has no room for a further operation.
use Rattle.std.proofs.Common.{◌≡◌, ℕ, ◌≤◌, Bool, true, false, cond, nat_lt, nat_le, length, Option, Some, None, refl, ap, arith}
use Rattle.std.proofs.lemmas.Bool.Decides.{nat_tests}
use Rattle.access_slots.specs.declared.op.Op.{Op}
use Rattle.access_slots.specs.declared.op.Said.{Said}
use Rattle.access_slots.specs.declared.op.Wire.{Wire}
use Rattle.data_component.specs.Performed.{said_under, answer, has_room}
use Rattle.data_component.specs.Store.{Store, marked, Fate, IsOld, Again, Silent, New, fate_of_new, fate_above, fate_of, reply_by, store_by}

no_room : (s : Store) (more : Bool) (o : Op) → fate_of_new s more o ≡ Silent → s.ops ≤ length s.list
no_room s more o is = by (nat_lt (length s.list) s.ops) refl is
  where
    by : (b : Bool) → nat_lt (length s.list) s.ops ≡ b
        → cond b (New (answer (has_room s.rows more s.base s.list) s.base s.list o)) Silent ≡ Silent
        → s.ops ≤ length s.list
    by true t e = absurd cc
    by false t e = grind (arith, nat_tests)

silent_above : (o : Option Said) (s : Store) (more : Bool) (q : Op) → fate_above o s more q ≡ Silent → s.ops ≤ length s.list
silent_above (Some said) s more q is = absurd cc
silent_above None s more q is = no_room s more q is

silent_by : (b : Bool) (f : Fate) → cond b IsOld f ≡ Silent → f ≡ Silent
silent_by true f is = absurd cc
silent_by false f is = is

pub silent_room : (s : Store) (x : Wire) → fate_of s x ≡ Silent → s.ops ≤ length s.list
silent_room s x is =
    silent_above (said_under s.list x.number) (marked s x.low_water) x.redo x.op (silent_by (nat_le x.number (marked s x.low_water).mark) _ is)

pub full_by : (s m : Store) (n : ℕ) (o : Op) (b : Bool) (f : Fate) → m.list ≡ s.list → m.ops ≡ s.ops → b ≡ true
    → cond b (reply_by s n f) None ≡ None → (f ≡ Silent → s.ops ≤ length s.list)
    → (cond b (store_by m n o f) s).ops ≤ length (cond b (store_by m n o f) s).list
full_by s m n o false f list ops heard none room = absurd cc
full_by s m n o true IsOld list ops heard none room = absurd cc
full_by s m n o true (Again said) list ops heard none room = absurd cc
full_by s m n o true (New said) list ops heard none room = absurd cc
full_by s m n o true Silent list ops heard none room = (let many = ap length list in let most = room refl in omega (arith, many, most, ops))
