-- What takes effect is in flight.
use Rattle.std.proofs.Common.{◌≡◌, ◌≢◌, ℕ, ◌<◌, ◌≤◌, true, false, Option, Some, None, arith, refl, sym, ◌∙◌, ap, subst, inl, inr}
use Rattle.std.specs.Prelude.{nat_le, if◌then◌else◌}
use Rattle.std.proofs.lemmas.Bool.Decides.{nat_tests}
use Rattle.access_slots.specs.Locks.{allows, target, is_read, conflict}
use Rattle.access_slots.specs.declared.op.Op.{Op}
use Rattle.access_slots.specs.declared.op.Said.{Said}
use Rattle.access_slots.specs.declared.op.Wire.{Wire}
use Rattle.history.specs.Anew.{begun}
use Rattle.history.specs.Flight.{Flight, open_op, given}
use Rattle.data_component.specs.Performed.{said_under}
use Rattle.data_component.specs.Store.{Store, IsOld, Again, New, raised, marked, fate_above, fate_of}
use Rattle.transactions.specs.InFlight.{InFlight, Open, site_of, site_at}
use Rattle.transactions.proofs.StandingLemmas.{some_same, none_some}
use Rattle.transactions.specs.Reached.{decls}
use Rattle.history.specs.Calls.{held_for, call_of}
use Rattle.transactions.proofs.Restarts.{in_flight_covered, in_flight_apart}
use Rattle.serial.specs.Lists.{logged, dc_of}
use Rattle.serial.specs.Serial.{done}
use Rattle.serial.specs.Joining.Sites.{CopyOk}
use Rattle.serial.proofs.LockLemmas.{by_test}
use Rattle.serial.proofs.NumberLemmas.{flight_logged}
use Rattle.tc_world.specs.Whole.{Whole}
use Rattle.tc_world.specs.Lives.{HasLived}
use Rattle.tc_world.specs.Joining.Listed.{IsListed, wires_since}
use Rattle.tc_world.proofs.ComingBack.{all_at}
use Rattle.tc_world.proofs.Passing.{above_in}
use Rattle.tc_world.proofs.LivingLemmas.{Sound, living_known, living_low, living_listed}
use Rattle.succession.specs.Effect.{TakesEffect}

-- ---- a wire that is performed and is no repeat: its number is above the mark, and not in the list

is_new_above : (s : Store) (x : Wire) (said : Said) (o : Option Said) → said_under s.list x.number ≡ o
    → fate_above o (marked s x.low_water) x.redo x.op ≡ New said → said_under s.list x.number ≡ None
is_new_above s x said None here is = here
is_new_above s x said (Some was) here is = absurd (let bad : Again was ≡ New said = is in cc)

pub record IsNewTo (s : Store) (x : Wire) : Type 0 where
  pub above : raised s.mark x.low_water < x.number
  pub none : said_under s.list x.number ≡ None

lower : (a b : ℕ) → nat_le a b ≡ false → b < a
lower a b is = grind (arith, nat_tests)

new_to : (s : Store) (x : Wire) (said : Said) → fate_of s x ≡ New said → IsNewTo s x
new_to s x said is =
    by_test (nat_le x.number (raised s.mark x.low_water)) (IsNewTo s x)
    (λ low. (let old : fate_of s x ≡ IsOld = ap (λ b. if b then IsOld else fate_above (said_under s.list x.number)
    (marked s x.low_water) x.redo x.op) low in absurd (let bad : IsOld ≡ New said = sym old ∙ is in cc)))
    (λ high. (let f : fate_of s x ≡ fate_above (said_under s.list x.number) (marked s x.low_water) x.redo x.op = ap (λ b. if b then IsOld else
    fate_above (said_under s.list x.number) (marked s x.low_water) x.redo x.op) high in
    record { above = lower x.number (raised s.mark x.low_water) high; none = is_new_above s x said (said_under s.list x.number) refl (sym f ∙ is) }))

rises : (mark low : ℕ) → mark ≤ raised mark low
rises mark low = by_test (nat_le mark low) (mark ≤ raised mark low)
    (λ up. (let is : raised mark low ≡ low = ap (λ b. if b then low else mark) up in let le : mark ≤ low = grind (arith, nat_tests) in omega (arith, is, le)))
    (λ down. (let is : raised mark low ≡ mark = ap (λ b. if b then low else mark) down in omega (arith, is)))

-- ---- its number is open

pub record Flies (w : Whole) (x : Wire) : Type 0 where
  pub f : Flight
  pub op : f.op ≡ x.op
  pub is : InFlight w.core.events w.core.sites x.number f

open_flies : (w : Whole) (x : Wire) (f : Flight) → logged w.core.events x.number ≡ Some x.op → (site_at w.core.sites (dc_of x.op)).redo ≡ None
    → open_op w.core.events x.number ≡ Some f → Flies w x
open_flies w x f logs up flies =
    let op : f.op ≡ x.op = some_same f.op x.op (sym (flight_logged w.core.events x.number f flies) ∙ logs) in
    record {
      f = f;
      op = op;
      is = Open (record { is_open = flies; up = subst (λ (o : Op). (site_of w.core.sites o).redo ≡ None) (sym op) up });
    }

pub sound_flies : (w : Whole) (x : Wire) → Sound w → TakesEffect w x → Flies w x
sound_flies w x sound e = elim (copy.now known) [
  | inl first ↦ elim first.runs [
    | inl here ↦ open_flies w x here.0 copy.logs first.up here.1
    | inr performed ↦ absurd (none_some (said_under e.s.list x.number) performed.0 new.none
        (subst (λ l. said_under l x.number ≡ Some performed.0) (sym list) performed.1))
  ]
  | inr again ↦ absurd (let bad : true ≡ false = sym again.redo ∙ e.ordinary in cc)
]
  where
    listed : IsListed w
    listed = sound.listed

    new : IsNewTo e.s x
    new = new_to e.s x e.said e.fate

    up : begun w.core.events < x.number
    up =
        let a = (listed.behind (dc_of x.op) e.s e.at).mark in
        let b = rises e.s.mark x.low_water in
        let c = new.above in
        omega (arith, a, b, c)

    copy : CopyOk listed.base (logged w.core.events) (open_op w.core.events) (done w.core.events) (given w.core.events) w.core.sites w.dcs listed.ok.v x
    copy =
        let here = above_in (λ (z : Wire). z.number) (begun w.core.events) w.copies e.place x e.carried up in
        all_at (CopyOk listed.base (logged w.core.events) (open_op w.core.events) (done w.core.events) (given w.core.events) w.core.sites w.dcs listed.ok.v)
        (wires_since w) here.0 x here.1 listed.ok.copies

    known : x.incarnation ≡ (site_at w.core.sites (dc_of x.op)).incarnation
    known = sym e.same ∙ sym e.known.now

    list : e.s.list ≡ listed.ok.v (dc_of x.op)
    list = (listed.ok.stores (dc_of x.op) e.s e.at).same e.known.now

pub living_sound : (w : Whole) → HasLived w → Sound w
living_sound w lived = record { known = living_known w lived; low = living_low w lived; listed = living_listed w lived }

pub flies : (w : Whole) (x : Wire) → HasLived w → TakesEffect w x → Flies w x
flies w x lived e = sound_flies w x (living_sound w lived) e

pub sound_apart : (w : Whole) (x y : Wire) → Sound w → TakesEffect w x → TakesEffect w y → x.number ≢ y.number → conflict x.op y.op ≡ false
sound_apart w x y sound ex ey differ =
    let a = sound_flies w x sound ex in
    let b = sound_flies w y sound ey in
    let k = sound.known in
    subst (λ (o : Op). conflict o y.op ≡ false) a.op (subst (λ (o : Op). conflict a.f.op o ≡ false) b.op
    (in_flight_apart w.core.procs w.core.events w.core.sites k.good k.legal x.number y.number a.f b.f a.is b.is differ))

pub apart : (w : Whole) (x y : Wire) → HasLived w → TakesEffect w x → TakesEffect w y → x.number ≢ y.number → conflict x.op y.op ≡ false
apart w x y lived ex ey differ = sound_apart w x y (living_sound w lived) ex ey differ

pub covers : (w : Whole) (x : Wire) (lived : HasLived w) (e : TakesEffect w x)
    → allows (held_for (decls w.core.procs) (call_of w.core.events (flies w x lived e).f.txn) (target x.op)) (is_read x.op) ≡ true
covers w x lived e =
    let a = flies w x lived e in
    let k = living_known w lived in
    subst (λ (o : Op). allows (held_for (decls w.core.procs) (call_of w.core.events a.f.txn) (target o)) (is_read o) ≡ true) a.op
    (in_flight_covered w.core.procs w.core.events w.core.sites k.good k.legal x.number a.f a.is)
