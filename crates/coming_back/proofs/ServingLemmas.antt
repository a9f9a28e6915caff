-- Data components that perform one wire more.
use Rattle.std.proofs.Common.{◌≡◌, ℕ, List, [], ◌∷◌, ◌++◌, Some, refl, sym, ◌∙◌, ap, subst, inl, inr, fold, Bool, true, false, cond, ◌==◌}
use Rattle.std.specs.Prelude.{slice_get, slice_set}
use Rattle.std.proofs.lemmas.Bool.{cases_eq}
use Rattle.std.proofs.lemmas.List.{length-set}
use Rattle.std.proofs.lemmas.List.Sums.{fold-append}
use Rattle.std.proofs.lemmas.List.Elements.{All-append, All-cons, All-nil}
use Rattle.access_slots.specs.Locks.{target}
use Rattle.access_slots.specs.declared.op.Op.{Op}
use Rattle.access_slots.specs.declared.op.Wire.{Wire}
use Rattle.data_component.specs.Store.{Store, performed, marked, store_by, fate_of, Fate, IsOld, Again, Silent, New}
use Rattle.transactions.proofs.StandingLemmas.{some_same}
use Rattle.serial.proofs.SitesLemmas.{set_same, set_other}
use Rattle.coming_back.specs.Serving.{IsFor, IsRedoFor, IsServed, IsServedAt, AreServedBy, AreServed, AreRedone}

-- nothing is performed
served_same : (Such : Wire → Type 0) (s : Store) → IsServed Such s s
served_same Such s = record { wires = []; own = All-nil Such; performs = refl }

served_then : (Such : Wire → Type 0) (s mid t : Store) → IsServed Such s mid → IsServed Such mid t → IsServed Such s t
served_then Such s mid t a b = record {
  wires = a.wires ++ b.wires;
  own = All-append Such a.wires b.wires a.own b.own;
  performs = b.performs ∙ (ap (λ (x : Store). fold performed x b.wires) a.performs ∙ sym (fold-append performed s a.wires b.wires));
}

served_once : (Such : Wire → Type 0) (s : Store) (x : Wire) → Such x → IsServed Such s (performed s x)
served_once Such s x own = record { wires = x ∷ []; own = All-cons Such x [] own (All-nil Such); performs = refl }

pub all_same : (Such : ℕ → Wire → Type 0) (ds : List Store) → AreServedBy Such ds ds
all_same Such ds = record { count = refl; each = λ d s at. record { now = s; at = at; served = served_same (Such d) s } }

pub all_then : (Such : ℕ → Wire → Type 0) (ds mid es : List Store) → AreServedBy Such ds mid → AreServedBy Such mid es → AreServedBy Such ds es
all_then Such ds mid es a b = record {
  count = b.count ∙ a.count;
  each = λ d s at.
      let one = a.each d s at in
      let two = b.each d one.now one.at in
      record { now = two.now; at = two.at; served = served_then (Such d) s one.now two.now one.served two.served };
}

-- a wire is performed at its place
pub all_once : (Such : ℕ → Wire → Type 0) (ds : List Store) (x : Wire) (s : Store) → Such (target x.op).dc x → slice_get ds (target x.op).dc ≡ Some s
    → AreServedBy Such ds (slice_set ds (target x.op).dc (performed s x))
all_once Such ds x s such at = record { count = length-set ds (target x.op).dc (performed s x); each = λ d t there. one d t there }
  where
    one : (d : ℕ) (t : Store) → slice_get ds d ≡ Some t → IsServedAt Such (slice_set ds (target x.op).dc (performed s x)) d t
    one d t there = elim (cases_eq (target x.op).dc d) [
      | inl here ↦
          let same : s ≡ t = some_same s t (sym at ∙ (ap (slice_get ds) here ∙ there)) in
          record {
            now = performed s x;
            at = subst (λ (k : ℕ). slice_get (slice_set ds (target x.op).dc (performed s x)) k ≡ Some (performed s x))
                here (set_same ds (target x.op).dc s (performed s x) at);
            served = subst (λ (z : Store). IsServed (Such d) z (performed s x)) same (served_once (Such d) s x (subst (λ (k : ℕ). Such k x) here such));
          }
      | inr other ↦ record { now = t; at = set_other ds (target x.op).dc d (performed s x) other ∙ there; served = served_same (Such d) t }
    ]

-- wires of a redo are wires
redo_served : (d : ℕ) (s t : Store) → IsServed (IsRedoFor d) s t → IsServed (IsFor d) s t
redo_served d s t a = record { wires = a.wires; own = λ k x low. (a.own k x low).0; performs = a.performs }

pub all_served : (ds es : List Store) → AreRedone ds es → AreServed ds es
all_served ds es a = record {
  count = a.count;
  each = λ d s at. (let one = a.each d s at in record { now = one.now; at = one.at; served = redo_served d s one.now one.served });
}

-- ---- an incarnation stays

by_fate : (s : Store) (n : ℕ) (o : Op) (f : Fate) → (store_by s n o f).incarnation ≡ s.incarnation
by_fate s n o IsOld = refl
by_fate s n o (Again said) = refl
by_fate s n o Silent = refl
by_fate s n o (New said) = refl

if_heard : (b : Bool) (s t : Store) → t.incarnation ≡ s.incarnation → (cond b t s).incarnation ≡ s.incarnation
if_heard true s t same = same
if_heard false s t same = refl

pub performed_by : (s : Store) (x : Wire) → (performed s x).incarnation ≡ s.incarnation
performed_by s x = if_heard (s.incarnation == x.incarnation) s
    (store_by (marked s x.low_water) x.number x.op (fate_of s x))
    (by_fate (marked s x.low_water) x.number x.op (fate_of s x))

fold_by : (s : Store) (xs : List Wire) → (fold performed s xs).incarnation ≡ s.incarnation
fold_by s [] = refl
fold_by s (x ∷ xs) = fold_by (performed s x) xs ∙ performed_by s x

pub served_incarnation : (Such : Wire → Type 0) (s t : Store) → IsServed Such s t → t.incarnation ≡ s.incarnation
served_incarnation Such s t served = ap (λ (z : Store). z.incarnation) served.performs ∙ fold_by s served.wires
