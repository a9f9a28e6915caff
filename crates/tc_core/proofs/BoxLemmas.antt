-- Transactions in their boxes, and out of them.
use Rattle.std.proofs.Common.{◌≡◌, ℕ, zero, suc, ◌+◌, ◌≤◌, Bool, List, [], ◌∷◌, map, get_or, Option, Some, None}
use Rattle.std.proofs.Common.{is_some, IsSome, count_by, cond, refl, sym, ◌∙◌, ap, subst, arith}
use Rattle.std.specs.Prelude.{Box, Vec}
use Rattle.std.proofs.lemmas.List.Sums.{sum_by-cons, sum_by-set}
use Rattle.slab.specs.Slab.{Slab, get, slab_len, ContainsKey, HasRoomFor, Updates, with_value}
use Rattle.slab.proofs.SlabLemmas.{Updates-with_value, ContainsKey-within}
use Rattle.transactions.proofs.StandingLemmas.{some_same, none_some}
use Rattle.tc_core.specs.Joining.Boxes.{AreKeys, AreBoxed, ready, in_box, unboxed}
use Rattle.tc_core.specs.Joining.Keys.{Keys}
use Rattle.tc_core.specs.declared.transaction.Tx.{Tx}
use Rattle.tc_core.proofs.KeyLemmas.{keys-moved}

-- ---- room for one more

pub ready-some : (boxes room : ℕ) → 1 ≤ ready boxes room → (1 ≤ boxes) × (1 ≤ room)
ready-some zero room some = absurd (omega (arith, some))
ready-some (suc boxes) zero some = absurd (omega (arith, some))
ready-some (suc boxes) (suc room) some = (omega arith, omega arith)

pub ready-one : (boxes room : ℕ) → 1 ≤ boxes → 1 ≤ room → ready boxes room ≡ 1
ready-one zero room one two = absurd (omega (arith, one))
ready-one (suc boxes) zero one two = absurd (omega (arith, two))
ready-one (suc boxes) (suc room) one two = refl

pub ready-few : (boxes room : ℕ) → ready boxes room ≤ boxes
ready-few zero room = omega arith
ready-few (suc boxes) zero = omega arith
ready-few (suc boxes) (suc room) = omega arith

-- ---- in boxes and out of them

module _ {A : Type 0} where
  in_box_at : (slots : List (Option (Box Tx A))) (key : ℕ) → get_or (map in_box slots) key None ≡ in_box (get_or slots key None)
  in_box_at [] key = refl
  in_box_at (slot ∷ slots) zero = refl
  in_box_at (slot ∷ slots) (suc key) = in_box_at slots key

  count_in_box : (slots : List (Option (Box Tx A))) → count_by is_some (map in_box slots) ≡ count_by is_some slots
  count_in_box [] = refl
  count_in_box (None ∷ slots) =
      omega (
        arith,
        count_in_box slots,
        sum_by-cons (λ (o : Option Tx). cond (is_some o) 1 0) None
            (map in_box slots),
        sum_by-cons (λ (o : Option (Box Tx A)). cond (is_some o) 1 0) None slots,
      )
  count_in_box (Some b ∷ slots) =
      omega (
        arith,
        count_in_box slots,
        sum_by-cons (λ (o : Option Tx). cond (is_some o) 1 0) (Some b.value)
            (map in_box slots),
        sum_by-cons (λ (o : Option (Box Tx A)). cond (is_some o) 1 0) (Some b) slots,
      )

  some_in_box : (slot : Option (Box Tx A)) → IsSome (in_box slot) → IsSome slot
  some_in_box None some = some
  some_in_box (Some b) some = refl

  module _ (n : ℕ) (txns : Slab (Box Tx A)) where
    pub unboxed-at : (key : ℕ) → get (unboxed n txns) key ≡ in_box (get txns key)
    unboxed-at key = in_box_at txns.slots key

    pub unboxed-len : slab_len (unboxed n txns) ≡ slab_len txns
    unboxed-len = count_in_box txns.slots

    -- what is in the box at a key stands there
    pub unboxed-some : (key : ℕ) (b : Box Tx A) → get txns key ≡ Some b → get (unboxed n txns) key ≡ Some b.value
    unboxed-some key b at = unboxed-at key ∙ ap in_box at

    -- what stands at a key is in the box there
    pub boxed-same : (key : ℕ) (b : Box Tx A) (tx : Tx) → get txns key ≡ Some b → get (unboxed n txns) key ≡ Some tx → b.value ≡ tx
    boxed-same key b tx at found = some_same b.value tx (sym (unboxed-some key b at) ∙ found)

    -- what stands at a key has a box there
    pub boxed : (key : ℕ) (tx : Tx) → get (unboxed n txns) key ≡ Some tx → (b : Box Tx A) × (get txns key ≡ Some b) × (b.value ≡ tx)
    boxed key tx found = by (get txns key) refl
      where
        by : (slot : Option (Box Tx A)) → get txns key ≡ slot → (b : Box Tx A) × (get txns key ≡ Some b) × (b.value ≡ tx)
        by None is = absurd (none_some (in_box (get txns key)) tx (ap in_box is) (sym (unboxed-at key) ∙ found))
        by (Some b) is = (b, is, boxed-same key b tx is found)

  pub unboxed-updates : (n n' : ℕ) (txns txns' : Slab (Box Tx A)) (key : ℕ) (slot : Option (Box Tx A))
      → Updates txns txns' key slot → Updates (unboxed n txns) (unboxed n' txns') key (in_box slot)
  unboxed-updates n n' txns txns' key slot up = record {
    changed = unboxed-at n' txns' key ∙ ap in_box up.changed;
    others = λ other differs. unboxed-at n' txns' other ∙ (ap in_box (up.others other differs) ∙ sym (unboxed-at n txns other));
  }

  -- ---- as contracts see the transactions

  module _ (n : ℕ) (txns : Slab (Box Tx A)) (seen : Slab Tx) (view : unboxed n txns ≡ seen) where
    pub seen-len : slab_len seen ≡ slab_len txns
    seen-len = ap (λ (s : Slab Tx). slab_len s) (sym view) ∙ unboxed-len n txns

    pub seen-some : (key : ℕ) (b : Box Tx A) → get txns key ≡ Some b → get seen key ≡ Some b.value
    seen-some key b at = ap (λ (s : Slab Tx). get s key) (sym view) ∙ unboxed-some n txns key b at

    pub has-box : (key : ℕ) → ContainsKey seen key → ContainsKey txns key
    has-box key there = some_in_box (get txns key) (subst (λ (o : Option Tx). IsSome o)
        (ap (λ (s : Slab Tx). get s key) (sym view) ∙ unboxed-at n txns key) there)

    pub seen-vacant : (key : ℕ) → get txns key ≡ None → get seen key ≡ None
    seen-vacant key vacant = ap (λ (s : Slab Tx). get s key) (sym view) ∙ (unboxed-at n txns key ∙ ap in_box vacant)

    pub seen-updates : (n' : ℕ) (txns' : Slab (Box Tx A)) (key : ℕ) (slot : Option (Box Tx A))
        → Updates txns txns' key slot → Updates seen (unboxed n' txns') key (in_box slot)
    seen-updates n' txns' key slot up = subst (λ (s : Slab Tx). Updates s (unboxed n' txns') key (in_box slot)) view
        (unboxed-updates n n' txns txns' key slot up)

    -- the transaction in the box at a key goes on
    pub goes-on : (key : ℕ) (b b' : Box Tx A) (tx : Tx) (f : Tx → Tx) → get txns key ≡ Some b → get seen key ≡ Some tx → b'.value ≡ f b.value
        → Updates seen (unboxed n (with_value txns key b')) key (Some (f tx))
    goes-on key b b' tx f at found made =
        let same : b.value ≡ tx = some_same b.value tx (sym (seen-some key b at) ∙ found) in
        let up = seen-updates n (with_value txns key b') key (Some b') (Updates-with_value txns key b' (ap is_some at)) in
        subst (λ (x : Tx). Updates seen (unboxed n (with_value txns key b')) key (Some x)) (made ∙ ap f same) up

  written_len : (txns : Slab (Box Tx A)) (key : ℕ) (b : Box Tx A) → ContainsKey txns key → slab_len (with_value txns key b) ≡ slab_len txns
  written_len txns key b there =
      let set = sum_by-set (λ (o : Option (Box Tx A)). cond (is_some o) 1 0) txns.slots key (Some b) None (ContainsKey-within txns key there) in
      let one = ap (λ (x : Bool). let n : ℕ = cond x 1 0 in n) there in
      omega (arith, set, one)

  pub written-len : (n : ℕ) (txns : Slab (Box Tx A)) (seen : Slab Tx) (key : ℕ) (b : Box Tx A) → unboxed n txns ≡ seen → ContainsKey seen key
      → slab_len (unboxed n (with_value txns key b)) ≡ slab_len seen
  written-len n txns seen key b view there =
      unboxed-len n (with_value txns key b) ∙ (written_len txns key b (has-box n txns seen view key there) ∙ sym (seen-len n txns seen view))

  -- ---- what is kept

  pub written-keys : (keys : Keys) (n : ℕ) (txns : Slab (Box Tx A)) (key : ℕ) (b b' : Box Tx A)
      → AreKeys keys (unboxed n txns) → get txns key ≡ Some b → b'.value.serial ≡ b.value.serial
      → AreKeys keys (unboxed n (with_value txns key b'))
  written-keys keys n txns key b b' are at same =
      keys-moved keys (unboxed n txns) (unboxed n (with_value txns key b')) key b.value b'.value are (unboxed-some n txns key b at)
      (unboxed-updates n n txns (with_value txns key b') key (Some b') (Updates-with_value txns key b' (ap is_some at))) same

  pub written-boxed : {Z : Type 0} (txns : Slab (Box Tx A)) (boxes : Vec (Box Tx A) Z) (key : ℕ) (b b' : Box Tx A)
      → get txns key ≡ Some b → AreBoxed txns boxes → AreBoxed (with_value txns key b') boxes
  written-boxed txns boxes key b b' at are =
      let len = written_len txns key b' (ap is_some at) in
      let begin = are.begin in
      let end = are.end in
      record { begin = omega (arith, len, begin); end = omega (arith, len, end) }

  -- there is a box, and room for a key
  pub room-some : (txns : Slab (Box Tx A)) (seen : Slab Tx) (boxes room : ℕ) → unboxed (ready boxes room) txns ≡ seen
      → HasRoomFor seen 1 → (1 ≤ boxes) × (1 ≤ room)
  room-some txns seen boxes room view has =
      let has' : slab_len (unboxed (ready boxes room) txns) + 1 ≤ slab_len txns + ready boxes room = subst (λ (s : Slab Tx). HasRoomFor s 1) (sym view) has in
      let len = unboxed-len (ready boxes room) txns in
      ready-some boxes room (omega (arith, has', len))
