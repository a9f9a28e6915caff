-- What waits at slots, in a list of places and a list of targets.
use Rattle.std.proofs.Common.{◌≡◌, ◌≢◌, ℕ, zero, suc, ◌+◌, ◌-◌, ◌<◌, ◌≤◌, Bool, Option, Some, None, List, [], ◌∷◌, ◌++◌, ◌⊎◌}
use Rattle.std.proofs.Common.{length, map, take, replicate, cond, eqb, refl, sym, ap, ◌∙◌, subst, inl, inr, arith}
use Rattle.std.specs.Prelude.{IfSome, slice_get, slice_set, swap_remove}
use Rattle.std.specs.List.{slice_index_or}
use Rattle.std.proofs.lemmas.List.{get_or-set_same, get_or-set_other, get_or_past, get_or_read, length-set, length-map}
use Rattle.std.proofs.lemmas.Option.{slice_get-get_or}
use Rattle.std.proofs.lemmas.Bool.{cases_eq, cases_lt, eq-eqb, ne_eqb}
use Rattle.register_kinds.specs.declared.kinds.Kinds.{Kinds}
use Rattle.register_kinds.specs.Kinds.{join_kinds}
use Rattle.register_kinds.specs.Arriving.{merge, along}
use Rattle.verifier.specs.declared.pending.Target.{Target}
use Rattle.verifier.specs.Joining.Table.{Table, kept}
use Rattle.verifier.specs.Joining.Pending.{slot_of, kinds_of, place_at, kinds_in, table_of, mended, AreTied}

-- ---- elements of a list

get-set_same : (xs : List Target) (k : ℕ) (x : Target) → k < length xs → slice_get (slice_set xs k x) k ≡ Some x
get-set_same [] k x lt = absurd (omega arith)
get-set_same (y ∷ ys) zero x lt = refl
get-set_same (y ∷ ys) (suc k) x lt = get-set_same ys k x (omega arith)

get-set_other : (xs : List Target) (k j : ℕ) (x : Target) → j ≢ k → slice_get (slice_set xs k x) j ≡ slice_get xs j
get-set_other [] k j x ne = refl
get-set_other (y ∷ ys) zero zero x ne = absurd (ne refl)
get-set_other (y ∷ ys) zero (suc j) x ne = refl
get-set_other (y ∷ ys) (suc k) zero x ne = refl
get-set_other (y ∷ ys) (suc k) (suc j) x ne = get-set_other ys k j x (λ e. ne (ap (λ (n : ℕ). suc n) e))

get-push_same : (xs : List Target) (x : Target) (n : ℕ) → length xs ≡ n → slice_get (xs ++ x ∷ []) n ≡ Some x
get-push_same [] x zero e = refl
get-push_same [] x (suc n) e = absurd (omega arith)
get-push_same (y ∷ ys) x zero e = absurd (omega arith)
get-push_same (y ∷ ys) x (suc n) e = get-push_same ys x n (omega arith)

get-push_other : (xs : List Target) (x : Target) (j : ℕ) → j ≢ length xs → slice_get (xs ++ x ∷ []) j ≡ slice_get xs j
get-push_other [] x zero ne = absurd (ne refl)
get-push_other [] x (suc j) ne = refl
get-push_other (y ∷ ys) x zero ne = refl
get-push_other (y ∷ ys) x (suc j) ne = get-push_other ys x j (λ e. ne (ap (λ (n : ℕ). suc n) e))

get-take : (xs : List Target) (n j : ℕ) → j < n → slice_get (take n xs) j ≡ slice_get xs j
get-take xs zero j lt = absurd (omega arith)
get-take [] (suc n) j lt = refl
get-take (x ∷ xs) (suc n) zero lt = refl
get-take (x ∷ xs) (suc n) (suc j) lt = get-take xs n j (omega arith)

get-take_past : (xs : List Target) (n j : ℕ) → n ≤ j → slice_get (take n xs) j ≡ None
get-take_past xs zero j le = refl
get-take_past [] (suc n) j le = refl
get-take_past (x ∷ xs) (suc n) zero le = absurd (omega arith)
get-take_past (x ∷ xs) (suc n) (suc j) le = get-take_past xs n j (omega arith)

get_past : (xs : List Target) (k : ℕ) → length xs ≤ k → slice_get xs k ≡ None
get_past [] k le = refl
get_past (y ∷ ys) zero le = absurd (omega arith)
get_past (y ∷ ys) (suc k) le = get_past ys k (omega arith)

-- ---- options

same_number : (a b : ℕ) → Some a ≡ Some b → a ≡ b
same_number a b e = cc

no_number : (a : ℕ) → None ≡ Some a → ⊥
no_number a e = cc

no_target : (t : Target) → None ≡ Some t → ⊥
no_target t e = cc

-- a slot's target is in the list
pub target_within : (targets : List Target) (k slot : ℕ) → slot_of (slice_get targets k) ≡ Some slot → k < length targets
target_within targets k slot e =
    elim (cases_lt k (length targets)) [
      | inl lt ↦ lt
      | inr le ↦ absurd (no_number slot (ap slot_of (sym (get_past targets k le)) ∙ e))
    ]

-- a slot with a place is in the list
pub place_within : (places : List (Option ℕ)) (slot k : ℕ) → place_at places slot ≡ Some k → slot < length places
place_within places slot k e =
    elim (cases_lt slot (length places)) [
      | inl lt ↦ lt
      | inr le ↦ absurd (no_number k (sym (get_or_past places slot None le) ∙ e))
    ]

-- what was read there is the slot's place
pub stood : (places : List (Option ℕ)) (slot : ℕ) (x o : Option ℕ) → slot < length places
    → x ≡ slice_index_or places slot x → x ≡ o → place_at places slot ≡ o
stood places slot x o lt read is = sym (get_or_read places slot x lt read None) ∙ is

pub found : (targets : List Target) (k : ℕ) (t : Target) → k < length targets → t ≡ slice_index_or targets k t → slice_get targets k ≡ Some t
found targets k t lt read = slice_get-get_or targets k t lt ∙ ap (λ (x : Target). Some x) (sym read)

-- ---- the table

pub kept_is : (places : List (Option ℕ)) (targets : List Target) (at : ℕ) → kept (table_of places targets) at ≡ kinds_in targets (place_at places at)
kept_is [] targets at = refl
kept_is (p ∷ ps) targets zero = refl
kept_is (p ∷ ps) targets (suc at) = kept_is ps targets at

pub kept_none : (places : List (Option ℕ)) (targets : List Target) (at : ℕ) → place_at places at ≡ None → kept (table_of places targets) at ≡ None
kept_none places targets at none = kept_is places targets at ∙ ap (kinds_in targets) none

pub long_as : (places : List (Option ℕ)) (targets : List Target) (table : Table) → table_of places targets ≡ table → length places ≡ length table
long_as places targets table is = sym (length-map places (kinds_in targets)) ∙ ap (λ (t : Table). length t) is

pub waits_there : (places : List (Option ℕ)) (targets : List Target) (slot k : ℕ) (t : Target)
    → place_at places slot ≡ Some k → slice_get targets k ≡ Some t → Some t.kinds ≡ kept (table_of places targets) slot
waits_there places targets slot k t stands here = sym (kept_is places targets slot ∙ ap (kinds_in targets) stands ∙ ap kinds_of here)

pub none_placed : (n at : ℕ) → place_at (replicate n None) at ≡ None
none_placed zero at = refl
none_placed (suc n) zero = refl
none_placed (suc n) (suc at) = none_placed n at

-- the same kinds, where a slot has the same target as before, at whichever place
same_kept : (places places' : List (Option ℕ)) (targets targets' : List Target) (at : ℕ)
    → kinds_in targets' (place_at places' at) ≡ kinds_in targets (place_at places at) → kept (table_of places' targets') at ≡ kept (table_of places targets) at
same_kept places places' targets targets' at same = kept_is places' targets' at ∙ same ∙ sym (kept_is places targets at)

-- the target at a slot's place, where the targets at all places but one are as before
same_in : (targets targets' : List Target) (p : Option ℕ)
    → ((j : ℕ) → p ≡ Some j → slice_get targets' j ≡ slice_get targets j) → kinds_in targets' p ≡ kinds_in targets p
same_in targets targets' None same = refl
same_in targets targets' (Some j) same = ap kinds_of (same j refl)

along_there : (slot at : ℕ) (after : Kinds) (before : Option Kinds) → at ≡ slot → along (Some slot) (Some after) at before ≡ Some (merge before after)
along_there slot at after before e = ap (λ (b : Bool). cond b (Some (merge before after)) before) (eq-eqb at slot e)

along_past : (slot at : ℕ) (after : Kinds) (before : Option Kinds) → at ≢ slot → along (Some slot) (Some after) at before ≡ before
along_past slot at after before ne = ap (λ (b : Bool). cond b (Some (merge before after)) before) (ne_eqb at slot ne)

-- ---- kinds are joined to those of a target

module _ (places : List (Option ℕ)) (targets : List Target) (k : ℕ) (t : Target) (kinds : Kinds) (here : slice_get targets k ≡ Some t) (tied : AreTied places targets) where
  abbrev with_these : List Target
  with_these = slice_set targets k (record { slot = t.slot; kinds = kinds })

  same_slots : (j : ℕ) → slot_of (slice_get with_these j) ≡ slot_of (slice_get targets j)
  same_slots j =
      elim (cases_eq j k) [
        | inl same ↦
            (let lt : k < length targets = target_within targets k t.slot (ap slot_of here) in
            subst (λ (i : ℕ). slot_of (slice_get with_these i) ≡ slot_of (slice_get targets i)) (sym same)
            (ap slot_of (get-set_same targets k (record { slot = t.slot; kinds = kinds }) lt) ∙ ap slot_of (sym here)))
        | inr ne ↦ ap slot_of (get-set_other targets k j (record { slot = t.slot; kinds = kinds }) ne)
      ]

  pub joined_tied : AreTied places with_these
  joined_tied = record {
    there = λ slot place e. same_slots place ∙ tied.there slot place e;
    back = λ slot place e. tied.back slot place (sym (same_slots place) ∙ e);
  }

  pub joined_kept : (slot : ℕ) (after : Kinds) → place_at places slot ≡ Some k → kinds ≡ join_kinds t.kinds after
      → (at : ℕ) → kept (table_of places with_these) at ≡ along (Some slot) (Some after) at (kept (table_of places targets) at)
  joined_kept slot after stands is at =
      elim (cases_eq at slot) [
        | inl same ↦
            (let lt : k < length targets = target_within targets k t.slot (ap slot_of here) in
            let place : place_at places at ≡ Some k = ap (place_at places) same ∙ stands in
            let before : kept (table_of places targets) at ≡ Some t.kinds = kept_is places targets at ∙ ap (kinds_in targets) place ∙ ap kinds_of here in
            kept_is places with_these at ∙ ap (kinds_in with_these) place
            ∙ ap kinds_of (get-set_same targets k (record { slot = t.slot; kinds = kinds }) lt)
            ∙ ap (λ (ks : Kinds). Some ks) is ∙ ap (λ (o : Option Kinds). Some (merge o after)) (sym before)
            ∙ sym (along_there slot at after (kept (table_of places targets) at) same))
        | inr ne ↦
            (same_kept places places targets with_these at
            (same_in targets with_these (place_at places at)
            (λ j e. get-set_other targets k j (record { slot = t.slot; kinds = kinds })
            (λ is_k. ne (same_number at slot
            (sym (tied.there at j e) ∙ ap (λ (i : ℕ). slot_of (slice_get targets i)) is_k ∙ tied.there slot k stands)))))
            ∙ sym (along_past slot at after (kept (table_of places targets) at) ne))
      ]

-- ---- a target more

module _ (places : List (Option ℕ)) (targets : List Target) (slot n : ℕ) (kinds : Kinds)
    (tied : AreTied places targets) (long : length targets ≡ n) (inside : slot < length places) (none : place_at places slot ≡ None) where
  abbrev one_more : List Target
  one_more = targets ++ record { slot = slot; kinds = kinds } ∷ []

  abbrev placed : List (Option ℕ)
  placed = slice_set places slot (Some n)

  -- the place of another slot isn't the new one
  earlier : (s j : ℕ) → place_at places s ≡ Some j → slice_get one_more j ≡ slice_get targets j
  earlier s j e =
      let lt : j < length targets = target_within targets j s (tied.there s j e) in
      get-push_other targets (record { slot = slot; kinds = kinds }) j (λ last. omega (arith, lt, last))

  new_there : (s j : ℕ) → place_at placed s ≡ Some j → slot_of (slice_get one_more j) ≡ Some s
  new_there s j e =
      elim (cases_eq s slot) [
        | inl same ↦
            (let is_n : n ≡ j = same_number n j (sym (ap (place_at placed) same ∙ get_or-set_same places slot (Some n) None inside) ∙ e) in
            ap slot_of (get-push_same targets (record { slot = slot; kinds = kinds }) j (long ∙ is_n)) ∙ ap (λ (m : ℕ). Some m) (sym same))
        | inr ne ↦
            (let old : place_at places s ≡ Some j = sym (get_or-set_other places slot s (Some n) None ne) ∙ e in
            ap slot_of (earlier s j old) ∙ tied.there s j old)
      ]

  new_back : (s j : ℕ) → slot_of (slice_get one_more j) ≡ Some s → place_at placed s ≡ Some j
  new_back s j e =
      elim (cases_eq j n) [
        | inl last ↦
            (let here = get-push_same targets (record { slot = slot; kinds = kinds }) j (long ∙ sym last) in
            let same : slot ≡ s = same_number slot s (sym (ap slot_of here) ∙ e) in
            ap (place_at placed) (sym same) ∙ get_or-set_same places slot (Some n) None inside ∙ ap (λ (m : ℕ). Some m) (sym last))
        | inr ne ↦
            (let other = get-push_other targets (record { slot = slot; kinds = kinds }) j (λ is. ne (is ∙ long)) in
            let old : place_at places s ≡ Some j = tied.back s j (ap slot_of (sym other) ∙ e) in
            get_or-set_other places slot s (Some n) None (λ same. no_number j (sym none ∙ ap (place_at places) (sym same) ∙ old)) ∙ old)
      ]

  pub pushed_tied : AreTied placed one_more
  pushed_tied = record { there = new_there; back = new_back }

  pub pushed_kept : (at : ℕ) → kept (table_of placed one_more) at ≡ along (Some slot) (Some kinds) at (kept (table_of places targets) at)
  pushed_kept at =
      elim (cases_eq at slot) [
        | inl same ↦
            (let before : kept (table_of places targets) at ≡ None = kept_none places targets at (ap (place_at places) same ∙ none) in
            kept_is placed one_more at
            ∙ ap (kinds_in one_more) (ap (place_at placed) same ∙ get_or-set_same places slot (Some n) None inside)
            ∙ ap kinds_of (get-push_same targets (record { slot = slot; kinds = kinds }) n long)
            ∙ ap (λ (o : Option Kinds). Some (merge o kinds)) (sym before)
            ∙ sym (along_there slot at kinds (kept (table_of places targets) at) same))
        | inr ne ↦
            (same_kept places placed targets one_more at
            (ap (kinds_in one_more) (get_or-set_other places slot at (Some n) None ne) ∙ same_in targets one_more (place_at places at) (λ j e. earlier at j e))
            ∙ sym (along_past slot at kinds (kept (table_of places targets) at) ne))
      ]

-- ---- a target is taken

-- the last target stands at the place of the one that is taken
module _ (targets : List Target) (k : ℕ) (d : Target) (lt : k < length targets) where
  abbrev others : List Target
  others = swap_remove targets k d

  abbrev last : ℕ
  last = length targets - 1

  other_stays : (j : ℕ) → j ≢ k → j < last → slice_get others j ≡ slice_get targets j
  other_stays j ne below = get-take (slice_set targets k (slice_index_or targets last d)) last j below ∙ get-set_other targets k j (slice_index_or targets last d) ne

  last_moves : k < last → slice_get others k ≡ slice_get targets last
  last_moves below =
      get-take (slice_set targets k (slice_index_or targets last d)) last k below
      ∙ get-set_same targets k (slice_index_or targets last d) lt
      ∙ sym (slice_get-get_or targets last d (omega arith))

  none_past : (j : ℕ) → last ≤ j → slice_get others j ≡ None
  none_past j le = get-take_past (slice_set targets k (slice_index_or targets last d)) last j le

module _ (places : List (Option ℕ)) (targets : List Target) (slot k : ℕ) (d : Target) (tied : AreTied places targets) (stands : place_at places slot ≡ Some k) where
  abbrev rest : List Target
  rest = swap_remove targets k d

  abbrev end : ℕ
  end = length targets - 1

  abbrev emptied : List (Option ℕ)
  emptied = slice_set places slot None

  abbrev left : List (Option ℕ)
  left = mended emptied (slice_get rest k) k

  k_within : k < length targets
  k_within = target_within targets k slot (tied.there slot k stands)

  at_slot : place_at emptied slot ≡ None
  at_slot = get_or-set_same places slot None None (place_within places slot k stands)

  -- no other slot has the place that is taken
  not_taken : (s j : ℕ) → s ≢ slot → place_at places s ≡ Some j → j ≢ k
  not_taken s j ne e is_k = ne (same_number s slot (sym (tied.there s j e) ∙ ap (λ (i : ℕ). slot_of (slice_get targets i)) is_k ∙ tied.there slot k stands))

  -- the slot of the target that is moved
  module _ (moved : Target) (is : slice_get rest k ≡ Some moved) where
    below_end : k < end
    below_end = elim (cases_lt k end) [
      | inl below ↦ below
      | inr le ↦ absurd (no_target moved (sym (none_past targets k d k_within k le) ∙ is))
    ]

    was_last : slot_of (slice_get targets end) ≡ Some moved.slot
    was_last = ap slot_of (sym (last_moves targets k d k_within below_end) ∙ is)

    was_placed : place_at places moved.slot ≡ Some end
    was_placed = tied.back moved.slot end was_last

    not_slot : moved.slot ≢ slot
    not_slot e =
        let same : end ≡ k = same_number end k (sym was_placed ∙ ap (place_at places) e ∙ stands) in
        let below = below_end in
        omega (arith, same, below)

    inside_emptied : moved.slot < length emptied
    inside_emptied =
        let lt = place_within places moved.slot end was_placed in
        let long : length emptied ≡ length places = length-set places slot None in
        omega (arith, lt, long)

    abbrev mended_places : List (Option ℕ)
    mended_places = slice_set emptied moved.slot (Some k)

    -- a slot that isn't the one that is taken, and whose target isn't moved
    stays : (s : ℕ) → s ≢ slot → s ≢ moved.slot → place_at mended_places s ≡ place_at places s
    stays s ne ne' = get_or-set_other emptied moved.slot s (Some k) None ne' ∙ get_or-set_other places slot s None None ne

    at_moved : place_at mended_places moved.slot ≡ Some k
    at_moved = get_or-set_same emptied moved.slot (Some k) None inside_emptied

    now_empty : place_at mended_places slot ≡ None
    now_empty = get_or-set_other emptied moved.slot slot (Some k) None (λ e. not_slot (sym e)) ∙ at_slot

    -- the target of such a slot stays where it was
    target_stays : (s j : ℕ) → s ≢ slot → s ≢ moved.slot → place_at places s ≡ Some j → slice_get rest j ≡ slice_get targets j
    target_stays s j ne ne' e =
        let within = target_within targets j s (tied.there s j e) in
        let not_end : j ≢ end = λ is_end. ne' (same_number s moved.slot (sym (tied.there s j e) ∙ ap (λ (i : ℕ). slot_of (slice_get targets i)) is_end ∙ was_last)) in
        other_stays targets k d k_within j (not_taken s j ne e) (omega (arith, within, not_end))

    moved_there : (s j : ℕ) → place_at mended_places s ≡ Some j → slot_of (slice_get rest j) ≡ Some s
    moved_there s j e = elim (cases_eq s moved.slot) [
      | inl same ↦
          (let is_k : k ≡ j = same_number k j (sym at_moved ∙ sym (ap (place_at mended_places) same) ∙ e) in
          ap (λ (i : ℕ). slot_of (slice_get rest i)) (sym is_k) ∙ ap slot_of is ∙ ap (λ (m : ℕ). Some m) (sym same))
      | inr ne ↦ elim (cases_eq s slot) [
        | inl same ↦ absurd (no_number j (sym now_empty ∙ sym (ap (place_at mended_places) same) ∙ e))
        | inr ne' ↦
            (let old : place_at places s ≡ Some j = sym (stays s ne' ne) ∙ e in
            ap slot_of (target_stays s j ne' ne old) ∙ tied.there s j old)
      ]
    ]

    moved_back : (s j : ℕ) → slot_of (slice_get rest j) ≡ Some s → place_at mended_places s ≡ Some j
    moved_back s j e = elim (cases_eq j k) [
      | inl same ↦
          (let is_moved : moved.slot ≡ s = same_number moved.slot s (sym (ap slot_of is) ∙ sym (ap (λ (i : ℕ). slot_of (slice_get rest i)) same) ∙ e) in
          ap (place_at mended_places) (sym is_moved) ∙ at_moved ∙ ap (λ (m : ℕ). Some m) (sym same))
      | inr ne ↦ elim (cases_lt j end) [
        | inl below ↦
            (let old : place_at places s ≡ Some j = tied.back s j (ap slot_of (sym (other_stays targets k d k_within j ne below)) ∙ e) in
            let not_this : s ≢ slot = λ same. ne (same_number j k (sym old ∙ ap (place_at places) same ∙ stands)) in
            let not_that : s ≢ moved.slot = λ same. (let is_end : j ≡ end = same_number j end (sym old ∙ ap (place_at places) same ∙ was_placed) in omega (arith, below, is_end)) in
            stays s not_this not_that ∙ old)
        | inr le ↦ absurd (no_number s (ap slot_of (sym (none_past targets k d k_within j le)) ∙ e))
      ]
    ]

    moved_tied : AreTied mended_places rest
    moved_tied = record { there = moved_there; back = moved_back }

    moved_kept : (at : ℕ) → at ≢ slot → kinds_in rest (place_at mended_places at) ≡ kinds_in targets (place_at places at)
    moved_kept at ne = elim (cases_eq at moved.slot) [
      | inl same ↦
          (ap (kinds_in rest) (ap (place_at mended_places) same ∙ at_moved)
          ∙ ap kinds_of (last_moves targets k d k_within below_end)
          ∙ sym (ap (kinds_in targets) (ap (place_at places) same ∙ was_placed)))
      | inr ne' ↦
          (ap (kinds_in rest) (stays at ne ne')
          ∙ same_in targets rest (place_at places at) (λ j e. target_stays at j ne ne' e))
    ]

  -- the target that is taken was the last
  module _ (is : slice_get rest k ≡ None) where
    is_end : k ≡ end
    is_end = elim (cases_lt k end) [
      | inl below ↦ absurd (no_target (slice_index_or targets end d) (sym is ∙ last_moves targets k d k_within below ∙ slice_get-get_or targets end d (omega arith)))
      | inr le ↦ (let within = k_within in omega (arith, within, le))
    ]

    emptied_other : (s : ℕ) → s ≢ slot → place_at emptied s ≡ place_at places s
    emptied_other s ne = get_or-set_other places slot s None None ne

    stays_there : (s j : ℕ) → s ≢ slot → place_at places s ≡ Some j → slice_get rest j ≡ slice_get targets j
    stays_there s j ne e =
        let within = target_within targets j s (tied.there s j e) in
        let not_k = not_taken s j ne e in
        let k_is = is_end in
        other_stays targets k d k_within j not_k (omega (arith, within, not_k, k_is))

    last_there : (s j : ℕ) → place_at emptied s ≡ Some j → slot_of (slice_get rest j) ≡ Some s
    last_there s j e = elim (cases_eq s slot) [
      | inl same ↦ absurd (no_number j (sym at_slot ∙ sym (ap (place_at emptied) same) ∙ e))
      | inr ne ↦ (let old : place_at places s ≡ Some j = sym (emptied_other s ne) ∙ e in ap slot_of (stays_there s j ne old) ∙ tied.there s j old)
    ]

    last_back : (s j : ℕ) → slot_of (slice_get rest j) ≡ Some s → place_at emptied s ≡ Some j
    last_back s j e = elim (cases_lt j end) [
      | inl below ↦
          (let k_is = is_end in
          let ne : j ≢ k = omega (arith, below, k_is) in
          let old : place_at places s ≡ Some j = tied.back s j (ap slot_of (sym (other_stays targets k d k_within j ne below)) ∙ e) in
          emptied_other s (λ same. ne (same_number j k (sym old ∙ ap (place_at places) same ∙ stands))) ∙ old)
      | inr le ↦ absurd (no_number s (ap slot_of (sym (none_past targets k d k_within j le)) ∙ e))
    ]

    last_tied : AreTied emptied rest
    last_tied = record { there = last_there; back = last_back }

    last_kept : (at : ℕ) → at ≢ slot → kinds_in rest (place_at emptied at) ≡ kinds_in targets (place_at places at)
    last_kept at ne = ap (kinds_in rest) (emptied_other at ne) ∙ same_in targets rest (place_at places at) (λ j e. stays_there at j ne e)

  -- either way
  tied_by : (o : Option Target) → slice_get rest k ≡ o → AreTied (mended emptied o k) rest
  tied_by None is = last_tied is
  tied_by (Some moved) is = moved_tied moved is

  pub taken_tied : AreTied left rest
  taken_tied = tied_by (slice_get rest k) refl

  empty_by : (o : Option Target) → slice_get rest k ≡ o → place_at (mended emptied o k) slot ≡ None
  empty_by None is = at_slot
  empty_by (Some moved) is = now_empty moved is

  kept_by : (o : Option Target) → slice_get rest k ≡ o → (at : ℕ) → at ≢ slot
      → kinds_in rest (place_at (mended emptied o k) at) ≡ kinds_in targets (place_at places at)
  kept_by None is at ne = last_kept is at ne
  kept_by (Some moved) is at ne = moved_kept moved is at ne

  pub taken_kept : (at : ℕ) → kept (table_of left rest) at ≡ cond (eqb at slot) None (kept (table_of places targets) at)
  taken_kept at = elim (cases_eq at slot) [
    | inl same ↦
        (kept_none left rest at (ap (place_at left) same ∙ empty_by (slice_get rest k) refl)
        ∙ sym (ap (λ (b : Bool). cond b None (kept (table_of places targets) at)) (eq-eqb at slot same)))
    | inr ne ↦
        (same_kept places left targets rest at (kept_by (slice_get rest k) refl at ne)
        ∙ sym (ap (λ (b : Bool). cond b None (kept (table_of places targets) at)) (ne_eqb at slot ne)))
  ]

  inside_by : (o : Option Target) → slice_get rest k ≡ o → IfSome o (λ moved. moved.slot < length emptied)
  inside_by None is = tt
  inside_by (Some moved) is = inside_emptied moved is

  -- the slot of a target that is moved is one of the code
  pub moved_inside : IfSome (slice_get rest k) (λ moved. moved.slot < length emptied)
  moved_inside = inside_by (slice_get rest k) refl
