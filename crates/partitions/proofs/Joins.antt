-- One slot more names a data component of the partition of its procedure's first slot.
use Rattle.std.proofs.Common.{arith, ◌≡◌, ◌∙◌, ◌<◌, ◌≤◌, ℕ, ◌+◌, List, [], ◌∷◌, ◌++◌, length, take, get_or, min, refl, sym, ap, subst}
use Rattle.std.specs.Prelude.{◌⊎◌, All, Some, slice_get}
use Rattle.std.proofs.Common.{inl, inr}
use Rattle.std.proofs.lemmas.List.{get_or_append_left, get_or_push, length-append, take_all}
use Rattle.std.proofs.lemmas.List.Elements.{All-more, All-nil, All-push, All-take}
use Rattle.access_slots.specs.declared.slot.Slot.{Slot}
use Rattle.access_slots.specs.Declaration.{Declaration}
use Rattle.partitions.specs.Partitions.{partition_at, partition_of, IsWithin, Separates, Reaches, AllReach, ArePartitions}
use Rattle.partitions.specs.Joining.Merging.{renamed, AreJoined}

-- ---- the number of a partition where those of two numbers become one

renamed_one : (a b : ℕ) → renamed a b a ≡ min a b
renamed_one a b = grind arith

renamed_other : (a b : ℕ) → renamed a b b ≡ min a b
renamed_other a b = grind arith

renamed_low : (a b x : ℕ) → renamed a b x ≤ x
renamed_low a b x = grind arith

renamed_again : (a b x : ℕ) → renamed a b (renamed a b x) ≡ renamed a b x
renamed_again a b x = grind arith

-- it stays, or is one of both
renamed_is : (a b x : ℕ) → (renamed a b x ≡ x) ⊎ ((renamed a b x ≡ a) ⊎ (renamed a b x ≡ b))
renamed_is a b x = grind arith

-- two numbers that become one are one, or are these two
renamed_same : (a b x y : ℕ) → renamed a b x ≡ renamed a b y
    → (x ≡ y) ⊎ (((x ≡ a) × (y ≡ b)) ⊎ ((x ≡ b) × (y ≡ a)))
renamed_same a b x y same = grind arith

-- ---- what is within one partition stays so

within_kept : (f : ℕ → ℕ) (dcs : ℕ) (old new : List ℕ) (slots : List Slot) → ((dc : ℕ) → dc < dcs → partition_at new dc ≡ f (partition_at old dc))
    → Reaches dcs slots → IsWithin old slots → IsWithin new slots
within_kept f dcs old new [] same reach within = λ k d lt. absurd (omega (arith, lt))
within_kept f dcs old new (s ∷ slots) same reach within = λ k d lt.
    same (get_or (s ∷ slots) k d).dc (reach k d lt) ∙ (ap f (within k d lt) ∙ sym (same s.dc (reach 0 s (omega arith))))

-- the partition of a procedure is that of its first slot
pub first_is : (numbers : List ℕ) (slots : List Slot) (s : Slot) → slice_get slots 0 ≡ Some s → partition_of numbers slots ≡ partition_at numbers s.dc
first_is numbers [] s is = absurd (cc)
first_is numbers (x ∷ slots) s is = let same : x ≡ s = cc in ap (λ (y : Slot). partition_at numbers y.dc) same

-- its first slot names a data component that is there
pub first_low : (dcs : ℕ) (slots : List Slot) (s : Slot) → slice_get slots 0 ≡ Some s → Reaches dcs slots → s.dc < dcs
first_low dcs [] s is reaches = absurd (cc)
first_low dcs (x ∷ slots) s is reaches = let same : x ≡ s = cc in subst (λ (y : Slot). y.dc < dcs) same (reaches 0 x (omega arith))

module _ (dcs : ℕ) (decls : List Declaration) (slots : List Slot) (first : ℕ) (reach : AllReach dcs decls) (reaches : Reaches dcs slots)
    (of_first : (numbers : List ℕ) → partition_of numbers slots ≡ partition_at numbers first) (low : first < dcs) where
  -- none of the slots is looked at yet
  pub not_joined : (numbers : List ℕ) → ArePartitions dcs decls numbers → AreJoined dcs decls slots first 0 numbers
  not_joined numbers are = record {
    each = are.each;
    separate = are.separate;
    within = All-nil (λ (slot : Slot). partition_at numbers slot.dc ≡ partition_at numbers first);
    finest = λ other apart within. are.finest other apart;
    lowest = are.first;
  }

  pub one_joined : (count : ℕ) (d : Slot) (one other : ℕ) (old new : List ℕ) → count < length slots → one ≡ partition_at old first
      → other ≡ partition_at old (get_or slots count d).dc → length new ≡ length old
      → ((dc : ℕ) → dc < length old → partition_at new dc ≡ renamed one other (partition_at old dc))
      → AreJoined dcs decls slots first count old → AreJoined dcs decls slots first (count + 1) new
  one_joined count d one other old new lt one_is other_is long renames h =
      let slot = get_or slots count d in
      let here : slot.dc < dcs = reaches count d lt in
      let same : (dc : ℕ) → dc < dcs → partition_at new dc ≡ renamed one other (partition_at old dc) =
      λ dc below. renames dc (subst (λ (n : ℕ). dc < n) (sym h.each) below) in
      let new_first : partition_at new first ≡ min one other =
      same first low ∙ (ap (renamed one other) (sym one_is) ∙ renamed_one one other) in
      let new_slot : partition_at new slot.dc ≡ partition_at new first =
      same slot.dc here ∙ (ap (renamed one other) (sym other_is) ∙ (renamed_other one other ∙ sym new_first)) in
      let fixed : (dc : ℕ) → dc < dcs → partition_at old (partition_at new dc) ≡ partition_at new dc = λ dc below.
      subst (λ (n : ℕ). partition_at old n ≡ n) (sym (same dc below)) (stays old one other slot.dc one_is other_is here h.lowest dc below) in
      record {
        each = long ∙ h.each;
        separate = λ k e within. within_kept (renamed one other) dcs old new (get_or decls k e).slots same (reach k e within) (h.separate k e within);
        within = All-more (λ (s : Slot). partition_at new s.dc ≡ partition_at new first) slots count d lt
            (λ k e below. same (get_or (take count slots) k e).dc (All-take (λ (s : Slot). s.dc < dcs) count slots reaches k e below)
            ∙ (ap (renamed one other) (h.within k e below) ∙ sym (same first low)))
            new_slot;
        finest = λ apart separate within a b below_a below_b joined.
            let old_joined = sym (same a below_a) ∙ (joined ∙ same b below_b) in
            let near : partition_at apart slot.dc ≡ partition_at apart first = within count d lt ∙ of_first apart in
            elim (renamed_same one other (partition_at old a) (partition_at old b) old_joined) [
              | inl at_once ↦ h.finest apart separate within a b below_a below_b at_once
              | inr crossed ↦ elim crossed [
                | inl way ↦ h.finest apart separate within a first below_a low (way.0 ∙ one_is)
                    ∙ (sym near ∙ sym (h.finest apart separate within b slot.dc below_b here (way.1 ∙ other_is)))
                | inr back ↦ h.finest apart separate within a slot.dc below_a here (back.0 ∙ other_is)
                    ∙ (near ∙ sym (h.finest apart separate within b first below_b low (back.1 ∙ one_is)))
              ]
            ];
        lowest = λ dc below.
            let less : partition_at new dc ≤ dc =
            omega (arith, same dc below, renamed_low one other (partition_at old dc), (h.lowest dc below).0) in (
              less,
              same (partition_at new dc) (omega (arith, less, below))
                  ∙ (ap (renamed one other) (fixed dc below ∙ same dc below) ∙ (renamed_again one other (partition_at old dc) ∙ sym (same dc below))),
            );
      }
    where
      stays : (old : List ℕ) (one other slot : ℕ) → one ≡ partition_at old first → other ≡ partition_at old slot → slot < dcs
          → ((dc : ℕ) → dc < dcs → (partition_at old dc ≤ dc) × (partition_at old (partition_at old dc) ≡ partition_at old dc))
          → (dc : ℕ) → dc < dcs
          → partition_at old (renamed one other (partition_at old dc)) ≡ renamed one other (partition_at old dc)
      stays old one other slot one_is other_is here lowest dc below =
          elim (renamed_is one other (partition_at old dc)) [
            | inl own ↦ subst (λ (n : ℕ). partition_at old n ≡ n) (sym own) (lowest dc below).1
            | inr others ↦ elim others [
              | inl first_one ↦ subst (λ (n : ℕ). partition_at old n ≡ n) (sym (first_one ∙ one_is)) (lowest first low).1
              | inr second ↦ subst (λ (n : ℕ). partition_at old n ≡ n) (sym (second ∙ other_is)) (lowest slot here).1
            ]
          ]

-- ---- a procedure is taken in

-- what all procedures and one more separate is what they separate
before_separate : (other : List ℕ) (decls : List Declaration) (decl : Declaration) → Separates other (decls ++ decl ∷ []) → Separates other decls
before_separate other decls decl apart = λ k d lt.
    subst (λ (q : Declaration). IsWithin other q.slots) (get_or_append_left decls (decl ∷ []) d k lt) (apart k d (longer decls decl k lt))
  where
    longer : (ds : List Declaration) (q : Declaration) (k : ℕ) → k < length ds → k < length (ds ++ q ∷ [])
    longer ds q k lt = omega (arith, lt, length-append ds (q ∷ []))

last_separate : (other : List ℕ) (decls : List Declaration) (decl : Declaration) → Separates other (decls ++ decl ∷ []) → IsWithin other decl.slots
last_separate other decls decl apart =
    subst (λ (q : Declaration). IsWithin other q.slots) (get_or_push decls decl decl (length decls) refl) (apart (length decls) decl (longest decls decl))
  where
    longest : (ds : List Declaration) (q : Declaration) → length ds < length (ds ++ q ∷ [])
    longest ds q = omega (arith, length-append ds (q ∷ []))

-- all of its slots are looked at
pub taken_in : (dcs : ℕ) (decls : List Declaration) (decl : Declaration) (first count : ℕ) (numbers : List ℕ) → length decl.slots ≤ count
    → partition_of numbers decl.slots ≡ partition_at numbers first → AreJoined dcs decls decl.slots first count numbers
    → ArePartitions dcs (decls ++ decl ∷ []) numbers
taken_in dcs decls decl first count numbers all of_first h = record {
  each = h.each;
  separate = All-push (λ (q : Declaration). IsWithin numbers q.slots) decls decl h.separate
      (λ k d lt. subst (λ (p : ℕ). partition_at numbers (get_or decl.slots k d).dc ≡ p) (sym of_first)
      (subst (λ (xs : List Slot). All (λ (s : Slot). partition_at numbers s.dc ≡ partition_at numbers first) xs) (take_all count decl.slots all) h.within k d lt));
  finest = λ other apart. h.finest other (before_separate other decls decl apart) (last_separate other decls decl apart);
  first = h.lowest;
}
