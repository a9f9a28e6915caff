-- Data components that hear a mark, keep what they have, and forget it.
use Rattle.std.proofs.Common.{◌≡◌, ◌≢◌, ℕ, zero, suc, ◌+◌, ◌<◌, ◌≤◌, Bool, true, false}
use Rattle.std.proofs.Common.{◌&&◌, List, [], ◌∷◌, ◌++◌, length, inl, inr, Option, Some}
use Rattle.std.proofs.Common.{None, arith, refl, sym, ◌∙◌, ap, subst, ◌==◌, if◌then◌else◌}
use Rattle.std.specs.Prelude.{slice_get, slice_set, nat_le, reverse}
use Rattle.std.proofs.lemmas.Bool.{cases_lt, leb-true, le-leb, and_parts, and_from}
use Rattle.tc_log.specs.declared.event.Event.{Event}
use Rattle.history.specs.Calls.{admitted}
use Rattle.history.specs.Flight.{open_op, given, low_water}
use Rattle.history.specs.Anew.{begun, anew}
use Rattle.verifier.specs.Checked.{Checked}
use Rattle.transactions.specs.declared.Redoing.{Redoing}
use Rattle.transactions.specs.declared.Site.{Site}
use Rattle.transactions.specs.InFlight.{site_at}
use Rattle.transactions.specs.Legal.{Legal}
use Rattle.transactions.specs.Alike.{IsAtRest}
use Rattle.transactions.proofs.Alike.{begins_alike, low_water_alike}
use Rattle.transactions.proofs.StandingLemmas.{some_same, none_some, eq-true}
use Rattle.data_component.specs.Performed.{Performed, count, all_at_most}
use Rattle.data_component.specs.Store.{Store, raised, marked, heard, checkpointed as kept, may_forget, HasForgotten}
use Rattle.serial.proofs.SitesLemmas.{set_same, set_other}
use Rattle.tc_core.specs.Replies.{is_up}
use Rattle.tc_core.proofs.KeptLemmas.{slice_get-short}
use Rattle.tc_core.specs.Checkpointing.{are_up, have_kept}
use Rattle.tc_world.specs.Cutting.{kept_by, kept_at, marks_from, can_forget, IsForgotten, AreForgotten}
use Rattle.tc_world.specs.Joining.Forgetting.{IsForgottenIn}
use Rattle.tc_world.proofs.LookingLemmas.{all_reverse}
use Rattle.tc_world.specs.Marks.{HasJustBegun, AtFirst, AtCheckpoint}

-- ---- lists

-- of as many there is one at the same place
pub as_many : {X : Type 0} (xs ys : List X) (k : ℕ) (x : X) → length xs ≡ length ys → slice_get ys k ≡ Some x → (y : X) × (slice_get xs k ≡ Some y)
as_many xs [] k x same at = absurd (none_some _ x refl at)
as_many [] (y ∷ ys) k x same at = absurd (omega (arith, same))
as_many (z ∷ xs) (y ∷ ys) zero x same at = (z, refl)
as_many (z ∷ xs) (y ∷ ys) (suc k) x same at = as_many xs ys k x (omega (arith, same)) at

up_is : (r : Option Redoing) → is_up r ≡ true → r ≡ None
up_is None is = refl
up_is (Some r) is = absurd (let bad : false ≡ true = is in cc)

pub up_all : (sites : List Site) (d : ℕ) → are_up sites ≡ true → (site_at sites d).redo ≡ None
up_all [] d all = refl
up_all (t ∷ sites) zero all = up_is t.redo (and_parts _ _ all).0
up_all (t ∷ sites) (suc d) all = up_all sites d (and_parts _ _ all).1

-- each has kept what all have
pub each_kept : (n low : ℕ) (sites : List Site) (e : ℕ) (dcs : List Store) → have_kept n (marks_from low sites e dcs) ≡ true
    → (k : ℕ) (s : Store) → slice_get dcs k ≡ Some s → n ≤ (kept_at low sites (e + k) s).saved_mark
each_kept n low sites e [] all k s at = absurd (none_some _ s refl at)
each_kept n low sites e (x ∷ dcs) all zero s at =
    let here : e ≡ e + 0 = omega arith in
    subst (λ (i : ℕ). n ≤ (kept_at low sites i s).saved_mark) here
    (subst (λ (y : Store). n ≤ (kept_at low sites e y).saved_mark) (some_same x s at) (leb-true n (kept_at low sites e x).saved_mark (and_parts _ _ all).0))
each_kept n low sites e (x ∷ dcs) all (suc k) s at =
    let next : suc e + k ≡ e + suc k = omega arith in
    subst (λ (i : ℕ). n ≤ (kept_at low sites i s).saved_mark) next (each_kept n low sites (suc e) dcs (and_parts _ _ all).1 k s at)

-- ---- a mark that is heard

raised_low : (a b m : ℕ) → a ≤ m → b ≤ m → raised a b ≤ m
raised_low a b m few low = by (nat_le a b)
  where
    by : (t : Bool) → (if t then b else a) ≤ m
    by true = low
    by false = few

pub heard_incarnation : (s : Store) (incarnation low : ℕ) → (heard s incarnation low).incarnation ≡ s.incarnation
heard_incarnation s incarnation low = by (s.incarnation == incarnation)
  where
    by : (b : Bool) → (if b then marked s low else s).incarnation ≡ s.incarnation
    by true = refl
    by false = refl

pub heard_low : (s : Store) (incarnation low m : ℕ) → s.mark ≤ m → low ≤ m → (heard s incarnation low).mark ≤ m
heard_low s incarnation low m few under = by (s.incarnation == incarnation)
  where
    by : (b : Bool) → (if b then marked s low else s).mark ≤ m
    by true = raised_low s.mark low m few under
    by false = few

-- ---- what has forgotten

pub record HasForgottenTo (mark : ℕ) (s t : Store) : Type 0 where
  pub base_mark : t.base_mark ≡ mark
  pub list : t.list ≡ []
  pub saved : t.saved ≡ []
  pub mark_is : t.mark ≡ mark
  pub saved_mark : t.saved_mark ≡ mark
  pub incarnation : t.incarnation ≡ s.incarnation

pub forgotten_to : (low incarnation : ℕ) (s t : Store) → HasForgotten (kept_by low incarnation s) t → HasForgottenTo (heard s incarnation low).mark s t
forgotten_to low incarnation s t is = record {
  base_mark = ap (λ (z : Store). z.base_mark) is.rest;
  list = ap (λ (z : Store). z.list) is.rest;
  saved = ap (λ (z : Store). z.saved) is.rest;
  mark_is = ap (λ (z : Store). z.mark) is.rest;
  saved_mark = ap (λ (z : Store). z.saved_mark) is.rest;
  incarnation = ap (λ (z : Store). z.incarnation) is.rest ∙ heard_incarnation s incarnation low;
}

-- the one of which it has become
pub record WasKept (low : ℕ) (sites : List Site) (d : ℕ) (olds : List Store) (t : Store) : Type 0 where
  pub s : Store
  pub at : slice_get olds d ≡ Some s
  pub forgotten : HasForgotten (kept_at low sites d s) t

pub was_kept : (low : ℕ) (sites : List Site) (olds news : List Store) (d : ℕ) (t : Store) → AreForgotten low sites olds news → slice_get news d ≡ Some t
    → WasKept low sites d olds t
was_kept low sites olds news d t are at =
    let s = as_many olds news d t (sym are.count) at in
    let is = are.each d s.0 s.1 in
    record { s = s.0; at = s.1; forgotten = subst (HasForgotten (kept_at low sites d s.0)) (some_same is.t t (sym is.at ∙ at)) is.forgotten }

-- ---- the log that begins anew

pub begun_behind : (h : List Event) → begun (anew h) ≡ given h
begun_behind [] = refl
begun_behind (e ∷ h) = refl

pub same_given : (h : List Event) → given (anew h) ≡ given h
same_given [] = refl
same_given (e ∷ h) = refl

pub none_open : (h : List Event) (n : ℕ) → open_op (anew h) n ≡ None
none_open [] n = refl
none_open (e ∷ h) n = refl

pub same_low : (ps : List Checked) (h : List Event) → Legal ps h → IsAtRest h → low_water h ≡ low_water (anew h)
same_low ps h legal rest = low_water_alike (given h) h (anew h) (begins_alike ps h legal rest)

pub anew_just : (ps : List Checked) (h : List Event) → Legal ps (anew h) → HasJustBegun (anew h)
anew_just ps [] legal = AtFirst refl
anew_just ps (e ∷ h) legal = AtCheckpoint (admitted (e ∷ h)) (given (e ∷ h)) legal.0.few_admitted legal.0.few_given refl

-- ---- one data component after another

pub marks_more : (low : ℕ) (sites : List Site) (e : ℕ) (xs : List Store) (x : Store)
    → marks_from low sites e (xs ++ x ∷ []) ≡ marks_from low sites e xs ++ (kept_at low sites (e + length xs) x).saved_mark ∷ []
marks_more low sites e [] x =
    let here : e ≡ e + 0 = omega arith in
    ap (λ (i : ℕ). (kept_at low sites i x).saved_mark ∷ []) here
marks_more low sites e (y ∷ xs) x =
    let next : suc e + length xs ≡ e + suc (length xs) = omega arith in
    ap (λ (ms : List ℕ). (kept_at low sites e y).saved_mark ∷ ms) (marks_more low sites (suc e) xs x)
    ∙ ap (λ (i : ℕ). (kept_at low sites e y).saved_mark ∷ (marks_from low sites (suc e) xs ++ (kept_at low sites i x).saved_mark ∷ [])) next

-- the first n have forgotten, and the others are as they were
pub record AreForgottenTo (low : ℕ) (sites : List Site) (n : ℕ) (olds news : List Store) : Type 0 where
  pub count : length news ≡ length olds
  pub before : (d : ℕ) (s : Store) → slice_get olds d ≡ Some s → d < n → IsForgotten low sites d s news
  pub still : (d : ℕ) (s : Store) → slice_get olds d ≡ Some s → n ≤ d → slice_get news d ≡ Some s

pub none_forgotten : (low : ℕ) (sites : List Site) (olds : List Store) → AreForgottenTo low sites 0 olds olds
none_forgotten low sites olds = record { count = refl; before = λ d s at less. absurd (omega (arith, less)); still = λ d s at few. at }

set_count : (xs : List Store) (k : ℕ) (x : Store) → length (slice_set xs k x) ≡ length xs
set_count [] k x = refl
set_count (y ∷ xs) zero x = refl
set_count (y ∷ xs) (suc k) x = ap (λ (n : ℕ). suc n) (set_count xs k x)

pub one_forgotten : (low : ℕ) (sites : List Site) (n : ℕ) (olds news : List Store) (s t : Store)
    → AreForgottenTo low sites n olds news → slice_get olds n ≡ Some s
    → HasForgotten (kept_at low sites n s) t → AreForgottenTo low sites (n + 1) olds (slice_set news n t)
one_forgotten low sites n olds news s t are at is = record {
  count = set_count news n t ∙ are.count;
  before = λ d x at' less. elim (cases_lt d n) [
    | inl low ↦
        let was = are.before d x at' low in
        let other : n ≢ d = omega (arith, low) in
        record { t = was.t; at = set_other news n d t other ∙ was.at; forgotten = was.forgotten }
    | inr up ↦
        let same : n ≡ d = omega (arith, less, up) in
        let one : s ≡ x = some_same s x (sym at ∙ (ap (slice_get olds) same ∙ at')) in
        subst (λ (i : ℕ). IsForgotten low sites i x (slice_set news n t)) same (record {
          t = t;
          at = set_same news n s t (are.still n s at (omega arith));
          forgotten = subst (λ (y : Store). HasForgotten (kept_at low sites n y) t) one is;
        })
  ];
  still = λ d x at' few.
      let other : n ≢ d = omega (arith, few) in
      set_other news n d t other ∙ are.still d x at' (omega (arith, few));
}

pub all_forgotten : (low : ℕ) (sites : List Site) (n : ℕ) (olds news : List Store) → length olds ≤ n
    → AreForgottenTo low sites n olds news → AreForgotten low sites olds news
all_forgotten low sites n olds news all are = record {
  count = are.count;
  each = λ d s at. are.before d s at (let few = slice_get-short olds d s at in omega (arith, few, all));
}

-- ---- what can forget

more_at_most : (a b : ℕ) (list : List Performed) → a ≤ b → all_at_most a list ≡ true → all_at_most b list ≡ true
more_at_most a b [] le all = refl
more_at_most a b (e ∷ list) le all =
    let parts = and_parts _ _ all in
    let few = leb-true e.0 a parts.0 in
    and_from _ _ (le-leb e.0 b (omega (arith, few, le))) (more_at_most a b list le parts.1)

kept_forgets : (low : ℕ) (s : Store) → can_forget low s ≡ true → low ≤ s.mark → may_forget (kept s) ≡ true
kept_forgets low s can up =
    let parts = and_parts _ _ can in
    and_from _ _ (and_from _ _ (eq-true (length s.list) (length s.list) refl) parts.0) (more_at_most low s.mark s.list up parts.1)

-- where each number is at or under a mark that it hears or keeps
pub may_forget_kept : (low incarnation : ℕ) (s : Store) → can_forget low s ≡ true → low ≤ (kept_by low incarnation s).saved_mark
    → may_forget (kept_by low incarnation s) ≡ true
may_forget_kept low incarnation s can up = by (s.incarnation == incarnation) up
  where
    by : (b : Bool) → low ≤ (if b then marked s low else s).mark → may_forget (kept (if b then marked s low else s)) ≡ true
    by true up' = kept_forgets low (marked s low) can up'
    by false up' = kept_forgets low s can up'

-- ---- one in place of another

there_is : (xs : List Store) (k : ℕ) → k < length xs → (x : Store) × (slice_get xs k ≡ Some x)
there_is [] k inside = absurd (omega (arith, inside))
there_is (x ∷ xs) zero inside = (x, refl)
there_is (x ∷ xs) (suc k) inside = there_is xs k (omega (arith, inside))

pub one_set : (low : ℕ) (sites : List Site) (n : ℕ) (olds mids news : List Store) → AreForgottenTo low sites n olds mids → n < length olds
    → ((s : Store) → slice_get mids n ≡ Some s → IsForgottenIn (kept_at low sites n s) n mids news) → AreForgottenTo low sites (n + 1) olds news
one_set low sites n olds mids news are inside sets =
    let s = there_is olds n inside in
    let set = sets s.0 (are.still n s.0 s.1 (omega arith)) in
    subst (AreForgottenTo low sites (n + 1) olds) (sym set.is) (one_forgotten low sites n olds mids s.0 set.t are s.1 set.forgotten)

pub can_by : (low : ℕ) (s : Store) (b : Bool) → count s.base s.list ≤ s.rows → b ≡ all_at_most low (reverse s.list) → b ≡ can_forget low s
can_by low s b few is =
    is ∙ (all_reverse (λ (e : Performed). nat_le e.0 low) s.list
    ∙ ap (λ (t : Bool). t && all_at_most low s.list) (sym (le-leb (count s.base s.list) s.rows few)))
