-- A journal that is there or isn't.
use Rattle.std.specs.Prelude.{ℕ, Bool, false, List, [], Option, None, Some}
use Rattle.tc_log.specs.declared.event.Event.{Event}
use Rattle.journals.specs.declared.journal.NotKept.{NotKept as Why}

-- none keeps anything
abbrev pub any_keeps : {K : Type 0} → (K → Bool) → Option K → Bool
any_keeps keeps None = false
any_keeps keeps (Some journal) = keeps journal

abbrev pub any_has : {K : Type 0} → (K → List Event → Type 0) → Option K → List Event → Type 0
any_has has None events = ⊥
any_has has (Some journal) events = has journal events

abbrev pub any_moment : {K : Type 0} → (K → ℕ) → Option K → ℕ
any_moment moment None = 0
any_moment moment (Some journal) = moment journal

abbrev pub any_left : {K : Type 0} → (K → ℕ → List ℕ → Type 0) → Option K → ℕ → List ℕ → Type 0
any_left left_since None since left = ⊥
any_left left_since (Some journal) since left = left_since journal since left

abbrev pub any_leaves : {K : Type 0} → (K → List Event → List Event → List ℕ → Type 0) → Option K → List Event → List Event → List ℕ → Type 0
any_leaves leaves None before more left = ⊥
any_leaves leaves (Some journal) before more left = leaves journal before more left

-- what is said of one is said by the same one later
abbrev pub any_fails : {K : Type 0} → (K → Why → K → Type 0) → Option K → Why → Option K → Type 0
any_fails fails None why None = Unit {0}
any_fails fails None why (Some after) = ⊥
any_fails fails (Some before) why None = ⊥
any_fails fails (Some before) why (Some after) = fails before why after

-- a crash at this moment leaves what is kept, if that is so of the one that is there
pub any_now : {K : Type 0} (has : K → List Event → Type 0) (moment : K → ℕ) (left_since : K → ℕ → List ℕ → Type 0)
    (leaves : K → List Event → List Event → List ℕ → Type 0)
    → ((journal : K) (events : List Event) (left : List ℕ) → has journal events → left_since journal (moment journal) left → leaves journal events [] left)
    → (journal : Option K) (events : List Event) (left : List ℕ) → any_has has journal events
    → any_left left_since journal (any_moment moment journal) left → any_leaves leaves journal events [] left
any_now has moment left_since leaves law None events left kept now = now
any_now has moment left_since leaves law (Some journal) events left kept now = law journal events left kept now
