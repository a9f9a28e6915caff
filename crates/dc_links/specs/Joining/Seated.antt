-- Whose component is served in a seat, and who has the seat in hands.
use Rattle.std.specs.Prelude.{◌≡◌, ◌≢◌, ℕ, List, [], ◌∷◌, Option, None, Some}
use mathlib.Core.Option as maybe
use mathlib.Core.Option.{none, some}
use lib.ListN.{get_elem?}
use Rattle.atomic_table.specs.Table.{State, Me, Step}
use Rattle.data_component.specs.Store.{Store}
use Rattle.dc_links.specs.declared.served.Served.{Served}
use Rattle.dc_links.specs.declared.served.Began.{Began}
use Rattle.dc_links.specs.declared.served.Part.{Part}
use Rattle.dc_links.specs.declared.served.Part.TheVariants.{Away, Sits, Holds}
use Rattle.dc_links.specs.Serving.{IsServed}

-- a component that began so lies there, behind wires that were for it; or none does, where none began
abbrev pub IsOf : Option Began → Option Served → Type 0
IsOf None lying = lying ≡ None
IsOf (Some began) lying = (dc : Store) × (lying ≡ Some (record { number = began.number; dc = dc })) × IsServed began.number began.first dc

-- what lies there has performed some wires, and nothing else happened to it
abbrev pub GoesOn : Option Served → Option Served → Type 0
GoesOn None after = after ≡ None
GoesOn (Some served) after = (dc : Store) × (after ≡ Some (record { number = served.number; dc = dc }))
    × IsServed served.number served.dc dc

-- as what the component of the seat's owner began, if the seat has one
abbrev pub owned : Option (ℕ × Began) → Option Began
owned None = None
owned (Some owner) = Some owner.1

-- whether somebody has the seat in hands
abbrev pub word_of : Option ℕ → ℕ
word_of None = 0
word_of (Some holder) = 1

-- what lies in the seat is the owner's; while somebody has it in hands, nothing lies there
abbrev pub Lies : Option Began → Option ℕ → List (maybe.Option (Option Served)) → Type 0
Lies began None homes = (lying : Option Served) × (homes ≡ some lying ∷ []) × IsOf began lying
Lies began (Some holder) homes = homes ≡ none ∷ []

-- what a thread knows by its part
abbrev pub Knows : Option (ℕ × Began) → Option ℕ → ℕ → Part → Type 0
Knows owner holder pass Away = Unit {0}
Knows owner holder pass (Sits began) = owner ≡ Some (pass, began)
Knows owner holder pass (Holds began) = (holder ≡ Some pass) × (owned owner ≡ began)

-- one component at a time is served, for its owner, and one thread at a time has the seat in hands
pub record IsSeat (s : State (Option Served) Part) : Type 0 where
  pub owner : Option (ℕ × Began)
  pub holder : Option ℕ
  pub word : s.words ≡ word_of holder ∷ []
  pub lies : Lies (owned owner) holder s.homes
  pub knows : (pass : ℕ) (part : Part) → get_elem? s.views pass ≡ some part → Knows owner holder pass part

abbrev pub Standing : Type 0
Standing = Me (Option Served) Part

-- its component is served there
abbrev pub sitting : Began → Standing
sitting began = (Sits began, [])

-- it has the seat in hands, with what lies there
abbrev pub holding : Option Began → Option Served → Standing
holding began lying = (Holds began, (0, lying) ∷ [])

-- the same, and that is the owner's
abbrev pub IsHolding : Standing → Type 0
IsHolding me = (began : Option Began) × (lying : Option Served) × (me ≡ holding began lying) × IsOf began lying

-- who comes has it in hands, where it was free
abbrev pub taken : Step (Option Served) → Standing → ℕ → Standing → Type 0
taken st before found after = found ≡ 0 → IsHolding after

-- the owner has it in hands with its component, and is the owner no longer
abbrev pub HasRisen : Standing → Standing → Type 0
HasRisen before after = (began : Began) × (lying : Option Served) × (before ≡ sitting began)
    × (after ≡ holding None lying) × IsOf (Some began) lying

-- so it is where it was free
abbrev pub risen : Step (Option Served) → Standing → ℕ → Standing → Type 0
risen st before found after = (found ≡ 0 → HasRisen before after) × (found ≢ 0 → after ≡ before)

-- it lies there again
abbrev pub put_back : Step (Option Served) → Standing → ℕ → Standing → Type 0
put_back st before found after = after ≡ (Away, [])

-- who had it in hands is the owner of the component that lies there now
abbrev pub sat_down : Step (Option Served) → Standing → ℕ → Standing → Type 0
sat_down st before found after = (served : Served) × (before ≡ holding None (Some served))
    × (after ≡ sitting (record { number = served.number; first = served.dc }))
