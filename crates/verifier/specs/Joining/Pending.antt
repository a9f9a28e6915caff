-- Where the kinds at slots that aren't reached yet are kept: each slot has the place of its target, if it has one.
use Rattle.std.specs.Prelude.{◌≡◌, ℕ, List, map, Option, Some, None, slice_get, slice_set}
use Rattle.std.specs.List.{slice_index_or}
use Rattle.register_kinds.specs.declared.kinds.Kinds.{Kinds}
use Rattle.verifier.specs.declared.pending.Target.{Target}
use Rattle.verifier.specs.Joining.Table.{Table}

abbrev pub slot_of : Option Target → Option ℕ
slot_of None = None
slot_of (Some target) = Some target.slot

abbrev pub kinds_of : Option Target → Option Kinds
kinds_of None = None
kinds_of (Some target) = Some target.kinds

abbrev pub place_at : List (Option ℕ) → ℕ → Option ℕ
place_at places slot = slice_index_or places slot None

-- the kinds at a place
abbrev pub kinds_in : List Target → Option ℕ → Option Kinds
kinds_in targets None = None
kinds_in targets (Some place) = kinds_of (slice_get targets place)

abbrev pub table_of : List (Option ℕ) → List Target → Table
table_of places targets = map (kinds_in targets) places

-- the places, where this target was moved to a place
abbrev pub mended : List (Option ℕ) → Option Target → ℕ → List (Option ℕ)
mended places None place = places
mended places (Some moved) place = slice_set places moved.slot (Some place)

-- the target at a slot's place is that slot's, and a slot with a target has its place
pub record AreTied (places : List (Option ℕ)) (targets : List Target) : Type 0 where
  pub there : (slot place : ℕ) → place_at places slot ≡ Some place → slot_of (slice_get targets place) ≡ Some slot
  pub back : (slot place : ℕ) → slot_of (slice_get targets place) ≡ Some slot → place_at places slot ≡ Some place
