-- The list of what was performed, the oldest first, as heads and the values that they name by number.
use Rattle.std.specs.Prelude.{◌≡◌, ℕ, nat_le, Bool, zero, suc, ◌+◌, ◌*◌, ◌≤◌, Option, IfSome}
use Rattle.std.specs.Prelude.{List, [], ◌∷◌, ◌++◌, length, map, replicate, slice_index_or}
use Rattle.std.specs.List.{list_all}
use Rattle.access_slots.specs.declared.slot.Record.{Record}
use Rattle.access_slots.specs.Kinds.{op_of, said_of}
use Rattle.data_component.specs.declared.entries.Head.{Head}
use Rattle.data_component.specs.Performed.{Performed as Entry}

abbrev pub Values : Type 0
Values = List (List ℕ)

-- what an entry without a value names
abbrev pub no_value : List ℕ
no_value = replicate 64 0

-- values are numbered from 1, and none has the number 0
abbrev pub numbered : Values → ℕ → List ℕ
numbered values zero = no_value
numbered values (suc place) = slice_index_or values place no_value

abbrev pub record_of : Head → Record
record_of h = record { dc = h.dc; table = h.table; key = h.key }

abbrev pub entry_of : Values → Head → Entry
entry_of values h =
    (h.number, op_of h.kind (record_of h) (numbered values h.written), said_of h.told (numbered values h.said))

abbrev pub entries_of : Values → List Head → List Entry
entries_of values heads = map (entry_of values) heads

-- the entries, and how many there may be
pub record Listed : Type 0 where
  pub items : List Entry
  pub most : ℕ

-- the values that an entry at this place names are there, and are among the first two for each entry up to it
pub record IsWithin (count place : ℕ) (h : Head) : Type 0 where
  pub written : h.written ≤ count
  pub said : h.said ≤ count
  pub written_early : h.written ≤ 2 * place + 2
  pub said_early : h.said ≤ 2 * place + 2

abbrev pub AllWithin : ℕ → ℕ → List Head → Type 0
AllWithin count place [] = Unit {0}
AllWithin count place (h ∷ heads) = IsWithin count place h × AllWithin count (place + 1) heads

-- at most one value more, and the number of this one, if there is one
pub record IsNumbered (old new : Values) (value : Option (List ℕ)) (number : ℕ) : Type 0 where
  pub more : Values
  pub is : new ≡ old ++ more
  pub few : length more ≤ 1
  pub within : number ≤ length new
  pub names : IfSome value (λ v. numbered new number ≡ v)

abbrev pub heads_at_most : ℕ → List Head → Bool
heads_at_most n heads = list_all (λ (h : Head). nat_le h.number n) heads
