-- What the loops over rows read.
use Rattle.std.proofs.Common.{◌≡◌, ◌∙◌, ℕ, ◌+◌, ◌-◌, ◌<◌, List, [], ◌∷◌, ◌++◌, map, take, drop, refl, ap, sym, append_assoc}
use Rattle.std.specs.Prelude.{Option, Some, None, Result, Ok, Err}
use Rattle.access_slots.specs.declared.slot.Slot.{Slot}
use Rattle.object_file.specs.Accesses.{slot_in, slot_said}
use Rattle.object_file.specs.Elf.{rows_in, header_in}
use Rattle.object_file.specs.Gathering.{and_then, or_fault, gathered}
use Rattle.object_file.specs.declared.elf.Header.{Header}
use Rattle.object_file.specs.declared.fault.ObjectFault.{ObjectFault}
use Rattle.object_file.specs.declared.fault.ObjectFault.TheVariants.{NoSlot}
use Rattle.object_file.proofs.Gathering.{behind, gather_more, gather_bad, row_next}

pub headers_further : (headers new : List Header) (count k : ℕ) (h : Header) (rest front back : List ℕ) (total : List Header) → k < count
    → headers ++ map header_in (rows_in 64 (count - k) rest) ≡ total → new ≡ headers ++ h ∷ [] → h ≡ header_in front
    → front ≡ take 64 rest → back ≡ drop 64 rest → new ++ map header_in (rows_in 64 (count - (k + 1)) back) ≡ total
headers_further headers new count k h rest front back total more so_far grown is cut left =
    ap (λ (hs : List Header). hs ++ map header_in (rows_in 64 (count - (k + 1)) back)) grown
    ∙ append_assoc headers (h ∷ []) (map header_in (rows_in 64 (count - (k + 1)) back))
    ∙ ap (λ (x : Header). headers ++ (x ∷ map header_in (rows_in 64 (count - (k + 1)) back))) is
    ∙ ap (λ (rows : List (List ℕ)). headers ++ map header_in rows) (sym (row_next 64 count k rest front back more cut left))
    ∙ so_far

-- the slot that an entry is, or its fault
abbrev slot_by : ℕ → ℕ → Option Slot → Result (Option Slot) ObjectFault
slot_by section k o = and_then (or_fault (NoSlot section k) o) (λ slot. Ok (Some slot))

pub slots_further : (section count k : ℕ) (slots new : List Slot) (slot : Slot) (rest front back : List ℕ) (total : Result (List Slot) ObjectFault)
    → k < count → total ≡ behind slots (gathered (slot_said section) k (rows_in 16 (count - k) rest)) → new ≡ slots ++ slot ∷ []
    → slot_in front ≡ Some slot → front ≡ take 16 rest → back ≡ drop 16 rest
    → total ≡ behind new (gathered (slot_said section) (k + 1) (rows_in 16 (count - (k + 1)) back))
slots_further section count k slots new slot rest front back total more so_far grown is cut left =
    gather_more (slot_said section) k (rows_in 16 (count - k) rest) front (rows_in 16 (count - (k + 1)) back) (Some slot) slots total
    (row_next 16 count k rest front back more cut left) (ap (slot_by section k) is) so_far
    ∙ ap (λ (ss : List Slot). behind ss (gathered (slot_said section) (k + 1) (rows_in 16 (count - (k + 1)) back))) (sym grown)

pub slots_bad : (section count k : ℕ) (slots : List Slot) (rest front : List ℕ) (total : Result (List Slot) ObjectFault)
    → k < count → total ≡ behind slots (gathered (slot_said section) k (rows_in 16 (count - k) rest))
    → slot_in front ≡ None → front ≡ take 16 rest → total ≡ Err (NoSlot section k)
slots_bad section count k slots rest front total more so_far is cut =
    gather_bad (slot_said section) k (rows_in 16 (count - k) rest) front (rows_in 16 (count - (k + 1)) (drop 16 rest)) (NoSlot section k) slots total
    (row_next 16 count k rest front (drop 16 rest) more cut refl) (ap (slot_by section k) is) so_far
