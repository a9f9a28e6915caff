-- Why a file isn't read, from why its frames or its payloads aren't.
use Rattle.std.proofs.Common.{arith, ◌≡◌, inl, inr, ℕ, ◌+◌, ◌-◌, ◌<◌, ◌≤◌, ◌^◌, false, List, [], ◌∷◌, ◌++◌, length}
use Rattle.std.proofs.Common.{map, slice_get, Option, Some, None, Vec, refl, sym, ◌∙◌, ap, ap₂, subst, length-append}
use Rattle.std.proofs.lemmas.List.{length-map}
use Rattle.std.specs.declared.alloc.Global.{Global}
use Rattle.tc_core.specs.declared.recovery.SiteNote.{SiteNote}
use Rattle.tc_log.specs.declared.event.Event.{Event}
use Rattle.tc_log.specs.Reading.{ArePrinted, AreOnlyOnes, IsFirstUnread}
use Rattle.frame_file.specs.declared.device.DeviceError.TheVariants.{Memory}
use Rattle.frame_file.specs.declared.reading.FrameFault.{FrameFault}
use Rattle.frame_file.specs.declared.reading.FrameFault.TheVariants.{Device, Full, Damaged}
use Rattle.frame_file.specs.Reading.{Reads, IsReadFault, payloads_in}
use Rattle.log_file.specs.declared.header.Header.{Header}
use Rattle.log_file.specs.declared.reading.OpenFault.{OpenFault}
use Rattle.log_file.specs.declared.reading.OpenFault.TheVariants.{Frames, Empty, Other, NoBase, NoBatch, Row}
use Rattle.log_file.specs.Bytes.{Rows, part_bytes, parts_of, Batch, batch_bytes, header_bytes, based_header_bytes, front_of, payloads_of}
use Rattle.log_file.specs.Reading.{IsHead, IsStart, is_checkpoint, begins_anew, IsBehind, IsSayFault, IsBegun, IsOpenFault, IsNoBase, NoPart, NoCheckpoint, Says}
use Rattle.log_file.specs.Joining.Fields.{IsNotBehind, IsGatherFault, IsBaseFault, IsRowsFault, AreGathered}

pub read_fault : (h : Header) (file : List ℕ) (fault : FrameFault) → IsReadFault file fault → IsOpenFault h file (Frames fault)
read_fault h file (Device e) why = tt
read_fault h file Full why = tt
read_fault h file (Damaged number) why = why

pub said_fault : (h : Header) (file : List ℕ) (payloads : List (List ℕ)) (fault : OpenFault) → Reads file payloads → (payloads ≡ [] → ⊥)
    → IsSayFault h payloads fault → IsOpenFault h file fault
said_fault h file payloads (Frames (Device e)) reads some why = tt
said_fault h file payloads (Frames Full) reads some why = tt
said_fault h file payloads (Frames (Damaged number)) reads some why = (let bad : Damaged number ≡ Device Memory = why in cc)
said_fault h file payloads Empty reads some why = absurd (some why)
said_fault h file payloads Other reads some why = inl (record { payloads = payloads; reads = reads; why = why })
said_fault h file payloads (NoBase number) reads some why = record { payloads = payloads; reads = reads; why = why }
said_fault h file payloads (NoBatch number) reads some why = record { payloads = payloads; reads = reads; why = why }
said_fault h file payloads (Row place) reads some why = record { payloads = payloads; reads = reads; why = why }

pub never_empty : (h : Header) (payloads : List (List ℕ)) (fault : OpenFault) → (payloads ≡ [] → ⊥) → IsSayFault h payloads fault → fault ≡ Empty → ⊥
never_empty h payloads fault some why is = some (subst (IsSayFault h payloads) is why)

-- there is no frame, and the file is no beginning of this header's
pub no_beginning : (h : Header) (file : List ℕ) (payloads : List (List ℕ)) → Reads file payloads → payloads ≡ []
    → (IsBegun h file → ⊥) → IsOpenFault h file Other
no_beginning h file payloads reads none differs = inr (subst (Reads file) none reads, differs)

pub batches_few : (h : Header) (vecs rest : List (Vec ℕ Global)) (base : Option Rows)
    → payloads_in vecs ≡ front_of h base ++ payloads_in rest → length rest ≤ length vecs
batches_few h vecs rest base is =
    omega (
      arith,
      ap length is,
      length-append (front_of h base) (payloads_in rest),
      length-map vecs (λ (v : Vec ℕ Global). v.items),
      length-map rest (λ (v : Vec ℕ Global). v.items),
    )

-- how many frames stand in front of the batches
pub front_long : (h : Header) (vecs rest : List (Vec ℕ Global)) (base : Option Rows) → payloads_in vecs ≡ front_of h base ++ payloads_in rest
    → length vecs - length rest ≡ length (front_of h base)
front_long h vecs rest base is =
    omega (
      arith,
      ap length is,
      length-append (front_of h base) (payloads_in rest),
      length-map vecs (λ (v : Vec ℕ Global). v.items),
      length-map rest (λ (v : Vec ℕ Global). v.items),
    )

pub gather_fault : (h : Header) (payloads rest : List (List ℕ)) (base : Option Rows) (front : ℕ) (fault : OpenFault)
    → IsStart base → payloads ≡ front_of h base ++ rest
    → front ≡ length (front_of h base) → IsGatherFault h.dcs front rest fault → IsSayFault h payloads fault
gather_fault h payloads rest base front (Frames fault) start is long why = why
gather_fault h payloads rest base front Empty start is long why = absurd why
gather_fault h payloads rest base front Other start is long why = absurd why
gather_fault h payloads rest base front (NoBase number) start is long why = absurd why
gather_fault h payloads rest base front (NoBatch number) start is long why = record {
  base = base;
  starts = start;
  rest = rest;
  is = is;
  place = why.0;
  number_is = why.1 ∙ ap (λ (n : ℕ). n + why.0) long;
  first = why.2;
}
gather_fault h payloads rest base front (Row place) start is long why = absurd why

behind : (h : Header) (payloads rest : List (List ℕ)) (base : Option Rows) (batches : List Batch)
    → payloads ≡ front_of h base ++ rest → rest ≡ map batch_bytes batches
    → payloads ≡ payloads_of h base batches
behind h payloads rest base batches is all = is ∙ ap (λ (ps : List (List ℕ)). front_of h base ++ ps) all

pub rows_fault : (h : Header) (payloads rest : List (List ℕ)) (base : Option Rows) (known : List SiteNote) (rows : List ℕ) (fault : OpenFault) → IsStart base
    → payloads ≡ front_of h base ++ rest → AreGathered h.dcs rest known rows → IsRowsFault rows fault → IsSayFault h payloads fault
rows_fault h payloads rest base known rows (Frames fault) start is g why = why
rows_fault h payloads rest base known rows Empty start is g why = absurd why
rows_fault h payloads rest base known rows Other start is g why = absurd why
rows_fault h payloads rest base known rows (NoBase number) start is g why = absurd why
rows_fault h payloads rest base known rows (NoBatch number) start is g why = absurd why
rows_fault h payloads rest base known rows (Row place) start is g why = record {
  base = base;
  starts = start;
  batches = g.batches;
  is = behind h payloads rest base g.batches is g.is;
  are = g.are;
  first = subst (IsFirstUnread place) g.rows_are why;
}

pub says : (h : Header) (payloads rest : List (List ℕ)) (base : Option Rows) (known : List SiteNote) (rows : List ℕ) (events : List Event) → IsStart base
    → payloads ≡ front_of h base ++ rest → AreGathered h.dcs rest known rows → ArePrinted events rows → AreOnlyOnes events rows → IsBehind base events
    → Says h payloads base known events
says h payloads rest base known rows events start is g printed only follows = record {
  batches = g.batches;
  is = behind h payloads rest base g.batches is g.is;
  starts = start;
  behind = follows;
  are = g.are;
  known_is = g.known_is;
  printed = subst (ArePrinted events) g.rows_are printed;
  only = subst (λ (r : List ℕ). AreOnlyOnes events r) g.rows_are only;
}

-- the base is whole, and the events don't begin with a checkpoint
pub no_checkpoint : (h : Header) (payloads rest : List (List ℕ)) (base : Option Rows) (known : List SiteNote)
    (rows : List ℕ) (events : List Event) (front : ℕ) → IsStart base
    → payloads ≡ front_of h base ++ rest → AreGathered h.dcs rest known rows → ArePrinted events rows
    → front ≡ length (front_of h base) → IsNotBehind base events
    → IsNoBase h payloads front
no_checkpoint h payloads rest None known rows events front start is g printed long never = absurd never
no_checkpoint h payloads rest (Some base) known rows events front start is g printed long never =
    NoCheckpoint base g.batches events start g.are (behind h payloads rest (Some base) g.batches is g.is) (subst (ArePrinted events) g.rows_are printed) never
    (omega (arith, long, length-map (parts_of base) part_bytes))

-- ---- what stands in front

pub other : (h : Header) (payloads rest : List (List ℕ)) (first : List ℕ) → payloads ≡ first ∷ rest → (first ≡ header_bytes h → ⊥)
    → ((rows : ℕ) → rows < 2 ^ 64 → first ≡ based_header_bytes h rows → ⊥) → IsSayFault h payloads Other
other h payloads rest first is plain based = record { first = first; rest = rest; is = is; differs = no_head h first plain based }
  where
    no_head : (h : Header) (first : List ℕ) → (first ≡ header_bytes h → ⊥)
        → ((rows : ℕ) → rows < 2 ^ 64 → first ≡ based_header_bytes h rows → ⊥) → IsHead h first → ⊥
    no_head h first plain based (inl is) = plain is
    no_head h first plain based (inr some) = based some.0 some.1 some.2

pub base_fault : (h : Header) (payloads rest : List (List ℕ)) (first : List ℕ) (count : ℕ) (fault : OpenFault) → count < 2 ^ 64 → payloads ≡ first ∷ rest
    → first ≡ based_header_bytes h count → IsBaseFault count rest fault → IsSayFault h payloads fault
base_fault h payloads rest first count (Frames fault) small is head why = why
base_fault h payloads rest first count Empty small is head why = absurd why
base_fault h payloads rest first count Other small is head why = absurd why
base_fault h payloads rest first count (NoBase number) small is head why = NoPart count rest small (is ∙ ap (λ (p : List ℕ). p ∷ rest) head) why
base_fault h payloads rest first count (NoBatch number) small is head why = absurd why
base_fault h payloads rest first count (Row place) small is head why = absurd why

pub plain_front : (h : Header) (payloads rest : List (List ℕ)) (first : List ℕ) → payloads ≡ first ∷ rest
    → first ≡ header_bytes h → payloads ≡ front_of h None ++ rest
plain_front h payloads rest first is head = is ∙ ap (λ (p : List ℕ). p ∷ rest) head

pub based_front : (h : Header) (payloads rest after : List (List ℕ)) (first : List ℕ) (count : ℕ) (base : Rows)
    → payloads ≡ first ∷ rest → first ≡ based_header_bytes h count
    → length base ≡ count → rest ≡ map part_bytes (parts_of base) ++ after → payloads ≡ front_of h (Some base) ++ after
based_front h payloads rest after first count base is head long parts =
    is ∙ ap₂ (λ (p : List ℕ) (ps : List (List ℕ)). p ∷ ps) (head ∙ ap (based_header_bytes h) (sym long)) parts

-- ---- the oldest event

pub first_is : (events : List Event) (e : Event) → slice_get events 0 ≡ Some e → is_checkpoint e ≡ begins_anew events
first_is [] e at = absurd (let bad : None ≡ Some e = at in cc)
first_is (x ∷ events) e at = (let both : Some x ≡ Some e = at in let same : e ≡ x = cc in ap is_checkpoint same)

pub none_first : (events : List Event) → slice_get events 0 ≡ None → false ≡ begins_anew events
none_first [] at = refl
none_first (x ∷ events) at = absurd (let bad : Some x ≡ None = at in cc)

pub no_frames : (vecs : List (Vec ℕ Global)) → payloads_in vecs ≡ [] → vecs ≡ []
no_frames [] is = refl
no_frames (v ∷ vecs) is = absurd (let bad : v.items ∷ payloads_in vecs ≡ [] = is in cc)
