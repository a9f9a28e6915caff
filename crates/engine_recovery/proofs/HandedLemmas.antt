-- What an engine's log hands out and takes back, as a file that tells.
use Rattle.std.specs.Prelude.{if◌then◌else◌, Bool}
use Rattle.std.proofs.Common.{◌≡◌, ℕ, zero, suc, List, [], ◌∷◌, map, reverse, refl, sym, ◌∙◌, ap, ap₂, subst, arith, Option, Some, None}
use Rattle.tc_log.specs.declared.event.Event.{Event}
use Rattle.tc_log.specs.Reading.{AreEvents}
use Rattle.transactions.specs.Legal.{Legal}
use Rattle.transactions.specs.Rows.{AllTakeFew}
use Rattle.transactions.proofs.StandingLemmas.{eq-false}
use Rattle.transactions.specs.declared.Redoing.{Redoing}
use Rattle.transactions.specs.declared.Site.{Site}
use Rattle.verifier.specs.Checked.{Checked}
use Rattle.frame_file.specs.Reading.{Reads}
use Rattle.log_file.specs.declared.header.Header.{Header}
use Rattle.log_file.specs.Bytes.{Rows, of_session}
use Rattle.log_file.specs.Reading.{IsBase, IsStart, Says}
use Rattle.engine_log.specs.Notes.{known_by, known_of}
use Rattle.engine_log.specs.Handing.{HasNoRecords, HasHandedOut, IsBegun, Nothing, Begun}
use Rattle.engine_log.specs.Back.{IsBack}
use Rattle.engine_log.specs.declared.ahead.EngineLog.{EngineLog}
use Rattle.engine_log.specs.declared.back.Back.{Back}
use Rattle.tc_core.specs.declared.recovery.SiteNote.{SiteNote}
use Rattle.tc_core.specs.declared.recovery.SiteNote.TheVariants.{Untold, Up}
use Rattle.tc_world.specs.Recovery.{note_by, note_of}
use Rattle.engine_recovery.specs.Telling.{IsFileOf, IsReadAs}
use Rattle.engine_recovery.proofs.TurnLemmas.{telling}

-- ---- what was handed out

no_rows : (rows : Rows) → rows ≡ [] → IsBase rows
no_rows [] is = record { rows = tt; rise = tt; count = omega arith }
no_rows (row ∷ rows) is = absurd (let bad : row ∷ rows ≡ [] = is in cc)

starts_of : (base : Option Rows) → HasNoRecords base → IsStart base
starts_of None none = tt
starts_of (Some rows) none = no_rows rows none

same_header : (a b : Header) (o : Option Header) → o ≡ Some a → o ≡ Some b → a ≡ b
same_header a b o one two = let both : Some a ≡ Some b = sym one ∙ two in cc

file_of : (h : Header) (l : EngineLog) (ps : List Checked) (log : List Event) (bytes : List ℕ) → AllTakeFew ps → Legal ps log
    → AreEvents (reverse log) → IsBegun h l bytes (reverse log) → IsFileOf h bytes (record { events = log; notes = l.notes.items })
file_of h l ps log bytes few legal numbers b = record {
  file = record { base = b.base; batches = b.frames.batches };
  is = b.frames.is;
  tells = telling h (record { base = b.base; batches = b.frames.batches }) (record { events = log; notes = l.notes.items }) ps few legal
      (starts_of b.base b.none) b.behind b.frames.are numbers b.frames.rows (sym b.frames.known);
}

pub told_of : (h : Header) (l : EngineLog) (ps : List Checked) (log : List Event) (bytes : List ℕ) → AllTakeFew ps → Legal ps log
    → AreEvents (reverse log) → HasHandedOut l bytes (reverse log) → l.header ≡ Some h
    → IsFileOf h bytes (record { events = log; notes = l.notes.items })
told_of h l ps log bytes few legal numbers (Nothing none empty no_event) is = absurd (let bad : None ≡ Some h = sym none ∙ is in cc)
told_of h l ps log bytes few legal numbers (Begun other its begun) is =
    file_of h l ps log bytes few legal numbers (subst (λ (x : Header). IsBegun x l bytes (reverse log)) (same_header other h l.header its is) begun)

-- ---- what is known

known_is : (incarnation : ℕ) (redo : Option Redoing) → known_by incarnation redo ≡ note_by incarnation redo
known_is zero None = refl
known_is (suc n) None = sym (ap (λ (b : Bool). if b then Untold else Up (suc n)) (eq-false (suc n) 0 (λ same. omega (arith, same))))
known_is zero (Some redo) = refl
known_is (suc n) (Some redo) = refl

pub all_known : (sites : List Site) → map known_of sites ≡ map note_of sites
all_known [] = refl
all_known (s ∷ sites) = ap₂ (λ (x : SiteNote) (xs : List SiteNote). x ∷ xs) (known_is s.incarnation s.redo) (all_known sites)

-- ---- what is taken back

read_so : (h : Header) (bytes : List ℕ) (payloads : List (List ℕ)) (base : Option Rows) (notes : List SiteNote) (events : List Event)
    → Reads bytes payloads → Says h payloads base notes (reverse events) → IsReadAs h bytes (record { events = events; notes = notes })
read_so h bytes payloads base notes events reads says = record {
  file = record { base = base; batches = says.batches };
  read = record {
    reads = subst (Reads bytes) says.is reads;
    says = record {
      batches = says.batches;
      is = refl;
      starts = says.starts;
      behind = says.behind;
      are = says.are;
      known_is = says.known_is;
      printed = says.printed;
      only = says.only;
    };
    batches = refl;
  };
}

pub read_as : (h : Header) (bytes : List ℕ) (b : Back) → IsBack h bytes b
    → IsReadAs (of_session h b.file.session) bytes (record { events = b.log.events; notes = b.file.notes.items })
read_as h bytes b back = read_so (of_session h b.file.session) bytes back.payloads back.base b.file.notes.items b.log.events back.reads back.says
