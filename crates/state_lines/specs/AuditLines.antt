-- What an audit found, and the line that says it.
use Rattle.std.specs.Prelude.{◌≡◌, ℕ, ◌+◌, Bool, true, false, ◌==◌, if◌then◌else◌, List, [], ◌∷◌, ◌++◌, is_ok, is_some, Option, Some, None}
use Rattle.std.specs.Prelude.{Result, Ok, Err, codes, decimal}
use Rattle.tc_log.specs.declared.event.Event.{Event}
use Rattle.verifier.specs.Checked.{Checked}
use Rattle.data_component.specs.Store.{Store}
use Rattle.transactions.specs.declared.Site.{Site}
use Rattle.transactions.specs.InFlight.{site_at}
use Rattle.transactions.specs.Room.{each_one, total}
use Rattle.serial.specs.Audit.{IsAudited}
use Rattle.audit.specs.Auditing.{ended, IsAuditFault}
use Rattle.audit.specs.Listed.{AllOnce}
use Rattle.audit.specs.declared.auditing.Audited.{Audited}
use Rattle.audit.specs.declared.auditing.AuditFault.{AuditFault}
use Rattle.audit.specs.declared.auditing.AuditFault.TheVariants as fault
use Rattle.state_lines.specs.RecordTexts.{record_text}
use Rattle.state_lines.specs.declared.audit_lines.Gap.{Gap}
use Rattle.state_lines.specs.declared.audit_lines.Gap.TheVariants.{Down, Restarted}

-- ---- what was found

abbrev pub Found : Type 0
Found = Result Audited AuditFault

-- of this log and these data components
abbrev pub IsFound : List Checked → List Event → List Store → Found → Type 0
IsFound ps h dcs (Ok a) = IsAudited ps h dcs × AllOnce dcs × (a.ended ≡ ended h) × (a.left ≡ total each_one h)
IsFound ps h dcs (Err why) = IsAuditFault ps h dcs why

abbrev pub audit_line : Found → List ℕ
audit_line (Ok a) = codes "audit ok ended " ++ (decimal a.ended ++ (codes " open " ++ (decimal a.left ++ codes "\n")))
audit_line (Err (fault.Begun dc)) = codes "refused U0 Begun dc " ++ (decimal dc ++ codes "\n")
audit_line (Err (fault.LogIllegal place)) = codes "refused U1 LogIllegal place " ++ (decimal place ++ codes "\n")
audit_line (Err (fault.NotAsked dc place)) =
    codes "refused U2 NotAsked dc " ++ (decimal dc ++ (codes " place " ++ (decimal place ++ codes "\n")))
audit_line (Err (fault.Mismatch number)) = codes "refused U3 Mismatch " ++ (decimal number ++ codes "\n")
audit_line (Err (fault.Rows r)) = codes "refused U4 Rows " ++ (record_text r ++ codes "\n")
audit_line (Err fault.Memory) = codes "refused U5 Memory\n"

-- want of memory, which ends the program and is never printed
abbrev pub lacks_memory : Found → Bool
lacks_memory (Err fault.Memory) = true
lacks_memory other = false

-- the line of what is found is added; the last value says whether nothing is wrong
pub record AddsAudit (ps : List Checked) (h : List Event) (dcs : List Store) (old new : List ℕ) (sound : Bool) : Type 0 where
  pub found : Found
  pub is : IsFound ps h dcs found
  pub ample : lacks_memory found ≡ false
  pub added : new ≡ old ++ audit_line found
  pub sound_is : sound ≡ is_ok found

-- nothing is added where nothing is wanted
abbrev pub AddsIf : Bool → List ℕ → List ℕ → Bool → Type 0 → Type 0
AddsIf true old new sound adds = adds
AddsIf false old new sound adds = (new ≡ old) × (sound ≡ true)

-- ---- data components that aren't as they are known

-- it is down, or it has restarted and nobody said so
abbrev pub gap_of : Site → Store → Option Gap
gap_of site s = if is_some site.redo then Some Down else if site.incarnation == s.incarnation then None else Some Restarted

abbrev pub gap_or : ℕ → Option Gap → Option (ℕ × Gap) → Option (ℕ × Gap)
gap_or d (Some gap) later = Some (d, gap)
gap_or d None later = later

-- the first of those from this place on
abbrev pub first_gap : ℕ → List Site → List Store → Option (ℕ × Gap)
first_gap d sites [] = None
first_gap d sites (s ∷ dcs) = gap_or d (gap_of (site_at sites d) s) (first_gap (d + 1) sites dcs)

abbrev pub gap_text : Gap → List ℕ
gap_text Down = codes "down"
gap_text Restarted = codes "restarted"

abbrev pub skipped_line : ℕ → Gap → List ℕ
skipped_line dc gap = codes "audit skipped dc " ++ (decimal dc ++ (codes " " ++ (gap_text gap ++ codes "\n")))

abbrev pub AddsUnless : Option (ℕ × Gap) → List Checked → List Event → List Store → List ℕ → List ℕ → Bool → Type 0
AddsUnless (Some gap) ps h dcs old new sound = (new ≡ old ++ skipped_line gap.0 gap.1) × (sound ≡ true)
AddsUnless None ps h dcs old new sound = AddsAudit ps h dcs old new sound

-- of a state and its data components; where one isn't as it is known to the state, that is said in place of an audit
abbrev pub AddsStateAudit : List Site → List Checked → List Event → List Store → List ℕ → List ℕ → Bool → Type 0
AddsStateAudit sites ps h dcs old new sound = AddsUnless (first_gap 0 sites dcs) ps h dcs old new sound
