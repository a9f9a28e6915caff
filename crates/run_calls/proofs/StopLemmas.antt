-- What stops one list of calls, both lists, and a run.
use Rattle.std.proofs.Common.{◌≡◌, ℕ, Bool, true, false, List, Option, Some, None, sym, subst, inl, inr, arith}
use Rattle.std.specs.Prelude.{is_some, Result, Ok, Err, IsErrAnd, MatchResult}
use Rattle.disk_file.specs.declared.fault.FileFault.{FileFault}
use Rattle.journals.specs.declared.journal.NotKept.TheVariants as why
use Rattle.journals.specs.Optional.{any_keeps}
use Rattle.tc_core.specs.Core.{Core}
use Rattle.worker_pool.specs.declared.running.RunFault.{RunFault}
use Rattle.worker_pool.specs.declared.running.RunFault.TheVariants as fault
use Rattle.worker_pool.specs.declared.report.Report.{Report}
use Rattle.worker_pool.specs.Faults.{FaultFits, InRange, TriesFit}
use Rattle.run_ground.specs.declared.stop.Stop.{Stop}
use Rattle.run_ground.specs.declared.stop.Stop.TheVariants.{Tries, Workers, NoThread, Memory, Unread, NotKept}
use Rattle.run_calls.specs.AnswerLines.{fault_line}
use Rattle.run_ground.specs.Kept.{FileJournal}
use Rattle.run_ground.specs.Stops.{IsUnkept}
use Rattle.run_calls.specs.Stops.{Stops}
use Rattle.run_calls.specs.Joining.Stopping.{ListStops, stop_of}
use Rattle.run_calls.proofs.KeptLemmas.{keeps_if_there}

-- a run with this journal, if there is one
list_stops : (journal : Option FileJournal) (start : Core) (workers tries : ℕ) (f : RunFault) (failure : Option FileFault) (stop : Stop)
    → FaultFits start (any_keeps (λ (j : FileJournal). true) journal) workers tries f → stop ≡ stop_of f failure
    → ListStops start (is_some journal) workers tries stop
list_stops journal start workers tries f failure stop fits is =
    (f, failure, subst (λ (keeps : Bool). FaultFits start keeps workers tries f) (keeps_if_there journal) fits, is)

-- the same of what came of it
pub listed_stops : (journal : Option FileJournal) (start : Core) (workers tries : ℕ) (ran : Result Report RunFault) (stop : Stop)
    → MatchResult ran (λ _. InRange workers tries) (λ f. FaultFits start (any_keeps (λ (j : FileJournal). true) journal) workers tries f)
    → IsErrAnd ran (λ f. (failure : Option FileFault) × (stop ≡ stop_of f failure)) → ListStops start (is_some journal) workers tries stop
listed_stops journal start workers tries (Ok report) stop which is = absurd is
listed_stops journal start workers tries (Err f) stop which is = list_stops journal start workers tries f is.0 stop which is.1

-- ---- both lists

first_fault : (start : Core) (keeps : Bool) (workers tries : ℕ) (f : RunFault) (failure : Option FileFault) → FaultFits start keeps 1 tries f
    → Stops keeps workers tries (stop_of f failure)
first_fault start keeps workers tries (fault.Workers s) failure (same, inl none) = absurd (omega (arith, none))
first_fault start keeps workers tries (fault.Workers s) failure (same, inr many) = absurd (omega (arith, many))
first_fault start keeps workers tries (fault.Tries s) failure fits = fits.2
first_fault start keeps workers tries (fault.Memory s) failure fits = tt
first_fault start keeps workers tries (fault.NoThread s) failure fits = fits.1.1
first_fault start keeps workers tries (fault.NotKept why.Failed s) failure fits = (fits.0, fits.1.1)
first_fault start keeps workers tries (fault.NotKept why.Memory s) failure fits = tt

-- the first, which one worker runs
pub first_stops : (start : Core) (keeps : Bool) (workers tries : ℕ) (stop : Stop) → ListStops start keeps 1 tries stop → Stops keeps workers tries stop
first_stops start keeps workers tries stop h =
    subst (λ (s : Stop). Stops keeps workers tries s) (sym h.3) (first_fault start keeps workers tries h.0 h.1 h.2)

then_fault : (start : Core) (keeps : Bool) (workers tries : ℕ) (f : RunFault) (failure : Option FileFault) → TriesFit tries
    → FaultFits start keeps workers tries f → Stops keeps workers tries (stop_of f failure)
then_fault start keeps workers tries (fault.Workers s) failure range fits = (range, fits.1)
then_fault start keeps workers tries (fault.Tries s) failure range fits = fits.2
then_fault start keeps workers tries (fault.Memory s) failure range fits = tt
then_fault start keeps workers tries (fault.NoThread s) failure range fits = range
then_fault start keeps workers tries (fault.NotKept why.Failed s) failure range fits = (fits.0, range)
then_fault start keeps workers tries (fault.NotKept why.Memory s) failure range fits = tt

-- the second, behind the first
pub then_stops : (start : Core) (keeps : Bool) (workers tries : ℕ) (stop : Stop) → InRange 1 tries → ListStops start keeps workers tries stop
    → Stops keeps workers tries stop
then_stops start keeps workers tries stop range h =
    subst (λ (s : Stop). Stops keeps workers tries s) (sym h.3) (then_fault start keeps workers tries h.0 h.1 range.1 h.2)

-- ---- a run

-- a log that begins anew behind calls
pub unkept_stops : (keeps : Bool) (workers tries : ℕ) (stop : Stop) → TriesFit tries → IsUnkept keeps stop → Stops keeps workers tries stop
unkept_stops keeps workers tries Tries range h = absurd h
unkept_stops keeps workers tries Workers range h = absurd h
unkept_stops keeps workers tries NoThread range h = absurd h
unkept_stops keeps workers tries Memory range h = tt
unkept_stops keeps workers tries (Unread fault) range h = absurd h
unkept_stops keeps workers tries (NotKept failure) range h = (h, range)

no_line : (lines : List ℕ) → None ≡ Some lines → ⊥
no_line lines is = cc is

-- what has a line stops a run without a journal too
pub told_stops : (keeps : Bool) (workers tries : ℕ) (stop : Stop) (lines : List ℕ) → Stops keeps workers tries stop → fault_line stop ≡ Some lines
    → Stops false workers tries stop
told_stops keeps workers tries Tries lines h line = h
told_stops keeps workers tries Workers lines h line = h
told_stops keeps workers tries NoThread lines h line = h
told_stops keeps workers tries Memory lines h line = tt
told_stops keeps workers tries (Unread fault) lines h line = h
told_stops keeps workers tries (NotKept failure) lines h line = absurd (no_line lines line)
