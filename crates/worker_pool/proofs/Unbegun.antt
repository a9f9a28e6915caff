-- A run of which no call was begun, whatever its journal.
use Rattle.std.proofs.Common.{◌≡◌, ℕ, Bool, true, false}
use Rattle.tc_core.specs.Core.{Core}
use Rattle.journals.specs.declared.journal.NotKept.{NotKept as Why}
use Rattle.worker_pool.specs.declared.running.RunFault.{RunFault}
use Rattle.worker_pool.specs.declared.running.RunFault.TheVariants as fault
use Rattle.worker_pool.specs.Faults.{FaultFits, IsUnkeptBy}

without : false ≡ true → ⊥
without bad = cc bad

pub unbegun : (start : Core) (keeps : Bool) (workers tries : ℕ) (f : RunFault) → FaultFits start false workers tries f
    → FaultFits start keeps workers tries f
unbegun start keeps workers tries (fault.Workers s) fits = fits
unbegun start keeps workers tries (fault.Tries s) fits = fits
unbegun start keeps workers tries (fault.Memory s) fits = fits
unbegun start keeps workers tries (fault.NoThread s) fits = fits
unbegun start keeps workers tries (fault.NotKept why s) fits = absurd (without fits.0)

-- of its journal nothing is said
pub unasked : {K : Type 0} (fails : K → Why → K → Type 0) (journal : K) (start : Core) (workers tries : ℕ) (f : RunFault)
    → FaultFits start false workers tries f → IsUnkeptBy fails journal f
unasked fails journal start workers tries (fault.Workers s) fits = tt
unasked fails journal start workers tries (fault.Tries s) fits = tt
unasked fails journal start workers tries (fault.Memory s) fits = tt
unasked fails journal start workers tries (fault.NoThread s) fits = tt
unasked fails journal start workers tries (fault.NotKept why s) fits = absurd (without fits.0)
