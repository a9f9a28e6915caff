-- What stops a run that was begun, and what is known of it then.
use Rattle.std.proofs.Common.{◌≡◌, ℕ, Bool, Some}
use Rattle.tc_core.specs.Core.{Core}
use Rattle.journals.specs.declared.journal.NotKept.{NotKept as Why}
use Rattle.worker_pool.specs.declared.running.RunFault.{RunFault}
use Rattle.worker_pool.specs.declared.running.RunFault.TheVariants as fault
use Rattle.worker_pool.specs.Faults.{InRange, FaultFits, IsUnkeptBy}
use Rattle.worker_pool.specs.Journals.{IsUnkept}
use Rattle.worker_pool.specs.Joining.Handing.{Shelf}
use Rattle.worker_pool.specs.Joining.Ran.{StopFits, IsFaultOf}

pub stop_fits : (start : Core) (keeps : Bool) (workers tries : ℕ) (f : RunFault) → InRange workers tries → StopFits start keeps f
    → FaultFits start keeps workers tries f
stop_fits start keeps workers tries (fault.Workers s) range stop = absurd stop
stop_fits start keeps workers tries (fault.Tries s) range stop = absurd stop
stop_fits start keeps workers tries (fault.Memory s) range stop = absurd stop
stop_fits start keeps workers tries (fault.NoThread s) range stop = (stop, range)
stop_fits start keeps workers tries (fault.NotKept why s) range stop = (stop.0, range, stop.1)

-- what the journal failed by is told of it
pub unkept_by : {K : Type 0} (fails : K → Why → K → Type 0) (shelf : Shelf K) (journal : K)
    → ((why : Why) → shelf.fault ≡ Some why → IsUnkept fails journal why) → (f : RunFault) → IsFaultOf shelf f
    → IsUnkeptBy fails journal f
unkept_by fails shelf journal told (fault.Workers s) is = tt
unkept_by fails shelf journal told (fault.Tries s) is = tt
unkept_by fails shelf journal told (fault.Memory s) is = tt
unkept_by fails shelf journal told (fault.NoThread s) is = tt
unkept_by fails shelf journal told (fault.NotKept why s) is = told why is
