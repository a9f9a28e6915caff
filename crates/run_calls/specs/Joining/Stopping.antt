-- What stops one list of calls.
use Rattle.std.specs.Prelude.{◌≡◌, ℕ, Bool, Option}
use Rattle.disk_file.specs.declared.fault.FileFault.{FileFault}
use Rattle.tc_core.specs.Core.{Core}
use Rattle.worker_pool.specs.declared.running.RunFault.{RunFault}
use Rattle.worker_pool.specs.declared.running.RunFault.TheVariants as fault
use Rattle.worker_pool.specs.Faults.{FaultFits}
use Rattle.run_ground.specs.declared.stop.Stop.{Stop}
use Rattle.run_ground.specs.Stops.{unkept_of}
use Rattle.run_ground.specs.declared.stop.Stop.TheVariants.{Tries, Workers, NoThread, Memory}

-- a run's fault, without the state
abbrev pub stop_of : RunFault → Option FileFault → Stop
stop_of (fault.Workers state) failure = Workers
stop_of (fault.Tries state) failure = Tries
stop_of (fault.Memory state) failure = Memory
stop_of (fault.NoThread state) failure = NoThread
stop_of (fault.NotKept why state) failure = unkept_of why failure

-- it is that of a run that began with this state
abbrev pub ListStops : Core → (keeps : Bool) → (workers tries : ℕ) → Stop → Type 0
ListStops start keeps workers tries stop =
    (fault : RunFault) × (failure : Option FileFault) × FaultFits start keeps workers tries fault × (stop ≡ stop_of fault failure)
