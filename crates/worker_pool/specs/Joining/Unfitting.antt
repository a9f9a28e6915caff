-- A run of which no call is begun.
use Rattle.tc_core.specs.Core.{Core}
use Rattle.worker_pool.specs.declared.running.RunFault.{RunFault}
use Rattle.worker_pool.specs.declared.running.RunFault.TheVariants as fault
use Rattle.worker_pool.specs.declared.running.Unfit.{Unfit}
use Rattle.worker_pool.specs.declared.running.Unfit.TheVariants.{Workers, Tries, Memory}

-- the fault that hands the state back
abbrev pub fault_of : Unfit → Core → RunFault
fault_of Workers state = fault.Workers state
fault_of Tries state = fault.Tries state
fault_of Memory state = fault.Memory state
