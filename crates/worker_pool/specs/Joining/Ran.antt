-- What came of a run that was begun, once its workers have ended.
use Rattle.std.specs.Prelude.{◌≡◌, List, Bool, true, ◌++◌, reverse, Some}
use Rattle.tc_log.specs.declared.event.Event.{Event}
use Rattle.tc_core.specs.Core.{Core}
use Rattle.worker_pool.specs.declared.running.RunFault.{RunFault}
use Rattle.worker_pool.specs.declared.running.RunFault.TheVariants.{Workers, Tries, Memory, NoThread, NotKept}
use Rattle.worker_pool.specs.Journals.{HasGoneOn}
use Rattle.worker_pool.specs.Joining.Handing.{Shelf, HasAll, events_of}

-- what stops it: no worker was started, and the state is as before; or something wasn't kept, as it may be with a journal
abbrev pub StopFits : Core → Bool → RunFault → Type 0
StopFits start keeps (Workers now) = ⊥
StopFits start keeps (Tries now) = ⊥
StopFits start keeps (Memory now) = ⊥
StopFits start keeps (NoThread now) = now ≡ start
StopFits start keeps (NotKept why now) = (keeps ≡ true) × HasGoneOn start now

-- the journal has kept all that was handed over, and that is all that the log has behind the first one
pub record KeepsAll {K : Type 0} (has : K → List Event → Type 0) (before : List Event → Type 0) (first now : List Event)
    (shelf : Shelf K) : Type 0 where
  pub log : now ≡ reverse (events_of shelf.handed) ++ first
  pub kept : HasAll has before shelf.journal shelf.handed

-- where something wasn't kept, that is what the journal failed by
abbrev pub IsFaultOf : {K : Type 0} → Shelf K → RunFault → Type 0
IsFaultOf shelf (Workers now) = Unit {0}
IsFaultOf shelf (Tries now) = Unit {0}
IsFaultOf shelf (Memory now) = Unit {0}
IsFaultOf shelf (NoThread now) = Unit {0}
IsFaultOf shelf (NotKept why now) = shelf.fault ≡ Some why
