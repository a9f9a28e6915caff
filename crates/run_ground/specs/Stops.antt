-- What ends a run without a line.
use Rattle.std.specs.Prelude.{◌≡◌, Bool, true, Option}
use Rattle.disk_file.specs.declared.fault.FileFault.{FileFault}
use Rattle.journals.specs.declared.journal.NotKept.{NotKept as Why}
use Rattle.journals.specs.declared.journal.NotKept.TheVariants as why
use Rattle.run_ground.specs.declared.stop.Stop.{Stop}
use Rattle.run_ground.specs.declared.stop.Stop.TheVariants.{Tries, Workers, NoThread, Memory, Unread, NotKept}

-- a journal didn't keep something, whose file says this of it
abbrev pub unkept_of : Why → Option FileFault → Stop
unkept_of why.Failed failure = NotKept failure
unkept_of why.Memory failure = Memory

-- a run ends so without a line: for want of memory, or because something wasn't kept, where there is a journal
abbrev pub IsUnkept : (keeps : Bool) → Stop → Type 0
IsUnkept keeps Tries = ⊥
IsUnkept keeps Workers = ⊥
IsUnkept keeps NoThread = ⊥
IsUnkept keeps Memory = Unit {0}
IsUnkept keeps (Unread fault) = ⊥
IsUnkept keeps (NotKept failure) = keeps ≡ true
