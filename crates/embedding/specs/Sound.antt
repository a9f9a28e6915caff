-- What holds of an engine, whatever its frame was and in whatever order calls came.
use Rattle.std.specs.Prelude.{◌≡◌, ◌≢◌, ℕ, Some, true, false}
use Rattle.access_slots.specs.Locks.{allows, target, is_read, conflict}
use Rattle.history.specs.Calls.{held, held_for, call_of}
use Rattle.history.specs.Flight.{Flight, open_op}
use Rattle.transactions.specs.InFlight.{InFlight}
use Rattle.transactions.specs.Legal.{Legal}
use Rattle.transactions.specs.Reached.{decls}
use Rattle.tc_core.specs.Core.{Core}
use Rattle.embedding.specs.declared.engine.Engine.{Engine}
use Rattle.embedding.specs.declared.engine.Body.{Body}
use Rattle.embedding.specs.declared.engine.Body.TheVariants.{Tc}
use Rattle.embedding.specs.declared.filed_part.FiledPart.{FiledPart}

-- The log is legal, each operation in flight is covered by the locks of its transaction's call, which are held where its number is
-- open, and no two conflict.
pub record IsSoundCore (core : Core) : Type 0 where
  pub legal : Legal core.procs core.events
  pub covered : (n : ℕ) (f : Flight) → InFlight core.events core.sites n f
      → allows (held_for (decls core.procs) (call_of core.events f.txn) (target f.op)) (is_read f.op) ≡ true
  pub locked : (n : ℕ) (f : Flight) → open_op core.events n ≡ Some f
      → allows (held (decls core.procs) core.events f.txn (target f.op)) (is_read f.op) ≡ true
  pub apart : (m n : ℕ) (f g : Flight) → InFlight core.events core.sites m f → InFlight core.events core.sites n g
      → m ≢ n → conflict f.op g.op ≡ false

abbrev pub IsSoundBody : Body → Type 0
IsSoundBody body = (part : FiledPart) → body ≡ Tc part → IsSoundCore part.part.state

abbrev pub IsSound : Engine → Type 0
IsSound engine = IsSoundBody engine.body
