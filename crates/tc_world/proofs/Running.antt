-- Runs, one step more, and what holds behind each.
use Rattle.std.proofs.Common.{◌≡◌, ◌≢◌, ℕ, true, false, List, [], ◌∷◌, ◌++◌, Some, refl, sym, ap, subst, length, ◌<◌, arith, zero, suc}
use Rattle.std.specs.Prelude.{slice_get, slice_index_or}
use Rattle.access_slots.specs.Locks.{allows, target, is_read, conflict}
use Rattle.history.specs.Calls.{held, held_for, call_of}
use Rattle.history.specs.Flight.{Flight, open_op}
use Rattle.transactions.specs.Legal.{Legal}
use Rattle.transactions.specs.Reached.{decls, AllGood}
use Rattle.transactions.specs.InFlight.{InFlight}
use Rattle.transactions.proofs.Headline.{flight_covered}
use Rattle.transactions.proofs.Restarts.{in_flight_covered, in_flight_apart}
use Rattle.tc_core.specs.Core.{Core}
use Rattle.tc_world.specs.Whole.{Whole}
use Rattle.tc_world.specs.declared.step.Step.{Step}
use Rattle.tc_world.specs.declared.step.Outcome.{Outcome}
use Rattle.tc_world.specs.Steps.{Steps, Runs}

pub runs_push : (w mid w' : Whole) (xs : List Step) (x : Step) (o : Outcome) → Runs w xs mid → Steps mid x o w' → Runs w (xs ++ x ∷ []) w'
runs_push w mid w' [] x o e last = (o, w', subst (λ (v : Whole). Steps v x o w') e last, refl)
runs_push w mid w' (y ∷ xs) x o run last = (run.0, run.1, run.2, runs_push run.1 mid w' xs x o run.3 last)

abbrev pub AllHeld : Core → Type 0
AllHeld c = (n : ℕ) (f : Flight) → open_op c.events n ≡ Some f → allows (held (decls c.procs) c.events f.txn (target f.op)) (is_read f.op) ≡ true

abbrev pub AllCovered : Core → Type 0
AllCovered c = (n : ℕ) (f : Flight) → InFlight c.events c.sites n f
    → allows (held_for (decls c.procs) (call_of c.events f.txn) (target f.op)) (is_read f.op) ≡ true

abbrev pub AllApart : Core → Type 0
AllApart c = (m n : ℕ) (f g : Flight) → InFlight c.events c.sites m f → InFlight c.events c.sites n g → m ≢ n → conflict f.op g.op ≡ false

pub all_held : (c d : Core) → c ≡ d → Legal c.procs c.events → AllGood c.procs → AllHeld d
all_held c d same legal good = subst AllHeld same (λ n f is. flight_covered c.procs c.events good legal n f is)

pub all_covered : (c d : Core) → c ≡ d → Legal c.procs c.events → AllGood c.procs → AllCovered d
all_covered c d same legal good = subst AllCovered same (λ n f is. in_flight_covered c.procs c.events c.sites good legal n f is)

pub all_apart : (c d : Core) → c ≡ d → Legal c.procs c.events → AllGood c.procs → AllApart d
all_apart c d same legal good = subst AllApart same (λ m n f g is are differ. in_flight_apart c.procs c.events c.sites good legal m n f g is are differ)

pub is_legal : (c d : Core) → c ≡ d → Legal c.procs c.events → Legal d.procs d.events
is_legal c d same legal = subst (λ (x : Core). Legal x.procs x.events) same legal

pub read_at : {X : Type 0} (xs : List X) (k : ℕ) (x : X) → k < length xs → x ≡ slice_index_or xs k x → slice_get xs k ≡ Some x
read_at [] k x inside e = absurd (omega (arith, inside))
read_at (y ∷ xs) zero x inside e = ap (λ z. Some z) (sym e)
read_at (y ∷ xs) (suc k) x inside e = read_at xs k x (omega (arith, inside)) e
