-- What may come next, from what a transaction does next.
use Rattle.std.proofs.Common.{◌≡◌, ℕ, ◌<◌, Bool, true, false, not, ◌==◌, cond, nat_lt, Option, Some, None, List, refl, sym, ap, ◌∙◌, arith}
use Rattle.std.proofs.lemmas.Bool.Decides.{nat_tests}
use Rattle.access_slots.specs.declared.op.Op.{Op}
use Rattle.tc_log.specs.declared.event.Outcome.{Outcome}
use Rattle.tc_log.specs.declared.event.Outcome.TheVariants as outcome
use Rattle.verifier.specs.Checked.{Checked}
use Rattle.transactions.specs.declared.Sent.{Sent}
use Rattle.transactions.specs.declared.Next.{Next}
use Rattle.transactions.specs.declared.Next.TheVariants as next
use Rattle.transactions.specs.Standing.{Standing}
use Rattle.transactions.specs.Reached.{Reached, Asks, Ends, Nowhere, reached}
use Rattle.transactions.specs.Legal.{first_undo, is_stopped, ending, ending_with}
use Rattle.transactions.specs.Next.{ends_or_undoes, runs_on, idles, next_by, next_of}

-- it may ask
pub record MayAsk (sent : Option Sent) (full : Bool) (at : Reached) (o : Op) : Type 0 where
  pub idle : sent ≡ None
  pub not_full : full ≡ false
  pub asks : at ≡ Asks o

undoes_no_ask : (left : Option Op) (tries last : ℕ) (e : Outcome) (o : Op) → Some (ends_or_undoes left tries last e) ≡ Some (next.Asks o) → ⊥
undoes_no_ask None tries last e o is = cc
undoes_no_ask (Some w) tries last e o is = by (nat_lt tries 4) is
  where
    by : (b : Bool) → Some (cond b (next.Undoes w) (next.Stuck last)) ≡ Some (next.Asks o) → ⊥
    by true h = cc
    by false h = cc

ends_no_ask : (b : Bool) (left : Option Op) (tries last : ℕ) (e : Outcome) (o : Op)
    → Some (cond b (next.Over outcome.Committed) (ends_or_undoes left tries last e)) ≡ Some (next.Asks o) → ⊥
ends_no_ask true left tries last e o is = cc
ends_no_ask false left tries last e o is = undoes_no_ask left tries last e o is

pub may_ask : (sent : Option Sent) (full : Bool) (left : Option Op) (tries last : ℕ) (at : Reached) (o : Op)
    → next_by sent full left tries last at ≡ Some (next.Asks o) → MayAsk sent full at o
may_ask (Some r) full left tries last at o is = absurd cc
may_ask None true left tries last at o is = absurd (undoes_no_ask left tries last outcome.NoRoom o is)
may_ask None false left tries last (Asks p) o is = record { idle = refl; not_full = refl; asks = (let same : p ≡ o = cc in ap (λ (x : Op). Asks x) same) }
may_ask None false left tries last (Ends v) o is = absurd (ends_no_ask (v == 0) left tries last (outcome.Aborted v) o is)
may_ask None false left tries last Nowhere o is = absurd cc

-- it may be undone
pub record MayUndo (sent : Option Sent) (full : Bool) (left : Option Op) (tries : ℕ) (at : Reached) (o : Op) : Type 0 where
  pub idle : sent ≡ None
  pub stopped : is_stopped full at ≡ true
  pub top : left ≡ Some o
  pub few : tries < 4

record Undoable (left : Option Op) (tries : ℕ) (o : Op) : Type 0 where
  top : left ≡ Some o
  few : tries < 4

undoes : (left : Option Op) (tries last : ℕ) (e : Outcome) (o : Op)
    → Some (ends_or_undoes left tries last e) ≡ Some (next.Undoes o) → Undoable left tries o
undoes None tries last e o is = absurd cc
undoes (Some w) tries last e o is = by (nat_lt tries 4) refl is
  where
    by : (b : Bool) → nat_lt tries 4 ≡ b → Some (cond b (next.Undoes w) (next.Stuck last)) ≡ Some (next.Undoes o) → Undoable (Some w) tries o
    by true t h = record { top = (let same : w ≡ o = cc in ap (λ (x : Op). Some x) same); few = grind (arith, nat_tests) }
    by false t h = absurd cc

pub may_undo : (sent : Option Sent) (full : Bool) (left : Option Op) (tries last : ℕ) (at : Reached) (o : Op)
    → next_by sent full left tries last at ≡ Some (next.Undoes o) → MayUndo sent full left tries at o
may_undo (Some r) full left tries last at o is = absurd cc
may_undo None true left tries last at o is =
    let u = undoes left tries last outcome.NoRoom o is in
    record { idle = refl; stopped = refl; top = u.top; few = u.few }
may_undo None false left tries last (Asks p) o is = absurd cc
may_undo None false left tries last Nowhere o is = absurd cc
may_undo None false left tries last (Ends v) o is = by (v == 0) refl is
  where
    by : (b : Bool) → (v == 0) ≡ b
        → Some (cond b (next.Over outcome.Committed) (ends_or_undoes left tries last (outcome.Aborted v))) ≡ Some (next.Undoes o)
        → MayUndo None false left tries (Ends v) o
    by true t h = absurd cc
    by false t h = (let u = undoes left tries last (outcome.Aborted v) o h in record { idle = refl; stopped = ap not t; top = u.top; few = u.few })

-- it may end
pub record MayEnd (sent : Option Sent) (full : Bool) (left : Option Op) (at : Reached) (o : Outcome) : Type 0 where
  pub idle : sent ≡ None
  pub ends : ending full left at ≡ Some o

over : (left : Option Op) (tries last : ℕ) (e o : Outcome)
    → Some (ends_or_undoes left tries last e) ≡ Some (next.Over o) → ending_with left e ≡ Some o
over None tries last e o is = (let same : e ≡ o = cc in ap (λ (x : Outcome). Some x) same)
over (Some w) tries last e o is = by (nat_lt tries 4) is
  where
    by : (b : Bool) → Some (cond b (next.Undoes w) (next.Stuck last)) ≡ Some (next.Over o) → ending_with (Some w) e ≡ Some o
    by true h = absurd cc
    by false h = absurd cc

pub may_end : (sent : Option Sent) (full : Bool) (left : Option Op) (tries last : ℕ) (at : Reached) (o : Outcome)
    → next_by sent full left tries last at ≡ Some (next.Over o) → MayEnd sent full left at o
may_end (Some r) full left tries last at o is = absurd cc
may_end None true left tries last at o is = record { idle = refl; ends = over left tries last outcome.NoRoom o is }
may_end None false left tries last (Asks p) o is = absurd cc
may_end None false left tries last Nowhere o is = absurd cc
may_end None false left tries last (Ends v) o is = by (v == 0) refl is
  where
    by : (b : Bool) → (v == 0) ≡ b
        → Some (cond b (next.Over outcome.Committed) (ends_or_undoes left tries last (outcome.Aborted v))) ≡ Some (next.Over o)
        → MayEnd None false left (Ends v) o
    by true t h = record {
      idle = refl;
      ends = ap (λ (b : Bool). cond b (Some outcome.Committed) (ending_with left
          (outcome.Aborted v))) t ∙ (let same : outcome.Committed ≡ o = cc in ap (λ (x : Outcome). Some x) same);
    }
    by false t h = record {
      idle = refl;
      ends = ap (λ (b : Bool). cond b (Some outcome.Committed) (ending_with left (outcome.Aborted v))) t
          ∙ over left tries last (outcome.Aborted v) o h;
    }
