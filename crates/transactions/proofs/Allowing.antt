-- What a transaction does next is what the rule of the log allows, and the other way round.
use Rattle.std.proofs.Common.{◌≡◌, ℕ, ◌+◌, ◌<◌, Bool, true, false, not, ◌==◌, cond, nat_lt, Option, Some, None, List}
use Rattle.std.proofs.Common.{refl, sym, ap, ◌∙◌, subst, arith}
use Rattle.std.specs.Prelude.{◌↔◌}
use Rattle.std.proofs.lemmas.Bool.Decides.{nat_tests}
use Rattle.access_slots.specs.declared.op.Op.{Op}
use Rattle.tc_log.specs.declared.event.Event.{Event}
use Rattle.tc_log.specs.declared.event.Outcome.{Outcome}
use Rattle.tc_log.specs.declared.event.Outcome.TheVariants as outcome
use Rattle.verifier.specs.Checked.{Checked}
use Rattle.history.specs.Flight.{given}
use Rattle.transactions.specs.declared.Sent.{Sent}
use Rattle.transactions.specs.declared.Next.{Next}
use Rattle.transactions.specs.declared.Next.TheVariants as next
use Rattle.transactions.specs.Standing.{Standing, standing}
use Rattle.transactions.specs.Reached.{Reached, Asks, Ends, Nowhere, reached}
use Rattle.transactions.specs.Legal.{CanAsk, CanUndo, CanEnd, first_undo, is_stopped, ending, ending_with}
use Rattle.transactions.specs.Next.{ends_or_undoes, runs_on, idles, next_by, next_of, next_in}
use Rattle.transactions.proofs.StandingLemmas.{some_same}
use Rattle.transactions.proofs.Nexts.{may_ask, may_undo, may_end}

-- ---- what is allowed comes next

next_asks : (sent : Option Sent) (full : Bool) (left : Option Op) (tries last : ℕ) (at : Reached) (o : Op)
    → sent ≡ None → full ≡ false → at ≡ Asks o → next_by sent full left tries last at ≡ Some (next.Asks o)
next_asks sent full left tries last at o idle room asks = rw (idle, room, asks) refl

undoes_few : (w : Op) (tries last : ℕ) (e : Outcome) → tries < 4 → Some (ends_or_undoes (Some w) tries last e) ≡ Some (next.Undoes w)
undoes_few w tries last e few =
    let yes_few : nat_lt tries 4 ≡ true = grind (arith, nat_tests) in
    ap (λ (b : Bool). Some (cond b (next.Undoes w) (next.Stuck last))) yes_few

next_undoes : (full : Bool) (w : Op) (tries last : ℕ) (at : Reached) → is_stopped full at ≡ true → tries < 4
    → next_by None full (Some w) tries last at ≡ Some (next.Undoes w)
next_undoes true w tries last at stopped few = undoes_few w tries last outcome.NoRoom few
next_undoes false w tries last (Asks o) stopped few = absurd (cc)
next_undoes false w tries last Nowhere stopped few = absurd (cc)
next_undoes false w tries last (Ends v) stopped few = by (v == 0) refl
  where
    by : (b : Bool) → (v == 0) ≡ b → next_by None false (Some w) tries last (Ends v) ≡ Some (next.Undoes w)
    by true e = absurd (let bad : false ≡ true = sym (ap not e) ∙ stopped in cc)
    by false e =
        ap (λ (b : Bool). Some (cond b (next.Over outcome.Committed)
        (ends_or_undoes (Some w) tries last (outcome.Aborted v)))) e
        ∙ undoes_few w tries last (outcome.Aborted v) few

over_with : (left : Option Op) (tries last : ℕ) (e o : Outcome) → ending_with left e ≡ Some o
    → Some (ends_or_undoes left tries last e) ≡ Some (next.Over o)
over_with None tries last e o is = ap (λ (x : Outcome). Some (next.Over x)) (some_same e o is)
over_with (Some w) tries last e o is = absurd (let bad : None ≡ Some o = is in cc)

next_ends : (full : Bool) (left : Option Op) (tries last : ℕ) (at : Reached) (o : Outcome)
    → ending full left at ≡ Some o → next_by None full left tries last at ≡ Some (next.Over o)
next_ends true left tries last at o is = over_with left tries last outcome.NoRoom o is
next_ends false left tries last (Asks p) o is = absurd (let bad : None ≡ Some o = is in cc)
next_ends false left tries last Nowhere o is = absurd (let bad : None ≡ Some o = is in cc)
next_ends false left tries last (Ends v) o is = by (v == 0) refl
  where
    by : (b : Bool) → (v == 0) ≡ b → next_by None false left tries last (Ends v) ≡ Some (next.Over o)
    by true e =
        let now : Some outcome.Committed ≡ Some o = sym (ap (λ (b : Bool). cond b (Some outcome.Committed) (ending_with left (outcome.Aborted v))) e) ∙ is in
        ap (λ (b : Bool). Some (cond b (next.Over outcome.Committed)
        (ends_or_undoes left tries last (outcome.Aborted v)))) e
        ∙ ap (λ (x : Outcome). Some (next.Over x)) (some_same _ o now)
    by false e =
        let now : ending_with left (outcome.Aborted v) ≡ Some o =
        sym (ap (λ (b : Bool). cond b (Some outcome.Committed) (ending_with left (outcome.Aborted v))) e) ∙ is in
        ap (λ (b : Bool). Some (cond b (next.Over outcome.Committed)
        (ends_or_undoes left tries last (outcome.Aborted v)))) e
        ∙ over_with left tries last (outcome.Aborted v) o now

-- ---- both ways

-- a transaction that does something next is open
record Does (ps : List Checked) (o : Option Standing) (n : Next) : Type 0 where
  s : Standing
  is : o ≡ Some s
  does : next_of ps s ≡ Some n

does_in : (ps : List Checked) (o : Option Standing) (n : Next) → next_in ps o ≡ Some n → Does ps o n
does_in ps None n e = absurd (cc)
does_in ps (Some s) n e = record { s = s; is = refl; does = e }

pub asks_allowed : (ps : List Checked) (h : List Event) (t : ℕ) (o : Op)
    → (next_in ps (standing h t) ≡ Some (next.Asks o)) ↔ CanAsk ps h t (given h + 1) o
asks_allowed ps h t o = (
  λ e.
      let d = does_in ps (standing h t) (next.Asks o) e in
      let s = d.s in
      let may = may_ask s.sent s.full (first_undo s.undo) s.tries s.last (reached ps s) o d.does in
      record { s = s; is = d.is; idle = may.idle; not_full = may.not_full; asks = may.asks; next = refl },
  λ can.
      let s = can.s in
      ap (next_in ps) can.is ∙ next_asks s.sent s.full (first_undo s.undo) s.tries s.last (reached ps s) o can.idle can.not_full can.asks,
)

pub undoes_allowed : (ps : List Checked) (h : List Event) (t : ℕ) (o : Op)
    → (next_in ps (standing h t) ≡ Some (next.Undoes o)) ↔ CanUndo ps h t (given h + 1) o
undoes_allowed ps h t o = (
  λ e.
      let d = does_in ps (standing h t) (next.Undoes o) e in
      let s = d.s in
      let may = may_undo s.sent s.full (first_undo s.undo) s.tries s.last (reached ps s) o d.does in
      record { s = s; is = d.is; idle = may.idle; stopped = may.stopped; top = may.top; few = may.few; next = refl },
  λ can.
      let s = can.s in
      ap (next_in ps) can.is
      ∙ (ap (λ (x : Option Sent). next_by x s.full (first_undo s.undo) s.tries s.last (reached ps s)) can.idle
      ∙ (ap (λ (x : Option Op). next_by None s.full x s.tries s.last (reached ps s)) can.top
      ∙ next_undoes s.full o s.tries s.last (reached ps s) can.stopped can.few)),
)

pub ends_allowed : (ps : List Checked) (h : List Event) (t : ℕ) (o : Outcome) → (next_in ps (standing h t) ≡ Some (next.Over o)) ↔ CanEnd ps h t o
ends_allowed ps h t o = (
  λ e.
      let d = does_in ps (standing h t) (next.Over o) e in
      let s = d.s in
      let may = may_end s.sent s.full (first_undo s.undo) s.tries s.last (reached ps s) o d.does in
      record { s = s; is = d.is; idle = may.idle; ends = may.ends },
  λ can.
      let s = can.s in
      ap (next_in ps) can.is
      ∙ (ap (λ (x : Option Sent). next_by x s.full (first_undo s.undo) s.tries s.last (reached ps s)) can.idle
      ∙ next_ends s.full (first_undo s.undo) s.tries s.last (reached ps s) o can.ends),
)
