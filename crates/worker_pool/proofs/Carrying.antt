-- What is carried for a request, and that it is in flight.
use Rattle.std.proofs.Common.{◌≡◌, ℕ, zero, suc, ◌+◌, true, false, List, [], ◌∷◌, Option, Some, None, Ok, Err, Result, refl, sym, ◌∙◌, ap, subst, inl, inr}
use Rattle.std.specs.Prelude.{slice_get, slice_set, OnOk, OnErr, IsTrue, Bool, ◌↔◌}
use Rattle.access_slots.specs.Locks.{target}
use Rattle.access_slots.specs.declared.op.Wire.{Wire}
use Rattle.access_slots.specs.declared.op.News.{News}
use Rattle.access_slots.specs.declared.op.Op.{Op}
use Rattle.tc_log.specs.declared.event.Event.{Event}
use Rattle.tc_log.specs.declared.event.Event.TheVariants.{Ask, Undo}
use Rattle.tc_log.specs.declared.event.Outcome.{Outcome}
use Rattle.tc_log.specs.declared.event.Outcome.TheVariants as outcome
use Rattle.verifier.specs.Checked.{Checked}
use Rattle.history.specs.Flight.{given, open_op}
use Rattle.history.specs.Redo.{to_redo}
use Rattle.history.specs.declared.Answered.{Answered}
use Rattle.transactions.specs.declared.Redoing.{Redoing}
use Rattle.transactions.specs.declared.Site.{Site}
use Rattle.transactions.specs.declared.Next.{Next}
use Rattle.transactions.specs.declared.Next.TheVariants as next
use Rattle.transactions.specs.InFlight.{site_by, site_of, to_redo_by, under_redo, IsOpenAtSite, IsUnderRedo, Open, Again}
use Rattle.transactions.specs.Legal.{Legal}
use Rattle.transactions.specs.Next.{next_in}
use Rattle.transactions.specs.Standing.{Standing, standing, moved, asked, undone as undone_by}
use Rattle.transactions.proofs.Flights.{flight, standing_flight}
use Rattle.transactions.proofs.Restarts.{redo_dc}
use Rattle.transactions.specs.declared.Sent.{Sent}
use Rattle.transactions.proofs.StandingLemmas.{standing-same, some_same}
use Rattle.tc_core.specs.Core.{Core, Asking}
use Rattle.tc_core.specs.GivingUp.{IsOpenHere}
use Rattle.tc_core.specs.Recovery.{sent_in}
use Rattle.tc_core.specs.Lent.{wire_for, wire_by, wire_of}
use Rattle.tc_core.specs.Replies.{next_at, asked_by, ask_reply, after_ask, undone, undo_by, undo_reply, after_undo}
use Rattle.tc_core.specs.Redo.{redo_wire, redo_reply, redo_at, redo_by, sends_again, up_again, after_redo, after_told, redone_at, after_redone}
use Rattle.tc_core.specs.declared.state.Asked.TheVariants.{Request}
use Rattle.tc_core.specs.declared.state.Down.{Down}
use Rattle.tc_core.specs.declared.state.NewsFault.{NewsFault}
use Rattle.tc_core.specs.declared.state.RedoMismatch.{RedoMismatch}
use Rattle.tc_core.specs.declared.state.Redo.{Redo}
use Rattle.tc_core.specs.declared.state.Redo.TheVariants as redo
use Rattle.worker_pool.specs.Joining.Ups.{IsUpFor}
use Rattle.worker_pool.specs.Wires.{IsItsOwn, IsToRedo, IsOfRun, IsCarriedFor, IsInFlight, WasInFlight, OnItsWay}
use Rattle.worker_pool.specs.Joining.Moves.{Sends, GoesOnSending, IsHeldBy}
use Rattle.worker_pool.specs.declared.pool_state.Next.{Next as Then}
use Rattle.worker_pool.specs.declared.pool_state.Next.TheVariants as then

-- ---- where nothing is to be redone, the data component is up

abbrev pub NoSend : Redo → Type 0
NoSend (redo.Send w) = ⊥
NoSend redo.Finished = Unit {0}
NoSend redo.NotDown = Unit {0}
NoSend redo.NoDc = Unit {0}

pub set_up : (sites : List Site) (d : ℕ) (s x : Site) → slice_get sites d ≡ Some x → slice_get (slice_set sites d s) d ≡ Some s
set_up [] d s x at = cc
set_up (y ∷ sites) zero s x at = refl
set_up (y ∷ sites) (suc d) s x at = set_up sites d s x at

abbrev is_up_at : Core → ℕ → Type 0
is_up_at c d = (site_by (slice_get c.sites d)).redo ≡ None

finished_up : (c : Core) (d : ℕ) (s : Site) → slice_get c.sites d ≡ Some s → is_up_at (up_again c d (Some s)) d
finished_up c d s is = ap (λ (o : Option Site). (site_by o).redo) (set_up c.sites d (record s { redo = None }) s is)

up_behind : (c : Core) (d incarnation mark : ℕ) (s : Site) (a : Option Answered) → slice_get c.sites d ≡ Some s
    → NoSend (sends_again incarnation mark a) → is_up_at (after_redo c d (sends_again incarnation mark a)) d
up_behind c d incarnation mark s None is no_send = rw is (finished_up c d s is)
up_behind c d incarnation mark s (Some a) is no_send = absurd no_send

up_site : (c : Core) (d : ℕ) (s : Site) (o : Option Redoing) → s.redo ≡ o → slice_get c.sites d ≡ Some s
    → NoSend (redo_by c d s.incarnation o) → is_up_at (after_redo c d (redo_by c d s.incarnation o)) d
up_site c d s None up is no_send = ap (λ (x : Option Site). (site_by x).redo) is ∙ up
up_site c d s (Some r) down is no_send = up_behind c d s.incarnation r.mark s (to_redo c.events d r.redone) is no_send

up_at : (c : Core) (d : ℕ) (o : Option Site) → slice_get c.sites d ≡ o → NoSend (redo_at c d o) → is_up_at (after_redo c d (redo_at c d o)) d
up_at c d None is no_send = ap (λ (x : Option Site). (site_by x).redo) is
up_at c d (Some s) is no_send = up_site c d s s.redo refl is no_send

pub up_where_no_send : (old new : Core) (r : Asking) (d : ℕ) (reply : Redo) → d ≡ (target r.op).dc → reply ≡ redo_reply old d
    → new ≡ after_redo old d reply → NoSend reply → IsUpFor new r
up_where_no_send old new r d reply own is after no_send =
    subst (is_up_at new) own (rw (after, is) (up_at old d (slice_get old.sites d) refl (subst NoSend is no_send)))

-- ---- a request's own wire

pub own : (c : Core) (r : Asking) (w : Wire) → IsOpenHere c r → Ok w ≡ wire_of c r → IsItsOwn c r w
own c r w is_open is = record { is_open = is_open; made = sym is }

down_by : (c : Core) (r : Asking) (incarnation : ℕ) (o : Option Redoing) (d : Down) → o ≡ None → Err d ≡ wire_by c r incarnation o → ⊥
down_by c r incarnation None d up is = cc
down_by c r incarnation (Some redo) d up is = cc

pub never_down : (c : Core) (r : Asking) (d : Down) → IsUpFor c r → Err d ≡ wire_of c r → ⊥
never_down c r d up is = down_by c r (site_of c.sites r.op).incarnation (site_of c.sites r.op).redo d up is

-- what is to be redone changes nothing
pub to_redo_now : (old new : Core) (r : Asking) (d : ℕ) (reply : Redo) (w : Wire) → d ≡ (target r.op).dc → reply ≡ redo_reply old d
    → new ≡ after_redo old d reply → reply ≡ redo.Send w → IsToRedo new r w
to_redo_now old new r d reply w own is after sends =
    let same : new ≡ old = after ∙ ap (after_redo old d) sends in
    subst (λ (c : Core). IsToRedo c r w) (sym same) (subst (λ (k : ℕ). redo_reply old k ≡ redo.Send w) own (sym is ∙ sends))

-- no event comes of it
pub redo_logs_nothing : (c : Core) (d : ℕ) (reply : Redo) → (after_redo c d reply).events ≡ c.events
redo_logs_nothing c d (redo.Send w) = refl
redo_logs_nothing c d redo.Finished = by (slice_get c.sites d)
  where
    by : (o : Option Site) → (up_again c d o).events ≡ c.events
    by None = refl
    by (Some s) = refl
redo_logs_nothing c d redo.NotDown = refl
redo_logs_nothing c d redo.NoDc = refl

pub told_logs_nothing : (old new : Core) (d : ℕ) (news : News) (result : Result Unit NewsFault)
    → OnOk result (new ≡ after_told old d news) → OnErr result (new ≡ old) → new.events ≡ old.events
told_logs_nothing old new d news (Ok x) ok err = ap (λ (c : Core). c.events) ok
told_logs_nothing old new d news (Err f) ok err = ap (λ (c : Core). c.events) err

redone_at_logs_nothing : (c : Core) (d n : ℕ) (o : Option Site) → (redone_at c d n o).events ≡ c.events
redone_at_logs_nothing c d n None = refl
redone_at_logs_nothing c d n (Some s) = refl

pub redone_logs_nothing : (old new : Core) (d n : ℕ) (result : Result Unit RedoMismatch)
    → OnOk result (new ≡ after_redone old d n) → OnErr result (new ≡ old) → new.events ≡ old.events
redone_logs_nothing old new d n (Ok x) ok err = ap (λ (c : Core). c.events) ok ∙ redone_at_logs_nothing old d n (slice_get old.sites d)
redone_logs_nothing old new d n (Err s) ok err = ap (λ (c : Core). c.events) err

pub open_still : (old new : Core) (r : Asking) → new.events ≡ old.events → IsOpenHere old r → IsOpenHere new r
open_still old new r same it = record {
  s = it.s;
  is = ap (λ (h : List Event). standing h r.txn) same ∙ it.is;
  sent = it.sent;
  waits = it.waits;
  same_number = it.same_number;
  same_op = it.same_op;
}

waiting_in : (o : Option Standing) (sent : Sent) → Some sent ≡ sent_in o → (s : Standing) × (o ≡ Some s) × (s.sent ≡ Some sent)
waiting_in None sent is = absurd cc
waiting_in (Some s) sent is = (s, refl, sym is)

-- it is open where its transaction waits for its number and operation
pub open_where : (c : Core) (r : Asking) (t : ℕ) (sent : Sent) (found : Bool) → t ≡ r.txn → Some sent ≡ sent_in (standing c.events t)
    → (IsTrue found ↔ ((sent.number ≡ r.number) × (sent.op ≡ r.op))) → (IsTrue found ↔ IsOpenHere c r)
open_where c r t sent found own waits same =
    let w = waiting_in (standing c.events t) sent waits in
    let at : standing c.events r.txn ≡ Some w.0 = ap (standing c.events) (sym own) ∙ w.1 in (
      λ it. record { s = w.0; is = at; sent = sent; waits = w.2; same_number = (same.0 it).0; same_op = (same.0 it).1 },
      λ it.
          let one : it.s ≡ w.0 = some_same it.s w.0 (sym it.is ∙ at) in
          let both : it.sent ≡ sent = some_same it.sent sent (sym it.waits ∙ (ap (λ (s : Standing). s.sent) one ∙ w.2)) in
          same.1 (ap (λ (x : Sent). x.number) (sym both) ∙ it.same_number, ap (λ (x : Sent). x.op) (sym both) ∙ it.same_op),
    )

-- ---- what is asked for the first time is open

-- it is of this transaction, which is open
record IsOf (t : ℕ) (n : Option Next) (r : Asking) : Type 0 where
  txn : r.txn ≡ t
  x : Next
  is : n ≡ Some x

abbrev asking : ℕ → ℕ → Op → Asking
asking t n o = record { txn = t; number = n; op = o }

asked_of : (t last : ℕ) (n : Option Next) (r : Asking) → asked_by t last n ≡ Request r → IsOf t n r
asked_of t last None r is = absurd cc
asked_of t last (Some (next.Waits k)) r is = absurd cc
asked_of t last (Some (next.Asks o)) r is =
    (let same : asking t (last + 1) o ≡ r = cc in record { txn = sym (ap (λ (a : Asking). a.txn) same); x = next.Asks o; is = refl })
asked_of t last (Some (next.Undoes o)) r is = absurd cc
asked_of t last (Some (next.Stuck k)) r is = absurd cc
asked_of t last (Some (next.Over o)) r is = absurd cc

over_asks_nothing : (o : Outcome) (r : Asking) → undone o ≡ Request r → ⊥
over_asks_nothing outcome.Committed r is = cc
over_asks_nothing (outcome.Aborted v) r is = cc
over_asks_nothing outcome.NoRoom r is = cc

undone_of : (t last : ℕ) (n : Option Next) (r : Asking) → undo_by t last n ≡ Request r → IsOf t n r
undone_of t last None r is = absurd cc
undone_of t last (Some (next.Waits k)) r is = absurd cc
undone_of t last (Some (next.Asks o)) r is = absurd cc
undone_of t last (Some (next.Undoes o)) r is =
    (let same : asking t (last + 1) o ≡ r = cc in record { txn = sym (ap (λ (a : Asking). a.txn) same); x = next.Undoes o; is = refl })
undone_of t last (Some (next.Stuck k)) r is = absurd cc
undone_of t last (Some (next.Over o)) r is = absurd (over_asks_nothing o r is)

record Stands (o : Option Standing) : Type 0 where
  s : Standing
  is : o ≡ Some s

stands_by : (ps : List Checked) (o : Option Standing) (x : Next) → next_in ps o ≡ Some x → Stands o
stands_by ps None x is = absurd cc
stands_by ps (Some s) x is = record { s = s; is = refl }

stands : (c : Core) (t : ℕ) (r : Asking) → IsOf t (next_at c t) r → Stands (standing c.events r.txn)
unfolding next_at
stands c t r it = subst (λ (u : ℕ). Stands (standing c.events u)) (sym it.txn) (stands_by c.procs (standing c.events t) it.x it.is)

pub ask_opens : (c : Core) (t : ℕ) (r : Asking) → ask_reply c t ≡ Request r → IsOpenHere (after_ask c (Request r)) r
ask_opens c t r is =
    let it = stands c t r (asked_of t (given c.events) (next_at c t) r is) in
    record {
      s = asked r.number r.op it.s;
      is = standing-same (Ask r.txn r.number r.op) c.events r.txn refl ∙ ap (moved (Ask r.txn r.number r.op)) it.is;
      sent = record { number = r.number; op = r.op; undoing = false };
      waits = refl;
      same_number = refl;
      same_op = refl;
    }

pub undo_opens : (c : Core) (t : ℕ) (r : Asking) → undo_reply c t ≡ Request r → IsOpenHere (after_undo c (Request r)) r
undo_opens c t r is =
    let it = stands c t r (undone_of t (given c.events) (next_at c t) r is) in
    record {
      s = undone_by r.number r.op it.s;
      is = standing-same (Undo r.txn r.number r.op) c.events r.txn refl ∙ ap (moved (Undo r.txn r.number r.op)) it.is;
      sent = record { number = r.number; op = r.op; undoing = true };
      waits = refl;
      same_number = refl;
      same_op = refl;
    }

-- ---- a state of the run carries it

pub carries_own : (start c : Core) (r : Asking) (w : Wire) → IsOfRun start c → IsItsOwn c r w → IsCarriedFor start r w
carries_own start c r w goes it = record { state = c; of_run = goes; carried = inl it }

pub carries_redo : (start c : Core) (r : Asking) (w : Wire) → IsOfRun start c → IsToRedo c r w → IsCarriedFor start r w
carries_redo start c r w goes it = record { state = c; of_run = goes; carried = inr it }

-- where nothing is held, nothing is left on its way
pub sends_nothing : (c : Core) (n : Then) (s : OnItsWay) → IsHeldBy n None → Sends c n s
sends_nothing c then.Begun s none = tt
sends_nothing c then.Carry s none = absurd cc
sends_nothing c then.Unanswered s none = cc
sends_nothing c then.Busy s none = tt
sends_nothing c then.Over s none = tt
sends_nothing c then.LeftOut s none = tt

pub sends_on : (c : Core) (n : Then) (old new : OnItsWay) → Sends c n new → GoesOnSending c n old new
sends_on c then.Begun old new it = tt
sends_on c then.Carry old new it = it
sends_on c then.Unanswered old new it = absurd it
sends_on c then.Busy old new it = tt
sends_on c then.Over old new it = tt
sends_on c then.LeftOut old new it = tt

pub put_again : (s : OnItsWay) (r : Asking) → s.request ≡ Some r → s ≡ record s { request = Some r }
put_again s r is = ap (λ (o : Option Asking). let x : OnItsWay = record s { request = o } in x) is

-- ---- what is carried is in flight

flies : (c : Core) (r : Asking) → Legal c.procs c.events → IsOpenHere c r → open_op c.events r.number ≡ Some (flight r.txn r.op)
flies c r legal here =
    ap (open_op c.events) (sym here.same_number)
    ∙ ((standing_flight c.procs c.events legal r.txn here.s here.sent here.is here.waits).1 ∙ ap (λ (o : Op). Some (flight r.txn o)) here.same_op)

pub own_flies : (c : Core) (r : Asking) (w : Wire) → Legal c.procs c.events → IsItsOwn c r w → IsInFlight c w
own_flies c r w legal it = by (site_of c.sites r.op).redo refl it.made
  where
    by : (o : Option Redoing) → (site_of c.sites r.op).redo ≡ o → wire_by c r (site_of c.sites r.op).incarnation o ≡ Ok w → IsInFlight c w
    by None up made =
        let same : wire_for c r (site_of c.sites r.op).incarnation ≡ w = cc in
        let open_it : IsOpenAtSite c.events c.sites r.number (flight r.txn r.op) = record { is_open = flies c r legal it.is_open; up = up } in
        subst (λ (x : Wire). IsInFlight c x) same (record { txn = r.txn; flight = Open open_it })
    by (Some redo) down made = absurd cc

-- it is, at this data component
abbrev pub IsRedoing : Core → ℕ → Wire → Type 0
IsRedoing c d w = IsInFlight c w × ((target w.op).dc ≡ d)

redoing_by : (c : Core) (d incarnation mark : ℕ) (s : Site) (r : Redoing) (a : Option Answered) (w : Wire) → Legal c.procs c.events
    → slice_get c.sites d ≡ Some s → s.redo ≡ Some r → to_redo c.events d r.redone ≡ a → sends_again incarnation mark a ≡ redo.Send w → IsRedoing c d w
redoing_by c d incarnation mark s r None w legal at down is sends = absurd cc
redoing_by c d incarnation mark s r (Some a) w legal at down is sends =
    let same : redo_wire incarnation mark a ≡ w = cc in
    let under : under_redo c.events c.sites d ≡ Some a = ap (to_redo_by c.events d) (ap (λ (o : Option Site). (site_by o).redo) at ∙ down) ∙ is in
    let there : (target a.op).dc ≡ d = redo_dc c.procs c.events legal c.sites d a under in
    let here : under_redo c.events c.sites (target a.op).dc ≡ Some a = ap (under_redo c.events c.sites) there ∙ under in
    let under_it : IsUnderRedo c.events c.sites a.number (flight a.txn a.op) = record { a = a; redo = here; number = refl; txn = refl; op = refl } in
    subst (λ (x : Wire). IsRedoing c d x) same (record { txn = a.txn; flight = Again under_it }, there)

pub redo_flies : (c : Core) (d : ℕ) (w : Wire) → Legal c.procs c.events → redo_reply c d ≡ redo.Send w → IsRedoing c d w
redo_flies c d w legal sends = by (slice_get c.sites d) refl sends
  where
    down : (s : Site) (o : Option Redoing) → slice_get c.sites d ≡ Some s → s.redo ≡ o → redo_by c d s.incarnation o ≡ redo.Send w → IsRedoing c d w
    down s None at is sends = absurd cc
    down s (Some r) at is sends = redoing_by c d s.incarnation r.mark s r (to_redo c.events d r.redone) w legal at is refl sends

    by : (o : Option Site) → slice_get c.sites d ≡ o → redo_at c d o ≡ redo.Send w → IsRedoing c d w
    by None at sends = absurd cc
    by (Some s) at sends = down s s.redo at refl sends

pub flew : (start : Core) (r : Asking) (w : Wire) → IsCarriedFor start r w → WasInFlight start w
flew start r w it = record {
  state = it.state;
  of_run = it.of_run;
  flight = elim it.carried [
    | inl own ↦ own_flies it.state r w it.of_run.goes_on.legal own
    | inr redo ↦ (redo_flies it.state (target r.op).dc w it.of_run.goes_on.legal redo).0
  ];
}
