-- What is next for an open transaction, and what `ask`, `undo_next` and `end` make of it.
use Rattle.std.proofs.Common.{◌≡◌, ℕ, ◌+◌, ◌-◌, ◌*◌, ◌<◌, ◌≤◌, Bool, true, false, ◌==◌, cond, nat_lt, List, ◌∷◌}
use Rattle.std.proofs.Common.{Option, Some, None, Err, refl, sym, ◌∙◌, ap, subst, arith}
use Rattle.access_slots.specs.declared.op.Op.{Op}
use Rattle.access_slots.specs.declared.op.Said.{Said}
use Rattle.tc_log.specs.declared.event.Event.{Event}
use Rattle.tc_log.specs.declared.event.Event.TheVariants.{Ask, Answer, Undo, End}
use Rattle.tc_log.specs.declared.event.Outcome.{Outcome}
use Rattle.tc_log.specs.declared.event.Outcome.TheVariants as outcome
use Rattle.semantics.specs.Step.{Setting}
use Rattle.semantics.specs.Reach.{Stop, Asked as AsksAt, Exited, Trapped, Unfinished, AreArguments, IsFineStop, reach}
use Rattle.semantics.specs.Row.{plain_bases}
use Rattle.verifier.specs.Checked.{Checked}
use Rattle.history.specs.Flight.{given}
use Rattle.transactions.specs.declared.Sent.{Sent}
use Rattle.transactions.specs.declared.Next.{Next}
use Rattle.transactions.specs.declared.Next.TheVariants as next
use Rattle.transactions.specs.Standing.{Standing, standing, asked, undone, answered}
use Rattle.transactions.specs.Reached.{Reached, Asks, Ends, Nowhere, reached, reached_of, reached_by, plain, stop_at, Fitting, IsGood, AllGood, calls}
use Rattle.transactions.specs.Legal.{Legal, first_undo, CanAsk, CanUndo}
use Rattle.transactions.specs.Next.{ends_or_undoes, next_by, next_of, next_in}
use Rattle.transactions.specs.Room.{weighed, events_left, numbers_left, one_sent}
use Rattle.transactions.proofs.Running.{plain_layout}
use Rattle.transactions.proofs.Sound.{standing_sound, ask_leaves, undo_leaves}
use Rattle.transactions.proofs.Allowing.{asks_allowed, undoes_allowed}
use Rattle.transactions.proofs.StandingLemmas.{standing-same}
use Rattle.tc_core.specs.Core.{Core, Asking}
use Rattle.tc_core.specs.Replies.{next_at, with_event, asked_by, ask_reply, over_in, end_of, end_reply, undo_by, undo_reply}
use Rattle.tc_core.specs.GivingUp.{IsOpenHere}
use Rattle.tc_core.specs.Recovery.{asking_by, asking_in, open_request}
use Rattle.tc_core.specs.declared.state.NotOver.{NotOver}
use Rattle.tc_core.specs.declared.state.Asked.{Asked}
use Rattle.tc_core.specs.declared.state.Asked.TheVariants.{Request, Undoing, Over, Stuck, Waits, Running, Unknown}
use Rattle.coming_back.specs.Joining.Moving.{IsOpen, left_of}

-- ---- an open transaction has something to do next

fine_somewhere : (s : Setting) (st : Stop) → IsFineStop s st → reached_of st ≡ Nowhere → ⊥
fine_somewhere s (AsksAt slot operation c) fine is = cc
fine_somewhere s (Exited v c) fine is = cc
fine_somewhere s (Trapped cause) fine is = fine
fine_somewhere s Unfinished fine is = fine

somewhere : (q : Checked) (args : List ℕ) (answers : List Said) → IsGood q → AreArguments q.decl args
    → Fitting q args answers → reached_of (stop_at q args answers) ≡ Nowhere → ⊥
unfolding stop_at Fitting
somewhere q args answers good takes fit is = fine_somewhere (plain q args) (reach (plain q args) answers)
    (good.safe.always args plain_bases answers plain_layout takes fit) is

no_next : (sent : Option Sent) (full : Bool) (left : Option Op) (tries last : ℕ) (at : Reached)
    → next_by sent full left tries last at ≡ None → at ≡ Nowhere
no_next (Some r) full left tries last at is = absurd cc
no_next None true left tries last at is = absurd cc
no_next None false left tries last (Asks p) is = absurd cc
no_next None false left tries last (Ends v) is = absurd cc
no_next None false left tries last Nowhere is = refl

has_next : (c : Core) (t : ℕ) → Legal c.procs c.events → AllGood c.procs → IsOpen c t → next_at c t ≡ None → ⊥
unfolding next_at
has_next c t legal good still none =
    let s = still.s in
    let it = standing_sound c.procs good c.events legal t s still.is in
    let nowhere : reached c.procs s ≡ Nowhere = no_next s.sent s.full (first_undo s.undo) s.tries s.last
    (reached c.procs s) (ap (next_in c.procs) (sym still.is) ∙ none) in
    somewhere it.q s.call.args s.answers (good s.call.proc it.q it.loaded) it.takes it.fit
    (ap (λ (o : Option Checked). reached_by o s.call.args s.answers) (sym it.loaded) ∙ nowhere)

-- ---- what `ask` answered

not_known : (t last : ℕ) (n : Option Next) → (n ≡ None → ⊥) → asked_by t last n ≡ Unknown → ⊥
not_known t last None some is = some refl
not_known t last (Some (next.Waits m)) some is = cc
not_known t last (Some (next.Asks o)) some is = cc
not_known t last (Some (next.Undoes o)) some is = cc
not_known t last (Some (next.Stuck m)) some is = cc
not_known t last (Some (next.Over o)) some is = cc

pub never_unknown : (c : Core) (t : ℕ) → Legal c.procs c.events → AllGood c.procs → IsOpen c t → ask_reply c t ≡ Unknown → ⊥
never_unknown c t legal good still is = not_known t (given c.events) (next_at c t) (has_next c t legal good still) is

not_running : (t last : ℕ) (n : Option Next) → asked_by t last n ≡ Running → ⊥
not_running t last None is = cc
not_running t last (Some (next.Waits m)) is = cc
not_running t last (Some (next.Asks o)) is = cc
not_running t last (Some (next.Undoes o)) is = cc
not_running t last (Some (next.Stuck m)) is = cc
not_running t last (Some (next.Over o)) is = cc

pub never_running : (c : Core) (t : ℕ) → ask_reply c t ≡ Running → ⊥
never_running c t is = not_running t (given c.events) (next_at c t) is

asked_stuck : (t last m : ℕ) (n : Option Next) → asked_by t last n ≡ Stuck m → n ≡ Some (next.Stuck m)
asked_stuck t last m None is = absurd cc
asked_stuck t last m (Some (next.Waits k)) is = absurd cc
asked_stuck t last m (Some (next.Asks o)) is = absurd cc
asked_stuck t last m (Some (next.Undoes o)) is = absurd cc
asked_stuck t last m (Some (next.Stuck k)) is = (let same : k ≡ m = cc in ap (λ (x : ℕ). Some (next.Stuck x)) same)
asked_stuck t last m (Some (next.Over o)) is = absurd cc

pub stuck_next : (c : Core) (t m : ℕ) → ask_reply c t ≡ Stuck m → next_at c t ≡ Some (next.Stuck m)
stuck_next c t m is = asked_stuck t (given c.events) m (next_at c t) is

-- ---- one that waits

asked_waits : (t last m : ℕ) (n : Option Next) → asked_by t last n ≡ Waits m → n ≡ Some (next.Waits m)
asked_waits t last m None is = absurd cc
asked_waits t last m (Some (next.Waits k)) is = (let same : k ≡ m = cc in ap (λ (x : ℕ). Some (next.Waits x)) same)
asked_waits t last m (Some (next.Asks o)) is = absurd cc
asked_waits t last m (Some (next.Undoes o)) is = absurd cc
asked_waits t last m (Some (next.Stuck k)) is = absurd cc
asked_waits t last m (Some (next.Over o)) is = absurd cc

no_wait : (left : Option Op) (tries last : ℕ) (e : Outcome) (n : ℕ) → Some (ends_or_undoes left tries last e) ≡ Some (next.Waits n) → ⊥
no_wait None tries last e n is = cc
no_wait (Some w) tries last e n is = by (nat_lt tries 4) is
  where
    by : (b : Bool) → Some (cond b (next.Undoes w) (next.Stuck last)) ≡ Some (next.Waits n) → ⊥
    by true h = cc
    by false h = cc

may_wait : (t : ℕ) (sent : Option Sent) (full : Bool) (left : Option Op) (tries last : ℕ) (at : Reached) (n : ℕ)
    → next_by sent full left tries last at ≡ Some (next.Waits n) → asking_by t sent ≡ None → ⊥
may_wait t (Some r) full left tries last at n is none = cc
may_wait t None true left tries last at n is none = no_wait left tries last outcome.NoRoom n is
may_wait t None false left tries last (Asks p) n is none = cc
may_wait t None false left tries last Nowhere n is none = cc
may_wait t None false left tries last (Ends v) n is none = by (v == 0) is
  where
    by : (b : Bool)
        → Some (cond b (next.Over outcome.Committed) (ends_or_undoes left tries last (outcome.Aborted v))) ≡ Some (next.Waits n) → ⊥
    by true h = cc
    by false h = no_wait left tries last (outcome.Aborted v) n h

waiting_by : (sent : Option Sent) (full : Bool) (left : Option Op) (tries last : ℕ) (at : Reached) (n : ℕ)
    → next_by sent full left tries last at ≡ Some (next.Waits n) → (r : Sent) × (sent ≡ Some r) × (r.number ≡ n)
waiting_by (Some r) full left tries last at n is = (r, refl, cc)
waiting_by None full left tries last at n is = absurd (may_wait 0 None full left tries last at n is refl)

waiting_in : (ps : List Checked) (o : Option Standing) (n : ℕ) → next_in ps o ≡ Some (next.Waits n)
    → (s : Standing) × (r : Sent) × (o ≡ Some s) × (s.sent ≡ Some r) × (r.number ≡ n)
waiting_in ps None n is = absurd cc
waiting_in ps (Some s) n is =
    let it = waiting_by s.sent s.full (first_undo s.undo) s.tries s.last (reached ps s) n is in
    (s, it.0, refl, it.1, it.2)

-- what a transaction waits for
pub waiting : (c : Core) (t n : ℕ) → next_at c t ≡ Some (next.Waits n)
    → (s : Standing) × (r : Sent) × (standing c.events t ≡ Some s) × (s.sent ≡ Some r) × (r.number ≡ n)
unfolding next_at
waiting c t n is = waiting_in c.procs (standing c.events t) n is

waits_in : (ps : List Checked) (t n : ℕ) (o : Option Standing) → next_in ps o ≡ Some (next.Waits n) → asking_in t o ≡ None → ⊥
waits_in ps t n None is none = cc
waits_in ps t n (Some s) is none = may_wait t s.sent s.full (first_undo s.undo) s.tries s.last (reached ps s) n is none

pub never_idle : (c : Core) (t n : ℕ) → ask_reply c t ≡ Waits n → open_request c t ≡ None → ⊥
unfolding next_at
never_idle c t n is none = waits_in c.procs t n (standing c.events t) (asked_waits t (given c.events) n (next_at c t) is) none

requested_by : (t : ℕ) (sent : Option Sent) (r : Asking) → Some r ≡ asking_by t sent → r.txn ≡ t
requested_by t None r is = absurd cc
requested_by t (Some s) r is = (let this : Asking = record { txn = t; number = s.number; op = s.op } in let same :
    r ≡ this = cc in ap (λ (x : Asking). x.txn) same)

requested_in : (t : ℕ) (o : Option Standing) (r : Asking) → Some r ≡ asking_in t o → r.txn ≡ t
requested_in t None r is = absurd cc
requested_in t (Some s) r is = requested_by t s.sent r is

pub requested_own : (c : Core) (t : ℕ) (r : Asking) → Some r ≡ open_request c t → r.txn ≡ t
requested_own c t r is = requested_in t (standing c.events t) r is

-- a request that is open is waited for
waits_next_by : (ps : List Checked) (s : Standing) (sent : Sent) → s.sent ≡ Some sent → next_of ps s ≡ Some (next.Waits sent.number)
waits_next_by ps s sent is = ap (λ (o : Option Sent). next_by o s.full (first_undo s.undo) s.tries s.last (reached ps s)) is

pub waits_next : (c : Core) (r : Asking) → IsOpenHere c r → next_at c r.txn ≡ Some (next.Waits r.number)
unfolding next_at
waits_next c r here =
    ap (next_in c.procs) here.is
    ∙ (waits_next_by c.procs here.s here.sent here.waits ∙ ap (λ (n : ℕ). Some (next.Waits n)) here.same_number)

-- ---- one that is over

over_by : (t last : ℕ) (n : Option Next) → asked_by t last n ≡ Over → over_in n ≡ None → ⊥
over_by t last None is none = cc
over_by t last (Some (next.Waits k)) is none = cc
over_by t last (Some (next.Asks o)) is none = cc
over_by t last (Some (next.Undoes o)) is none = cc
over_by t last (Some (next.Stuck k)) is none = cc
over_by t last (Some (next.Over o)) is none = cc

-- one that is over ends
pub never_not_over : (c : Core) (t : ℕ) (e : NotOver) → ask_reply c t ≡ Over → Err e ≡ end_reply c t (end_of c t) → ⊥
never_not_over c t e over is = by (end_of c t) is (over_by t (given c.events) (next_at c t) over)
  where
    by : (o : Option Outcome) → Err e ≡ end_reply c t o → (o ≡ None → ⊥) → ⊥
    by None err some = some refl
    by (Some o) err some = (let at : Err e ≡ end_reply c t (Some o) = err in cc)

-- ---- one that is to be undone

abbrev IsRequest : Asked → Type 0
IsRequest (Request r) = Unit {0}
IsRequest Undoing = ⊥
IsRequest Over = ⊥
IsRequest (Stuck n) = ⊥
IsRequest (Waits n) = ⊥
IsRequest Running = ⊥
IsRequest Unknown = ⊥

undoing_by : (t last : ℕ) (n : Option Next) → asked_by t last n ≡ Undoing → IsRequest (undo_by t last n)
undoing_by t last None is = absurd cc
undoing_by t last (Some (next.Waits k)) is = absurd cc
undoing_by t last (Some (next.Asks o)) is = absurd cc
undoing_by t last (Some (next.Undoes o)) is = tt
undoing_by t last (Some (next.Stuck k)) is = absurd cc
undoing_by t last (Some (next.Over o)) is = absurd cc

-- it sends what undoes its last write
pub undo_sends : (c : Core) (t : ℕ) (a : Asked) → ask_reply c t ≡ Undoing → a ≡ undo_reply c t → IsRequest a
undo_sends c t a is reply = subst IsRequest (sym reply) (undoing_by t (given c.events) (next_at c t) is)

-- ---- a request that is asked or undone

pub record IsAsked (c : Core) (t : ℕ) (r : Asking) : Type 0 where
  pub own : r.txn ≡ t
  pub can : CanAsk c.procs c.events t (given c.events + 1) r.op
  pub number : r.number ≡ given c.events + 1

asked_request : (t last : ℕ) (n : Option Next) (r : Asking) → asked_by t last n ≡ Request r → (r.txn ≡ t) × (r.number ≡ last + 1) × (n ≡ Some (next.Asks r.op))
asked_request t last None r e = absurd cc
asked_request t last (Some (next.Waits n)) r e = absurd cc
asked_request t last (Some (next.Asks o)) r e =
    let this : Asking = record { txn = t; number = last + 1; op = o } in
    let same : this ≡ r = cc in
    (sym (ap (λ (x : Asking). x.txn) same), sym (ap (λ (x : Asking). x.number) same), ap (λ (x : Asking). Some (next.Asks x.op)) same)
asked_request t last (Some (next.Undoes o)) r e = absurd cc
asked_request t last (Some (next.Stuck n)) r e = absurd cc
asked_request t last (Some (next.Over o)) r e = absurd cc

pub is_asked : (c : Core) (t : ℕ) (r : Asking) → ask_reply c t ≡ Request r → IsAsked c t r
unfolding next_at
is_asked c t r is =
    let it = asked_request t (given c.events) (next_at c t) r is in
    record { own = it.0; number = it.1; can = (asks_allowed c.procs c.events t r.op).0 it.2 }

pub record IsUndone (c : Core) (t : ℕ) (r : Asking) : Type 0 where
  pub own : r.txn ≡ t
  pub can : CanUndo c.procs c.events t (given c.events + 1) r.op
  pub number : r.number ≡ given c.events + 1

undo_request : (t last : ℕ) (n : Option Next) (r : Asking) → undo_by t last n ≡ Request r → (r.txn ≡ t) × (r.number ≡ last + 1) × (n ≡ Some (next.Undoes r.op))
undo_request t last None r e = absurd cc
undo_request t last (Some (next.Waits n)) r e = absurd cc
undo_request t last (Some (next.Asks o)) r e = absurd cc
undo_request t last (Some (next.Undoes o)) r e =
    let this : Asking = record { txn = t; number = last + 1; op = o } in
    let same : this ≡ r = cc in
    (sym (ap (λ (x : Asking). x.txn) same), sym (ap (λ (x : Asking). x.number) same), ap (λ (x : Asking). Some (next.Undoes x.op)) same)
undo_request t last (Some (next.Stuck n)) r e = absurd cc
undo_request t last (Some (next.Over outcome.Committed)) r e = absurd cc
undo_request t last (Some (next.Over (outcome.Aborted v))) r e = absurd cc
undo_request t last (Some (next.Over outcome.NoRoom)) r e = absurd cc

pub is_undone : (c : Core) (t : ℕ) (r : Asking) → undo_reply c t ≡ Request r → IsUndone c t r
unfolding next_at
is_undone c t r is =
    let it = undo_request t (given c.events) (next_at c t) r is in
    record { own = it.0; number = it.1; can = (undoes_allowed c.procs c.events t r.op).0 it.2 }

-- ---- where it stands then

abbrev sends_at : Asking → Bool → Sent
sends_at r undoing = record { number = r.number; op = r.op; undoing = undoing }

open_behind : (c : Core) (r : Asking) (e : Event) (s : Standing) (undoing : Bool) → standing (e ∷ c.events) r.txn ≡ Some s → s.sent ≡ Some (sends_at r undoing)
    → IsOpenHere (with_event c e) r
open_behind c r e s undoing is waits = record { s = s; is = is; sent = sends_at r undoing; waits = waits; same_number = refl; same_op = refl }

pub asked_stands : (c : Core) (t : ℕ) (r : Asking) → (it : IsAsked c t r)
    → standing (Ask r.txn r.number r.op ∷ c.events) t ≡ Some (asked r.number r.op it.can.s)
asked_stands c t r it = standing-same (Ask r.txn r.number r.op) c.events t it.own ∙ rw it.can.is refl

pub undone_stands : (c : Core) (t : ℕ) (r : Asking) → (it : IsUndone c t r)
    → standing (Undo r.txn r.number r.op ∷ c.events) t ≡ Some (undone r.number r.op it.can.s)
undone_stands c t r it = standing-same (Undo r.txn r.number r.op) c.events t it.own ∙ rw it.can.is refl

pub asked_open : (c : Core) (t : ℕ) (r : Asking) → IsAsked c t r → IsOpenHere (with_event c (Ask r.txn r.number r.op)) r
asked_open c t r it =
    open_behind c r (Ask r.txn r.number r.op) (asked r.number r.op it.can.s) false
    (subst (λ (u : ℕ). standing (Ask r.txn r.number r.op ∷ c.events) u ≡ Some (asked r.number r.op it.can.s)) (sym it.own) (asked_stands c t r it)) refl

pub undone_open : (c : Core) (t : ℕ) (r : Asking) → IsUndone c t r → IsOpenHere (with_event c (Undo r.txn r.number r.op)) r
undone_open c t r it =
    open_behind c r (Undo r.txn r.number r.op) (undone r.number r.op it.can.s) true
    (subst (λ (u : ℕ). standing (Undo r.txn r.number r.op ∷ c.events) u ≡ Some (undone r.number r.op it.can.s)) (sym it.own) (undone_stands c t r it)) refl

-- ---- it comes nearer to its end

less_by_one : (most used : ℕ) → used < most → 2 * (most - (used + 1)) + 1 + 1 ≤ 2 * (most - used) + 0 + 1
less_by_one most used few = omega (arith, few)

left_here : (ps : List Checked) (o : Option Standing) (s : Standing) → o ≡ Some s → weighed (events_left ps) o ≡ events_left ps s
left_here ps o s is = ap (weighed (events_left ps)) is

left_idle : (ps : List Checked) (s : Standing) → s.sent ≡ None → events_left ps s ≡ 2 * numbers_left ps s + 0 + 1
left_idle ps s idle = ap (λ (o : Option Sent). 2 * numbers_left ps s + one_sent o + 1) idle

pub asked_nearer : (c : Core) (t : ℕ) (r : Asking) → Legal c.procs c.events → AllGood c.procs → IsAsked c t r
    → left_of (with_event c (Ask r.txn r.number r.op)) t ≤ left_of c t
unfolding left_of
asked_nearer c t r legal good it =
    let s = it.can.s in
    let few = (ask_leaves c.procs s r.op good (standing_sound c.procs good c.events legal t s it.can.is) it.can.idle it.can.not_full it.can.asks).1 in
    let now = left_here c.procs _ (asked r.number r.op s) (asked_stands c t r it) in
    let was = left_here c.procs _ s it.can.is ∙ left_idle c.procs s it.can.idle in
    omega (arith, now, was, less_by_one (5 * calls c.procs s.call.proc) s.used few)

pub undone_nearer : (c : Core) (t : ℕ) (r : Asking) → Legal c.procs c.events → AllGood c.procs → IsUndone c t r
    → left_of (with_event c (Undo r.txn r.number r.op)) t ≤ left_of c t
unfolding left_of
undone_nearer c t r legal good it =
    let s = it.can.s in
    let few = undo_leaves c.procs s r.op (standing_sound c.procs good c.events legal t s it.can.is) it.can.idle it.can.top it.can.few in
    let now = left_here c.procs _ (undone r.number r.op s) (undone_stands c t r it) in
    let was = left_here c.procs _ s it.can.is ∙ left_idle c.procs s it.can.idle in
    omega (arith, now, was, less_by_one (5 * calls c.procs s.call.proc) s.used few)

pub answered_stands : (c : Core) (r : Asking) (said : Said) → (here : IsOpenHere c r)
    → standing (Answer r.txn r.number said ∷ c.events) r.txn ≡ Some (answered said here.s)
answered_stands c r said here = standing-same (Answer r.txn r.number said) c.events r.txn refl ∙ rw here.is refl

left_sent : (ps : List Checked) (s : Standing) (sent : Sent) → s.sent ≡ Some sent → events_left ps s ≡ 2 * numbers_left ps s + 1 + 1
left_sent ps s sent is = ap (λ (o : Option Sent). 2 * numbers_left ps s + one_sent o + 1) is

pub answered_nearer : (c : Core) (r : Asking) (said : Said) → IsOpenHere c r → left_of (with_event c (Answer r.txn r.number said)) r.txn < left_of c r.txn
unfolding left_of
answered_nearer c r said here =
    let s = here.s in
    let now = left_here c.procs _ (answered said s) (answered_stands c r said here) in
    let was = left_here c.procs _ s here.is ∙ left_sent c.procs s here.sent here.waits in
    omega (arith, now, was)

pub ended_nearer : (c : Core) (t : ℕ) (o : Outcome) → left_of (with_event c (End t o)) t ≤ left_of c t
unfolding left_of
ended_nearer c t o =
    let now : weighed (events_left c.procs) (standing (End t o ∷ c.events) t) ≡ 0 = ap (weighed (events_left c.procs))
    (standing-same (End t o) c.events t refl) in
    omega (arith, now)
