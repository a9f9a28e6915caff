-- What an open transaction waits for was sent behind its admission, and one that is open has something to do next.
use Rattle.std.proofs.Common.{◌≡◌, ℕ, ◌≤◌, Bool, true, false, ◌==◌, cond, nat_lt}
use Rattle.std.proofs.Common.{List, [], ◌∷◌, ◌++◌, length, Option, Some, None, refl, sym, ◌∙◌, ap, subst, inl, inr}
use Rattle.std.proofs.Common.{arith}
use Rattle.std.proofs.lemmas.Bool.{cases_eq}
use Rattle.std.proofs.lemmas.Bool.Decides.{nat_tests}
use Rattle.access_slots.specs.declared.op.Op.{Op}
use Rattle.access_slots.specs.declared.op.Said.{Said}
use Rattle.tc_log.specs.declared.event.Event.{Event}
use Rattle.tc_log.specs.declared.event.Event.TheVariants.{Admit, Ask, Answer, Undo, End}
use Rattle.tc_log.specs.declared.event.Outcome.{Outcome}
use Rattle.tc_log.specs.declared.event.Outcome.TheVariants as outcome
use Rattle.history.specs.Calls.{Call, txn_of}
use Rattle.transactions.specs.declared.Sent.{Sent}
use Rattle.transactions.specs.declared.Next.{Next}
use Rattle.transactions.specs.declared.Next.TheVariants as next
use Rattle.transactions.specs.Standing.{Standing, standing, moved, fresh, asked, undone, answered, tries_after}
use Rattle.transactions.specs.Reached.{Reached, Asks, Ends, Nowhere, reached}
use Rattle.transactions.specs.Legal.{first_undo}
use Rattle.transactions.specs.Next.{ends_or_undoes, next_by, next_in}
use Rattle.transactions.proofs.StandingLemmas.{standing-same, standing-other, none_some}
use Rattle.tc_core.specs.Core.{Core}
use Rattle.tc_core.specs.Replies.{next_at}
use Rattle.std.proofs.Common.{length-append, Err}
use Rattle.semantics.specs.Step.{Setting}
use Rattle.semantics.specs.Reach.{Stop, Asked as AsksAt, Exited, Trapped, Unfinished, AreArguments, IsFineStop, reach}
use Rattle.semantics.specs.Row.{plain_bases}
use Rattle.verifier.specs.Checked.{Checked}
use Rattle.history.specs.Flight.{given}
use Rattle.transactions.specs.Reached.{reached_of, reached_by, plain, stop_at, Fitting, IsGood, AllGood}
use Rattle.transactions.specs.Legal.{Legal}
use Rattle.transactions.proofs.Running.{plain_layout}
use Rattle.transactions.proofs.Sound.{standing_sound}
use Rattle.tc_core.specs.Replies.{asked_by, ask_reply, over_in, end_of, end_reply, undo_by, undo_reply}
use Rattle.tc_core.specs.declared.state.NotOver.{NotOver}
use Rattle.tc_core.specs.declared.state.Asked.{Asked}
use Rattle.tc_core.specs.declared.state.Asked.TheVariants.{Request, Undoing, Over, Stuck, Waits, Running, Unknown}
use Rattle.worker_pool.specs.Answers.{StandsBehind, IsAdmitted, Sends, Asks as AsksHere, Undoes}
use Rattle.worker_pool.specs.Kept.{IsOpen}
use Rattle.worker_pool.specs.Doubts.{IsDoubtful, waits, stuck, IsGoing}
use Rattle.worker_pool.proofs.Placed.{stands_more, stands_here}

-- ---- the last number that a transaction sent stands behind its admission

-- it sent nothing yet, or the last number that it sent stands there
data Spoke (first h : List Event) (t : ℕ) (s : Standing) : Type 0 where
  Silent : s.sent ≡ None → s.tries ≡ 0 → Spoke first h t s
  Sent_last : Sends first h t s.last → ((r : Sent) → s.sent ≡ Some r → r.number ≡ s.last) → Spoke first h t s

behind_more : (first h : List Event) (e : Event) (place : ℕ) (x : Event) → StandsBehind first h place x → StandsBehind first (e ∷ h) place x
behind_more first h e place x at = record { behind = at.behind; stands = stands_more h e place x at.stands }

pub sends_more : (first h : List Event) (e : Event) (t n : ℕ) → Sends first h t n → Sends first (e ∷ h) t n
sends_more first h e t n (AsksHere place o at) = AsksHere place o (behind_more first h e place (Ask t n o) at)
sends_more first h e t n (Undoes place o at) = Undoes place o (behind_more first h e place (Undo t n o) at)

spoke_more : (first h : List Event) (e : Event) (t : ℕ) (s : Standing) → Spoke first h t s → Spoke first (e ∷ h) t s
spoke_more first h e t s (Silent idle none) = Silent idle none
spoke_more first h e t s (Sent_last sent last) = Sent_last (sends_more first h e t s.last sent) last

no_tries : (sent : Option Sent) (said : Said) (tries : ℕ) → sent ≡ None → tries ≡ 0 → tries_after sent said tries ≡ 0
no_tries None said tries idle none = none
no_tries (Some r) said tries idle none = absurd (let bad : Some r ≡ None = idle in cc)

spoke_answered : (first h : List Event) (e : Event) (t : ℕ) (said : Said) (s : Standing) → Spoke first h t s → Spoke first (e ∷ h) t (answered said s)
spoke_answered first h e t said s (Silent idle none) = Silent refl (no_tries s.sent said s.tries idle none)
spoke_answered first h e t said s (Sent_last sent last) = Sent_last (sends_more first h e t s.last sent) (λ r is. absurd (let bad : None ≡ Some r = is in cc))

some_number : (r q : Sent) → Some r ≡ Some q → q.number ≡ r.number
some_number r q same = (let it : r ≡ q = cc in ap (λ (x : Sent). x.number) (sym it))

spoke_fresh : (first h : List Event) (call : Call) (t : ℕ) (s : Standing) → Some (fresh call) ≡ Some s → Spoke first h t s
spoke_fresh first h call t s is =
    let same : fresh call ≡ s = cc in
    Silent (ap (λ (x : Standing). x.sent) (sym same)) (ap (λ (x : Standing). x.tries) (sym same))

-- one event of the transaction itself
spoke_moved : (first h : List Event) (e : Event) (t : ℕ) (was : Option Standing) (s : Standing)
    → length first ≤ length h → txn_of e ≡ t → moved e was ≡ Some s
    → ((q : Standing) → was ≡ Some q → Spoke first h t q) → Spoke first (e ∷ h) t s
spoke_moved first h (Admit u p args) t was s low own is before = spoke_fresh first (Admit u p args ∷ h) (record { proc = p; args = args }) t s is
spoke_moved first h (Ask u n o) t None s low own is before = absurd (let bad : None ≡ Some s = is in cc)
spoke_moved first h (Ask u n o) t (Some q) s low own is before =
    let same : asked n o q ≡ s = cc in
    let last : n ≡ s.last = ap (λ (x : Standing). x.last) same in
    let here : StandsBehind first (Ask u n o ∷ h) (length h) (Ask t s.last o) =
    subst (λ (v : ℕ). StandsBehind first (Ask u n o ∷ h) (length h) (Ask v s.last o)) own
    (subst (λ (m : ℕ). StandsBehind first (Ask u n o ∷ h) (length h) (Ask u m o)) last (record { behind = low; stands = stands_here h (Ask u n o) })) in
    Sent_last (AsksHere (length h) o here) (λ r waits. some_number _ r (ap (λ (x : Standing). x.sent) same ∙ waits) ∙ last)
spoke_moved first h (Answer u n said) t None s low own is before = absurd (let bad : None ≡ Some s = is in cc)
spoke_moved first h (Answer u n said) t (Some q) s low own is before =
    let same : answered said q ≡ s = cc in
    subst (Spoke first (Answer u n said ∷ h) t) same (spoke_answered first h (Answer u n said) t said q (before q refl))
spoke_moved first h (Undo u n o) t None s low own is before = absurd (let bad : None ≡ Some s = is in cc)
spoke_moved first h (Undo u n o) t (Some q) s low own is before =
    let same : undone n o q ≡ s = cc in
    let last : n ≡ s.last = ap (λ (x : Standing). x.last) same in
    let here : StandsBehind first (Undo u n o ∷ h) (length h) (Undo t s.last o) =
    subst (λ (v : ℕ). StandsBehind first (Undo u n o ∷ h) (length h) (Undo v s.last o)) own
    (subst (λ (m : ℕ). StandsBehind first (Undo u n o ∷ h) (length h) (Undo u m o)) last (record { behind = low; stands = stands_here h (Undo u n o) })) in
    Sent_last (Undoes (length h) o here) (λ r waits. some_number _ r (ap (λ (x : Standing). x.sent) same ∙ waits) ∙ last)
spoke_moved first h (End u o) t was s low own is before = absurd (let bad : None ≡ Some s = is in cc)
spoke_moved first h e t was s low own is before = spoke_more first h e t s (before s is)

-- the events behind an admission
spoke_behind : (first later earlier : List Event) (t p : ℕ) (args : List ℕ) (s : Standing) → length first ≤ length earlier
    → standing (later ++ Admit t p args ∷ earlier) t ≡ Some s → Spoke first (later ++ Admit t p args ∷ earlier) t s
spoke_behind first [] earlier t p args s low is =
    spoke_fresh first (Admit t p args ∷ earlier) (record { proc = p; args = args }) t s (sym (standing-same (Admit t p args) earlier t refl) ∙ is)
spoke_behind first (e ∷ later) earlier t p args s low is =
    let h : List Event = later ++ Admit t p args ∷ earlier in
    elim (cases_eq (txn_of e) t) [
      | inl own ↦
          spoke_moved first h e t (standing h t) s (omega (arith, low, length-append later (Admit t p args ∷ earlier))) own (sym (standing-same e h t own) ∙ is)
          (λ q was. spoke_behind first later earlier t p args q low was)
      | inr other ↦ spoke_more first h e t s (spoke_behind first later earlier t p args s low (sym (standing-other e h t other) ∙ is))
    ]

spoke : (first h : List Event) (call : Call) (t : ℕ) (s : Standing) → IsAdmitted first h call t → standing h t ≡ Some s → Spoke first h t s
spoke first h call t s admitted is =
    let at = admitted.at.stands in
    let low : length first ≤ length at.earlier = subst (λ (n : ℕ). length first ≤ n) (sym at.count) admitted.at.behind in
    let e : Event = Admit t call.proc call.args in
    subst (λ (l : List Event). Spoke first l t s) (sym at.is)
    (spoke_behind first at.later at.earlier t call.proc call.args s low (ap (λ (l : List Event). standing l t) (sym at.is) ∙ is))

-- ---- what is next

record Awaits (sent : Option Sent) (n : ℕ) : Type 0 where
  r : Sent
  waits : sent ≡ Some r
  number : r.number ≡ n

no_wait : (left : Option Op) (tries last : ℕ) (e : Outcome) (n : ℕ) → Some (ends_or_undoes left tries last e) ≡ Some (next.Waits n) → ⊥
no_wait None tries last e n is = cc
no_wait (Some w) tries last e n is = by (nat_lt tries 4) is
  where
    by : (b : Bool) → Some (cond b (next.Undoes w) (next.Stuck last)) ≡ Some (next.Waits n) → ⊥
    by true h = cc
    by false h = cc

may_wait : (sent : Option Sent) (full : Bool) (left : Option Op) (tries last : ℕ) (at : Reached) (n : ℕ)
    → next_by sent full left tries last at ≡ Some (next.Waits n) → Awaits sent n
may_wait (Some r) full left tries last at n is = record { r = r; waits = refl; number = cc }
may_wait None true left tries last at n is = absurd (no_wait left tries last outcome.NoRoom n is)
may_wait None false left tries last (Asks p) n is = absurd cc
may_wait None false left tries last Nowhere n is = absurd cc
may_wait None false left tries last (Ends v) n is = by (v == 0) is
  where
    by : (b : Bool)
        → Some (cond b (next.Over outcome.Committed) (ends_or_undoes left tries last (outcome.Aborted v))) ≡ Some (next.Waits n)
        → Awaits None n
    by true h = absurd cc
    by false h = absurd (no_wait left tries last (outcome.Aborted v) n h)

record IsStuck (tries last n : ℕ) : Type 0 where
  last_is : last ≡ n
  many : 4 ≤ tries

sticks : (left : Option Op) (tries last : ℕ) (e : Outcome) (n : ℕ)
    → Some (ends_or_undoes left tries last e) ≡ Some (next.Stuck n) → IsStuck tries last n
sticks None tries last e n is = absurd cc
sticks (Some w) tries last e n is = by (nat_lt tries 4) refl is
  where
    by : (b : Bool) → nat_lt tries 4 ≡ b → Some (cond b (next.Undoes w) (next.Stuck last)) ≡ Some (next.Stuck n) → IsStuck tries last n
    by true t h = absurd cc
    by false t h = record { last_is = cc; many = grind (arith, nat_tests) }

may_stick : (sent : Option Sent) (full : Bool) (left : Option Op) (tries last : ℕ) (at : Reached) (n : ℕ)
    → next_by sent full left tries last at ≡ Some (next.Stuck n) → IsStuck tries last n
may_stick (Some r) full left tries last at n is = absurd cc
may_stick None true left tries last at n is = sticks left tries last outcome.NoRoom n is
may_stick None false left tries last (Asks p) n is = absurd cc
may_stick None false left tries last Nowhere n is = absurd cc
may_stick None false left tries last (Ends v) n is = by (v == 0) is
  where
    by : (b : Bool)
        → Some (cond b (next.Over outcome.Committed) (ends_or_undoes left tries last (outcome.Aborted v))) ≡ Some (next.Stuck n)
        → IsStuck tries last n
    by true h = absurd cc
    by false h = sticks left tries last (outcome.Aborted v) n h

-- ---- a transaction in doubt sent the number behind its admission

waits_sent : (first h : List Event) (t n : ℕ) (s : Standing) → Awaits s.sent n → Spoke first h t s → Sends first h t n
waits_sent first h t n s w (Silent idle none) = absurd (none_some s.sent w.r idle w.waits)
waits_sent first h t n s w (Sent_last sent last) = subst (Sends first h t) (sym (last w.r w.waits) ∙ w.number) sent

stuck_sent : (first h : List Event) (t n : ℕ) (s : Standing) → IsStuck s.tries s.last n → Spoke first h t s → Sends first h t n
stuck_sent first h t n s w (Silent idle none) = absurd (omega (arith, w.many, none))
stuck_sent first h t n s w (Sent_last sent last) = subst (Sends first h t) w.last_is sent

doubt_by : (first : List Event) (c : Core) (call : Call) (t n : ℕ) (s : Standing) → IsAdmitted first c.events call t
    → standing c.events t ≡ Some s → IsDoubtful c t n → Sends first c.events t n
unfolding next_at
doubt_by first c call t n s admitted is (waits it) =
    waits_sent first c.events t n s (may_wait s.sent s.full (first_undo s.undo) s.tries s.last (reached c.procs s) n
    (ap (next_in c.procs) (sym is) ∙ it)) (spoke first c.events call t s admitted is)
doubt_by first c call t n s admitted is (stuck it) =
    stuck_sent first c.events t n s (may_stick s.sent s.full (first_undo s.undo) s.tries s.last (reached c.procs s) n
    (ap (next_in c.procs) (sym is) ∙ it)) (spoke first c.events call t s admitted is)

pub doubtful_sent : (first : List Event) (c : Core) (call : Call) (t n : ℕ) → IsAdmitted first c.events call t
    → IsOpen c.events t → IsDoubtful c t n → Sends first c.events t n
doubtful_sent first c call t n admitted still doubt = doubt_by first c call t n still.s admitted still.is doubt

-- ---- an open transaction has something to do next

fine_somewhere : (s : Setting) (st : Stop) → IsFineStop s st → reached_of st ≡ Nowhere → ⊥
fine_somewhere s (AsksAt slot operation c) fine is = cc
fine_somewhere s (Exited v c) fine is = cc
fine_somewhere s (Trapped cause) fine is = fine
fine_somewhere s Unfinished fine is = fine

somewhere : (q : Checked) (args : List ℕ) (answers : List Said) → IsGood q → AreArguments q.decl args
    → Fitting q args answers → reached_of (stop_at q args answers) ≡ Nowhere → ⊥
unfolding stop_at Fitting
somewhere q args answers good takes fit is = fine_somewhere (plain q args) (reach (plain q args) answers)
    (good.safe.always args plain_bases answers plain_layout takes fit) is

no_next : (sent : Option Sent) (full : Bool) (left : Option Op) (tries last : ℕ) (at : Reached)
    → next_by sent full left tries last at ≡ None → at ≡ Nowhere
no_next (Some r) full left tries last at is = absurd cc
no_next None true left tries last at is = absurd cc
no_next None false left tries last (Asks p) is = absurd cc
no_next None false left tries last (Ends v) is = absurd cc
no_next None false left tries last Nowhere is = refl

pub has_next : (c : Core) (t : ℕ) → Legal c.procs c.events → AllGood c.procs → IsOpen c.events t → next_at c t ≡ None → ⊥
unfolding next_at
has_next c t legal good still none =
    let s = still.s in
    let it = standing_sound c.procs good c.events legal t s still.is in
    let nowhere : reached c.procs s ≡ Nowhere = no_next s.sent s.full (first_undo s.undo) s.tries s.last
    (reached c.procs s) (ap (next_in c.procs) (sym still.is) ∙ none) in
    somewhere it.q s.call.args s.answers (good s.call.proc it.q it.loaded) it.takes it.fit
    (ap (λ (o : Option Checked). reached_by o s.call.args s.answers) (sym it.loaded) ∙ nowhere)

-- ---- what `ask` answered tells what is next

going_by : (t last : ℕ) (n : Option Next) → (n ≡ None → ⊥) → IsGoing (asked_by t last n)
going_by t last None some = absurd (some refl)
going_by t last (Some (next.Waits m)) some = tt
going_by t last (Some (next.Asks o)) some = tt
going_by t last (Some (next.Undoes o)) some = tt
going_by t last (Some (next.Stuck m)) some = tt
going_by t last (Some (next.Over o)) some = tt

pub going : (c : Core) (t : ℕ) → Legal c.procs c.events → AllGood c.procs → IsOpen c.events t → IsGoing (ask_reply c t)
going c t legal good still = going_by t (given c.events) (next_at c t) (has_next c t legal good still)

asked_waits : (t last m : ℕ) (n : Option Next) → asked_by t last n ≡ Waits m → n ≡ Some (next.Waits m)
asked_waits t last m None is = absurd cc
asked_waits t last m (Some (next.Waits k)) is = (let same : k ≡ m = cc in ap (λ (x : ℕ). Some (next.Waits x)) same)
asked_waits t last m (Some (next.Asks o)) is = absurd cc
asked_waits t last m (Some (next.Undoes o)) is = absurd cc
asked_waits t last m (Some (next.Stuck k)) is = absurd cc
asked_waits t last m (Some (next.Over o)) is = absurd cc

pub waits_doubtful : (c : Core) (t m : ℕ) → ask_reply c t ≡ Waits m → IsDoubtful c t m
waits_doubtful c t m is = waits (asked_waits t (given c.events) m (next_at c t) is)

asked_stuck : (t last m : ℕ) (n : Option Next) → asked_by t last n ≡ Stuck m → n ≡ Some (next.Stuck m)
asked_stuck t last m None is = absurd cc
asked_stuck t last m (Some (next.Waits k)) is = absurd cc
asked_stuck t last m (Some (next.Asks o)) is = absurd cc
asked_stuck t last m (Some (next.Undoes o)) is = absurd cc
asked_stuck t last m (Some (next.Stuck k)) is = (let same : k ≡ m = cc in ap (λ (x : ℕ). Some (next.Stuck x)) same)
asked_stuck t last m (Some (next.Over o)) is = absurd cc

pub stuck_doubtful : (c : Core) (t m : ℕ) → ask_reply c t ≡ Stuck m → IsDoubtful c t m
stuck_doubtful c t m is = stuck (asked_stuck t (given c.events) m (next_at c t) is)

-- one that is over can be ended
pub record IsOver (c : Core) (t : ℕ) : Type 0 where
  pub o : Outcome
  pub is : end_of c t ≡ Some o

over_by : (t last : ℕ) (n : Option Next) → asked_by t last n ≡ Over → (o : Outcome) × (over_in n ≡ Some o)
over_by t last None is = absurd cc
over_by t last (Some (next.Waits k)) is = absurd cc
over_by t last (Some (next.Asks o)) is = absurd cc
over_by t last (Some (next.Undoes o)) is = absurd cc
over_by t last (Some (next.Stuck k)) is = absurd cc
over_by t last (Some (next.Over o)) is = (o, refl)

pub over_ends : (c : Core) (t : ℕ) → ask_reply c t ≡ Over → IsOver c t
over_ends c t is = (let it = over_by t (given c.events) (next_at c t) is in record { o = it.0; is = it.1 })

pub never_not_over : (c : Core) (t : ℕ) (e : NotOver) → ask_reply c t ≡ Over → Err e ≡ end_reply c t (end_of c t) → ⊥
never_not_over c t e is bad =
    let it = over_ends c t is in
    let at : Err e ≡ end_reply c t (Some it.o) = bad ∙ ap (end_reply c t) it.is in
    cc

-- one that is to be undone sends what undoes its last write
abbrev pub IsRequest : Asked → Type 0
IsRequest (Request r) = Unit {0}
IsRequest Undoing = ⊥
IsRequest Over = ⊥
IsRequest (Stuck n) = ⊥
IsRequest (Waits n) = ⊥
IsRequest Running = ⊥
IsRequest Unknown = ⊥

undoing_by : (t last : ℕ) (n : Option Next) → asked_by t last n ≡ Undoing → IsRequest (undo_by t last n)
undoing_by t last None is = absurd cc
undoing_by t last (Some (next.Waits k)) is = absurd cc
undoing_by t last (Some (next.Asks o)) is = absurd cc
undoing_by t last (Some (next.Undoes o)) is = tt
undoing_by t last (Some (next.Stuck k)) is = absurd cc
undoing_by t last (Some (next.Over o)) is = absurd cc

pub undo_sends : (c : Core) (t : ℕ) → ask_reply c t ≡ Undoing → IsRequest (undo_reply c t)
undo_sends c t is = undoing_by t (given c.events) (next_at c t) is
