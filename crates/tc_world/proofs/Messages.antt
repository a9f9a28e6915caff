-- What requests and the log say of each other.
use Rattle.std.proofs.Common.{◌≡◌, ◌≢◌, ℕ, ◌+◌, Bool, true, false, ◌&&◌, List, [], ◌++◌, Option, Some, None, refl, sym, ◌∙◌, ap, subst}
use Rattle.std.specs.Prelude.{slice_get, slice_index_or, IsSome, Result, Ok, Err, IfOk, IfErr}
use Rattle.access_slots.specs.Access.{fits}
use Rattle.access_slots.specs.Locks.{target}
use Rattle.access_slots.specs.declared.op.Op.{Op}
use Rattle.access_slots.specs.declared.op.Wire.{Wire}
use Rattle.access_slots.specs.declared.op.Reply.{Reply}
use Rattle.verifier.specs.Checked.{Checked}
use Rattle.tc_log.specs.declared.event.Event.{Event}
use Rattle.history.specs.Flight.{Flight, open_op, given}
use Rattle.transactions.specs.Legal.{Legal}
use Rattle.transactions.specs.Standing.{Standing, standing}
use Rattle.transactions.specs.declared.Next.{Next}
use Rattle.transactions.specs.declared.Next.TheVariants as next
use Rattle.transactions.proofs.StandingLemmas.{some_same}
use Rattle.transactions.proofs.Flights.{standing_flight, flight}
use Rattle.transactions.proofs.Headline.{awaited}
use Rattle.tc_core.specs.Core.{Core, Asking}
use Rattle.tc_core.specs.Replies.{next_at, asked_by, undo_by, ask_reply, undo_reply, after_ask, after_undo, after_answer, with_event, is_heard, IsAnswer}
use Rattle.tc_core.specs.Lent.{wire_of}
use Rattle.tc_core.specs.Redo.{IsRedone}
use Rattle.tc_core.specs.declared.state.Down.{Down}
use Rattle.transactions.specs.InFlight.{site_of}
use Rattle.tc_core.specs.declared.state.Asked.{Asked}
use Rattle.tc_core.specs.declared.state.Asked.TheVariants.{Request, Undoing, Over, Stuck, Waits, Running, Unknown}
use Rattle.tc_core.proofs.ReplyLemmas.{next-unknown}
use Rattle.tc_core.proofs.KeptLemmas.{slice_get-index}
use Rattle.tc_log.specs.declared.event.Outcome.TheVariants as ending
use Rattle.tc_world.specs.Whole.{Whole}
use Rattle.tc_world.specs.Waiting.{asking, asking_by, AreWaiting}
use Rattle.tc_world.specs.Joining.Telling.{requests_of}
use Rattle.tc_world.specs.Steps.{Goes, Stops, MayGo, asks, undoes, told, sends, resends, resends_by, resends_sent, resends_wire}
use Rattle.tc_world.specs.Steps.{takes_answer, TakesRedo, TakesBy, TakesReply, Takes, IsStrangeTo, IsNotTaken, with_core}
use Rattle.tc_world.specs.declared.step.Illegal.{Illegal}
use Rattle.tc_world.specs.declared.step.Outcome.{Outcome}
use Rattle.tc_world.specs.declared.step.Illegal.TheVariants as illegal
use Rattle.tc_world.specs.declared.step.Outcome.TheVariants as outcome
use Rattle.tc_log.specs.declared.event.Event.TheVariants.{Answer}
use Rattle.tc_world.proofs.Requests.{none_if, none_of, found_at, is_there, waiting_asked, waiting_undone}
use Rattle.std.proofs.lemmas.List.{append-nil}

-- ---- an open transaction

pub record Stands (o : Option Standing) : Type 0 where
  pub s : Standing
  pub is : o ≡ Some s

pub stands : (o : Option Standing) → IsSome o → Stands o
stands None some = absurd cc
stands (Some s) some = record { s = s; is = refl }

-- ---- ask and undo

pub no_txn_asks : (w : Whole) (t : ℕ) → standing w.core.events t ≡ None → asks w t ≡ Stops illegal.NoTxn
no_txn_asks w t none =
    let unknown : ask_reply w.core t ≡ Unknown = ap (asked_by t (given w.core.events)) (next-unknown w.core t none) in
    ap (λ (a : Asked). told w t (after_ask w.core a) a) unknown

pub no_txn_undoes : (w : Whole) (t : ℕ) → standing w.core.events t ≡ None → undoes w t ≡ Stops illegal.NoTxn
no_txn_undoes w t none =
    let unknown : undo_reply w.core t ≡ Unknown = ap (undo_by t (given w.core.events)) (next-unknown w.core t none) in
    ap (λ (a : Asked). told w t (after_undo w.core a) a) unknown

pub ask_number : (t last : ℕ) (n : Option Next) (r : Asking) → asked_by t last n ≡ Request r → r.number ≡ last + 1
ask_number t last None r e = absurd cc
ask_number t last (Some (next.Waits n)) r e = absurd cc
ask_number t last (Some (next.Asks o)) r e = (let this : Asking = record { txn = t; number = last + 1; op = o } in
    let same : this ≡ r = cc in sym (ap (λ (x : Asking). x.number) same))
ask_number t last (Some (next.Undoes o)) r e = absurd cc
ask_number t last (Some (next.Stuck n)) r e = absurd cc
ask_number t last (Some (next.Over o)) r e = absurd cc

pub undo_number : (t last : ℕ) (n : Option Next) (r : Asking) → undo_by t last n ≡ Request r → r.number ≡ last + 1
undo_number t last None r e = absurd cc
undo_number t last (Some (next.Waits n)) r e = absurd cc
undo_number t last (Some (next.Asks o)) r e = absurd cc
undo_number t last (Some (next.Undoes o)) r e = (let this : Asking = record { txn = t; number = last + 1; op = o } in
    let same : this ≡ r = cc in sym (ap (λ (x : Asking). x.number) same))
undo_number t last (Some (next.Stuck n)) r e = absurd cc
undo_number t last (Some (next.Over ending.Committed)) r e = absurd cc
undo_number t last (Some (next.Over (ending.Aborted v))) r e = absurd cc
undo_number t last (Some (next.Over ending.NoRoom)) r e = absurd cc

nothing_more : (rs : List Asking) (h : List Event) → AreWaiting rs h → AreWaiting (rs ++ []) h
nothing_more rs h w = subst (λ (xs : List Asking). AreWaiting xs h) (sym (append-nil rs)) w

pub waiting_after_ask : (c : Core) (rs : List Asking) (t : ℕ) (a : Asked) → Legal c.procs c.events
    → AreWaiting rs c.events → a ≡ ask_reply c t → AreWaiting (rs ++ requests_of a) (after_ask c a).events
waiting_after_ask c rs t (Request r) legal w is = waiting_asked c.procs rs c.events r legal w (ask_number t (given c.events) (next_at c t) r (sym is))
waiting_after_ask c rs t Undoing legal w is = nothing_more rs c.events w
waiting_after_ask c rs t Over legal w is = nothing_more rs c.events w
waiting_after_ask c rs t (Stuck n) legal w is = nothing_more rs c.events w
waiting_after_ask c rs t (Waits n) legal w is = nothing_more rs c.events w
waiting_after_ask c rs t Running legal w is = nothing_more rs c.events w
waiting_after_ask c rs t Unknown legal w is = nothing_more rs c.events w

pub waiting_after_undo : (c : Core) (rs : List Asking) (t : ℕ) (a : Asked) → Legal c.procs c.events
    → AreWaiting rs c.events → a ≡ undo_reply c t → AreWaiting (rs ++ requests_of a) (after_undo c a).events
waiting_after_undo c rs t (Request r) legal w is = waiting_undone c.procs rs c.events r legal w (undo_number t (given c.events) (next_at c t) r (sym is))
waiting_after_undo c rs t Undoing legal w is = nothing_more rs c.events w
waiting_after_undo c rs t Over legal w is = nothing_more rs c.events w
waiting_after_undo c rs t (Stuck n) legal w is = nothing_more rs c.events w
waiting_after_undo c rs t (Waits n) legal w is = nothing_more rs c.events w
waiting_after_undo c rs t Running legal w is = nothing_more rs c.events w
waiting_after_undo c rs t Unknown legal w is = nothing_more rs c.events w

-- ---- a request, and what it waits for

flown : (n : ℕ) (o : Option Flight) (r : Asking) → Some r ≡ asking_by n o → o ≡ Some (flight r.txn r.op)
flown n None r e = absurd cc
flown n (Some f) r e = (let same : r ≡ asking n f = some_same r (asking n f) e in ap (λ (a : Asking). Some (flight a.txn a.op)) (sym same))

pub in_the_air : (rs : List Asking) (h : List Event) (k : ℕ) (r : Asking) → AreWaiting rs h → slice_get rs k ≡ Some r
    → open_op h r.number ≡ Some (flight r.txn r.op)
in_the_air rs h k r w at = flown r.number (open_op h r.number) r (sym (found_at rs k r w.once at) ∙ w.each r.number)

not_flown : (n : ℕ) (o : Option Flight) → asking_by n o ≡ None → o ≡ None
not_flown n None e = refl
not_flown n (Some f) e = absurd cc

pub not_in_the_air : (rs : List Asking) (h : List Event) (n : ℕ) → AreWaiting rs h
    → ((k : ℕ) (r : Asking) → slice_get rs k ≡ Some r → r.number ≢ n) → open_op h n ≡ None
not_in_the_air rs h n w absent = not_flown n (open_op h n) (sym (w.each n) ∙ none_of rs n absent)

pub is_answer : (c : Core) (rs : List Asking) (k : ℕ) (r : Asking) (x : Reply) → Legal c.procs c.events
    → AreWaiting rs c.events → slice_get rs k ≡ Some r → x.number ≡ r.number → is_heard (site_of c.sites r.op) x ≡ true → fits r.op x.said ≡ true
    → IsAnswer c r x
is_answer c rs k r x legal w at agree heard fit =
    let a = awaited c.procs c.events legal r.number (flight r.txn r.op) (in_the_air rs c.events k r w at) in
    record { s = a.s; is = a.is; sent = a.r; waits = a.waits; same_number = a.number; same_op = a.op; heard = heard; agree = agree; fit = fit }

-- ---- resend

nothing_sent : (ps : List Checked) (rs : List Asking) (h : List Event) (t : ℕ) (s : Standing) → Legal ps h
    → AreWaiting rs h → ((k : ℕ) (r : Asking) → slice_get rs k ≡ Some r → r.txn ≢ t) → standing h t ≡ Some s
    → s.sent ≡ None
nothing_sent ps rs h t s legal w absent is = none_if s.sent (λ r waits.
    let f = (standing_flight ps h legal t s r is waits).1 in
    let there = is_there rs r.number (asking r.number (flight t r.op)) (w.each r.number ∙ ap (asking_by r.number) f) in
    absent there.k (asking r.number (flight t r.op)) there.at refl)

pub no_txn_resends : (w : Whole) (t : ℕ) → standing w.core.events t ≡ None → resends w t ≡ Stops illegal.NoTxn
no_txn_resends w t none = ap (resends_by w t) none

pub resends_nothing : (w : Whole) (rs : List Asking) (t : ℕ) → Legal w.core.procs w.core.events
    → AreWaiting rs w.core.events → IsSome (standing w.core.events t)
    → ((k : ℕ) (r : Asking) → slice_get rs k ≡ Some r → r.txn ≢ t) → resends w t ≡ Stops illegal.NothingOpen
resends_nothing w rs t legal waiting open_yet absent =
    let st = stands (standing w.core.events t) open_yet in
    ap (resends_by w t) st.is ∙ ap (resends_sent w t) (nothing_sent w.core.procs rs w.core.events t st.s legal waiting absent st.is)

same_asking : (t n : ℕ) (o : Op) (r : Asking) → r.txn ≡ t → n ≡ r.number → o ≡ r.op
    → (let a : Asking = record { txn = t; number = n; op = o } in a ≡ r)
same_asking t n o r own number same =
    ap (λ (u : ℕ). let a : Asking = record { txn = u; number = n; op = o } in a) (sym own)
    ∙ (ap (λ (m : ℕ). let a : Asking = record { txn = r.txn; number = m; op = o } in a) number
    ∙ ap (λ (q : Op). let a : Asking = record { txn = r.txn; number = r.number; op = q } in a) same)

pub resends_found : (w : Whole) (rs : List Asking) (t k : ℕ) (r : Asking) → Legal w.core.procs w.core.events
    → AreWaiting rs w.core.events → slice_get rs k ≡ Some r → r.txn ≡ t
    → resends w t ≡ resends_wire w r.op (wire_of w.core r)
resends_found w rs t k r legal waiting at own =
    let a = awaited w.core.procs w.core.events legal r.number (flight r.txn r.op) (in_the_air rs w.core.events k r waiting at) in
    let here : standing w.core.events t ≡ Some a.s = ap (standing w.core.events) (sym own) ∙ a.is in
    let one : resends w t ≡ resends_sent w t (Some a.r) = ap (resends_by w t) here ∙ ap (resends_sent w t) a.waits in
    one ∙ ap (λ (x : Asking). resends_wire w x.op (wire_of w.core x)) (same_asking t a.r.number a.r.op r own a.number a.op)

pub resends_sent_to : (w : Whole) (rs : List Asking) (t k : ℕ) (r : Asking) (x : Wire) → Legal w.core.procs w.core.events
    → AreWaiting rs w.core.events → slice_get rs k ≡ Some r → r.txn ≡ t → wire_of w.core r ≡ Ok x
    → resends w t ≡ sends w x
resends_sent_to w rs t k r x legal waiting at own is = resends_found w rs t k r legal waiting at own ∙ ap (resends_wire w r.op) is

pub resends_down : (w : Whole) (rs : List Asking) (t k : ℕ) (r : Asking) (down : Down) → Legal w.core.procs w.core.events
    → AreWaiting rs w.core.events → slice_get rs k ≡ Some r → r.txn ≡ t → wire_of w.core r ≡ Err down
    → resends w t ≡ Stops (illegal.Down (target r.op).dc)
resends_down w rs t k r down legal waiting at own is = resends_found w rs t k r legal waiting at own ∙ ap (resends_wire w r.op) is

pub may_resend : (w : Whole) (rs : List Asking) (t k : ℕ) (r : Asking) (x : Wire) → Legal w.core.procs w.core.events
    → AreWaiting rs w.core.events → slice_get rs k ≡ Some r → r.txn ≡ t → wire_of w.core r ≡ Ok x → MayGo (resends w t)
may_resend w rs t k r x legal waiting at own is = (_, _, resends_sent_to w rs t k r x legal waiting at own is)

-- ---- take

pub if_ok_so : {A E : Type 0} (r : Result A E) (P Q : A → Type 0) → ((x : A) → P x → Q x) → IfOk r P → IfOk r Q
if_ok_so (Ok x) P Q so is = so x is
if_ok_so (Err e) P Q so is = is

pub if_err_so : {A E : Type 0} (r : Result A E) (P Q : E → Type 0) → ((e : E) → P e → Q e) → IfErr r P → IfErr r Q
if_err_so (Ok x) P Q so is = is
if_err_so (Err e) P Q so is = so e is

-- a reply to a number that no request has is taken as the redo's, or not at all
pub takes_again : (w v : Whole) (rs : List Asking) (i : ℕ) (x : Reply) (o : Outcome) → AreWaiting rs w.core.events
    → slice_get w.replies i ≡ Some x → ((k : ℕ) (r : Asking) → slice_get rs k ≡ Some r → r.number ≢ x.number)
    → TakesRedo w x o v → Takes w i o v
takes_again w v rs i x o waiting sent absent takes =
    subst (λ (y : Option Reply). TakesReply w y o v) (sym sent)
    (subst (λ (f : Option Flight). TakesBy w x f o v) (sym (not_in_the_air rs w.core.events x.number waiting absent)) takes)

pub takes_not_again : (w : Whole) (rs : List Asking) (i : ℕ) (x : Reply) (why : Illegal) → AreWaiting rs w.core.events
    → slice_get w.replies i ≡ Some x → ((k : ℕ) (r : Asking) → slice_get rs k ≡ Some r → r.number ≢ x.number)
    → why ≡ illegal.Stranger → ((d : ℕ) → IsRedone w.core d x → ⊥) → IsNotTaken w (slice_get w.replies i) why
takes_not_again w rs i x why waiting sent absent is none =
    subst (λ (y : Option Reply). IsNotTaken w y why) (sym sent)
    (is, subst (λ (f : Option Flight). IsStrangeTo w x f) (sym (not_in_the_air rs w.core.events x.number waiting absent)) none)

in_flight_there : (w : Whole) (rs : List Asking) (k : ℕ) (r : Asking) (n : ℕ) → AreWaiting rs w.core.events → slice_get rs k ≡ Some r → r.number ≡ n
    → open_op w.core.events n ≡ Some (flight r.txn r.op)
in_flight_there w rs k r n waiting at same = ap (open_op w.core.events) (sym same) ∙ in_the_air rs w.core.events k r waiting at

pub takes_stranger : (w : Whole) (rs : List Asking) (i k : ℕ) (r : Asking) (x : Reply) → AreWaiting rs w.core.events
    → slice_get w.replies i ≡ Some x → slice_get rs k ≡ Some r → r.number ≡ x.number
    → (is_heard (site_of w.core.sites r.op) x && fits r.op x.said) ≡ false → IsNotTaken w (slice_get w.replies i) illegal.Stranger
takes_stranger w rs i k r x waiting sent at same not_heard =
    subst (λ (y : Option Reply). IsNotTaken w y illegal.Stranger) (sym sent) (
      refl,
      subst (λ (f : Option Flight). IsStrangeTo w x f) (sym (in_flight_there w rs k r x.number waiting at same))
          (ap (takes_answer w (flight r.txn r.op) x) not_heard),
    )

pub takes_taken : (w : Whole) (rs : List Asking) (i k : ℕ) (r : Asking) (x : Reply) → AreWaiting rs w.core.events
    → slice_get w.replies i ≡ Some x → slice_get rs k ≡ Some r → r.number ≡ x.number
    → (is_heard (site_of w.core.sites r.op) x && fits r.op x.said) ≡ true
    → Takes w i (outcome.Took x.number) (with_core w (after_answer w.core r x.said))
takes_taken w rs i k r x waiting sent at same heard =
    let number = ap (λ (n : ℕ). Goes (outcome.Took x.number) (with_core w (with_event w.core (Answer r.txn n x.said)))) (sym same) in
    subst (λ (y : Option Reply). TakesReply w y (outcome.Took x.number) (with_core w (after_answer w.core r x.said))) (sym sent)
    (subst (λ (f : Option Flight). TakesBy w x f (outcome.Took x.number) (with_core w (after_answer w.core r x.said)))
    (sym (in_flight_there w rs k r x.number waiting at same))
    (ap (takes_answer w (flight r.txn r.op) x) heard ∙ number))

pub and_parts : (a b : Bool) → (a && b) ≡ true → (a ≡ true) × (b ≡ true)
and_parts true true e = (refl, refl)
and_parts true false e = absurd cc
and_parts false b e = absurd cc

-- ---- what an index reads

pub record IsRead (rs : List Asking) (k : ℕ) (r q : Asking) : Type 0 where
  pub at : slice_get rs k ≡ Some r
  pub same : q ≡ r

pub indexed : (rs ys : List Asking) (k : ℕ) (r q : Asking) → ys ≡ rs → slice_get ys k ≡ Some q → r ≡ slice_index_or rs k r → IsRead rs k r q
indexed rs ys k r q one at read =
    let here : slice_get rs k ≡ Some q = ap (λ (xs : List Asking). slice_get xs k) (sym one) ∙ at in
    let same : q ≡ r = sym (read ∙ slice_get-index rs k q r here) in
    record { at = here ∙ ap (λ (x : Asking). Some x) same; same = same }

pub absent_in : (rs ys : List Asking) (n : ℕ) → ys ≡ rs
    → ((k : ℕ) (r : Asking) → slice_get ys k ≡ Some r → r.number ≢ n) → (k : ℕ) (r : Asking) → slice_get rs k ≡ Some r
    → r.number ≢ n
absent_in rs ys n one absent k r at = absent k r (ap (λ (xs : List Asking). slice_get xs k) one ∙ at)

pub none_of_txn : (rs ys : List Asking) (t : ℕ) → ys ≡ rs
    → ((k : ℕ) (r : Asking) → slice_get ys k ≡ Some r → r.txn ≢ t) → (k : ℕ) (r : Asking) → slice_get rs k ≡ Some r
    → r.txn ≢ t
none_of_txn rs ys t one absent k r at = absent k r (ap (λ (xs : List Asking). slice_get xs k) one ∙ at)
