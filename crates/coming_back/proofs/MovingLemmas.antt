-- What is done for transactions, one step after another.
use Rattle.std.proofs.Common.{◌≡◌, ◌≢◌, ℕ, suc, ◌+◌, ◌-◌, ◌<◌, ◌≤◌, Bool, true, false, ◌||◌, List, [], ◌∷◌, ◌++◌, length, map, Option, Some, None, Ok}
use Rattle.std.proofs.Common.{refl, sym, ◌∙◌, ap, subst, append_assoc, length-append, arith}
use Rattle.std.specs.List.{All}
use Rattle.std.specs.Prelude.{option_to_list, IsSome}
use Rattle.std.proofs.lemmas.List.{length-map}
use Rattle.std.proofs.lemmas.List.Elements.{All-cons, All-nil, All-append}
use Rattle.request_numbers.specs.Given.{holds}
use Rattle.tc_log.specs.declared.event.Event.{Event}
use Rattle.tc_log.specs.declared.event.Event.TheVariants.{Ask, Answer, Undo, End}
use Rattle.tc_log.specs.declared.event.Outcome.{Outcome}
use Rattle.access_slots.specs.declared.op.Said.{Said}
use Rattle.access_slots.specs.declared.op.Reply.{Reply}
use Rattle.coming_back.proofs.ServingLemmas.{all_once}
use Rattle.history.specs.Calls.{admitted, txn_of}
use Rattle.history.specs.Places.{StandsAt, Begins}
use Rattle.history.proofs.Placing.{stays}
use Rattle.data_component.specs.Store.{Store}
use Rattle.verifier.specs.Checked.{Checked}
use Rattle.transactions.specs.declared.Next.{Next as Following}
use Rattle.transactions.specs.declared.Next.TheVariants as next
use Rattle.transactions.specs.Standing.{Standing, standing, answered}
use Rattle.transactions.specs.Legal.{Legal}
use Rattle.transactions.specs.Reached.{AllGood}
use Rattle.transactions.specs.Next.{next_in}
use Rattle.transactions.specs.Room.{each_one, total_to, total}
use Rattle.transactions.proofs.StandingLemmas.{standing-same, standing-other}
use Rattle.tc_core.specs.Core.{Core, Asking}
use Rattle.tc_core.specs.Replies.{next_at, with_event, ask_reply, after_ask, undo_reply, after_undo, end_of, end_reply, after_end, IsAnswer, after_answer}
use Rattle.tc_core.specs.Doubts.{with_number_by}
use Rattle.tc_core.specs.GivingUp.{IsOpenHere, with_given_up}
use Rattle.tc_core.specs.declared.state.Receipt.{Receipt}
use Rattle.tc_core.specs.declared.state.Asked.{Asked}
use Rattle.tc_core.specs.declared.state.Asked.TheVariants.{Request, Undoing, Over, Stuck, Waits, Running, Unknown}
use Rattle.tc_core.proofs.DoubtLemmas.{holds_same, holds_others}
use Rattle.tc_core.proofs.MarkedLemmas.{apart}
use Rattle.coming_back.specs.declared.resumed.Resumed.{Resumed}
use Rattle.coming_back.specs.declared.resumed.Resumed.TheVariants as came
use Rattle.coming_back.specs.declared.resuming.Next.TheVariants as then
use Rattle.coming_back.specs.Serving.{IsFor, AreServed}
use Rattle.tc_world.specs.Lives.{Becomes}
use Rattle.coming_back.specs.Coming.{at_rest, serial_if, open_to, open_txns, serial_of, doubt_in, in_doubt, IsLeft, GivenUp, Stuck as IsStuck, IsResumed}
use Rattle.coming_back.specs.Joining.LivingOn.{LivesOn}
use Rattle.coming_back.specs.Joining.Moving.{Goes, StaysGivenUp, Moves, IsOpen, IsNextOf, CameOf, CameOfAll, left_of}
use Rattle.coming_back.proofs.ServingLemmas.{all_same, all_then}
use Rattle.coming_back.specs.Joining.Quiet.{IsQuiet}
use Rattle.coming_back.proofs.QuietLemmas.{quiet_later, asked_later, undone_later, ended_later, answered_quiet, left_quiet}
use Rattle.coming_back.proofs.LivedLemmas.{ask_lived, undo_lived, end_lived, carried_lived, open_for, answered_lived}
use Rattle.coming_back.specs.Joining.Performing.{There, Nowhere, Sends, Sent, Unsent}
use Rattle.tc_world.specs.Beginning.{admitted_before}
use Rattle.tc_world.proofs.BeginningLemmas.{none_before}
use Rattle.coming_back.proofs.OpenLemmas.{count_to, count_less, none_to, open_same}
use Rattle.coming_back.proofs.NextLemmas.{is_asked, is_undone, asked_open, undone_open, asked_nearer, undone_nearer, ended_nearer, answered_stands, waits_next, waiting}

-- ---- one after another

pub goes_same : (c : Core) (ds : List Store) → Goes c ds c ds
goes_same c ds = record {
  core = refl;
  begins = record { later = []; is = refl };
  count = refl;
  served = all_same IsFor ds;
  lived = λ start l. l;
  quiet = λ q. q;
}

begins_then : (h g f : List Event) → Begins h g → Begins g f → Begins h f
begins_then h g f a b = record { later = b.later ++ a.later; is = b.is ∙ (ap (λ (l : List Event). b.later ++ l) a.is ∙ sym (append_assoc b.later a.later h)) }

abbrev behind : Core → List Event → List ℕ → Core
behind c h ns = record c { events = h; given_up = ns }

pub goes_then : (c d e : Core) (ds es fs : List Store) → Goes c ds d es → Goes d es e fs → Goes c ds e fs
goes_then c d e ds es fs a b = record {
  core = b.core ∙ ap (λ (x : Core). behind x e.events e.given_up) a.core;
  begins = begins_then c.events d.events e.events a.begins b.begins;
  count = b.count ∙ a.count;
  served = all_then IsFor ds es fs a.served b.served;
  lived = λ start l. b.lived start (a.lived start l);
  quiet = λ q. b.quiet (a.quiet q);
}

pub moves_same : (t : ℕ) (c : Core) (ds : List Store) → Moves t c ds c ds
moves_same t c ds = record { goes = goes_same c ds; others = λ u other. refl; given_up = λ u s r other is waits held. held }

pub moves_then : (t : ℕ) (c d e : Core) (ds es fs : List Store) → Moves t c ds d es → Moves t d es e fs → Moves t c ds e fs
moves_then t c d e ds es fs a b = record {
  goes = goes_then c d e ds es fs a.goes b.goes;
  others = λ u other. b.others u other ∙ a.others u other;
  given_up = λ u s r other is waits held. b.given_up u s r other (a.others u other ∙ is) waits (a.given_up u s r other is waits held);
}

-- ---- one event

pub one_event : (t : ℕ) (c : Core) (e : Event) (ds es : List Store) → txn_of e ≡ t → admitted (e ∷ c.events) ≡ admitted c.events
    → StaysGivenUp t c (with_event c e) → AreServed ds es
    → LivesOn (at_rest c ds) (at_rest (with_event c e) es) → (IsQuiet c ds → IsQuiet (with_event c e) es) → Moves t c ds (with_event c e) es
one_event t c e ds es own count stays_so served lived quiet = record {
  goes = record { core = refl; begins = record { later = e ∷ []; is = refl }; count = count; served = served; lived = lived; quiet = quiet };
  others = λ u other. standing-other e c.events u (λ is. other (sym is ∙ own));
  given_up = stays_so;
}

-- where the same numbers are given up
all_stay : (t : ℕ) (c d : Core) → d.given_up ≡ c.given_up → StaysGivenUp t c d
all_stay t c d same u s r other is waits held = ap (holds r.number) same ∙ held

pub ask_moves : (t : ℕ) (c : Core) (a : Asked) (ds : List Store) → a ≡ ask_reply c t
    → Legal (after_ask c a).procs (after_ask c a).events → AllGood c.procs → Moves t c ds (after_ask c a) ds
ask_moves t c (Request r) ds is legal good =
    one_event t c (Ask r.txn r.number r.op) ds ds (is_asked c t r (sym is)).own refl
    (all_stay t c (after_ask c (Request r)) refl) (all_same IsFor ds) (ask_lived t c (Request r) ds is legal good)
    (quiet_later c (Ask r.txn r.number r.op) ds (asked_later c.procs c.events r.txn r.number r.op legal))
ask_moves t c Undoing ds is legal good = moves_same t c ds
ask_moves t c Over ds is legal good = moves_same t c ds
ask_moves t c (Stuck n) ds is legal good = moves_same t c ds
ask_moves t c (Waits n) ds is legal good = moves_same t c ds
ask_moves t c Running ds is legal good = moves_same t c ds
ask_moves t c Unknown ds is legal good = moves_same t c ds

pub undo_moves : (t : ℕ) (c : Core) (a : Asked) (ds : List Store) → a ≡ undo_reply c t
    → Legal (after_undo c a).procs (after_undo c a).events → AllGood c.procs → Moves t c ds (after_undo c a) ds
undo_moves t c (Request r) ds is legal good =
    one_event t c (Undo r.txn r.number r.op) ds ds (is_undone c t r (sym is)).own refl
    (all_stay t c (after_undo c (Request r)) refl) (all_same IsFor ds) (undo_lived t c (Request r) ds is legal good)
    (quiet_later c (Undo r.txn r.number r.op) ds (undone_later c.procs c.events r.txn r.number r.op legal))
undo_moves t c Undoing ds is legal good = moves_same t c ds
undo_moves t c Over ds is legal good = moves_same t c ds
undo_moves t c (Stuck n) ds is legal good = moves_same t c ds
undo_moves t c (Waits n) ds is legal good = moves_same t c ds
undo_moves t c Running ds is legal good = moves_same t c ds
undo_moves t c Unknown ds is legal good = moves_same t c ds

pub end_moves : (t : ℕ) (c : Core) (o : Option Outcome) (ds : List Store) → o ≡ end_of c t
    → Legal (after_end c t o).procs (after_end c t o).events → AllGood c.procs → Moves t c ds (after_end c t o) ds
end_moves t c None ds is legal good = moves_same t c ds
end_moves t c (Some o) ds is legal good =
    one_event t c (End t o) ds ds refl refl (all_stay t c (after_end c t (Some o)) refl) (all_same IsFor ds)
    (end_lived t c (Some o) ds is legal good) (quiet_later c (End t o) ds (ended_later c.procs c.events t o legal))

-- ---- what is next

pub ask_sends : (t : ℕ) (c : Core) (r : Asking) → ask_reply c t ≡ Request r → IsNextOf c.events (after_ask c (Request r)) t (then.Send r)
ask_sends t c r is = (let it = is_asked c t r is in (it.own, asked_open c t r it))

pub ask_near : (t : ℕ) (c : Core) (a : Asked) → Legal c.procs c.events → AllGood c.procs → a ≡ ask_reply c t → left_of (after_ask c a) t ≤ left_of c t
ask_near t c (Request r) legal good is = asked_nearer c t r legal good (is_asked c t r (sym is))
ask_near t c Undoing legal good is = omega arith
ask_near t c Over legal good is = omega arith
ask_near t c (Stuck n) legal good is = omega arith
ask_near t c (Waits n) legal good is = omega arith
ask_near t c Running legal good is = omega arith
ask_near t c Unknown legal good is = omega arith

pub undo_sends : (t : ℕ) (c : Core) (r : Asking) → undo_reply c t ≡ Request r → IsNextOf c.events (after_undo c (Request r)) t (then.Send r)
undo_sends t c r is = (let it = is_undone c t r is in (it.own, undone_open c t r it))

pub undo_near : (t : ℕ) (c : Core) (a : Asked) → Legal c.procs c.events → AllGood c.procs → a ≡ undo_reply c t → left_of (after_undo c a) t ≤ left_of c t
undo_near t c (Request r) legal good is = undone_nearer c t r legal good (is_undone c t r (sym is))
undo_near t c Undoing legal good is = omega arith
undo_near t c Over legal good is = omega arith
undo_near t c (Stuck n) legal good is = omega arith
undo_near t c (Waits n) legal good is = omega arith
undo_near t c Running legal good is = omega arith
undo_near t c Unknown legal good is = omega arith

pub end_near : (t : ℕ) (c : Core) (o : Option Outcome) → left_of (after_end c t o) t ≤ left_of c t
end_near t c None = omega arith
end_near t c (Some o) = ended_nearer c t o

stands_here : (h : List Event) (e : Event) → StandsAt (e ∷ h) (length h) e
stands_here h e = record { later = []; earlier = h; is = refl; count = refl }

pub end_tells : (t : ℕ) (c : Core) (o : Option Outcome) (receipt : Receipt) → Ok receipt ≡ end_reply c t o
    → IsNextOf c.events (after_end c t o) t (then.Ended receipt)
end_tells t c None receipt is = absurd cc
end_tells t c (Some o) receipt is =
    let this : Receipt = record { place = length c.events; txn = t; outcome = o } in
    let same : this ≡ receipt = cc in
    subst (λ (x : Receipt). IsNextOf c.events (with_event c (End t o)) t (then.Ended x)) same
    (refl, record { behind = omega arith; stands = stands_here c.events (End t o) }, standing-same (End t o) c.events t refl)

-- ---- a request that is sent

-- it is performed, or nothing happens
send_served : (c : Core) (r : Asking) (y : Option Reply) (ds es : List Store) → Sends c r ds y es → AreServed ds es
send_served c r y ds es (Sent x is (There it)) = subst (AreServed ds) (sym it.then_is) (all_once IsFor ds x it.s refl it.at)
send_served c r y ds es (Sent x is (Nowhere past none same)) = subst (AreServed ds) (sym same) (all_same IsFor ds)
send_served c r y ds es (Unsent down is none same) = subst (AreServed ds) (sym same) (all_same IsFor ds)

stays_lived : (c : Core) (ds es : List Store) → es ≡ ds → LivesOn (at_rest c ds) (at_rest c es)
stays_lived c ds es same start l = subst (λ (fs : List Store). Becomes start (at_rest c fs)) (sym same) l

send_lived : (c : Core) (r : Asking) (y : Option Reply) (ds es : List Store) → Legal c.procs c.events → AllGood c.procs → IsOpenHere c r → Sends c r ds y es
    → LivesOn (at_rest c ds) (at_rest c es)
send_lived c r y ds es legal good here (Sent x is (There it)) start l = carried_lived c r x y ds es legal good here is it start l
send_lived c r y ds es legal good here (Sent x is (Nowhere past none same)) start l = stays_lived c ds es same start l
send_lived c r y ds es legal good here (Unsent down is none same) start l = stays_lived c ds es same start l

answer_lived : (c : Core) (r : Asking) (z : Reply) (ds es : List Store) → Legal c.procs c.events → AllGood c.procs
    → IsAnswer c r z → Legal c.procs (after_answer c r z.said).events
    → Sends c r ds (Some z) es → LivesOn (at_rest c ds) (at_rest (after_answer c r z.said) es)
answer_lived c r z ds es legal good a legal' (Sent x is (There it)) start l = answered_lived c r x z ds es legal good is it a legal' start l
answer_lived c r z ds es legal good a legal' (Sent x is (Nowhere past none same)) start l = absurd (let bad : Some z ≡ None = none in cc)
answer_lived c r z ds es legal good a legal' (Unsent down is none same) start l = absurd (let bad : Some z ≡ None = none in cc)

-- two transactions wait for two numbers
answer_stays : (c : Core) (r : Asking) (said : Said) → Legal c.procs c.events → IsOpenHere c r → StaysGivenUp r.txn c (after_answer c r said)
answer_stays c r said legal here u s q other is waits held =
    let differ : r.number ≢ q.number = (λ same.
    other (apart c.procs c.events legal u r.txn s here.s q here.sent is here.is waits here.waits (sym same ∙ sym here.same_number))) in
    holds_others c.given_up r.number q.number differ ∙ held

-- it is answered
pub answer_moves : (c : Core) (r : Asking) (z : Reply) (ds es : List Store) → Legal c.procs c.events → AllGood c.procs
    → IsAnswer c r z → Legal c.procs (after_answer c r z.said).events
    → Sends c r ds (Some z) es → Moves r.txn c ds (after_answer c r z.said) es
answer_moves c r z ds es legal good a legal' sends =
    one_event r.txn c (Answer r.txn r.number z.said) ds es refl refl (answer_stays c r z.said legal (open_for c r z a))
    (send_served c r (Some z) ds es sends) (answer_lived c r z ds es legal good a legal' sends)
    (answered_quiet c r z ds es legal a legal' sends)

pub answer_open : (c : Core) (r : Asking) (said : Said) → IsOpenHere c r → IsOpen (after_answer c r said) r.txn
answer_open c r said here = record { s = answered said here.s; is = answered_stands c r said here }

-- ---- a request that is given up

kept_by : (there : Bool) (n m : ℕ) (ns : List ℕ) → holds m ns ≡ true → holds m (with_number_by there n ns) ≡ true
kept_by true n m ns is = is
kept_by false n m ns is = holds_left ns (n ∷ []) m is
  where
    or_true : (a b : Bool) → (a || b) ≡ true → (c : Bool) → (b ≡ true → c ≡ true) → (a || c) ≡ true
    or_true true b is c more = refl
    or_true false b is c more = more is

    holds_left : (xs ys : List ℕ) (m : ℕ) → holds m xs ≡ true → holds m (xs ++ ys) ≡ true
    holds_left [] ys m is = absurd cc
    holds_left (x ∷ xs) ys m is = or_true _ (holds m xs) is (holds m (xs ++ ys)) (λ there. holds_left xs ys m there)

there_by : (there : Bool) (n : ℕ) (ns : List ℕ) → holds n ns ≡ there → holds n (with_number_by there n ns) ≡ true
there_by true n ns is = is
there_by false n ns is = holds_same ns n

pub give_up_moves : (t : ℕ) (c : Core) (n : ℕ) (ds es : List Store) → AreServed ds es → LivesOn (at_rest c ds) (at_rest c es)
    → (IsQuiet c ds → IsQuiet (with_given_up c n) es) → Moves t c ds (with_given_up c n) es
give_up_moves t c n ds es served lived quiet = record {
  goes = record { core = refl; begins = record { later = []; is = refl }; count = refl; served = served; lived = lived; quiet = quiet };
  others = λ u other. refl;
  given_up = λ u s r other is waits held. kept_by (holds n c.given_up) n r.number c.given_up held;
}

pub given_up_moves : (c : Core) (r : Asking) (y : Option Reply) (ds es : List Store) → Legal c.procs c.events
    → AllGood c.procs → IsOpenHere c r → Sends c r ds y es
    → ((z : Reply) → y ≡ Some z → IsAnswer c r z → ⊥) → Moves r.txn c ds (with_given_up c r.number) es
given_up_moves c r y ds es legal good here sends refused =
    give_up_moves r.txn c r.number ds es (send_served c r y ds es sends) (send_lived c r y ds es legal good here sends)
    (left_quiet c r y ds es legal here sends refused)

same_next : (c d : Core) (t : ℕ) → d.procs ≡ c.procs → standing d.events t ≡ standing c.events t → next_at d t ≡ next_at c t
unfolding next_at
same_next c d t procs stands = ap (λ (ps : List Checked). next_in ps (standing d.events t)) procs ∙ ap (next_in c.procs) stands

pub give_up_leaves : (c : Core) (r : Asking) → IsOpenHere c r → IsLeft (with_given_up c r.number) r.txn r.number
give_up_leaves c r here =
    GivenUp (same_next c (with_given_up c r.number) r.txn refl refl ∙ waits_next c r here) (there_by (holds r.number c.given_up) r.number c.given_up refl)

-- ---- what came of a transaction

abbrev IsItsOwn : Core → Core → ℕ → Resumed → Type 0
IsItsOwn c d t x = (serial_of x ≡ t) × IsResumed c.events d x

abbrev IsOneOf : Core → Core → ℕ → Resumed → Type 0
IsOneOf c d n x = (serial_of x ≤ n) × IsResumed c.events d x

open_if : (ps : List Checked) (o : Option Standing) (n : Following) → next_in ps o ≡ Some n → (s : Standing) × (o ≡ Some s)
open_if ps None n is = absurd cc
open_if ps (Some s) n is = (s, refl)

open_next : (c : Core) (t : ℕ) (n : Following) → next_at c t ≡ Some n → IsOpen c t
unfolding next_at
open_next c t n is = (let it = open_if c.procs (standing c.events t) n is in record { s = it.0; is = it.1 })

left_open : (c : Core) (t n : ℕ) → IsLeft c t n → IsOpen c t
left_open c t n (GivenUp is held) = open_next c t (next.Waits n) is
left_open c t n (IsStuck is) = open_next c t (next.Stuck n) is

serial_open : (c : Core) (t : ℕ) → IsOpen c t → t ∷ [] ≡ serial_if t (standing c.events t)
serial_open c t open_yet = ap (serial_if t) (sym open_yet.is)

pub came_left : (c d : Core) (t n : ℕ) → IsOpen c t → IsLeft d t n → CameOf c d t (came.InDoubt t n ∷ [])
came_left c d t n was left = record {
  serials = serial_open c t was;
  doubts = serial_open d t (left_open d t n left);
  each = All-cons (IsItsOwn c d t) (came.InDoubt t n) [] (refl, left) (All-nil (IsItsOwn c d t));
}

pub came_ended : (c d : Core) (t : ℕ) (receipt : Receipt) → IsOpen c t → IsNextOf c.events d t (then.Ended receipt) → CameOf c d t (came.Ended receipt ∷ [])
came_ended c d t receipt was (own, ended, gone) = record {
  serials = ap (λ (u : ℕ). u ∷ []) own ∙ serial_open c t was;
  doubts = ap (serial_if t) (sym gone);
  each = All-cons (IsItsOwn c d t) (came.Ended receipt) [] (own, ended) (All-nil (IsItsOwn c d t));
}

pub came_none : (c : Core) (t : ℕ) → standing c.events t ≡ None → CameOf c c t []
came_none c t gone = record { serials = ap (serial_if t) (sym gone); doubts = ap (serial_if t) (sym gone); each = All-nil (IsItsOwn c c t) }

begins_length : (first h : List Event) → Begins first h → length first ≤ length h
begins_length first h b = omega (arith, ap length b.is, length-append b.later first)

resumed_since : (first mid : List Event) (e : Core) (x : Resumed) → Begins first mid → IsResumed mid e x → IsResumed first e x
resumed_since first mid e (came.Ended receipt) begins ended =
    record {
      behind = (let low = begins_length first mid begins in omega (arith, low, ended.behind));
      stands = ended.stands;
    }
resumed_since first mid e (came.InDoubt t n) begins left = left

-- what came of it since a log is so since a beginning of that log, in which it was open
pub came_since : (c d e : Core) (t : ℕ) (x : Resumed) → Begins c.events d.events → IsOpen c t → IsOpen d t → CameOf d e t (x ∷ []) → CameOf c e t (x ∷ [])
came_since c d e t x begins was then_open came_of = record {
  serials = came_of.serials ∙ (sym (serial_open d t then_open) ∙ serial_open c t was);
  doubts = came_of.doubts;
  each = λ k y low. (let it = came_of.each k y low in (it.0, resumed_since c.events d.events e _ begins it.1));
}

-- ---- what came of all

left_stays : (t : ℕ) (c d : Core) (u n : ℕ) → u ≢ t → d.procs ≡ c.procs → standing d.events u ≡ standing c.events u
    → StaysGivenUp t c d → IsLeft c u n → IsLeft d u n
left_stays t c d u n other procs stands stays_so (GivenUp is held) =
    let w = waiting c u n is in
    let number : w.1.number ≡ n = w.4 in
    GivenUp (same_next c d u procs stands ∙ is)
    (ap (λ (m : ℕ). holds m d.given_up) (sym number)
    ∙ stays_so u w.0 w.1 other w.2 w.3 (ap (λ (m : ℕ). holds m c.given_up) number ∙ held))
left_stays t c d u n other procs stands stays_so (IsStuck is) = IsStuck (same_next c d u procs stands ∙ is)

resumed_stays : (first : List Event) (t : ℕ) (c d : Core) (ds es : List Store) (x : Resumed) → Moves t c ds d es
    → serial_of x ≢ t → IsResumed first c x → IsResumed first d x
resumed_stays first t c d ds es (came.Ended receipt) moves other ended =
    record { behind = ended.behind; stands = stays c.events d.events receipt.place _ moves.goes.begins ended.stands }
resumed_stays first t c d ds es (came.InDoubt u n) moves other left =
    left_stays t c d u n other (ap (λ (x : Core). x.procs) moves.goes.core) (moves.others u other) moves.given_up left

doubts_join : (xs ys : List Resumed) → in_doubt (xs ++ ys) ≡ in_doubt xs ++ in_doubt ys
doubts_join [] ys = refl
doubts_join (x ∷ xs) ys = ap (λ (l : List ℕ). doubt_in x ++ l) (doubts_join xs ys) ∙ sym (append_assoc (doubt_in x) (in_doubt xs) (in_doubt ys))

serials_join : (xs ys : List Resumed) → map serial_of (xs ++ ys) ≡ map serial_of xs ++ map serial_of ys
serials_join [] ys = refl
serials_join (x ∷ xs) ys = ap (λ (l : List ℕ). serial_of x ∷ l) (serials_join xs ys)

-- of those that were admitted before the log began none is open
pub none_yet : (c : Core) (ds : List Store) → Legal c.procs c.events → CameOfAll c ds c ds (admitted_before c.events) []
none_yet c ds legal =
    let none : open_to c.events (admitted_before c.events) ≡ [] = none_to c.events (admitted_before c.events) (none_before c.procs c.events legal) in
    record {
      goes = goes_same c ds;
      ahead = λ u above. refl;
      serials = sym none;
      doubts = sym none;
      each = All-nil (IsOneOf c c (admitted_before c.events));
    }

pub one_more : (c d e : Core) (ds es fs : List Store) (n : ℕ) (xs ys : List Resumed) → CameOfAll c ds d es n xs
    → Moves (suc n) d es e fs → CameOf d e (suc n) ys
    → CameOfAll c ds e fs (suc n) (xs ++ ys)
one_more c d e ds es fs n xs ys before moves came_of = record {
  goes = goes_then c d e ds es fs before.goes moves.goes;
  ahead = λ u above. moves.others u (λ same. absurd (omega (arith, above, same))) ∙ before.ahead u (omega (arith, above));
  serials = serials_join xs ys
      ∙ (ap (λ (l : List ℕ). l ++ map serial_of ys) before.serials
      ∙ ap (λ (l : List ℕ). open_to c.events n ++ l) (came_of.serials ∙ ap (serial_if (suc n)) (before.ahead (suc n) (omega arith))));
  doubts = doubts_join xs ys
      ∙ (ap (λ (l : List ℕ). l ++ in_doubt ys) (before.doubts
      ∙ sym (open_same d.events e.events n (λ u low. moves.others u (λ same. absurd (omega (arith, low, same))))))
      ∙ ap (λ (l : List ℕ). open_to e.events n ++ l) came_of.doubts);
  each = All-append (IsOneOf c e (suc n)) xs ys
      (λ k x low.
      let it = before.each k x low in
      (omega (arith, it.0), resumed_stays c.events (suc n) d e es fs _ moves (λ same. absurd (omega (arith, it.0, same))) it.1))
      (λ k y low.
      let it = came_of.each k y low in
      (omega (arith, it.0), resumed_since c.events d.events e _ before.goes.begins it.1));
}

-- there is room for one more
pub room_left : (c d e : Core) (ds es : List Store) (n room : ℕ) (xs : List Resumed) (y : Resumed) → CameOfAll c ds d es n xs → CameOf d e (suc n) (y ∷ [])
    → suc n ≤ admitted c.events → total each_one c.events ≤ room → length xs < room
unfolding total
room_left c d e ds es n room xs y before came_of within most =
    let many : length (map serial_of xs) ≡ length (open_to c.events n) = ap length before.serials in
    let one : length (map serial_of (y ∷ [])) ≡ length (serial_if (suc n) (standing c.events (suc n))) = ap length
    (came_of.serials ∙ ap (serial_if (suc n)) (before.ahead (suc n) (omega arith))) in
    let all = length-append (open_to c.events n) (serial_if (suc n) (standing c.events (suc n))) in
    let counted = count_to c.events (suc n) in
    let less = count_less c.events (suc n) (admitted c.events - suc n) in
    let last : suc n + (admitted c.events - suc n) ≡ admitted c.events = omega (arith, within) in
    let less' : total_to each_one c.events (suc n) ≤ total_to each_one c.events (admitted c.events) = subst
    (λ (m : ℕ). total_to each_one c.events (suc n) ≤ total_to each_one c.events m) last less in
    omega (arith, many, one, all, counted, less', most, length-map xs serial_of)

pub all_done : (c d : Core) (ds es : List Store) (n : ℕ) (xs : List Resumed) → n ≡ admitted c.events → CameOfAll c ds d es n xs
    → (map serial_of xs ≡ open_txns c.events) × (in_doubt xs ≡ open_txns d.events) × All (IsResumed c.events d) xs
all_done c d ds es n xs all came_of = (
  came_of.serials ∙ ap (open_to c.events) all,
  came_of.doubts ∙ ap (open_to d.events) (all ∙ sym came_of.goes.count),
  λ k x low. (came_of.each k x low).1,
)

some_open_by : (h : Option Standing) → IsSome h → (s : Standing) × (h ≡ Some s)
some_open_by None some = absurd (let bad : false ≡ true = some in cc)
some_open_by (Some s) some = (s, refl)

pub some_open : (c : Core) (t u : ℕ) → u ≡ t → IsSome (standing c.events t) → IsOpen c u
some_open c t u same some = (let it = some_open_by (standing c.events t) some in record { s = it.0; is = ap (standing c.events) same ∙ it.1 })

pub room_for : (c d e : Core) (ds es : List Store) (n room : ℕ) (xs : List Resumed) (o : Option Resumed)
    → CameOfAll c ds d es n xs → CameOf d e (suc n) (option_to_list o)
    → suc n ≤ admitted c.events → total each_one c.events ≤ room → IsSome o → length xs < room
room_for c d e ds es n room xs None before came_of within most some = absurd (let bad : false ≡ true = some in cc)
room_for c d e ds es n room xs (Some y) before came_of within most some = room_left c d e ds es n room xs y before came_of within most

pub one_more_at : (c d e : Core) (ds es fs : List Store) (n m : ℕ) (xs ys : List Resumed) → m ≡ suc n
    → CameOfAll c ds d es n xs → Moves m d es e fs → CameOf d e m ys
    → CameOfAll c ds e fs m (xs ++ ys)
one_more_at c d e ds es fs n m xs ys next before moves came_of =
    subst (λ (k : ℕ). CameOfAll c ds e fs k (xs ++ ys)) (sym next)
    (one_more c d e ds es fs n xs ys before (subst (λ (k : ℕ). Moves k d es e fs) next moves) (subst (λ (k : ℕ). CameOf d e k ys) next came_of))

pub room_for_at : (c d e : Core) (ds es : List Store) (n m room : ℕ) (xs : List Resumed) (o : Option Resumed)
    → m ≡ suc n → CameOfAll c ds d es n xs → CameOf d e m (option_to_list o)
    → m ≤ admitted c.events → total each_one c.events ≤ room → IsSome o → length xs < room
room_for_at c d e ds es n m room xs o next before came_of within most some =
    room_for c d e ds es n room xs o before (subst (λ (k : ℕ). CameOf d e k (option_to_list o)) next came_of)
    (subst (λ (k : ℕ). k ≤ admitted c.events) next within) most some
