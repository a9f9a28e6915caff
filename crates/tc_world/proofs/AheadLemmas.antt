-- An engine that writes ahead is found to have written all that was carried, wherever it is killed.
use Rattle.std.proofs.Common.{◌≡◌, ℕ, zero, suc, ◌+◌, ◌≤◌, Bool, true, false, ◌&&◌, ◌-◌, List, [], ◌∷◌, ◌++◌, length}
use Rattle.std.proofs.Common.{length-append, drop, Option, Some, None, arith, refl, sym, ◌∙◌, subst, ap, inl, inr}
use Rattle.std.specs.Prelude.{◌^◌, slice_get, nat_le, Result, Ok, Err}
use Rattle.std.specs.List.{All}
use Rattle.std.proofs.lemmas.Bool.{cases_eq, cond-true, cond-false}
use Rattle.std.proofs.Math.Seq.{drop-append_seam}
use Rattle.std.proofs.lemmas.List.Elements.{All-push}
use Rattle.access_slots.specs.Access.{fits}
use Rattle.access_slots.specs.declared.op.Wire.{Wire}
use Rattle.access_slots.specs.declared.op.Reply.{Reply}
use Rattle.access_slots.specs.declared.op.News.{News}
use Rattle.verifier.specs.Checked.{Checked}
use Rattle.tc_log.specs.declared.event.Outcome.{Outcome as Ending}
use Rattle.tc_log.specs.declared.event.Event.{Event}
use Rattle.tc_log.specs.declared.event.Event.TheVariants as event
use Rattle.history.specs.Calls.{admitted}
use Rattle.history.specs.Flight.{Flight, open_op, is_open, is_flight, given, low_water}
use Rattle.history.specs.Places.{Begins}
use Rattle.history.specs.Redo.{answered, if_done_at, is_done_at, to_redo, IsToRedo}
use Rattle.history.specs.declared.Answered.{Answered}
use Rattle.transactions.specs.declared.Sent.{Sent}
use Rattle.transactions.specs.declared.Redoing.{Redoing}
use Rattle.transactions.specs.declared.Site.{Site}
use Rattle.transactions.specs.InFlight.{site_of}
use Rattle.transactions.specs.Standing.{Standing, standing}
use Rattle.transactions.specs.Legal.{Legal}
use Rattle.transactions.proofs.StandingLemmas.{eq-true, eq-false, none_some}
use Rattle.transactions.proofs.Flights.{standing_flight}
use Rattle.transactions.proofs.Restarts.{answered_given, to_redo_is}
use Rattle.data_component.specs.Performed.{Performed}
use Rattle.data_component.specs.Store.{Store, replied}
use Rattle.serial.proofs.BackLemmas.{legal_first}
use Rattle.tc_core.specs.Core.{Core, Asking}
use Rattle.tc_core.specs.Replies.{with_event, ask_reply, after_ask, undo_reply, after_undo, end_of, is_heard}
use Rattle.tc_core.specs.Lent.{wire_for, wire_by, wire_of}
use Rattle.tc_core.specs.Redo.{news_fault, after_told, redo_wire, sends_again, redo_by, redo_at, redo_reply, up_again, after_redo, redone_at}
use Rattle.tc_core.specs.Recovery.{first_events}
use Rattle.tc_core.specs.declared.recovery.SiteNote.{SiteNote}
use Rattle.tc_core.specs.declared.state.Asked.{Asked}
use Rattle.tc_core.specs.declared.state.Asked.TheVariants as reply
use Rattle.tc_core.specs.declared.state.Down.{Down}
use Rattle.tc_core.specs.declared.state.NewsFault.{NewsFault}
use Rattle.tc_core.specs.declared.state.NewsFault.TheVariants as fault
use Rattle.tc_core.specs.declared.state.Redo.{Redo}
use Rattle.tc_core.specs.declared.state.Redo.TheVariants as redo
use Rattle.tc_world.specs.Whole.{Whole}
use Rattle.tc_world.specs.Marks.{IsLow, AreMarksLow}
use Rattle.tc_world.specs.OneAtATime.{is_forge}
use Rattle.tc_world.specs.Recovery.{IsWrittenFor, Noted, AreNoted, IsWritten, come_back, notes_of, MayCrash, IsNew, start_over}
use Rattle.tc_world.specs.Lives.{AreAmong, left_with, Move, Takes, Loses, Crashes, StartsOver, Lives, HasLived}
use Rattle.tc_world.specs.Ahead.{Written, all_written, Tells, Grows, IsAhead, Turn, Goes as Acts, Killed, WritesAhead}
use Rattle.tc_world.specs.Steps.{Goes, Steps, with_core, with_copy, with_reply, told, sends_or_holds, ends_by}
use Rattle.tc_world.specs.Steps.{resends_wire, resends_sent, resends_by, dc_of, gets_reply, performs_at, performs_copy}
use Rattle.tc_world.specs.Steps.{takes_answer, TakesRedo, TakesBy, TakesReply, restarts_as, restarts_at, checkpoints_at}
use Rattle.tc_world.specs.Steps.{tells_unless, tells_news, redoes_by}
use Rattle.tc_world.specs.declared.step.Step.{Step}
use Rattle.tc_world.specs.declared.step.Step.TheVariants as step
use Rattle.tc_world.specs.declared.step.Outcome.{Outcome}
use Rattle.tc_world.proofs.Bases.{begun_low}
use Rattle.tc_world.proofs.ComingBack.{all_at, noted_at}
use Rattle.tc_world.proofs.Marks.{went, stopped}
use Rattle.tc_world.proofs.Listed.{Known}
use Rattle.tc_world.proofs.Recovering.{among_all, start_over_low}
use Rattle.tc_world.proofs.WrittenLemmas.{Rest, rest_of, stay_rest, acted, cut_written, whole_rest, wire_more}
use Rattle.tc_world.proofs.WrittenLemmas.{fresh_written, again_written, closed_sent, closed_answered}
use Rattle.tc_world.proofs.LivingLemmas.{living_legal, living_low, step_lived, loss_lived, crash_lived, over_lived, fresh_lived}

abbrev LegalCore : Core → Type 0
LegalCore c = Legal c.procs c.events

-- ---- what was answered isn't open

closed : (ps : List Checked) (h : List Event) (n : ℕ) (a : Answered) → Legal ps h → answered h n ≡ Some a → is_open h n ≡ false
closed ps [] n a legal is = refl
closed ps (event.Ask t m q ∷ h) n a legal is =
    closed_sent (given h) n m (record { txn = t; op = q }) (open_op h n) (answered_given ps h legal.1 n a is) legal.0.next (closed ps h n a legal.1 is)
closed ps (event.Answer t m said ∷ h) n a legal is = elim (cases_eq m n) [
  | inl same ↦ ap is_flight (cond-true _ None (open_op h n) (eq-true m n same))
  | inr other ↦ closed_answered n m (open_op h n) (closed ps h n a legal.1 (sym (cond-false _ _ _ (eq-false m n other)) ∙ is))
]
closed ps (event.Undo t m q ∷ h) n a legal is =
    closed_sent (given h) n m (record { txn = t; op = q }) (open_op h n) (answered_given ps h legal.1 n a is) legal.0.next (closed ps h n a legal.1 is)
closed ps (_ ∷ h) n a legal is = closed ps h n a legal.1 is

done_is : (d : ℕ) (o : Option Answered) (a : Answered) → if_done_at d o ≡ Some a → o ≡ Some a
done_is d None a is = absurd cc
done_is d (Some b) a is = by (is_done_at d b) refl
  where
    by : (x : Bool) → is_done_at d b ≡ x → Some b ≡ Some a
    by false e = absurd (none_some _ a (cond-false _ (Some b) None e) is)
    by true e = sym (cond-true _ (Some b) None e) ∙ is

-- ---- what is sent was written for by the whole log

abbrev AreTold : Whole → Type 0
AreTold w = All (IsWrittenFor w.core.events) w.copies

behind : (o p : Outcome) (w v : Whole) → AreTold w → Goes o w ≡ Goes p v → AreTold v
behind o p w v all goes = subst AreTold (went o p w v goes) all

legal_behind : (o p : Outcome) (w v : Whole) → LegalCore v.core → Goes o w ≡ Goes p v → LegalCore w.core
legal_behind o p w v legal goes = subst (λ (x : Whole). LegalCore x.core) (sym (went o p w v goes)) legal

one_more : (h : List Event) (e : Event) → Begins h (e ∷ h)
one_more h e = record { later = e ∷ []; is = refl }

no_more : (h : List Event) → Begins h h
no_more h = record { later = []; is = refl }

grown : (w : Whole) (c : Core) → LegalCore c → Begins w.core.events c.events → AreTold w → AreTold (with_core w c)
grown w c legal begins all k x inside = wire_more c.procs w.core.events c.events _ legal begins (all k x inside)

copied : (w : Whole) (x : Wire) → IsWrittenFor w.core.events x → AreTold w → AreTold (with_copy w x)
copied w x is all = All-push (IsWrittenFor w.core.events) w.copies x all is

request_told : (c : Core) (r : Asking) (x : Wire) → r.number ≤ given c.events → wire_of c r ≡ Ok x → IsWrittenFor c.events x
request_told c r x few is = by (site_of c.sites r.op).redo is
  where
    n : ℕ
    n = (site_of c.sites r.op).incarnation

    by : (q : Option Redoing) → wire_by c r n q ≡ Ok x → IsWrittenFor c.events x
    by None e =
        let same : wire_for c r n ≡ x = cc in
        subst (IsWrittenFor c.events) same (record { number = few; mark = omega arith; redone = λ again. absurd (let bad : false ≡ true = again in cc) })
    by (Some q) e = absurd cc

-- the number of a request that is made was given out
abbrev IsGivenOut : Core → Asked → Type 0
IsGivenOut c (reply.Request r) = LegalCore c → r.number ≤ given c.events
IsGivenOut c other = Unit {0}

ask_number : (c : Core) (a : Asked) → IsGivenOut (after_ask c a) a
ask_number c (reply.Request r) = λ legal. (let next = legal.0.next in omega (arith, next))
ask_number c reply.Undoing = tt
ask_number c reply.Over = tt
ask_number c (reply.Stuck n) = tt
ask_number c (reply.Waits n) = tt
ask_number c reply.Running = tt
ask_number c reply.Unknown = tt

undo_number : (c : Core) (a : Asked) → IsGivenOut (after_undo c a) a
undo_number c (reply.Request r) = λ legal. (let next = legal.0.next in omega (arith, next))
undo_number c reply.Undoing = tt
undo_number c reply.Over = tt
undo_number c (reply.Stuck n) = tt
undo_number c (reply.Waits n) = tt
undo_number c reply.Running = tt
undo_number c reply.Unknown = tt

ask_begins : (c : Core) (a : Asked) → Begins c.events (after_ask c a).events
ask_begins c (reply.Request r) = one_more c.events (event.Ask r.txn r.number r.op)
ask_begins c reply.Undoing = no_more c.events
ask_begins c reply.Over = no_more c.events
ask_begins c (reply.Stuck n) = no_more c.events
ask_begins c (reply.Waits n) = no_more c.events
ask_begins c reply.Running = no_more c.events
ask_begins c reply.Unknown = no_more c.events

undo_begins : (c : Core) (a : Asked) → Begins c.events (after_undo c a).events
undo_begins c (reply.Request r) = one_more c.events (event.Undo r.txn r.number r.op)
undo_begins c reply.Undoing = no_more c.events
undo_begins c reply.Over = no_more c.events
undo_begins c (reply.Stuck n) = no_more c.events
undo_begins c (reply.Waits n) = no_more c.events
undo_begins c reply.Running = no_more c.events
undo_begins c reply.Unknown = no_more c.events

told_told : (w v : Whole) (t : ℕ) (c : Core) (a : Asked) (o : Outcome) → Begins w.core.events c.events → IsGivenOut c a → LegalCore v.core → AreTold w
    → told w t c a ≡ Goes o v → AreTold v
told_told w v t c (reply.Request r) o begins number legal all goes = by (wire_of c r) refl goes
  where
    by : (x : Result Wire Down) → wire_of c r ≡ x → sends_or_holds (with_core w c) r x ≡ Goes o v → AreTold v
    by (Ok x) is goes' =
        let now = legal_behind _ o (with_copy (with_core w c) x) v legal goes' in
        behind _ o (with_copy (with_core w c) x) v (copied (with_core w c) x (request_told c r x (number now) is) (grown w c now begins all)) goes'
    by (Err down) is goes' = behind _ o (with_core w c) v (grown w c (legal_behind _ o (with_core w c) v legal goes') begins all) goes'
told_told w v t c reply.Undoing o begins number legal all goes = behind _ o w v all goes
told_told w v t c reply.Over o begins number legal all goes = behind _ o w v all goes
told_told w v t c (reply.Stuck n) o begins number legal all goes = behind _ o w v all goes
told_told w v t c (reply.Waits n) o begins number legal all goes = absurd (stopped _ o v goes)
told_told w v t c reply.Running o begins number legal all goes = absurd (stopped _ o v goes)
told_told w v t c reply.Unknown o begins number legal all goes = absurd (stopped _ o v goes)

logs : (w v : Whole) (e : Event) (o p : Outcome) → LegalCore v.core → AreTold w → Goes p (with_core w (with_event w.core e)) ≡ Goes o v → AreTold v
logs w v e o p legal all goes =
    let c = with_event w.core e in
    behind p o (with_core w c) v (grown w c (legal_behind p o (with_core w c) v legal goes) (one_more w.core.events e) all) goes

ends_told : (w v : Whole) (t : ℕ) (s : Option Standing) (e : Option Ending) (o : Outcome) → LegalCore v.core → AreTold w
    → ends_by w t s e ≡ Goes o v → AreTold v
ends_told w v t None e o legal all goes = absurd (stopped _ o v goes)
ends_told w v t (Some s) None o legal all goes = absurd (stopped _ o v goes)
ends_told w v t (Some s) (Some e) o legal all goes = logs w v (event.End t e) o _ legal all goes

resends_told : (w v : Whole) (t : ℕ) (s : Option Standing) (o : Outcome) → standing w.core.events t ≡ s
    → LegalCore w.core → AreTold w → resends_by w t s ≡ Goes o v → AreTold v
resends_told w v t None o at legal all goes = absurd (stopped _ o v goes)
resends_told w v t (Some s) o at legal all goes = by s.sent refl goes
  where
    by : (q : Option Sent) → s.sent ≡ q → resends_sent w t q ≡ Goes o v → AreTold v
    by None is goes' = absurd (stopped _ o v goes')
    by (Some r) is goes' = wires (wire_of w.core a) refl goes'
      where
        a : Asking
        a = record { txn = t; number = r.number; op = r.op }

        wires : (x : Result Wire Down) → wire_of w.core a ≡ x → resends_wire w r.op x ≡ Goes o v → AreTold v
        wires (Ok x) made goes'' =
            let few = (standing_flight w.core.procs w.core.events legal t s r at is).0 in
            behind _ o (with_copy w x) v (copied w x (request_told w.core a x few made) all) goes''
        wires (Err down) made goes'' = absurd (stopped _ o v goes'')

gets_told : (w v : Whole) (x : Option Reply) (o : Outcome) → AreTold w → gets_reply w x ≡ Goes o v → AreTold v
gets_told w v None o all goes = behind _ o w v all goes
gets_told w v (Some x) o all goes = behind _ o (with_reply w x) v all goes

performs_told : (w v : Whole) (x : Wire) (s : Option Store) (o : Outcome) → AreTold w → performs_at w x s ≡ Goes o v → AreTold v
performs_told w v x None o all goes = absurd (stopped _ o v goes)
performs_told w v x (Some s) o all goes = gets_told _ v (replied s x) o all goes

performs_copy_told : (w v : Whole) (x : Option Wire) (o : Outcome) → AreTold w → performs_copy w x ≡ Goes o v → AreTold v
performs_copy_told w v None o all goes = absurd (stopped _ o v goes)
performs_copy_told w v (Some x) o all goes = performs_told w v x (slice_get w.dcs (dc_of x)) o all goes

takes_answer_told : (w v : Whole) (f : Flight) (x : Reply) (b : Bool) (o : Outcome) → LegalCore v.core → AreTold w → takes_answer w f x b ≡ Goes o v → AreTold v
takes_answer_told w v f x false o legal all goes = absurd (stopped _ o v goes)
takes_answer_told w v f x true o legal all goes = logs w v (event.Answer f.txn x.number x.said) o _ legal all goes

takes_redo_told : (w v : Whole) (x : Reply) (o : Outcome) → AreTold w → TakesRedo w x o v → AreTold v
takes_redo_told w v x o all takes = subst AreTold (sym takes.next) (by (slice_get w.core.sites takes.dc))
  where
    by : (t : Option Site) → AreTold (with_core w (redone_at w.core takes.dc x.number t))
    by None = all
    by (Some t) = all

takes_told : (w v : Whole) (x : Option Reply) (o : Outcome) → LegalCore v.core → AreTold w → TakesReply w x o v → AreTold v
takes_told w v None o legal all takes = absurd takes
takes_told w v (Some x) o legal all takes = by (open_op w.core.events x.number) takes
  where
    by : (f : Option Flight) → TakesBy w x f o v → AreTold v
    by None takes' = takes_redo_told w v x o all takes'
    by (Some f) takes' = takes_answer_told w v f x (is_heard (site_of w.core.sites f.op) x && fits f.op x.said) o legal all takes'

restarts_told : (w v : Whole) (d : ℕ) (s : Option Store) (o : Outcome) → AreTold w → restarts_at w d s ≡ Goes o v → AreTold v
restarts_told w v d None o all goes = absurd (stopped _ o v goes)
restarts_told w v d (Some s) o all goes = by (nat_le (2 ^ 62) s.incarnation) goes
  where
    by : (b : Bool) → restarts_as w d s b ≡ Goes o v → AreTold v
    by true goes' = absurd (stopped _ o v goes')
    by false goes' = behind _ o _ v all goes'

checkpoints_told : (w v : Whole) (d : ℕ) (s : Option Store) (o : Outcome) → AreTold w → checkpoints_at w d s ≡ Goes o v → AreTold v
checkpoints_told w v d None o all goes = absurd (stopped _ o v goes)
checkpoints_told w v d (Some s) o all goes = behind _ o _ v all goes

tells_told : (w v : Whole) (x : Option (ℕ × News)) (o : Outcome) → AreTold w → tells_news w x ≡ Goes o v → AreTold v
tells_told w v None o all goes = absurd (stopped _ o v goes)
tells_told w v (Some x) o all goes = by (news_fault w.core x.0 x.1) goes
  where
    by : (f : Option NewsFault) → tells_unless w x.0 x.1 f ≡ Goes o v → AreTold v
    by (Some fault.NoDc) goes' = absurd (stopped _ o v goes')
    by (Some fault.OldNews) goes' = absurd (stopped _ o v goes')
    by (Some fault.Forgotten) goes' = absurd (stopped _ o v goes')
    by None goes' = behind _ o (with_core w (after_told w.core x.0 x.1)) v all goes'

redoes_told : (w v : Whole) (d : ℕ) (t : Option Site) (o : Outcome) → slice_get w.core.sites d ≡ t → LegalCore w.core → AreMarksLow w → AreTold w
    → redoes_by w d (redo_at w.core d t) ≡ Goes o v → AreTold v
redoes_told w v d None o at legal low all goes = absurd (stopped _ o v goes)
redoes_told w v d (Some t) o at legal low all goes = by t.redo refl goes
  where
    h : List Event
    h = w.core.events

    by : (r : Option Redoing) → t.redo ≡ r → redoes_by w d (redo_by w.core d t.incarnation r) ≡ Goes o v → AreTold v
    by None is goes' = absurd (stopped _ o v goes')
    by (Some r) is goes' = sends (to_redo h d r.redone) refl goes'
      where
        low_mark : r.mark ≤ low_water h
        low_mark = subst (IsLow (low_water h)) is (all_at (λ (y : Site). IsLow (low_water h) y.redo) w.core.sites d t at low.redo)

        redone : (a : Answered) → to_redo h d r.redone ≡ Some a → answered h a.number ≡ Some a
        redone a next =
            let least : IsToRedo h d r.redone (Some a) = subst (IsToRedo h d r.redone) next (to_redo_is w.core.procs h legal d r.redone) in
            done_is d (answered h a.number) a least.1

        sends : (a : Option Answered) → to_redo h d r.redone ≡ a → redoes_by w d (sends_again t.incarnation r.mark a) ≡ Goes o v → AreTold v
        sends (Some a) next goes'' =
            let x = redo_wire t.incarnation r.mark a in
            let was = redone a next in
            behind _ o (with_copy w x) v
            (copied w x (record {
              number = answered_given w.core.procs h legal a.number a was;
              mark = low_mark;
              redone = λ again. closed w.core.procs h a.number a legal was;
            }) all) goes''
        sends None next goes'' =
            behind _ o (with_core w (after_redo w.core d redo.Finished)) v
            (subst (λ (y : Option Site). AreTold (with_core w (up_again w.core d y))) (sym at) all) goes''

-- a crash and a cut aside
abbrev GoesOn : Step → Type 0
GoesOn (step.Crash n) = ⊥
GoesOn step.Cut = ⊥
GoesOn other = Unit {0}

sent_told : (w v : Whole) (x : Step) (o : Outcome) → GoesOn x → LegalCore w.core → LegalCore v.core → AreMarksLow w → Steps w x o v → AreTold w → AreTold v
sent_told w v (step.Admit call) o on was legal low goes all =
    let c = with_event w.core (event.Admit (admitted w.core.events + 1) call.proc call.args.items) in
    subst AreTold (sym goes.next) (grown w c (subst (λ (u : Whole). LegalCore u.core) goes.next legal) (one_more w.core.events _) all)
sent_told w v (step.Ask t) o on was legal low goes all =
    let a = ask_reply w.core t in
    told_told w v t (after_ask w.core a) a o (ask_begins w.core a) (ask_number w.core a) legal all goes
sent_told w v (step.Undo t) o on was legal low goes all =
    let a = undo_reply w.core t in
    told_told w v t (after_undo w.core a) a o (undo_begins w.core a) (undo_number w.core a) legal all goes
sent_told w v (step.End t) o on was legal low goes all = ends_told w v t (standing w.core.events t) (end_of w.core t) o legal all goes
sent_told w v (step.Resend t) o on was legal low goes all = resends_told w v t (standing w.core.events t) o refl was all goes
sent_told w v (step.Perform i) o on was legal low goes all = performs_copy_told w v (slice_get w.copies i) o all goes
sent_told w v (step.Take i) o on was legal low goes all = takes_told w v (slice_get w.replies i) o legal all goes
sent_told w v (step.Restart d) o on was legal low goes all = restarts_told w v d (slice_get w.dcs d) o all goes
sent_told w v (step.Forge x) o on was legal low goes all = behind _ o (with_reply w x) v all goes
sent_told w v (step.Checkpoint d) o on was legal low goes all = checkpoints_told w v d (slice_get w.dcs d) o all goes
sent_told w v (step.Tell i) o on was legal low goes all = tells_told w v (slice_get w.news i) o all goes
sent_told w v (step.Redo d) o on was legal low goes all = redoes_told w v d (slice_get w.core.sites d) o refl was low all goes
sent_told w v step.Cut o on was legal low goes all = absurd on
sent_told w v (step.Crash n) o on was legal low goes all = absurd on

-- ---- the whole log tells of all that was carried, in each world that has lived

own_notes : (low : ℕ) (w : Whole) → AreNoted low w (notes_of w)
own_notes low w d = Noted (noted_at w.core.sites d)

with_own : (first : List Event) (notes : List SiteNote) (w : Whole) → IsWritten first notes w → IsWritten first (notes_of w) w
with_own first notes w s = record {
  begins = s.begins;
  sites = own_notes (low_water first) w;
  copies = s.copies;
  replies = s.replies;
  stores = s.stores;
  news = s.news;
  redo = s.redo;
}

abbrev IsWhole : Whole → Type 0
IsWhole w = Tells (all_written w) w

by_rest : (w : Whole) → Rest w.core.events w → AreTold w → IsWhole w
by_rest w r all = record {
  begins = r.begins;
  sites = own_notes (low_water w.core.events) w;
  copies = all;
  replies = r.replies;
  stores = r.stores;
  news = r.news;
  redo = r.redo;
}

whole_step : (w v : Whole) (x : Step) (o : Outcome) → LegalCore w.core → LegalCore v.core → AreMarksLow w
    → is_forge x ≡ false → Steps w x o v → IsWhole w → IsWhole v
whole_step w v (step.Crash n) o was legal low honest goes s =
    subst IsWhole (sym goes.next) (with_own _ (notes_of w) _ (again_written w (first_events n w.core.events) (notes_of w) goes.may.written))
whole_step w v step.Cut o was legal low honest goes s = cut_written w v o w.core.events (notes_of w) (notes_of v) was
    goes s (own_notes (low_water v.core.events) v)
whole_step w v x o was legal low honest goes s = by_rest v (whole_rest w v x o (notes_of w) legal goes honest tt s).1
    (sent_told w v x o tt was legal low goes s.copies)

lost_rest : (first : List Event) (w : Whole) (xs : List Wire) (rs : List Reply) (ns : List (ℕ × News)) → AreAmong rs w.replies → AreAmong ns w.news
    → Rest first w → Rest first (left_with xs rs ns w)
lost_rest first w xs rs ns replies news r = record {
  begins = r.begins;
  replies = among_all (λ (x : Reply). x.number ≤ given first) rs w.replies replies r.replies;
  stores = r.stores;
  news = among_all (λ (x : ℕ × News). x.1.mark ≤ low_water first) ns w.news news r.news;
  redo = r.redo;
}

whole_rest_of : (w : Whole) → IsWhole w → Rest w.core.events w
whole_rest_of w s = record { begins = s.begins; replies = s.replies; stores = s.stores; news = s.news; redo = s.redo }

over_whole : (w : Whole) (first : List Event) (dcs : List Store) → Legal w.core.procs first → All (IsNew first) dcs → IsWhole (start_over first dcs w)
over_whole w first dcs legal new = record {
  begins = no_more first;
  sites = own_notes (low_water first) (start_over first dcs w);
  copies = λ k x inside. absurd (omega (arith, inside));
  replies = λ k x inside. absurd (omega (arith, inside));
  stores = λ k s inside.
      let is = new k s inside in
      let mark = is.mark in
      let saved = is.saved_mark in
      let low = begun_low w.core.procs first legal in
      record {
        list = subst (All (λ (e : Performed). e.0 ≤ given first)) (sym is.list) (λ j e at. absurd (omega (arith, at)));
        saved = subst (All (λ (e : Performed). e.0 ≤ given first)) (sym is.saved) (λ j e at. absurd (omega (arith, at)));
        mark = omega (arith, mark, low);
        saved_mark = omega (arith, saved, low);
      };
  news = λ k x inside. absurd (omega (arith, inside));
  redo = (start_over_low w first dcs legal new).redo;
}

whole_by : (moves : List Move) (w v : Whole) → HasLived w → IsWhole w → Lives moves w v → IsWhole v
whole_by [] w v l s is = subst IsWhole (sym is) s
whole_by (Takes x ∷ moves) w v l s (o, mid, steps, honest, legal, good, rest) =
    let known : Known mid.core = record { legal = legal; good = good } in
    whole_by moves mid v (step_lived w mid x o known honest steps l) (whole_step w mid x o (living_legal w l) legal (living_low w l) honest steps s) rest
whole_by (Loses xs rs ns ∷ moves) w v l s (wires, replies, news, rest) =
    let u = left_with xs rs ns w in
    whole_by moves u v (loss_lived w xs rs ns wires replies news l)
    (by_rest u (lost_rest w.core.events w xs rs ns replies news (whole_rest_of w s)) (among_all (IsWrittenFor w.core.events) xs w.copies wires s.copies)) rest
whole_by (Crashes first notes ∷ moves) w v l s (written, rest) =
    let u = come_back first notes w in
    whole_by moves u v (crash_lived w first notes written l) (with_own first notes u (again_written w first notes written)) rest
whole_by (StartsOver first dcs ∷ moves) w v l s (begins, new, olds, rest) =
    let legal : Legal w.core.procs first = legal_first w.core.procs begins.later first (subst (Legal w.core.procs) begins.is (living_legal w l)) in
    whole_by moves (start_over first dcs w) v (over_lived w first dcs begins new olds l) (over_whole w first dcs legal new) rest

pub living_whole : (w : Whole) → HasLived w → IsWritten w.core.events (notes_of w) w
living_whole w l = whole_by l.moves l.first w (fresh_lived l.first l.fresh l.good)
    (fresh_written l.first (notes_of l.first) l.fresh (own_notes (low_water l.first.core.events) l.first)) l.lives

-- ---- an engine

turned : (w mid : Whole) (x : Step) (p q : Written) (xs : List Wire) (rs : List Reply) (ns : List (ℕ × News)) → HasLived w → Tells p w
    → Lives (Takes x ∷ Loses xs rs ns ∷ []) w mid → IsAhead x p q mid → HasLived mid × Tells q mid
turned w mid x p q xs rs ns l s (o, u, steps, honest, legal, good, (wires, replies, news, same)) is =
    let known : Known u.core = record { legal = legal; good = good } in
    let lived : HasLived u = step_lived w u x o known honest steps l in
    let is' : IsAhead x p q (left_with xs rs ns u) = subst (IsAhead x p q) same is in
    let r : Rest q.events u = acted w u x o p.events q.events p.notes (living_legal w l) legal steps honest is'.log s in
    let left = lost_rest q.events u xs rs ns replies news r in
    subst (λ (z : Whole). HasLived z × Tells q z) (sym same) (
      loss_lived u xs rs ns wires replies news lived,
      record { begins = left.begins; sites = is'.notes; copies = is'.wires; replies = left.replies; stores = left.stores; news = left.news; redo = left.redo },
    )

ahead : (turns : List Turn) (p q : Written) (w v : Whole) → HasLived w → Tells p w → WritesAhead turns p w q v → HasLived v × Tells q v
ahead [] p q w v l s (same, is) = subst (λ (z : Written). HasLived v × Tells z v) (sym same) (subst (λ (u : Whole). HasLived u × Tells p u) (sym is) (l, s))
ahead (Acts x next xs rs ns ∷ turns) p q w v l s (mid, lives, is, rest) =
    let both = turned w mid x p next xs rs ns l s lives is in
    ahead turns next q mid v both.0 both.1 rest
ahead (Killed ∷ turns) p q w v l s rest =
    ahead turns p q (come_back p.events p.notes w) v (crash_lived w p.events p.notes s l) (again_written w p.events p.notes s) rest

pub ahead_lived : (turns : List Turn) (p q : Written) (w v : Whole) → HasLived w → Tells p w → WritesAhead turns p w q v → HasLived v
ahead_lived turns p q w v l s writes = (ahead turns p q w v l s writes).0

pub ahead_told : (turns : List Turn) (p q : Written) (w v : Whole) → HasLived w → Tells p w → WritesAhead turns p w q v → Tells q v
ahead_told turns p q w v l s writes = (ahead turns p q w v l s writes).1

-- so many of its first events are what was written
first_is : (first h : List Event) → Begins first h → first_events (length first) h ≡ first
first_is first h begins =
    let many = length-append begins.later first in
    let less : length (begins.later ++ first) - length first ≡ length begins.later = omega (arith, many) in
    ap (first_events (length first)) begins.is ∙ (ap (λ (n : ℕ). drop n (begins.later ++ first)) less ∙ drop-append_seam begins.later first)

pub told_may_crash : (p : Written) (w : Whole) → Tells p w → MayCrash (length p.events) w
told_may_crash p w s = record {
  inside = (let many = length-append s.begins.later p.events in let same : length w.core.events ≡ length
      (s.begins.later ++ p.events) = ap length s.begins.is in omega (arith, many, same));
  written = subst (λ (h : List Event). IsWritten h (notes_of w) w) (sym (first_is p.events w.core.events s.begins)) (with_own p.events p.notes w s);
}

-- whatever step is taken, it is one of an engine that writes all of its log and all that it knows before it carries anything
pub whole_turn : (w v : Whole) (x : Step) (o : Outcome) → HasLived w → Known v.core → is_forge x ≡ false → ((n : ℕ) → x ≡ step.Crash n → ⊥) → Steps w x o v
    → WritesAhead (Acts x (all_written v) v.copies v.replies v.news ∷ []) (all_written w) w (all_written v) v
whole_turn w v x o l known honest no_crash steps = (
  v,
  (o, v, steps, honest, known.legal, known.good, (among v.copies, among v.replies, among v.news, refl)),
  record { log = grows x honest no_crash steps; wires = told.copies; notes = own_notes (low_water v.core.events) v },
  (refl, refl),
)
  where
    among : {X : Type 0} (xs : List X) → AreAmong xs xs
    among xs k y at = (k, at)

    told : IsWhole v
    told = living_whole v (step_lived w v x o known honest steps l)

    grows : (y : Step) → is_forge y ≡ false → ((n : ℕ) → y ≡ step.Crash n → ⊥) → Steps w y o v → Grows y w.core.events v.core.events v.core.events
    grows step.Cut honest' never goes = refl
    grows (step.Crash n) honest' never goes = absurd (never n refl)
    grows y honest' never goes = ((whole_rest w v y o (notes_of w) known.legal goes honest' tt (living_whole w l)).0, no_more v.core.events)

-- ---- what was carried stays so

before_push : (xs : List Wire) (y x : Wire) (k : ℕ) → slice_get xs k ≡ Some x → slice_get (xs ++ y ∷ []) k ≡ Some x
before_push [] y x k at = absurd (none_some _ x refl at)
before_push (z ∷ xs) y x zero at = at
before_push (z ∷ xs) y x (suc k) at = before_push xs y x k at

module _ (xs : List Wire) where
  abbrev AreKept : Whole → Type 0
  AreKept w = AreAmong xs w.copies

  kept_behind : (o p : Outcome) (w v : Whole) → AreKept w → Goes o w ≡ Goes p v → AreKept v
  kept_behind o p w v all goes = subst AreKept (went o p w v goes) all

  kept_push : (w : Whole) (y : Wire) → AreKept w → AreKept (with_copy w y)
  kept_push w y all k x at = (let j = all k x at in (j.0, before_push w.copies y x j.0 j.1))

  told_kept : (w v : Whole) (t : ℕ) (c : Core) (a : Asked) (o : Outcome) → AreKept w → told w t c a ≡ Goes o v → AreKept v
  told_kept w v t c (reply.Request r) o all goes = by (wire_of c r) goes
    where
      by : (x : Result Wire Down) → sends_or_holds (with_core w c) r x ≡ Goes o v → AreKept v
      by (Ok x) goes' = kept_behind _ o (with_copy (with_core w c) x) v (kept_push (with_core w c) x all) goes'
      by (Err down) goes' = kept_behind _ o (with_core w c) v all goes'
  told_kept w v t c reply.Undoing o all goes = kept_behind _ o w v all goes
  told_kept w v t c reply.Over o all goes = kept_behind _ o w v all goes
  told_kept w v t c (reply.Stuck n) o all goes = kept_behind _ o w v all goes
  told_kept w v t c (reply.Waits n) o all goes = absurd (stopped _ o v goes)
  told_kept w v t c reply.Running o all goes = absurd (stopped _ o v goes)
  told_kept w v t c reply.Unknown o all goes = absurd (stopped _ o v goes)

  ends_kept : (w v : Whole) (t : ℕ) (s : Option Standing) (e : Option Ending) (o : Outcome) → AreKept w → ends_by w t s e ≡ Goes o v → AreKept v
  ends_kept w v t None e o all goes = absurd (stopped _ o v goes)
  ends_kept w v t (Some s) None o all goes = absurd (stopped _ o v goes)
  ends_kept w v t (Some s) (Some e) o all goes = kept_behind _ o (with_core w (with_event w.core (event.End t e))) v all goes

  resends_kept : (w v : Whole) (t : ℕ) (s : Option Standing) (o : Outcome) → AreKept w → resends_by w t s ≡ Goes o v → AreKept v
  resends_kept w v t None o all goes = absurd (stopped _ o v goes)
  resends_kept w v t (Some s) o all goes = by s.sent goes
    where
      wires : (r : Sent) (x : Result Wire Down) → resends_wire w r.op x ≡ Goes o v → AreKept v
      wires r (Ok x) goes' = kept_behind _ o (with_copy w x) v (kept_push w x all) goes'
      wires r (Err down) goes' = absurd (stopped _ o v goes')

      by : (q : Option Sent) → resends_sent w t q ≡ Goes o v → AreKept v
      by None goes' = absurd (stopped _ o v goes')
      by (Some r) goes' = wires r (wire_of w.core (record { txn = t; number = r.number; op = r.op })) goes'

  gets_kept : (w v : Whole) (x : Option Reply) (o : Outcome) → AreKept w → gets_reply w x ≡ Goes o v → AreKept v
  gets_kept w v None o all goes = kept_behind _ o w v all goes
  gets_kept w v (Some x) o all goes = kept_behind _ o (with_reply w x) v all goes

  performs_kept : (w v : Whole) (x : Wire) (s : Option Store) (o : Outcome) → AreKept w → performs_at w x s ≡ Goes o v → AreKept v
  performs_kept w v x None o all goes = absurd (stopped _ o v goes)
  performs_kept w v x (Some s) o all goes = gets_kept _ v (replied s x) o all goes

  copy_kept : (w v : Whole) (x : Option Wire) (o : Outcome) → AreKept w → performs_copy w x ≡ Goes o v → AreKept v
  copy_kept w v None o all goes = absurd (stopped _ o v goes)
  copy_kept w v (Some x) o all goes = performs_kept w v x (slice_get w.dcs (dc_of x)) o all goes

  answer_kept : (w v : Whole) (f : Flight) (x : Reply) (b : Bool) (o : Outcome) → AreKept w → takes_answer w f x b ≡ Goes o v → AreKept v
  answer_kept w v f x false o all goes = absurd (stopped _ o v goes)
  answer_kept w v f x true o all goes = kept_behind _ o (with_core w (with_event w.core (event.Answer f.txn x.number x.said))) v all goes

  takes_kept : (w v : Whole) (x : Option Reply) (o : Outcome) → AreKept w → TakesReply w x o v → AreKept v
  takes_kept w v None o all takes = absurd takes
  takes_kept w v (Some x) o all takes = by (open_op w.core.events x.number) takes
    where
      by : (f : Option Flight) → TakesBy w x f o v → AreKept v
      by None takes' = subst AreKept (sym takes'.next) all
      by (Some f) takes' = answer_kept w v f x (is_heard (site_of w.core.sites f.op) x && fits f.op x.said) o all takes'

  restarts_kept : (w v : Whole) (d : ℕ) (s : Option Store) (o : Outcome) → AreKept w → restarts_at w d s ≡ Goes o v → AreKept v
  restarts_kept w v d None o all goes = absurd (stopped _ o v goes)
  restarts_kept w v d (Some s) o all goes = by (nat_le (2 ^ 62) s.incarnation) goes
    where
      by : (b : Bool) → restarts_as w d s b ≡ Goes o v → AreKept v
      by true goes' = absurd (stopped _ o v goes')
      by false goes' = kept_behind _ o _ v all goes'

  checkpoints_kept : (w v : Whole) (d : ℕ) (s : Option Store) (o : Outcome) → AreKept w → checkpoints_at w d s ≡ Goes o v → AreKept v
  checkpoints_kept w v d None o all goes = absurd (stopped _ o v goes)
  checkpoints_kept w v d (Some s) o all goes = kept_behind _ o _ v all goes

  tells_kept : (w v : Whole) (x : Option (ℕ × News)) (o : Outcome) → AreKept w → tells_news w x ≡ Goes o v → AreKept v
  tells_kept w v None o all goes = absurd (stopped _ o v goes)
  tells_kept w v (Some x) o all goes = by (news_fault w.core x.0 x.1) goes
    where
      by : (f : Option NewsFault) → tells_unless w x.0 x.1 f ≡ Goes o v → AreKept v
      by (Some fault.NoDc) goes' = absurd (stopped _ o v goes')
      by (Some fault.OldNews) goes' = absurd (stopped _ o v goes')
      by (Some fault.Forgotten) goes' = absurd (stopped _ o v goes')
      by None goes' = kept_behind _ o (with_core w (after_told w.core x.0 x.1)) v all goes'

  redoes_kept : (w v : Whole) (d : ℕ) (a : Redo) (o : Outcome) → AreKept w → redoes_by w d a ≡ Goes o v → AreKept v
  redoes_kept w v d (redo.Send x) o all goes = kept_behind _ o (with_copy w x) v (kept_push w x all) goes
  redoes_kept w v d redo.Finished o all goes = kept_behind _ o (with_core w (after_redo w.core d redo.Finished)) v all goes
  redoes_kept w v d redo.NotDown o all goes = absurd (stopped _ o v goes)
  redoes_kept w v d redo.NoDc o all goes = absurd (stopped _ o v goes)

  step_kept : (w v : Whole) (x : Step) (o : Outcome) → Steps w x o v → AreKept w → AreKept v
  step_kept w v (step.Admit call) o goes all = subst AreKept (sym goes.next) all
  step_kept w v (step.Ask t) o goes all = told_kept w v t (after_ask w.core (ask_reply w.core t)) (ask_reply w.core t) o all goes
  step_kept w v (step.Undo t) o goes all = told_kept w v t (after_undo w.core (undo_reply w.core t)) (undo_reply w.core t) o all goes
  step_kept w v (step.End t) o goes all = ends_kept w v t (standing w.core.events t) (end_of w.core t) o all goes
  step_kept w v (step.Resend t) o goes all = resends_kept w v t (standing w.core.events t) o all goes
  step_kept w v (step.Perform i) o goes all = copy_kept w v (slice_get w.copies i) o all goes
  step_kept w v (step.Take i) o goes all = takes_kept w v (slice_get w.replies i) o all goes
  step_kept w v (step.Restart d) o goes all = restarts_kept w v d (slice_get w.dcs d) o all goes
  step_kept w v (step.Forge x) o goes all = kept_behind _ o (with_reply w x) v all goes
  step_kept w v (step.Checkpoint d) o goes all = checkpoints_kept w v d (slice_get w.dcs d) o all goes
  step_kept w v (step.Tell i) o goes all = tells_kept w v (slice_get w.news i) o all goes
  step_kept w v (step.Redo d) o goes all = redoes_kept w v d (redo_reply w.core d) o all goes
  step_kept w v (step.Crash n) o goes all = subst AreKept (sym goes.next) all
  step_kept w v step.Cut o goes all = subst AreKept (sym goes.next) all

-- an engine that is killed behind a step, before it writes on or carries what the step made
pub unwritten_turn : (w v : Whole) (x : Step) (o : Outcome) (p : Written) → Known v.core → is_forge x ≡ false
    → ((n : ℕ) → x ≡ step.Crash n → ⊥) → (x ≡ step.Cut → ⊥)
    → Tells p w → Steps w x o v → AreNoted (low_water p.events) (left_with w.copies v.replies v.news v) p.notes
    → WritesAhead (Acts x p w.copies v.replies v.news ∷ []) p w p (left_with w.copies v.replies v.news v)
unwritten_turn w v x o p known honest no_crash no_cut s steps noted = (
  left_with w.copies v.replies v.news v,
  (o, v, steps, honest, known.legal, known.good, (step_kept w.copies w v x o steps (all_among w.copies), all_among v.replies, all_among v.news, refl)),
  record { log = grows x honest no_crash no_cut steps; wires = s.copies; notes = noted },
  (refl, refl),
)
  where
    all_among : {X : Type 0} (ys : List X) → AreAmong ys ys
    all_among ys k y at = (k, at)

    grows : (y : Step) → is_forge y ≡ false → ((n : ℕ) → y ≡ step.Crash n → ⊥) → (y ≡ step.Cut → ⊥) → Steps w y o v → Grows y p.events p.events v.core.events
    grows step.Cut honest' never uncut goes = absurd (uncut refl)
    grows (step.Crash n) honest' never uncut goes = absurd (never n refl)
    grows y honest' never uncut goes = (no_more p.events, (stay_rest p.events w v y o honest' tt s.copies goes (rest_of p.events p.notes w s)).begins)
