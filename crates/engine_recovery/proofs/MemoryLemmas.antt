-- Steps in memory, of which nothing is carried: an engine that comes back from what was written before them comes back as if they had not been
-- taken.
use Rattle.std.proofs.Common.{◌≡◌, ℕ, Bool, true, false, ◌&&◌, List, [], ◌∷◌, Option, Some, None, refl, sym, ◌∙◌, ap, subst}
use Rattle.std.specs.Prelude.{slice_get, Result, Ok, Err}
use Rattle.std.specs.List.{All}
use Rattle.access_slots.specs.Access.{fits}
use Rattle.access_slots.specs.declared.op.Wire.{Wire}
use Rattle.access_slots.specs.declared.op.Reply.{Reply}
use Rattle.access_slots.specs.declared.op.News.{News}
use Rattle.tc_log.specs.declared.event.Outcome.{Outcome as Ending}
use Rattle.tc_log.specs.declared.event.Event.{Event}
use Rattle.tc_log.specs.declared.event.Event.TheVariants as event
use Rattle.history.specs.Flight.{Flight, open_op, low_water}
use Rattle.history.specs.Places.{Begins}
use Rattle.transactions.specs.declared.Sent.{Sent}
use Rattle.transactions.specs.declared.Site.{Site}
use Rattle.transactions.specs.InFlight.{site_of}
use Rattle.transactions.specs.Standing.{Standing, standing}
use Rattle.tc_core.specs.Core.{Core}
use Rattle.tc_core.specs.Replies.{with_event, ask_reply, after_ask, undo_reply, after_undo, end_of, is_heard}
use Rattle.tc_core.specs.Lent.{wire_of}
use Rattle.tc_core.specs.Redo.{news_fault, after_told, redo_reply, up_again, after_redo, redone_at}
use Rattle.tc_core.specs.Recovery.{recovered}
use Rattle.tc_core.specs.declared.recovery.SiteNote.{SiteNote}
use Rattle.tc_core.specs.declared.state.Asked.{Asked}
use Rattle.tc_core.specs.declared.state.Asked.TheVariants as reply
use Rattle.tc_core.specs.declared.state.Down.{Down}
use Rattle.tc_core.specs.declared.state.NewsFault.{NewsFault}
use Rattle.tc_core.specs.declared.state.NewsFault.TheVariants as fault
use Rattle.tc_core.specs.declared.state.Redo.{Redo}
use Rattle.tc_core.specs.declared.state.Redo.TheVariants as redo
use Rattle.tc_world.specs.Whole.{Whole}
use Rattle.tc_world.specs.Recovery.{IsWrittenFor, Noted, AreNoted, IsWritten, come_back, notes_of}
use Rattle.tc_world.specs.Lives.{left_with, HasLived}
use Rattle.tc_world.specs.Steps.{Goes, Steps, with_core, with_copy, told, sends_or_holds, ends_by}
use Rattle.tc_world.specs.Steps.{resends_wire, resends_sent, resends_by}
use Rattle.tc_world.specs.Steps.{takes_answer, TakesRedo, TakesBy, TakesReply, tells_unless, tells_news, redoes_by}
use Rattle.tc_world.specs.declared.step.Step.{Step}
use Rattle.tc_world.specs.declared.step.Step.TheVariants as step
use Rattle.tc_world.specs.declared.step.Outcome.{Outcome}
use Rattle.tc_world.proofs.ComingBack.{noted_at}
use Rattle.tc_world.proofs.LivingLemmas.{living_legal, step_lived, loss_lived}
use Rattle.tc_world.proofs.Marks.{went, stopped}
use Rattle.tc_world.proofs.WrittenLemmas.{Rest, stay_rest, more_written}
use Rattle.engine_recovery.specs.Engine.{is_in_memory, TakesInMemory}

-- ---- what a crash forgets

-- the state differs in no more than comes back from elsewhere
abbrev pub Forgets : Core → Core → Type 0
Forgets c d = (h : List Event) (notes : List SiteNote) → recovered d h notes ≡ recovered c h notes

-- so does the world, once what was sent isn't carried
abbrev pub Same : Whole → Whole → Type 0
Same w v = (h : List Event) (notes : List SiteNote) → come_back h notes (left_with w.copies w.replies w.news v) ≡ come_back h notes w

cored : (w : Whole) (c : Core) → Forgets w.core c → Same w (with_core w c)
cored w c is h notes = ap (λ (d : Core). with_core w d) (is h notes)

same_behind : (w : Whole) (o p : Outcome) (u v : Whole) → Same w u → Goes o u ≡ Goes p v → Same w v
same_behind w o p u v is goes = subst (Same w) (went o p u v goes) is

ask_forgets : (c : Core) (a : Asked) → Forgets c (after_ask c a)
ask_forgets c (reply.Request r) h notes = refl
ask_forgets c reply.Undoing h notes = refl
ask_forgets c reply.Over h notes = refl
ask_forgets c (reply.Stuck n) h notes = refl
ask_forgets c (reply.Waits n) h notes = refl
ask_forgets c reply.Running h notes = refl
ask_forgets c reply.Unknown h notes = refl

undo_forgets : (c : Core) (a : Asked) → Forgets c (after_undo c a)
undo_forgets c (reply.Request r) h notes = refl
undo_forgets c reply.Undoing h notes = refl
undo_forgets c reply.Over h notes = refl
undo_forgets c (reply.Stuck n) h notes = refl
undo_forgets c (reply.Waits n) h notes = refl
undo_forgets c reply.Running h notes = refl
undo_forgets c reply.Unknown h notes = refl

up_forgets : (c : Core) (d : ℕ) (s : Option Site) → Forgets c (up_again c d s)
up_forgets c d None h notes = refl
up_forgets c d (Some s) h notes = refl

redone_forgets : (c : Core) (d n : ℕ) (s : Option Site) → Forgets c (redone_at c d n s)
redone_forgets c d n None h notes = refl
redone_forgets c d n (Some s) h notes = refl

-- ---- each step

none_more : (w : Whole) → Same w w
none_more w h notes = refl

told_same : (w v : Whole) (t : ℕ) (c : Core) (a : Asked) (o : Outcome) → Forgets w.core c → told w t c a ≡ Goes o v → Same w v
told_same w v t c (reply.Request r) o is goes = by (wire_of c r) goes
  where
    by : (x : Result Wire Down) → sends_or_holds (with_core w c) r x ≡ Goes o v → Same w v
    by (Ok x) goes' = same_behind w _ o (with_copy (with_core w c) x) v (cored w c is) goes'
    by (Err down) goes' = same_behind w _ o (with_core w c) v (cored w c is) goes'
told_same w v t c reply.Undoing o is goes = same_behind w _ o w v (none_more w) goes
told_same w v t c reply.Over o is goes = same_behind w _ o w v (none_more w) goes
told_same w v t c (reply.Stuck n) o is goes = same_behind w _ o w v (none_more w) goes
told_same w v t c (reply.Waits n) o is goes = absurd (stopped _ o v goes)
told_same w v t c reply.Running o is goes = absurd (stopped _ o v goes)
told_same w v t c reply.Unknown o is goes = absurd (stopped _ o v goes)

logs_same : (w v : Whole) (e : Event) (p o : Outcome) → Goes p (with_core w (with_event w.core e)) ≡ Goes o v → Same w v
logs_same w v e p o goes = same_behind w p o (with_core w (with_event w.core e)) v (none_more w) goes

ends_same : (w v : Whole) (t : ℕ) (s : Option Standing) (e : Option Ending) (o : Outcome) → ends_by w t s e ≡ Goes o v → Same w v
ends_same w v t None e o goes = absurd (stopped _ o v goes)
ends_same w v t (Some s) None o goes = absurd (stopped _ o v goes)
ends_same w v t (Some s) (Some e) o goes = logs_same w v (event.End t e) _ o goes

resends_same : (w v : Whole) (t : ℕ) (s : Option Standing) (o : Outcome) → resends_by w t s ≡ Goes o v → Same w v
resends_same w v t None o goes = absurd (stopped _ o v goes)
resends_same w v t (Some s) o goes = by s.sent goes
  where
    wires : (r : Sent) (x : Result Wire Down) → resends_wire w r.op x ≡ Goes o v → Same w v
    wires r (Ok x) goes' = same_behind w _ o (with_copy w x) v (none_more w) goes'
    wires r (Err down) goes' = absurd (stopped _ o v goes')

    by : (q : Option Sent) → resends_sent w t q ≡ Goes o v → Same w v
    by None goes' = absurd (stopped _ o v goes')
    by (Some r) goes' = wires r (wire_of w.core (record { txn = t; number = r.number; op = r.op })) goes'

answer_same : (w v : Whole) (f : Flight) (x : Reply) (b : Bool) (o : Outcome) → takes_answer w f x b ≡ Goes o v → Same w v
answer_same w v f x false o goes = absurd (stopped _ o v goes)
answer_same w v f x true o goes = logs_same w v (event.Answer f.txn x.number x.said) _ o goes

redone_same : (w v : Whole) (x : Reply) (o : Outcome) → TakesRedo w x o v → Same w v
redone_same w v x o takes =
    subst (Same w) (sym takes.next)
    (cored w (redone_at w.core takes.dc x.number (slice_get w.core.sites takes.dc))
    (redone_forgets w.core takes.dc x.number (slice_get w.core.sites takes.dc)))

takes_same : (w v : Whole) (x : Option Reply) (o : Outcome) → TakesReply w x o v → Same w v
takes_same w v None o takes = absurd takes
takes_same w v (Some x) o takes = by (open_op w.core.events x.number) takes
  where
    by : (f : Option Flight) → TakesBy w x f o v → Same w v
    by None takes' = redone_same w v x o takes'
    by (Some f) takes' = answer_same w v f x (is_heard (site_of w.core.sites f.op) x && fits f.op x.said) o takes'

tells_same : (w v : Whole) (x : Option (ℕ × News)) (o : Outcome) → tells_news w x ≡ Goes o v → Same w v
tells_same w v None o goes = absurd (stopped _ o v goes)
tells_same w v (Some x) o goes = by (news_fault w.core x.0 x.1) goes
  where
    by : (f : Option NewsFault) → tells_unless w x.0 x.1 f ≡ Goes o v → Same w v
    by (Some fault.NoDc) goes' = absurd (stopped _ o v goes')
    by (Some fault.OldNews) goes' = absurd (stopped _ o v goes')
    by (Some fault.Forgotten) goes' = absurd (stopped _ o v goes')
    by None goes' = same_behind w _ o (with_core w (after_told w.core x.0 x.1)) v (none_more w) goes'

redoes_same : (w v : Whole) (d : ℕ) (a : Redo) (o : Outcome) → redoes_by w d a ≡ Goes o v → Same w v
redoes_same w v d (redo.Send x) o goes = same_behind w _ o (with_copy w x) v (none_more w) goes
redoes_same w v d redo.Finished o goes =
    same_behind w _ o (with_core w (after_redo w.core d redo.Finished)) v
    (cored w (up_again w.core d (slice_get w.core.sites d)) (up_forgets w.core d (slice_get w.core.sites d))) goes
redoes_same w v d redo.NotDown o goes = absurd (stopped _ o v goes)
redoes_same w v d redo.NoDc o goes = absurd (stopped _ o v goes)

pub step_same : (w v : Whole) (x : Step) (o : Outcome) → is_in_memory x ≡ true → Steps w x o v → Same w v
step_same w v (step.Admit call) o own goes = subst (Same w) (sym goes.next) (none_more w)
step_same w v (step.Ask t) o own goes =
    told_same w v t (after_ask w.core (ask_reply w.core t)) (ask_reply w.core t) o (ask_forgets w.core (ask_reply w.core t)) goes
step_same w v (step.Undo t) o own goes =
    told_same w v t (after_undo w.core (undo_reply w.core t)) (undo_reply w.core t) o (undo_forgets w.core (undo_reply w.core t)) goes
step_same w v (step.End t) o own goes = ends_same w v t (standing w.core.events t) (end_of w.core t) o goes
step_same w v (step.Resend t) o own goes = resends_same w v t (standing w.core.events t) o goes
step_same w v (step.Take i) o own goes = takes_same w v (slice_get w.replies i) o goes
step_same w v (step.Tell i) o own goes = tells_same w v (slice_get w.news i) o goes
step_same w v (step.Redo d) o own goes = redoes_same w v d (redo_reply w.core d) o goes
step_same w v (step.Perform i) o own goes = absurd (let bad : false ≡ true = own in cc)
step_same w v (step.Restart d) o own goes = absurd (let bad : false ≡ true = own in cc)
step_same w v (step.Forge x) o own goes = absurd (let bad : false ≡ true = own in cc)
step_same w v (step.Checkpoint d) o own goes = absurd (let bad : false ≡ true = own in cc)
step_same w v (step.Crash n) o own goes = absurd (let bad : false ≡ true = own in cc)
step_same w v step.Cut o own goes = absurd (let bad : false ≡ true = own in cc)

-- ---- what was written tells of all that is carried, but of notes

pub step_rest : (first : List Event) (w v : Whole) (x : Step) (o : Outcome) → is_in_memory x ≡ true → All (IsWrittenFor first) w.copies
    → Steps w x o v → Rest first w → Rest first v
step_rest first w v (step.Admit call) o own all goes r = stay_rest first w v (step.Admit call) o refl tt all goes r
step_rest first w v (step.Ask t) o own all goes r = stay_rest first w v (step.Ask t) o refl tt all goes r
step_rest first w v (step.Undo t) o own all goes r = stay_rest first w v (step.Undo t) o refl tt all goes r
step_rest first w v (step.End t) o own all goes r = stay_rest first w v (step.End t) o refl tt all goes r
step_rest first w v (step.Resend t) o own all goes r = stay_rest first w v (step.Resend t) o refl tt all goes r
step_rest first w v (step.Take i) o own all goes r = stay_rest first w v (step.Take i) o refl tt all goes r
step_rest first w v (step.Tell i) o own all goes r = stay_rest first w v (step.Tell i) o refl tt all goes r
step_rest first w v (step.Redo d) o own all goes r = stay_rest first w v (step.Redo d) o refl tt all goes r
step_rest first w v (step.Perform i) o own all goes r = absurd (let bad : false ≡ true = own in cc)
step_rest first w v (step.Restart d) o own all goes r = absurd (let bad : false ≡ true = own in cc)
step_rest first w v (step.Forge x) o own all goes r = absurd (let bad : false ≡ true = own in cc)
step_rest first w v (step.Checkpoint d) o own all goes r = absurd (let bad : false ≡ true = own in cc)
step_rest first w v (step.Crash n) o own all goes r = absurd (let bad : false ≡ true = own in cc)
step_rest first w v step.Cut o own all goes r = absurd (let bad : false ≡ true = own in cc)

-- ---- one step after another

-- what holds of the world in memory
pub record InMemory (first : List Event) (w v : Whole) : Type 0 where
  pub lived : HasLived v
  pub copies : All (IsWrittenFor first) v.copies
  pub rest : Rest first v
  pub same : (h : List Event) (notes : List SiteNote) → come_back h notes v ≡ come_back h notes w

-- behind one step more, or several
pub one_in_memory : (first : List Event) (w mid v : Whole) → ((h : List Event) (notes : List SiteNote) → come_back h notes mid ≡ come_back h notes w)
    → InMemory first mid v → InMemory first w v
one_in_memory first w mid v back m = record {
  lived = m.lived;
  copies = m.copies;
  rest = m.rest;
  same = λ h notes. m.same h notes ∙ back h notes;
}

pub in_memory : (first : List Event) (steps : List Step) (w v : Whole) → HasLived w → All (IsWrittenFor first) w.copies → Rest first w
    → TakesInMemory steps w v → InMemory first w v
in_memory first [] w v l all r is =
    subst (InMemory first w) (sym is) (record { lived = l; copies = all; rest = r; same = λ h notes. refl })
in_memory first (x ∷ steps) w v l all r (own, mid, (o, u, goes, honest, legal, good, (wires, replies, news, same)), taken) =
    one_in_memory first w mid v back (in_memory first steps mid v lived
    (subst (λ (z : Whole). All (IsWrittenFor first) z.copies) (sym same) all) rest taken)
  where
    lived : HasLived mid
    lived = subst HasLived (sym same)
        (loss_lived u w.copies w.replies w.news wires replies news (step_lived w u x o (record { legal = legal; good = good }) honest goes l))

    after : Rest first u
    after = step_rest first w u x o own all goes r

    rest : Rest first mid
    rest = subst (Rest first) (sym same)
        (record { begins = after.begins; replies = r.replies; stores = after.stores; news = r.news; redo = after.redo })

    back : (h : List Event) (notes : List SiteNote) → come_back h notes mid ≡ come_back h notes w
    back h notes = ap (come_back h notes) same ∙ step_same w u x o own goes h notes

-- with more of it and notes of all that is known, all that is carried is written
pub told_in_memory : (first more : List Event) (noted : List SiteNote) (w v : Whole) → InMemory first w v → Begins first more → Begins more v.core.events
    → AreNoted (low_water more) v noted → IsWritten more noted v
told_in_memory first more noted w v m on in_log known = record {
  begins = is.begins;
  sites = known;
  copies = is.copies;
  replies = is.replies;
  stores = is.stores;
  news = is.news;
  redo = is.redo;
}
  where
    now : IsWritten first (notes_of v) v
    now = record {
      begins = m.rest.begins;
      sites = λ d. Noted (noted_at v.core.sites d);
      copies = m.copies;
      replies = m.rest.replies;
      stores = m.rest.stores;
      news = m.rest.news;
      redo = m.rest.redo;
    }

    is : IsWritten more (notes_of v) v
    is = more_written v first more (notes_of v) (living_legal v m.lived) on in_log now
