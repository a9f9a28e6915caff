-- Each step keeps the marks at or under the history's.
use Rattle.std.proofs.Common.{◌≡◌, ℕ, ◌+◌, ◌≤◌, ◌<◌, Bool, true, false, ◌&&◌, ◌==◌, List, [], Option, Some, None, arith, refl, sym, subst, ap, if◌then◌else◌}
use Rattle.std.specs.Prelude.{◌^◌, slice_get, slice_set, nat_le, Result, Ok, Err}
use Rattle.std.specs.List.{All}
use Rattle.std.proofs.lemmas.List.Elements.{All-push, All-set}
use Rattle.access_slots.specs.Access.{fits}
use Rattle.access_slots.specs.declared.op.Op.{Op}
use Rattle.access_slots.specs.declared.op.Wire.{Wire}
use Rattle.access_slots.specs.declared.op.Reply.{Reply}
use Rattle.access_slots.specs.declared.op.News.{News}
use Rattle.tc_log.specs.declared.event.Outcome.{Outcome as Ending}
use Rattle.tc_log.specs.declared.event.Event.TheVariants as event
use Rattle.history.specs.Calls.{admitted}
use Rattle.history.specs.Flight.{Flight, open_op, is_flight, low_water}
use Rattle.history.specs.Redo.{to_redo}
use Rattle.history.specs.declared.Answered.{Answered}
use Rattle.transactions.specs.declared.Sent.{Sent}
use Rattle.transactions.specs.declared.Redoing.{Redoing}
use Rattle.transactions.specs.declared.Site.{Site}
use Rattle.transactions.specs.InFlight.{site_of}
use Rattle.transactions.specs.Standing.{Standing, standing}
use Rattle.transactions.specs.Legal.{Legal}
use Rattle.transactions.proofs.LowWater.{mark_rises, flight_above}
use Rattle.data_component.specs.Store.{Store, Fate as Becomes, IsOld, Again, Silent, New, raised, marked, fate_of, store_by, replied, performed}
use Rattle.data_component.specs.Store.{checkpointed, restarted, news_of}
use Rattle.tc_core.specs.Core.{Core, Asking}
use Rattle.tc_core.specs.Replies.{with_event, ask_reply, after_ask, undo_reply, after_undo, end_of, is_heard}
use Rattle.tc_core.specs.Lent.{wire_for, wire_by, wire_of}
use Rattle.tc_core.specs.Redo.{with_site, news_fault, down_by, after_told, redo_wire, sends_again, redo_by, redo_at, up_again, after_redo, redone_to, redone_at}
use Rattle.tc_core.specs.declared.state.Asked.{Asked}
use Rattle.tc_core.specs.declared.state.Asked.TheVariants as reply
use Rattle.tc_core.specs.declared.state.Down.{Down}
use Rattle.tc_core.specs.declared.state.NewsFault.{NewsFault}
use Rattle.tc_core.specs.declared.state.NewsFault.TheVariants as fault
use Rattle.tc_core.specs.declared.state.Redo.TheVariants as redo
use Rattle.tc_world.specs.Whole.{Whole}
use Rattle.tc_world.specs.Marks.{IsLow, AreMarksLow, IsFresh, IsOpenAboveMarks}
use Rattle.tc_world.specs.Steps.{Goes, Stops, Steps, with_core, with_dcs, with_copy, with_reply, with_news, told, sends_or_holds, ends_by}
use Rattle.tc_world.specs.Steps.{resends_wire, resends_sent, resends_by, dc_of, gets_reply, performs_at, performs_copy}
use Rattle.tc_world.specs.Steps.{takes_answer, TakesRedo, TakesBy, TakesReply, restarts_as, restarts_at, checkpoints_at}
use Rattle.tc_world.specs.Steps.{tells_unless, tells_news, redoes_by}
use Rattle.tc_world.specs.declared.step.Step.{Step}
use Rattle.tc_world.specs.declared.step.Step.TheVariants as step
use Rattle.tc_world.specs.declared.step.Outcome.{Outcome}
use Rattle.tc_world.specs.declared.step.Illegal.{Illegal}
use Rattle.tc_core.specs.Recovery.{first_events}
use Rattle.tc_world.specs.Recovery.{notes_of}
use Rattle.tc_world.proofs.Bases.{begun_low, just_legal}
use Rattle.tc_world.proofs.ComingBack.{all_at, read_in, come_back_low}
use Rattle.tc_world.proofs.CutLemmas.{heard_low, forgotten_to, was_kept, same_low}
use Rattle.tc_world.specs.Cutting.{AreForgotten}
use Rattle.history.specs.Anew.{anew}
use Rattle.transactions.specs.Alike.{IsAtRest}
use Rattle.transactions.specs.InFlight.{site_at}
use Rattle.tc_core.specs.Checkpointing.{checkpointed as cut_core}

pub went : (o p : Outcome) (w v : Whole) → Goes o w ≡ Goes p v → w ≡ v
went o p w v goes = cc

pub stopped : (why : Illegal) (p : Outcome) (v : Whole) → Stops why ≡ Goes p v → ⊥
stopped why p v goes = cc

low_behind : (o p : Outcome) (w v : Whole) → AreMarksLow w → Goes o w ≡ Goes p v → AreMarksLow v
low_behind o p w v low goes = subst AreMarksLow (went o p w v goes) low

abbrev LegalCore : Core → Type 0
LegalCore c = Legal c.procs c.events

legal_behind : (o p : Outcome) (w v : Whole) → LegalCore v.core → Goes o w ≡ Goes p v → LegalCore w.core
legal_behind o p w v legal goes = subst (λ (x : Whole). LegalCore x.core) (sym (went o p w v goes)) legal

-- ---- what happens to a world

low_rises : (a b : ℕ) (r : Option Redoing) → a ≤ b → IsLow a r → IsLow b r
low_rises a b None up low = tt
low_rises a b (Some r) up low = omega (arith, up, low)

-- the transaction component goes on, and its mark rises or stays
risen : (w : Whole) (c : Core) → low_water w.core.events ≤ low_water c.events → c.sites ≡ w.core.sites → AreMarksLow w → AreMarksLow (with_core w c)
risen w c rose same low = record {
  copies = λ k x inside. (let few = low.copies k x inside in omega (arith, rose, few));
  dcs = λ k d inside. (let few = low.dcs k d inside in omega (arith, rose, few));
  saved = λ k d inside. (let few = low.saved k d inside in omega (arith, rose, few));
  news = λ k x inside. (let few = low.news k x inside in omega (arith, rose, few));
  redo = subst (All (λ (s : Site). IsLow (low_water c.events) s.redo)) (sym same) (λ k s inside. low_rises _ _ _ rose (low.redo k s inside));
}

-- another is known of one data component
known_low : (w : Whole) (d : ℕ) (s : Site) → IsLow (low_water w.core.events) s.redo → AreMarksLow w → AreMarksLow (with_core w (with_site w.core d s))
known_low w d s is low = record {
  copies = low.copies;
  dcs = low.dcs;
  saved = low.saved;
  news = low.news;
  redo = All-set (λ (x : Site). IsLow (low_water w.core.events) x.redo) w.core.sites d s is low.redo;
}

copied : (w : Whole) (x : Wire) → x.low_water ≤ low_water w.core.events → AreMarksLow w → AreMarksLow (with_copy w x)
copied w x few low = record {
  copies = All-push (λ (y : Wire). y.low_water ≤ low_water w.core.events) w.copies x low.copies few;
  dcs = low.dcs;
  saved = low.saved;
  news = low.news;
  redo = low.redo;
}

replied_more : (w : Whole) (x : Reply) → AreMarksLow w → AreMarksLow (with_reply w x)
replied_more w x low = record { copies = low.copies; dcs = low.dcs; saved = low.saved; news = low.news; redo = low.redo }

wire_low : (c : Core) (r : Asking) (redo : Option Redoing) (n : ℕ) (x : Wire) → wire_by c r n redo ≡ Ok x → x.low_water ≡ low_water c.events
wire_low c r None n x is = (let same : wire_for c r n ≡ x = cc in sym (ap (λ (y : Wire). y.low_water) same))
wire_low c r (Some redo) n x is = absurd cc

raised_low : (a b m : ℕ) → a ≤ m → b ≤ m → raised a b ≤ m
raised_low a b m few low = by (nat_le a b)
  where
    by : (t : Bool) → (if t then b else a) ≤ m
    by true = low
    by false = few

kept_mark : (d : Store) (n : ℕ) (o : Op) (f : Becomes) → (store_by d n o f).mark ≡ d.mark
kept_mark d n o IsOld = refl
kept_mark d n o (Again said) = refl
kept_mark d n o Silent = refl
kept_mark d n o (New said) = refl

kept_saved : (d : Store) (n : ℕ) (o : Op) (f : Becomes) → (store_by d n o f).saved_mark ≡ d.saved_mark
kept_saved d n o IsOld = refl
kept_saved d n o (Again said) = refl
kept_saved d n o Silent = refl
kept_saved d n o (New said) = refl

-- both marks of a data component are low
abbrev pub IsStoreLow : ℕ → Store → Type 0
IsStoreLow m d = (d.mark ≤ m) × (d.saved_mark ≤ m)

pub performed_low : (d : Store) (x : Wire) (m : ℕ) → x.low_water ≤ m → IsStoreLow m d → IsStoreLow m (performed d x)
performed_low d x m low few = by (d.incarnation == x.incarnation)
  where
    new : Store
    new = store_by (marked d x.low_water) x.number x.op (fate_of d x)

    by : (b : Bool) → IsStoreLow m (if b then new else d)
    by false = few
    by true =
        let mark = kept_mark (marked d x.low_water) x.number x.op (fate_of d x) in
        let saved = kept_saved (marked d x.low_water) x.number x.op (fate_of d x) in
        let up = raised_low d.mark x.low_water m few.0 low in
        let still = few.1 in
        (omega (arith, mark, up), omega (arith, saved, still))

-- another data component in its place
stored_low : (w : Whole) (k : ℕ) (d : Store) → IsStoreLow (low_water w.core.events) d → AreMarksLow w → AreMarksLow (with_dcs w (slice_set w.dcs k d))
stored_low w k d is low = record {
  copies = low.copies;
  dcs = All-set (λ (s : Store). s.mark ≤ low_water w.core.events) w.dcs k d is.0 low.dcs;
  saved = All-set (λ (s : Store). s.saved_mark ≤ low_water w.core.events) w.dcs k d is.1 low.saved;
  news = low.news;
  redo = low.redo;
}

store_at : (w : Whole) (k : ℕ) (d : Store) → slice_get w.dcs k ≡ Some d → AreMarksLow w → IsStoreLow (low_water w.core.events) d
store_at w k d at low = (
  all_at (λ (s : Store). s.mark ≤ low_water w.core.events) w.dcs k d at low.dcs,
  all_at (λ (s : Store). s.saved_mark ≤ low_water w.core.events) w.dcs k d at low.saved,
)

replied_low : (w v : Whole) (x : Option Reply) (o : Outcome) → AreMarksLow w → gets_reply w x ≡ Goes o v → AreMarksLow v
replied_low w v None o low goes = low_behind _ o w v low goes
replied_low w v (Some x) o low goes = low_behind _ o (with_reply w x) v (replied_more w x low) goes

-- ---- the steps

sent_or_held_low : (w v : Whole) (r : Asking) (x : Result Wire Down) (o : Outcome) → x ≡ wire_of w.core r → AreMarksLow w
    → sends_or_holds w r x ≡ Goes o v → AreMarksLow v
sent_or_held_low w v r (Ok x) o is low goes =
    let mark = wire_low w.core r (site_of w.core.sites r.op).redo (site_of w.core.sites r.op).incarnation x (sym is) in
    low_behind _ o (with_copy w x) v (copied w x (omega (arith, mark)) low) goes
sent_or_held_low w v r (Err down) o is low goes = low_behind _ o w v low goes

told_low : (w v : Whole) (t : ℕ) (c : Core) (a : Asked) (o : Outcome)
    → (LegalCore c → low_water w.core.events ≤ low_water c.events) → c.sites ≡ w.core.sites → LegalCore v.core → AreMarksLow w
    → told w t c a ≡ Goes o v → AreMarksLow v
told_low w v t c (reply.Request r) o rose same legal low goes = by (wire_of c r) refl goes
  where
    by : (x : Result Wire Down) → x ≡ wire_of c r → sends_or_holds (with_core w c) r x ≡ Goes o v → AreMarksLow v
    by (Ok x) is goes' =
        let legal_now = legal_behind _ o (with_copy (with_core w c) x) v legal goes' in
        sent_or_held_low (with_core w c) v r (Ok x) o is (risen w c (rose legal_now) same low) goes'
    by (Err down) is goes' =
        let legal_now = legal_behind _ o (with_core w c) v legal goes' in
        sent_or_held_low (with_core w c) v r (Err down) o is (risen w c (rose legal_now) same low) goes'
told_low w v t c reply.Undoing o rose same legal low goes = low_behind _ o w v low goes
told_low w v t c reply.Over o rose same legal low goes = low_behind _ o w v low goes
told_low w v t c (reply.Stuck n) o rose same legal low goes = low_behind _ o w v low goes
told_low w v t c (reply.Waits n) o rose same legal low goes = absurd (stopped _ o v goes)
told_low w v t c reply.Running o rose same legal low goes = absurd (stopped _ o v goes)
told_low w v t c reply.Unknown o rose same legal low goes = absurd (stopped _ o v goes)

ask_rises : (c : Core) (a : Asked) → LegalCore (after_ask c a) → low_water c.events ≤ low_water (after_ask c a).events
ask_rises c (reply.Request r) legal = mark_rises c.procs c.events (event.Ask r.txn r.number r.op) legal.0
ask_rises c reply.Undoing legal = omega arith
ask_rises c reply.Over legal = omega arith
ask_rises c (reply.Stuck n) legal = omega arith
ask_rises c (reply.Waits n) legal = omega arith
ask_rises c reply.Running legal = omega arith
ask_rises c reply.Unknown legal = omega arith

pub ask_sites : (c : Core) (a : Asked) → (after_ask c a).sites ≡ c.sites
ask_sites c (reply.Request r) = refl
ask_sites c reply.Undoing = refl
ask_sites c reply.Over = refl
ask_sites c (reply.Stuck n) = refl
ask_sites c (reply.Waits n) = refl
ask_sites c reply.Running = refl
ask_sites c reply.Unknown = refl

undo_rises : (c : Core) (a : Asked) → LegalCore (after_undo c a) → low_water c.events ≤ low_water (after_undo c a).events
undo_rises c (reply.Request r) legal = mark_rises c.procs c.events (event.Undo r.txn r.number r.op) legal.0
undo_rises c reply.Undoing legal = omega arith
undo_rises c reply.Over legal = omega arith
undo_rises c (reply.Stuck n) legal = omega arith
undo_rises c (reply.Waits n) legal = omega arith
undo_rises c reply.Running legal = omega arith
undo_rises c reply.Unknown legal = omega arith

pub undo_sites : (c : Core) (a : Asked) → (after_undo c a).sites ≡ c.sites
undo_sites c (reply.Request r) = refl
undo_sites c reply.Undoing = refl
undo_sites c reply.Over = refl
undo_sites c (reply.Stuck n) = refl
undo_sites c (reply.Waits n) = refl
undo_sites c reply.Running = refl
undo_sites c reply.Unknown = refl

ends_low : (w v : Whole) (t : ℕ) (s : Option Standing) (e : Option Ending) (o : Outcome) → LegalCore v.core
    → AreMarksLow w → ends_by w t s e ≡ Goes o v → AreMarksLow v
ends_low w v t None e o legal low goes = absurd (stopped _ o v goes)
ends_low w v t (Some s) None o legal low goes = absurd (stopped _ o v goes)
ends_low w v t (Some s) (Some e) o legal low goes =
    let c = with_event w.core (event.End t e) in
    let rose = mark_rises w.core.procs w.core.events (event.End t e) (legal_behind _ o (with_core w c) v legal goes).0 in
    low_behind _ o (with_core w c) v (risen w c rose refl low) goes

resent_low : (w v : Whole) (r : Asking) (x : Result Wire Down) (o : Outcome) → x ≡ wire_of w.core r → AreMarksLow w
    → resends_wire w r.op x ≡ Goes o v → AreMarksLow v
resent_low w v r (Ok x) o is low goes =
    let mark = wire_low w.core r (site_of w.core.sites r.op).redo (site_of w.core.sites r.op).incarnation x (sym is) in
    low_behind _ o (with_copy w x) v (copied w x (omega (arith, mark)) low) goes
resent_low w v r (Err down) o is low goes = absurd (stopped _ o v goes)

resends_low : (w v : Whole) (t : ℕ) (s : Option Standing) (o : Outcome) → AreMarksLow w → resends_by w t s ≡ Goes o v → AreMarksLow v
resends_low w v t None o low goes = absurd (stopped _ o v goes)
resends_low w v t (Some s) o low goes = by s.sent goes
  where
    by : (r : Option Sent) → resends_sent w t r ≡ Goes o v → AreMarksLow v
    by None goes' = absurd (stopped _ o v goes')
    by (Some r) goes' = (let a : Asking = record { txn = t; number = r.number; op = r.op } in resent_low w v a (wire_of w.core a) o refl low goes')

performed_at_low : (w v : Whole) (x : Wire) (d : Option Store) (o : Outcome) → slice_get w.dcs (dc_of x) ≡ d
    → x.low_water ≤ low_water w.core.events → AreMarksLow w → performs_at w x d ≡ Goes o v → AreMarksLow v
performed_at_low w v x None o at few low goes = absurd (stopped _ o v goes)
performed_at_low w v x (Some d) o at few low goes =
    replied_low (with_dcs w (slice_set w.dcs (dc_of x) (performed d x))) v (replied d x) o
    (stored_low w (dc_of x) (performed d x) (performed_low d x (low_water w.core.events) few (store_at w (dc_of x) d at low)) low) goes

performs_copy_low : (w v : Whole) (i : ℕ) (x : Option Wire) (o : Outcome) → slice_get w.copies i ≡ x → AreMarksLow w
    → performs_copy w x ≡ Goes o v → AreMarksLow v
performs_copy_low w v i None o at low goes = absurd (stopped _ o v goes)
performs_copy_low w v i (Some x) o at low goes =
    performed_at_low w v x (slice_get w.dcs (dc_of x)) o refl (all_at (λ (y : Wire). y.low_water ≤ low_water w.core.events) w.copies i x at low.copies) low goes

takes_answer_low : (w v : Whole) (f : Flight) (x : Reply) (b : Bool) (o : Outcome) → LegalCore v.core → AreMarksLow w
    → takes_answer w f x b ≡ Goes o v → AreMarksLow v
takes_answer_low w v f x false o legal low goes = absurd (stopped _ o v goes)
takes_answer_low w v f x true o legal low goes =
    let e = event.Answer f.txn x.number x.said in
    let rose = mark_rises w.core.procs w.core.events e (legal_behind _ o (with_core w (with_event w.core e)) v legal goes).0 in
    low_behind _ o (with_core w (with_event w.core e)) v (risen w (with_event w.core e) rose refl low) goes

pub redone_low : (m n : ℕ) (r : Option Redoing) → IsLow m r → IsLow m (redone_to n r)
redone_low m n None low = tt
redone_low m n (Some r) low = low

takes_redo_low : (w v : Whole) (x : Reply) (o : Outcome) → AreMarksLow w → TakesRedo w x o v → AreMarksLow v
takes_redo_low w v x o low takes = subst AreMarksLow (sym takes.next) (by (slice_get w.core.sites takes.dc) refl)
  where
    by : (s : Option Site) → slice_get w.core.sites takes.dc ≡ s → AreMarksLow (with_core w (redone_at w.core takes.dc x.number s))
    by None at = low
    by (Some s) at =
        let is = all_at (λ (y : Site). IsLow (low_water w.core.events) y.redo) w.core.sites takes.dc s at low.redo in
        known_low w takes.dc (record s { redo = redone_to x.number s.redo }) (redone_low (low_water w.core.events) x.number s.redo is) low

takes_low : (w v : Whole) (x : Option Reply) (o : Outcome) → LegalCore v.core → AreMarksLow w → TakesReply w x o v → AreMarksLow v
takes_low w v None o legal low takes = absurd takes
takes_low w v (Some x) o legal low takes = by (open_op w.core.events x.number) takes
  where
    by : (f : Option Flight) → TakesBy w x f o v → AreMarksLow v
    by None takes' = takes_redo_low w v x o low takes'
    by (Some f) takes' = takes_answer_low w v f x (is_heard (site_of w.core.sites f.op) x && fits f.op x.said) o legal low takes'

newly_low : (w : Whole) (d : ℕ) (n : News) → n.mark ≤ low_water w.core.events → AreMarksLow w → AreMarksLow (with_news w d n)
newly_low w d n few low = record {
  copies = low.copies;
  dcs = low.dcs;
  saved = low.saved;
  news = All-push (λ (y : ℕ × News). y.1.mark ≤ low_water w.core.events) w.news (d, n) low.news few;
  redo = low.redo;
}

restarts_low : (w v : Whole) (d : ℕ) (s : Option Store) (o : Outcome) → slice_get w.dcs d ≡ s → AreMarksLow w → restarts_at w d s ≡ Goes o v → AreMarksLow v
restarts_low w v d None o at low goes = absurd (stopped _ o v goes)
restarts_low w v d (Some s) o at low goes = by (nat_le (2 ^ 62) s.incarnation) goes
  where
    by : (b : Bool) → restarts_as w d s b ≡ Goes o v → AreMarksLow v
    by true goes' = absurd (stopped _ o v goes')
    by false goes' =
        let is = (store_at w d s at low).1 in
        let mid = with_dcs w (slice_set w.dcs d (restarted s)) in
        low_behind _ o (with_news mid d (news_of (restarted s))) v
        (newly_low mid d (news_of (restarted s)) is (stored_low w d (restarted s) (is, is) low)) goes'

checkpoints_low : (w v : Whole) (d : ℕ) (s : Option Store) (o : Outcome) → slice_get w.dcs d ≡ s → AreMarksLow w
    → checkpoints_at w d s ≡ Goes o v → AreMarksLow v
checkpoints_low w v d None o at low goes = absurd (stopped _ o v goes)
checkpoints_low w v d (Some s) o at low goes =
    let is = (store_at w d s at low).0 in
    low_behind _ o (with_dcs w (slice_set w.dcs d (checkpointed s))) v (stored_low w d (checkpointed s) (is, is) low) goes

tells_low : (w v : Whole) (i : ℕ) (x : Option (ℕ × News)) (o : Outcome) → slice_get w.news i ≡ x → AreMarksLow w → tells_news w x ≡ Goes o v → AreMarksLow v
tells_low w v i None o at low goes = absurd (stopped _ o v goes)
tells_low w v i (Some x) o at low goes = by (news_fault w.core x.0 x.1) goes
  where
    by : (f : Option NewsFault) → tells_unless w x.0 x.1 f ≡ Goes o v → AreMarksLow v
    by (Some fault.NoDc) goes' = absurd (stopped _ o v goes')
    by (Some fault.OldNews) goes' = absurd (stopped _ o v goes')
    by (Some fault.Forgotten) goes' = absurd (stopped _ o v goes')
    by None goes' =
        let few = all_at (λ (y : ℕ × News). y.1.mark ≤ low_water w.core.events) w.news i x at low.news in
        low_behind _ o (with_core w (after_told w.core x.0 x.1)) v (known_low w x.0 (down_by x.1) few low) goes'

redoes_low : (w v : Whole) (d : ℕ) (s : Option Site) (o : Outcome) → slice_get w.core.sites d ≡ s → AreMarksLow w
    → redoes_by w d (redo_at w.core d s) ≡ Goes o v → AreMarksLow v
redoes_low w v d None o at low goes = absurd (stopped _ o v goes)
redoes_low w v d (Some s) o at low goes = by s.redo refl goes
  where
    by : (r : Option Redoing) → s.redo ≡ r → redoes_by w d (redo_by w.core d s.incarnation r) ≡ Goes o v → AreMarksLow v
    by None is goes' = absurd (stopped _ o v goes')
    by (Some r) is goes' = sends_low (to_redo w.core.events d r.redone) goes'
      where
        low_mark : r.mark ≤ low_water w.core.events
        low_mark = subst (IsLow (low_water w.core.events)) is (all_at (λ (y : Site). IsLow (low_water w.core.events) y.redo) w.core.sites d s at low.redo)

        sends_low : (a : Option Answered) → redoes_by w d (sends_again s.incarnation r.mark a) ≡ Goes o v → AreMarksLow v
        sends_low (Some a) goes'' = (let x = redo_wire s.incarnation r.mark a in low_behind _ o (with_copy w x) v (copied w x low_mark low) goes'')
        sends_low None goes'' =
            low_behind _ o (with_core w (after_redo w.core d redo.Finished)) v
            (subst (λ (y : Option Site). AreMarksLow (with_core w (up_again w.core d y))) (sym at) (known_low w d (record s { redo = None }) tt low)) goes''

-- the mark is the same where the log begins anew
cut_low : (w : Whole) (ds : List Store) → LegalCore w.core → IsAtRest w.core.events → AreForgotten (low_water w.core.events) w.core.sites w.dcs ds
    → AreMarksLow w → AreMarksLow (record w { core = cut_core w.core; dcs = ds })
cut_low w ds legal rest are low = record {
  copies = λ k x inside. (let few = low.copies k x inside in omega (arith, few, same));
  dcs = λ k t inside. (let few = (marks k _ (read_in ds k t inside)).0 in omega (arith, few, same));
  saved = λ k t inside. (let few = (marks k _ (read_in ds k t inside)).1 in omega (arith, few, same));
  news = λ k x inside. (let few = low.news k x inside in omega (arith, few, same));
  redo = λ k t inside. low_rises _ _ _ (omega (arith, same)) (low.redo k t inside);
}
  where
    same : low_water w.core.events ≡ low_water (anew w.core.events)
    same = same_low w.core.procs w.core.events legal rest

    marks : (d : ℕ) (t : Store) → slice_get ds d ≡ Some t → IsStoreLow (low_water w.core.events) t
    marks d t at =
        let is = was_kept (low_water w.core.events) w.core.sites w.dcs ds d t are at in
        let to = forgotten_to (low_water w.core.events) (site_at w.core.sites d).incarnation is.s t is.forgotten in
        let few = heard_low is.s (site_at w.core.sites d).incarnation (low_water w.core.events)
        (low_water w.core.events) (store_at w d is.s is.at low).0 (omega arith) in
        let mark = to.mark_is in
        let saved = to.saved_mark in
        (omega (arith, mark, few), omega (arith, saved, few))

-- whatever the step is
pub stay_low : (w v : Whole) (x : Step) (o : Outcome) → LegalCore w.core → LegalCore v.core → Steps w x o v → AreMarksLow w → AreMarksLow v
stay_low w v (step.Admit call) o was legal goes low =
    let e = event.Admit (admitted w.core.events + 1) call.proc call.args.items in
    let was : LegalCore (with_event w.core e) = subst (λ (y : Whole). LegalCore y.core) goes.next legal in
    subst AreMarksLow (sym goes.next) (risen w (with_event w.core e) (mark_rises w.core.procs w.core.events e was.0) refl low)
stay_low w v (step.Ask t) o was legal goes low =
    let a = ask_reply w.core t in
    told_low w v t (after_ask w.core a) a o (ask_rises w.core a) (ask_sites w.core a) legal low goes
stay_low w v (step.Undo t) o was legal goes low =
    let a = undo_reply w.core t in
    told_low w v t (after_undo w.core a) a o (undo_rises w.core a) (undo_sites w.core a) legal low goes
stay_low w v (step.End t) o was legal goes low = ends_low w v t (standing w.core.events t) (end_of w.core t) o legal low goes
stay_low w v (step.Resend t) o was legal goes low = resends_low w v t (standing w.core.events t) o low goes
stay_low w v (step.Perform i) o was legal goes low = performs_copy_low w v i (slice_get w.copies i) o refl low goes
stay_low w v (step.Take i) o was legal goes low = takes_low w v (slice_get w.replies i) o legal low goes
stay_low w v (step.Restart d) o was legal goes low = restarts_low w v d (slice_get w.dcs d) o refl low goes
stay_low w v (step.Forge x) o was legal goes low = low_behind _ o (with_reply w x) v (replied_more w x low) goes
stay_low w v (step.Checkpoint d) o was legal goes low = checkpoints_low w v d (slice_get w.dcs d) o refl low goes
stay_low w v (step.Tell i) o was legal goes low = tells_low w v i (slice_get w.news i) o refl low goes
stay_low w v (step.Redo d) o was legal goes low = redoes_low w v d (slice_get w.core.sites d) o refl low goes
stay_low w v step.Cut o was legal goes low = subst AreMarksLow (sym goes.next) (cut_low w v.dcs was goes.may.rest goes.forgotten low)
stay_low w v (step.Crash n) o was legal goes low = subst AreMarksLow (sym goes.next)
    (come_back_low w (first_events n w.core.events) (notes_of w) goes.may.written)

-- ---- a fresh world

pub fresh_low : (w : Whole) → IsFresh w → AreMarksLow w
fresh_low w fresh = (let few = begun_low [] w.core.events (just_legal [] w.core.events fresh.events) in record {
  copies = subst (All (λ (x : Wire). x.low_water ≤ low_water w.core.events)) (sym fresh.copies) (λ k x inside. absurd (omega (arith, inside)));
  dcs = λ k d inside. (let is = (fresh.marks k d inside).0 in omega (arith, is, few));
  saved = λ k d inside. (let is = (fresh.marks k d inside).1 in omega (arith, is, few));
  news = subst (All (λ (x : ℕ × News). x.1.mark ≤ low_water w.core.events)) (sym fresh.news) (λ k x inside. absurd (omega (arith, inside)));
  redo = λ k s inside. subst (IsLow (low_water w.core.events)) (sym (fresh.up k s inside)) tt;
})

above_by : (n m : ℕ) (o : Option Flight) → ((f : Flight) → o ≡ Some f → m < n) → is_flight o ≡ true → m < n
above_by n m None above is = absurd cc
above_by n m (Some f) above is = above f refl

pub open_above_marks : (w : Whole) → LegalCore w.core → AreMarksLow w → IsOpenAboveMarks w
open_above_marks w legal low n is k d inside =
    let few = low.dcs k d inside in
    let above = above_by n (low_water w.core.events) (open_op w.core.events n) (flight_above w.core.procs w.core.events legal n) is in
    omega (arith, few, above)
