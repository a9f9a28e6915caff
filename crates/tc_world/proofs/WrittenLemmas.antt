-- The rule of writing ahead: where each wire that a step sends was written for, and what it makes known of a data component was noted, what
-- was written tells of all that was carried, step after step.
use Rattle.std.proofs.Common.{◌≡◌, ℕ, ◌+◌, ◌≤◌, Bool, true, false, ◌&&◌, ◌==◌, List, [], ◌∷◌, ◌++◌, append_assoc}
use Rattle.std.proofs.Common.{Option, Some, None, arith, refl, sym, ◌∙◌, subst, ap, if◌then◌else◌, inl, inr}
use Rattle.std.specs.Prelude.{◌^◌, slice_get, slice_set, nat_le, Result, Ok, Err}
use Rattle.std.specs.List.{All}
use Rattle.std.proofs.lemmas.Bool.{cases_eq}
use Rattle.std.proofs.lemmas.List.Elements.{All-push, All-set, All-cons}
use Rattle.access_slots.specs.Access.{fits}
use Rattle.access_slots.specs.declared.op.Op.{Op}
use Rattle.access_slots.specs.declared.op.Wire.{Wire}
use Rattle.access_slots.specs.declared.op.Reply.{Reply}
use Rattle.access_slots.specs.declared.op.News.{News}
use Rattle.verifier.specs.Checked.{Checked}
use Rattle.tc_log.specs.declared.event.Outcome.{Outcome as Ending}
use Rattle.tc_log.specs.declared.event.Event.{Event}
use Rattle.tc_log.specs.declared.event.Event.TheVariants as event
use Rattle.history.specs.Calls.{admitted}
use Rattle.history.specs.Flight.{Flight, open_op, is_open, is_flight, given, low_water}
use Rattle.history.specs.Places.{Begins}
use Rattle.history.specs.Redo.{to_redo}
use Rattle.history.specs.declared.Answered.{Answered}
use Rattle.transactions.specs.declared.Sent.{Sent}
use Rattle.transactions.specs.declared.Redoing.{Redoing}
use Rattle.transactions.specs.declared.Site.{Site}
use Rattle.transactions.specs.InFlight.{site_of}
use Rattle.transactions.specs.Standing.{Standing, standing}
use Rattle.transactions.specs.Legal.{Legal}
use Rattle.transactions.proofs.LowWater.{given_more, mark_rises}
use Rattle.data_component.specs.Performed.{Performed}
use Rattle.data_component.specs.Store.{Store, Fate as Becomes, IsOld, Again, Silent, New, marked, fate_of}
use Rattle.data_component.specs.Store.{store_by, replied, performed, checkpointed, restarted, news_of}
use Rattle.serial.proofs.ListLemmas.{if_none, if_some}
use Rattle.serial.proofs.StoreLemmas.{PerformCase, old, silent, again, news, perform_case, says}
use Rattle.serial.proofs.WireLemmas.{reply_facts}
use Rattle.serial.proofs.BackLemmas.{legal_first}
use Rattle.tc_core.specs.Core.{Core}
use Rattle.tc_core.specs.Replies.{with_event, ask_reply, after_ask, undo_reply, after_undo, end_of, is_heard}
use Rattle.tc_core.specs.Lent.{wire_of}
use Rattle.tc_core.specs.Redo.{with_site, news_fault, down_by, after_told, redo_wire, sends_again, redo_by, redo_at, up_again, after_redo, redone_to, redone_at}
use Rattle.tc_core.specs.Recovery.{first_events}
use Rattle.tc_core.specs.declared.recovery.SiteNote.{SiteNote}
use Rattle.tc_core.specs.declared.state.Asked.{Asked}
use Rattle.tc_core.specs.declared.state.Asked.TheVariants as reply
use Rattle.tc_core.specs.declared.state.Down.{Down}
use Rattle.tc_core.specs.declared.state.NewsFault.{NewsFault}
use Rattle.tc_core.specs.declared.state.NewsFault.TheVariants as fault
use Rattle.tc_core.specs.declared.state.Redo.TheVariants as redo
use Rattle.tc_world.specs.Whole.{Whole}
use Rattle.tc_world.specs.Marks.{IsLow, IsFresh}
use Rattle.tc_world.specs.OneAtATime.{is_forge}
use Rattle.tc_world.specs.Recovery.{IsWrittenFor, IsWrittenAt, IsNoted, Noted, NotYetUp, AreNoted, IsWritten, begun_anew, anew, come_back, notes_of}
use Rattle.tc_world.specs.Ahead.{Grows}
use Rattle.tc_world.specs.Steps.{Goes, Steps, Cuts, with_core, with_dcs, with_copy, with_reply, with_news, told, sends_or_holds, ends_by}
use Rattle.tc_world.specs.Steps.{resends_wire, resends_sent, resends_by, dc_of, gets_reply, performs_at, performs_copy}
use Rattle.tc_world.specs.Steps.{takes_answer, TakesRedo, TakesBy, TakesReply, restarts_as, restarts_at, checkpoints_at}
use Rattle.tc_world.specs.Steps.{tells_unless, tells_news, redoes_by}
use Rattle.tc_world.specs.declared.step.Step.{Step}
use Rattle.tc_world.specs.declared.step.Step.TheVariants as step
use Rattle.tc_world.specs.declared.step.Outcome.{Outcome}
use Rattle.tc_world.proofs.Bases.{begun_low, just_legal}
use Rattle.tc_world.proofs.ComingBack.{all_at, read_in, sites_low, notes_low}
use Rattle.tc_world.proofs.CutLemmas.{heard_low, forgotten_to, was_kept, same_low, same_given, none_open}
use Rattle.history.specs.Anew.{anew as log_anew}
use Rattle.transactions.specs.Alike.{IsAtRest}
use Rattle.transactions.specs.InFlight.{site_at}
use Rattle.tc_core.specs.Checkpointing.{checkpointed as cut_core}
use Rattle.tc_world.proofs.Marks.{went, stopped, IsStoreLow, performed_low, redone_low, ask_sites, undo_sites}

-- ---- all but wires and notes

pub record Rest (first : List Event) (w : Whole) : Type 0 where
  pub begins : Begins first w.core.events
  pub replies : All (λ (x : Reply). x.number ≤ given first) w.replies
  pub stores : All (IsWrittenAt first) w.dcs
  pub news : All (λ (x : ℕ × News). x.1.mark ≤ low_water first) w.news
  pub redo : All (λ (t : Site). IsLow (low_water first) t.redo) w.core.sites

pub rest_of : (first : List Event) (notes : List SiteNote) (w : Whole) → IsWritten first notes w → Rest first w
rest_of first notes w s = record { begins = s.begins; replies = s.replies; stores = s.stores; news = s.news; redo = s.redo }

one_more : (first h : List Event) (e : Event) → Begins first h → Begins first (e ∷ h)
one_more first h e b = record { later = e ∷ b.later; is = ap (λ (x : List Event). e ∷ x) b.is }

module _ (first : List Event) where
  behind : (o p : Outcome) (w v : Whole) → Rest first w → Goes o w ≡ Goes p v → Rest first v
  behind o p w v r goes = subst (Rest first) (went o p w v goes) r

  -- the transaction component goes on
  grown : (w : Whole) (c : Core) → Begins first c.events → c.sites ≡ w.core.sites → Rest first w → Rest first (with_core w c)
  grown w c begins same r = record {
    begins = begins;
    replies = r.replies;
    stores = r.stores;
    news = r.news;
    redo = subst (All (λ (t : Site). IsLow (low_water first) t.redo)) (sym same) r.redo;
  }

  logs : (w : Whole) (e : Event) → Rest first w → Rest first (with_core w (with_event w.core e))
  logs w e r = grown w (with_event w.core e) (one_more first w.core.events e r.begins) refl r

  -- another is known of one data component
  resited : (w : Whole) (d : ℕ) (t : Site) → IsLow (low_water first) t.redo → Rest first w → Rest first (with_core w (with_site w.core d t))
  resited w d t is r = record {
    begins = r.begins;
    replies = r.replies;
    stores = r.stores;
    news = r.news;
    redo = All-set (λ (x : Site). IsLow (low_water first) x.redo) w.core.sites d t is r.redo;
  }

  copied : (w : Whole) (x : Wire) → Rest first w → Rest first (with_copy w x)
  copied w x r = record { begins = r.begins; replies = r.replies; stores = r.stores; news = r.news; redo = r.redo }

  stored : (w : Whole) (d : ℕ) (s : Store) → IsWrittenAt first s → Rest first w → Rest first (with_dcs w (slice_set w.dcs d s))
  stored w d s is r = record {
    begins = r.begins;
    replies = r.replies;
    stores = All-set (IsWrittenAt first) w.dcs d s is r.stores;
    news = r.news;
    redo = r.redo;
  }

  replied_to : (w : Whole) (x : Reply) → x.number ≤ given first → Rest first w → Rest first (with_reply w x)
  replied_to w x few r = record {
    begins = r.begins;
    replies = All-push (λ (y : Reply). y.number ≤ given first) w.replies x r.replies few;
    stores = r.stores;
    news = r.news;
    redo = r.redo;
  }

  newly : (w : Whole) (d : ℕ) (n : News) → n.mark ≤ low_water first → Rest first w → Rest first (with_news w d n)
  newly w d n few r = record {
    begins = r.begins;
    replies = r.replies;
    stores = r.stores;
    news = All-push (λ (x : ℕ × News). x.1.mark ≤ low_water first) w.news (d, n) r.news few;
    redo = r.redo;
  }

  -- ---- what a data component is behind a wire

  saved_by : (s : Store) (n : ℕ) (o : Op) (f : Becomes) → (store_by s n o f).saved ≡ s.saved
  saved_by s n o IsOld = refl
  saved_by s n o (Again said) = refl
  saved_by s n o Silent = refl
  saved_by s n o (New said) = refl

  saved_same : (s : Store) (x : Wire) → (performed s x).saved ≡ s.saved
  saved_same s x = by (s.incarnation == x.incarnation)
    where
      by : (b : Bool) → (if b then store_by (marked s x.low_water) x.number x.op (fate_of s x) else s).saved ≡ s.saved
      by true = saved_by (marked s x.low_water) x.number x.op (fate_of s x)
      by false = refl

  list_by : (s : Store) (x : Wire) → x.number ≤ given first → All (λ (e : Performed). e.0 ≤ given first) s.list
      → PerformCase s x → All (λ (e : Performed). e.0 ≤ given first) (performed s x).list
  list_by s x few all (old r l) = subst (All (λ (e : Performed). e.0 ≤ given first)) (sym l) all
  list_by s x few all (silent r l) = subst (All (λ (e : Performed). e.0 ≤ given first)) (sym l) all
  list_by s x few all (again said u r l) = subst (All (λ (e : Performed). e.0 ≤ given first)) (sym l) all
  list_by s x few all (news u r l) = subst (All (λ (e : Performed). e.0 ≤ given first)) (sym l)
      (All-cons (λ (e : Performed). e.0 ≤ given first) (x.number, x.op, says s x) s.list few all)

  performs_written : (s : Store) (x : Wire) → IsWrittenFor first x → IsWrittenAt first s → IsWrittenAt first (performed s x)
  performs_written s x ready is =
      let low : IsStoreLow (low_water first) (performed s x) = performed_low s x (low_water first) ready.mark (is.mark, is.saved_mark) in
      record {
        list = list_by s x ready.number is.list (perform_case s x);
        saved = subst (All (λ (e : Performed). e.0 ≤ given first)) (sym (saved_same s x)) is.saved;
        mark = low.0;
        saved_mark = low.1;
      }

  -- ---- the steps

  told_rest : (w v : Whole) (t : ℕ) (c : Core) (a : Asked) (o : Outcome) → Begins first c.events
      → c.sites ≡ w.core.sites → Rest first w → told w t c a ≡ Goes o v → Rest first v
  told_rest w v t c (reply.Request r) o begins same rest goes = by (wire_of c r) goes
    where
      by : (x : Result Wire Down) → sends_or_holds (with_core w c) r x ≡ Goes o v → Rest first v
      by (Ok x) goes' = behind _ o (with_copy (with_core w c) x) v (copied (with_core w c) x (grown w c begins same rest)) goes'
      by (Err down) goes' = behind _ o (with_core w c) v (grown w c begins same rest) goes'
  told_rest w v t c reply.Undoing o begins same rest goes = behind _ o w v rest goes
  told_rest w v t c reply.Over o begins same rest goes = behind _ o w v rest goes
  told_rest w v t c (reply.Stuck n) o begins same rest goes = behind _ o w v rest goes
  told_rest w v t c (reply.Waits n) o begins same rest goes = absurd (stopped _ o v goes)
  told_rest w v t c reply.Running o begins same rest goes = absurd (stopped _ o v goes)
  told_rest w v t c reply.Unknown o begins same rest goes = absurd (stopped _ o v goes)

  ask_begins : (c : Core) (a : Asked) → Begins first c.events → Begins first (after_ask c a).events
  ask_begins c (reply.Request r) b = one_more first c.events (event.Ask r.txn r.number r.op) b
  ask_begins c reply.Undoing b = b
  ask_begins c reply.Over b = b
  ask_begins c (reply.Stuck n) b = b
  ask_begins c (reply.Waits n) b = b
  ask_begins c reply.Running b = b
  ask_begins c reply.Unknown b = b

  undo_begins : (c : Core) (a : Asked) → Begins first c.events → Begins first (after_undo c a).events
  undo_begins c (reply.Request r) b = one_more first c.events (event.Undo r.txn r.number r.op) b
  undo_begins c reply.Undoing b = b
  undo_begins c reply.Over b = b
  undo_begins c (reply.Stuck n) b = b
  undo_begins c (reply.Waits n) b = b
  undo_begins c reply.Running b = b
  undo_begins c reply.Unknown b = b

  ends_rest : (w v : Whole) (t : ℕ) (s : Option Standing) (e : Option Ending) (o : Outcome) → Rest first w → ends_by w t s e ≡ Goes o v → Rest first v
  ends_rest w v t None e o rest goes = absurd (stopped _ o v goes)
  ends_rest w v t (Some s) None o rest goes = absurd (stopped _ o v goes)
  ends_rest w v t (Some s) (Some e) o rest goes = behind _ o (with_core w (with_event w.core (event.End t e))) v (logs w (event.End t e) rest) goes

  resends_rest : (w v : Whole) (t : ℕ) (s : Option Standing) (o : Outcome) → Rest first w → resends_by w t s ≡ Goes o v → Rest first v
  resends_rest w v t None o rest goes = absurd (stopped _ o v goes)
  resends_rest w v t (Some s) o rest goes = by s.sent goes
    where
      wires : (q : Op) (x : Result Wire Down) → resends_wire w q x ≡ Goes o v → Rest first v
      wires q (Ok x) goes' = behind _ o (with_copy w x) v (copied w x rest) goes'
      wires q (Err down) goes' = absurd (stopped _ o v goes')

      by : (r : Option Sent) → resends_sent w t r ≡ Goes o v → Rest first v
      by None goes' = absurd (stopped _ o v goes')
      by (Some r) goes' = wires r.op (wire_of w.core (record { txn = t; number = r.number; op = r.op })) goes'

  gets_rest : (w v : Whole) (x : Option Reply) (o : Outcome) → ((y : Reply) → x ≡ Some y → y.number ≤ given first)
      → Rest first w → gets_reply w x ≡ Goes o v → Rest first v
  gets_rest w v None o few rest goes = behind _ o w v rest goes
  gets_rest w v (Some x) o few rest goes = behind _ o (with_reply w x) v (replied_to w x (few x refl) rest) goes

  performs_rest : (w v : Whole) (x : Wire) (s : Option Store) (o : Outcome) → slice_get w.dcs (dc_of x) ≡ s
      → IsWrittenFor first x → Rest first w → performs_at w x s ≡ Goes o v → Rest first v
  performs_rest w v x None o at ready rest goes = absurd (stopped _ o v goes)
  performs_rest w v x (Some s) o at ready rest goes =
      gets_rest (with_dcs w (slice_set w.dcs (dc_of x) (performed s x))) v (replied s x) o
      (λ y is. (let number = (reply_facts s x y is).number in let few = ready.number in omega (arith, number, few)))
      (stored w (dc_of x) (performed s x) (performs_written s x ready (all_at (IsWrittenAt first) w.dcs (dc_of x) s at rest.stores)) rest) goes

  performs_copy_rest : (w v : Whole) (i : ℕ) (x : Option Wire) (o : Outcome) → slice_get w.copies i ≡ x
      → All (IsWrittenFor first) w.copies → Rest first w → performs_copy w x ≡ Goes o v → Rest first v
  performs_copy_rest w v i None o at ready rest goes = absurd (stopped _ o v goes)
  performs_copy_rest w v i (Some x) o at ready rest goes = performs_rest w v x (slice_get w.dcs (dc_of x)) o refl
      (all_at (IsWrittenFor first) w.copies i x at ready) rest goes

  takes_answer_rest : (w v : Whole) (f : Flight) (x : Reply) (b : Bool) (o : Outcome) → Rest first w → takes_answer w f x b ≡ Goes o v → Rest first v
  takes_answer_rest w v f x false o rest goes = absurd (stopped _ o v goes)
  takes_answer_rest w v f x true o rest goes = (let e = event.Answer f.txn x.number x.said in behind _ o
      (with_core w (with_event w.core e)) v (logs w e rest) goes)

  takes_redo_rest : (w v : Whole) (x : Reply) (o : Outcome) → Rest first w → TakesRedo w x o v → Rest first v
  takes_redo_rest w v x o rest takes = subst (Rest first) (sym takes.next) (by (slice_get w.core.sites takes.dc) refl)
    where
      by : (t : Option Site) → slice_get w.core.sites takes.dc ≡ t → Rest first (with_core w (redone_at w.core takes.dc x.number t))
      by None at = rest
      by (Some t) at =
          let is = all_at (λ (y : Site). IsLow (low_water first) y.redo) w.core.sites takes.dc t at rest.redo in
          resited w takes.dc (record t { redo = redone_to x.number t.redo }) (redone_low (low_water first) x.number t.redo is) rest

  takes_rest : (w v : Whole) (x : Option Reply) (o : Outcome) → Rest first w → TakesReply w x o v → Rest first v
  takes_rest w v None o rest takes = absurd takes
  takes_rest w v (Some x) o rest takes = by (open_op w.core.events x.number) takes
    where
      by : (f : Option Flight) → TakesBy w x f o v → Rest first v
      by None takes' = takes_redo_rest w v x o rest takes'
      by (Some f) takes' = takes_answer_rest w v f x (is_heard (site_of w.core.sites f.op) x && fits f.op x.said) o rest takes'

  restarts_rest : (w v : Whole) (d : ℕ) (s : Option Store) (o : Outcome) → slice_get w.dcs d ≡ s → Rest first w → restarts_at w d s ≡ Goes o v → Rest first v
  restarts_rest w v d None o at rest goes = absurd (stopped _ o v goes)
  restarts_rest w v d (Some s) o at rest goes = by (nat_le (2 ^ 62) s.incarnation) goes
    where
      by : (b : Bool) → restarts_as w d s b ≡ Goes o v → Rest first v
      by true goes' = absurd (stopped _ o v goes')
      by false goes' =
          let is = all_at (IsWrittenAt first) w.dcs d s at rest.stores in
          let mid = with_dcs w (slice_set w.dcs d (restarted s)) in
          behind _ o (with_news mid d (news_of (restarted s))) v
          (newly mid d (news_of (restarted s)) is.saved_mark
          (stored w d (restarted s) (record {
            list = is.saved;
            saved = is.saved;
            mark = is.saved_mark;
            saved_mark = is.saved_mark;
          }) rest)) goes'

  checkpoints_rest : (w v : Whole) (d : ℕ) (s : Option Store) (o : Outcome) → slice_get w.dcs d ≡ s → Rest first w
      → checkpoints_at w d s ≡ Goes o v → Rest first v
  checkpoints_rest w v d None o at rest goes = absurd (stopped _ o v goes)
  checkpoints_rest w v d (Some s) o at rest goes =
      let is = all_at (IsWrittenAt first) w.dcs d s at rest.stores in
      behind _ o (with_dcs w (slice_set w.dcs d (checkpointed s))) v
      (stored w d (checkpointed s) (record {
        list = is.list;
        saved = is.list;
        mark = is.mark;
        saved_mark = is.mark;
      }) rest) goes

  tells_rest : (w v : Whole) (i : ℕ) (x : Option (ℕ × News)) (o : Outcome) → slice_get w.news i ≡ x → Rest first w → tells_news w x ≡ Goes o v → Rest first v
  tells_rest w v i None o at rest goes = absurd (stopped _ o v goes)
  tells_rest w v i (Some x) o at rest goes = by (news_fault w.core x.0 x.1) goes
    where
      by : (f : Option NewsFault) → tells_unless w x.0 x.1 f ≡ Goes o v → Rest first v
      by (Some fault.NoDc) goes' = absurd (stopped _ o v goes')
      by (Some fault.OldNews) goes' = absurd (stopped _ o v goes')
      by (Some fault.Forgotten) goes' = absurd (stopped _ o v goes')
      by None goes' =
          let few = all_at (λ (y : ℕ × News). y.1.mark ≤ low_water first) w.news i x at rest.news in
          behind _ o (with_core w (after_told w.core x.0 x.1)) v (resited w x.0 (down_by x.1) few rest) goes'

  redoes_rest : (w v : Whole) (d : ℕ) (t : Option Site) (o : Outcome) → slice_get w.core.sites d ≡ t → Rest first w
      → redoes_by w d (redo_at w.core d t) ≡ Goes o v → Rest first v
  redoes_rest w v d None o at rest goes = absurd (stopped _ o v goes)
  redoes_rest w v d (Some t) o at rest goes = by t.redo goes
    where
      sends : (mark : ℕ) (a : Option Answered) → redoes_by w d (sends_again t.incarnation mark a) ≡ Goes o v → Rest first v
      sends mark (Some a) goes' = (let x = redo_wire t.incarnation mark a in behind _ o (with_copy w x) v (copied w x rest) goes')
      sends mark None goes' =
          behind _ o (with_core w (after_redo w.core d redo.Finished)) v
          (subst (λ (y : Option Site). Rest first (with_core w (up_again w.core d y))) (sym at) (resited w d (record t { redo = None }) tt rest)) goes'

      by : (r : Option Redoing) → redoes_by w d (redo_by w.core d t.incarnation r) ≡ Goes o v → Rest first v
      by None goes' = absurd (stopped _ o v goes')
      by (Some r) goes' = sends r.mark (to_redo w.core.events d r.redone) goes'

  crash_rest : (w : Whole) (n : ℕ) → Begins first (first_events n w.core.events) → Rest first w
      → Rest first (come_back (first_events n w.core.events) (notes_of w) w)
  crash_rest w n begins r = record {
    begins = begins;
    replies = r.replies;
    stores = r.stores;
    news = r.news;
    redo = notes_low (low_water first) w r.redo;
  }

  -- a crash keeps it, and it isn't cut
  abbrev pub Stays : Step → Whole → Type 0
  Stays (step.Crash n) v = Begins first v.core.events
  Stays step.Cut v = ⊥
  Stays other v = Unit {0}

  pub stay_rest : (w v : Whole) (x : Step) (o : Outcome) → is_forge x ≡ false → Stays x v
      → All (IsWrittenFor first) w.copies → Steps w x o v → Rest first w → Rest first v
  stay_rest w v (step.Admit call) o honest stays ready goes rest = subst (Rest first) (sym goes.next)
      (logs w (event.Admit (admitted w.core.events + 1) call.proc call.args.items) rest)
  stay_rest w v (step.Ask t) o honest stays ready goes rest =
      let a = ask_reply w.core t in
      told_rest w v t (after_ask w.core a) a o (ask_begins w.core a rest.begins) (ask_sites w.core a) rest goes
  stay_rest w v (step.Undo t) o honest stays ready goes rest =
      let a = undo_reply w.core t in
      told_rest w v t (after_undo w.core a) a o (undo_begins w.core a rest.begins) (undo_sites w.core a) rest goes
  stay_rest w v (step.End t) o honest stays ready goes rest = ends_rest w v t (standing w.core.events t) (end_of w.core t) o rest goes
  stay_rest w v (step.Resend t) o honest stays ready goes rest = resends_rest w v t (standing w.core.events t) o rest goes
  stay_rest w v (step.Perform i) o honest stays ready goes rest = performs_copy_rest w v i (slice_get w.copies i) o refl ready rest goes
  stay_rest w v (step.Take i) o honest stays ready goes rest = takes_rest w v (slice_get w.replies i) o rest goes
  stay_rest w v (step.Restart d) o honest stays ready goes rest = restarts_rest w v d (slice_get w.dcs d) o refl rest goes
  stay_rest w v (step.Forge x) o honest stays ready goes rest = absurd (let bad : true ≡ false = honest in cc)
  stay_rest w v (step.Checkpoint d) o honest stays ready goes rest = checkpoints_rest w v d (slice_get w.dcs d) o refl rest goes
  stay_rest w v (step.Tell i) o honest stays ready goes rest = tells_rest w v i (slice_get w.news i) o refl rest goes
  stay_rest w v (step.Redo d) o honest stays ready goes rest = redoes_rest w v d (slice_get w.core.sites d) o refl rest goes
  stay_rest w v step.Cut o honest stays ready goes rest = absurd stays
  stay_rest w v (step.Crash n) o honest stays ready goes rest = subst (Rest first) (sym goes.next)
      (crash_rest w n (subst (λ (u : Whole). Begins first u.core.events) goes.next stays) rest)

-- ---- more is written

-- the mark doesn't fall along a log
mark_more : (ps : List Checked) (later first : List Event) → Legal ps (later ++ first) → low_water first ≤ low_water (later ++ first)
mark_more ps [] first legal = omega arith
mark_more ps (e ∷ later) first legal = (let ih = mark_more ps later first legal.1 in let one = mark_rises ps
    (later ++ first) e legal.0 in omega (arith, ih, one))

-- nor does a number that was answered open again
pub closed_sent : (top n m : ℕ) (f : Flight) (o : Option Flight) → n ≤ top → m ≡ top + 1 → is_flight o ≡ false
    → is_flight (if m == n then Some f else o) ≡ false
closed_sent top n m f o low next closed = ap is_flight (if_none m n (Some f) o (omega (arith, low, next))) ∙ closed

pub closed_answered : (n m : ℕ) (o : Option Flight) → is_flight o ≡ false → is_flight (if m == n then None else o) ≡ false
closed_answered n m o closed = elim (cases_eq m n) [
  | inl same ↦ ap is_flight (if_some m n None o same)
  | inr other ↦ ap is_flight (if_none m n None o other) ∙ closed
]

closed_more : (ps : List Checked) (later first : List Event) (n : ℕ) → Legal ps (later ++ first) → n ≤ given first
    → is_open first n ≡ false → is_open (later ++ first) n ≡ false
closed_more ps [] first n legal low closed = closed
closed_more ps (event.Ask t m q ∷ later) first n legal low closed =
    let more = given_more ps later first legal.1 in
    closed_sent (given (later ++ first)) n m (record { txn = t; op = q }) (open_op (later ++ first) n)
    (omega (arith, low, more)) legal.0.next (closed_more ps later first n legal.1 low closed)
closed_more ps (event.Answer t m said ∷ later) first n legal low closed = closed_answered n m
    (open_op (later ++ first) n) (closed_more ps later first n legal.1 low closed)
closed_more ps (event.Undo t m q ∷ later) first n legal low closed =
    let more = given_more ps later first legal.1 in
    closed_sent (given (later ++ first)) n m (record { txn = t; op = q }) (open_op (later ++ first) n)
    (omega (arith, low, more)) legal.0.next (closed_more ps later first n legal.1 low closed)
closed_more ps (_ ∷ later) first n legal low closed = closed_more ps later first n legal.1 low closed

pub wire_more : (ps : List Checked) (first more : List Event) (x : Wire) → Legal ps more → Begins first more → IsWrittenFor first x → IsWrittenFor more x
wire_more ps first more x legal begins ready =
    let legal' : Legal ps (begins.later ++ first) = subst (Legal ps) begins.is legal in
    subst (λ (h : List Event). IsWrittenFor h x) (sym begins.is)
    (record {
      number = (let a = ready.number in let b = given_more ps begins.later first legal' in omega (arith, a, b));
      mark = (let a = ready.mark in let b = mark_more ps begins.later first legal' in omega (arith, a, b));
      redone = λ is. closed_more ps begins.later first x.number legal' ready.number (ready.redone is);
    })

low_more : (a b : ℕ) (r : Option Redoing) → a ≤ b → IsLow a r → IsLow b r
low_more a b None le is = tt
low_more a b (Some r) le is = omega (arith, le, is)

noted_more : (a b d : ℕ) (w : Whole) (t t' : Site) → a ≤ b → IsNoted a w d t t' → IsNoted b w d t t'
noted_more a b d w t t' le (Noted is) = Noted is
noted_more a b d w t t' le (NotYetUp x) = (let low = x.low in NotYetUp
    (record {
      up = x.up;
      mark = x.mark;
      noted = x.noted;
      low = omega (arith, low, le);
      there = x.there;
      again = x.again;
    }))

rest_more : (ps : List Checked) (first more : List Event) (v : Whole) → Legal ps more → Begins first more
    → Begins more v.core.events → Rest first v → Rest more v
rest_more ps first more v legal on in_log r =
    let legal' : Legal ps (on.later ++ first) = subst (Legal ps) on.is legal in
    let a : given first ≤ given more = subst (λ (h : List Event). given first ≤ given h) (sym on.is) (given_more ps on.later first legal') in
    let b : low_water first ≤ low_water more = subst (λ (h : List Event). low_water first ≤ low_water h) (sym on.is) (mark_more ps on.later first legal') in
    record {
      begins = in_log;
      replies = λ k x inside. (let few = r.replies k x inside in omega (arith, few, a));
      stores = λ k x inside.
          let y = r.stores k x inside in
          let mark = y.mark in
          let saved = y.saved_mark in
          record {
            list = λ j e at. (let few = y.list j e at in omega (arith, few, a));
            saved = λ j e at. (let few = y.saved j e at in omega (arith, few, a));
            mark = omega (arith, mark, b);
            saved_mark = omega (arith, saved, b);
          };
      news = λ k x inside. (let few = r.news k x inside in omega (arith, few, b));
      redo = λ k x inside. low_more _ _ _ b (r.redo k x inside);
    }

grown_rest : (ps : List Checked) (first more : List Event) (v : Whole) → Legal ps v.core.events → Begins first more
    → Begins more v.core.events → Rest first v → Rest more v
grown_rest ps first more v legal on in_log r = rest_more ps first more v (legal_first ps in_log.later more (subst (Legal ps) in_log.is legal)) on in_log r

pub more_written : (w : Whole) (first more : List Event) (notes : List SiteNote) → Legal w.core.procs w.core.events
    → Begins first more → Begins more w.core.events
    → IsWritten first notes w → IsWritten more notes w
more_written w first more notes legal on in_log s =
    let legal' : Legal w.core.procs more = legal_first w.core.procs in_log.later more (subst (Legal w.core.procs) in_log.is legal) in
    let b : low_water first ≤ low_water more = subst (λ (h : List Event). low_water first ≤ low_water h) (sym on.is)
    (mark_more w.core.procs on.later first (subst (Legal w.core.procs) on.is legal')) in
    let r = rest_more w.core.procs first more w legal' on in_log (rest_of first notes w s) in
    record {
      begins = in_log;
      sites = λ d. noted_more (low_water first) (low_water more) d w _ _ b (s.sites d);
      copies = λ k x inside. wire_more w.core.procs first more _ legal' on (s.copies k x inside);
      replies = r.replies;
      stores = r.stores;
      news = r.news;
      redo = r.redo;
    }

-- ---- a log that begins anew

wire_anew : (ps : List Checked) (h : List Event) (x : Wire) → Legal ps h → IsAtRest h → IsWrittenFor h x → IsWrittenFor (log_anew h) x
wire_anew ps h x legal rest is =
    let number = is.number in
    let mark = is.mark in
    let given_same = same_given h in
    let low_same = same_low ps h legal rest in
    record { number = omega (arith, number, given_same); mark = omega (arith, mark, low_same); redone = λ again. ap is_flight (none_open h x.number) }

-- where it is written, all that was carried is, since it tells of all that the log before it did
cut_rest : (w v : Whole) (o : Outcome) (first : List Event) (notes : List SiteNote) → Legal w.core.procs w.core.events → Cuts w o v
    → IsWritten first notes w → Rest v.core.events v × All (IsWrittenFor v.core.events) v.copies
cut_rest w v o first notes legal cut s =
    let whole = more_written w first w.core.events notes legal s.begins (record { later = []; is = refl }) s in (
      record {
        begins = record { later = []; is = refl };
        replies = by (λ (u : Whole). All (λ (x : Reply). x.number ≤ given u.core.events) u.replies)
            (λ k x inside. (let few = whole.replies k x inside in let same = same_given h in omega (arith, few, same)));
        stores = by (λ (u : Whole). All (IsWrittenAt u.core.events) u.dcs)
            (λ d t inside. stored d _ (read_in v.dcs d t inside)
            (λ e x at. (all_at (IsWrittenAt h) w.dcs e x at whole.stores).mark));
        news = by (λ (u : Whole). All (λ (x : ℕ × News). x.1.mark ≤ low_water u.core.events) u.news)
            (λ k x inside. (let few = whole.news k x inside in omega (arith, few, low)));
        redo = by (λ (u : Whole). All (λ (t : Site). IsLow (low_water u.core.events) t.redo) u.core.sites)
            (λ d t inside. low_more _ _ _ (omega (arith, low)) (whole.redo d t inside));
      },
      by (λ (u : Whole). All (IsWrittenFor u.core.events) u.copies) (λ k x inside. wire_anew w.core.procs h _ legal cut.may.rest (whole.copies k x inside)),
    )
  where
    h : List Event
    h = w.core.events

    low : low_water w.core.events ≡ low_water (log_anew w.core.events)
    low = same_low w.core.procs w.core.events legal cut.may.rest

    by : (P : Whole → Type 0) → P (record w { core = cut_core w.core; dcs = v.dcs }) → P v
    by P is = subst P (sym cut.next) is

    stored : (d : ℕ) (t : Store) → slice_get v.dcs d ≡ Some t → ((e : ℕ) (x : Store) → slice_get w.dcs e ≡ Some x → x.mark ≤ low_water w.core.events)
        → IsWrittenAt (log_anew w.core.events) t
    stored d t at few =
        let is = was_kept (low_water h) w.core.sites w.dcs v.dcs d t cut.forgotten at in
        let to = forgotten_to (low_water h) (site_at w.core.sites d).incarnation is.s t is.forgotten in
        let most = heard_low is.s (site_at w.core.sites d).incarnation (low_water h) (low_water h) (few d is.s is.at) (omega arith) in
        let mark = to.mark_is in
        let saved_mark = to.saved_mark in
        record {
          list = subst (All (λ (e : Performed). e.0 ≤ given (log_anew h))) (sym to.list) (λ k e inside. absurd (omega (arith, inside)));
          saved = subst (All (λ (e : Performed). e.0 ≤ given (log_anew h))) (sym to.saved) (λ k e inside. absurd (omega (arith, inside)));
          mark = omega (arith, mark, most, low);
          saved_mark = omega (arith, saved_mark, most, low);
        }

pub cut_written : (w v : Whole) (o : Outcome) (first : List Event) (notes notes' : List SiteNote) → Legal w.core.procs w.core.events → Cuts w o v
    → IsWritten first notes w → AreNoted (low_water v.core.events) v notes' → IsWritten v.core.events notes' v
cut_written w v o first notes notes' legal cut s noted =
    let is = cut_rest w v o first notes legal cut s in
    record { begins = is.0.begins; sites = noted; copies = is.1; replies = is.0.replies; stores = is.0.stores; news = is.0.news; redo = is.0.redo }

-- ---- whatever the step is, but a forged reply

begins_on : (a b c : List Event) → Begins a b → Begins b c → Begins a c
begins_on a b c ab bc = record {
  later = bc.later ++ ab.later;
  is = bc.is ∙ (ap (λ (h : List Event). bc.later ++ h) ab.is ∙ sym (append_assoc bc.later ab.later a));
}

pub acted : (w v : Whole) (x : Step) (o : Outcome) (first more : List Event) (notes : List SiteNote)
    → Legal w.core.procs w.core.events → Legal v.core.procs v.core.events
    → Steps w x o v → is_forge x ≡ false → Grows x first more v.core.events → IsWritten first notes w → Rest more v
acted w v step.Cut o first more notes was legal goes honest grows s = subst (λ (h : List Event). Rest h v) (sym grows) (cut_rest w v o first notes was goes s).0
acted w v (step.Crash n) o first more notes was legal goes honest grows s =
    grown_rest v.core.procs first more v legal grows.0 grows.1
    (stay_rest first w v (step.Crash n) o honest (begins_on first more v.core.events grows.0 grows.1) s.copies goes (rest_of first notes w s))
acted w v x o first more notes was legal goes honest grows s =
    grown_rest v.core.procs first more v legal grows.0 grows.1 (stay_rest first w v x o honest tt s.copies goes (rest_of first notes w s))

pub stay_written : (w v : Whole) (x : Step) (o : Outcome) (first more : List Event) (notes noted : List SiteNote)
    → Legal w.core.procs w.core.events → Legal v.core.procs v.core.events → Steps w x o v → is_forge x ≡ false → Grows x first more v.core.events
    → IsWritten first notes w → All (IsWrittenFor more) v.copies → AreNoted (low_water more) v noted → IsWritten more noted v
stay_written w v x o first more notes noted was legal goes honest grows s ready known =
    let r = acted w v x o first more notes was legal goes honest grows s in
    record { begins = r.begins; sites = known; copies = ready; replies = r.replies; stores = r.stores; news = r.news; redo = r.redo }

-- a step that isn't a crash or a cut leaves a longer log, which tells of all but the wires
pub whole_rest : (w v : Whole) (x : Step) (o : Outcome) (notes : List SiteNote) → Legal v.core.procs v.core.events → Steps w x o v → is_forge x ≡ false
    → Stays w.core.events x v → IsWritten w.core.events notes w → Begins w.core.events v.core.events × Rest v.core.events v
whole_rest w v x o notes legal goes honest stays s =
    let r = stay_rest w.core.events w v x o honest stays s.copies goes (rest_of w.core.events notes w s) in
    (r.begins, rest_more v.core.procs w.core.events v.core.events v legal r.begins (record { later = []; is = refl }) r)

-- ---- nothing was carried, and a second crash

pub fresh_written : (w : Whole) (notes : List SiteNote) → IsFresh w → AreNoted (low_water w.core.events) w notes → IsWritten w.core.events notes w
fresh_written w notes fresh noted = record {
  begins = record { later = []; is = refl };
  sites = noted;
  copies = subst (All (IsWrittenFor w.core.events)) (sym fresh.copies) (λ k x inside. absurd (omega (arith, inside)));
  replies = subst (All (λ (x : Reply). x.number ≤ given w.core.events)) (sym fresh.replies) (λ k x inside. absurd (omega (arith, inside)));
  stores = λ k s inside.
      let lists = fresh.lists k s inside in
      let marks = fresh.marks k s inside in
      let mark = marks.0 in
      let saved = marks.1 in
      let low = begun_low [] w.core.events (just_legal [] w.core.events fresh.events) in
      record {
        list = subst (All (λ (e : Performed). e.0 ≤ given w.core.events)) (sym lists.0) (λ j e at. absurd (omega (arith, at)));
        saved = subst (All (λ (e : Performed). e.0 ≤ given w.core.events)) (sym lists.1) (λ j e at. absurd (omega (arith, at)));
        mark = omega (arith, mark, low);
        saved_mark = omega (arith, saved, low);
      };
  news = subst (All (λ (x : ℕ × News). x.1.mark ≤ low_water w.core.events)) (sym fresh.news) (λ k x inside. absurd (omega (arith, inside)));
  redo = λ k t inside. subst (IsLow (low_water w.core.events)) (sym (fresh.up k t inside)) tt;
}

anew_twice : (incarnation : ℕ) (r : Option Redoing) → (let t : Site = record { incarnation = incarnation; redo = begun_anew r } in t ≡ anew t)
anew_twice incarnation None = refl
anew_twice incarnation (Some r) = refl

-- what was noted is known behind the crash
noted_again : (low d : ℕ) (w v : Whole) (t t' : Site) → IsNoted low w d t t' → IsNoted low v d t' t'
noted_again low d w v t t' (Noted is) = Noted (subst (λ (z : Site). z ≡ anew z) (sym is) (anew_twice t.incarnation t.redo))
noted_again low d w v t t' (NotYetUp x) = Noted (subst (λ (z : Site). z ≡ anew z) (sym x.noted) refl)

-- a transaction component that came back may crash again at once
pub again_written : (w : Whole) (first : List Event) (notes : List SiteNote) → IsWritten first notes w → IsWritten first notes (come_back first notes w)
again_written w first notes s = record {
  begins = record { later = []; is = refl };
  sites = λ d. noted_again (low_water first) d w (come_back first notes w) _ _ (s.sites d);
  copies = s.copies;
  replies = s.replies;
  stores = s.stores;
  news = s.news;
  redo = sites_low w first notes s;
}
