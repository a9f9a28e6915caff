-- Each step but a forged reply keeps the lists beside the log.
use Rattle.std.proofs.Common.{◌≡◌, ◌≢◌, ◌⊎◌, ℕ, ◌+◌, ◌<◌, ◌≤◌, Bool, true, false, List, [], ◌∷◌}
use Rattle.std.proofs.Common.{◌++◌, Option, Some, None, arith, refl, sym, ◌∙◌, ap, subst}
use Rattle.std.proofs.Common.{inl, inr, ◌==◌, ◌&&◌, if◌then◌else◌}
use Rattle.std.specs.Prelude.{slice_get, slice_set, nat_lt, nat_le, ◌^◌, Result, Ok, Err}
use Rattle.std.proofs.lemmas.Bool.Decides.{nat_tests}
use Rattle.std.proofs.lemmas.Bool.{cases_lt}
use Rattle.access_slots.specs.Access.{fits}
use Rattle.access_slots.specs.declared.op.Op.{Op}
use Rattle.access_slots.specs.declared.op.Op.TheVariants.{Read, Insert, Update, Delete}
use Rattle.access_slots.specs.declared.op.Said.{Said}
use Rattle.access_slots.specs.declared.op.Said.TheVariants.{Old}
use Rattle.access_slots.specs.declared.op.Wire.{Wire}
use Rattle.access_slots.specs.declared.op.Reply.{Reply}
use Rattle.tc_log.specs.declared.event.Event.{Event}
use Rattle.tc_log.specs.declared.event.Event.TheVariants as event
use Rattle.tc_log.specs.declared.event.Outcome.{Outcome as Ending}
use Rattle.verifier.specs.Checked.{Checked}
use Rattle.history.specs.Flight.{Flight, open_op, given}
use Rattle.data_component.specs.Performed.{Performed, said_under}
use Rattle.data_component.specs.Store.{Store, replied, performed, checkpointed, restarted, news_of}
use Rattle.transactions.specs.declared.Sent.{Sent}
use Rattle.transactions.specs.Standing.{Standing, standing}
use Rattle.transactions.specs.Reached.{AllGood}
use Rattle.transactions.specs.Legal.{Legal}
use Rattle.transactions.proofs.StandingLemmas.{some_same, none_some}
use Rattle.transactions.proofs.Flights.{flight, standing_flight}
use Rattle.tc_core.specs.Core.{Core, Asking}
use Rattle.tc_core.specs.Replies.{with_event, ask_reply, after_ask, undo_reply, after_undo, end_of, is_heard, is_up}
use Rattle.tc_core.specs.Redo.{with_site, news_fault_by, lost_fault, IsRedone, after_told, redo_wire, redo_at}
use Rattle.tc_core.specs.Redo.{redo_by, sends_again, after_redo, after_redone, redone_to, redone_at, up_again}
use Rattle.tc_core.specs.declared.state.Down.{Down}
use Rattle.tc_core.specs.declared.state.NewsFault.TheVariants as fault
use Rattle.tc_core.specs.declared.state.Redo.TheVariants as redo
use Rattle.history.specs.Redo.{done_at, to_redo, IsToRedo, is_done}
use Rattle.history.specs.declared.Answered.{Answered}
use Rattle.transactions.specs.declared.Site.{Site}
use Rattle.transactions.specs.declared.Redoing.{Redoing}
use Rattle.transactions.specs.InFlight.{site_of, site_at, site_by, to_redo_by, under_redo}
use Rattle.transactions.proofs.Restarts.{IsRedo, redo_is, redo_dc, to_redo_is}
use Rattle.access_slots.specs.declared.op.News.{News}
use Rattle.tc_core.specs.Lent.{wire_of, wire_by, wire_for}
use Rattle.tc_core.specs.declared.state.Asked.{Asked}
use Rattle.tc_core.specs.declared.state.Asked.TheVariants as reply
use Rattle.tc_core.specs.Recovery.{first_events}
use Rattle.tc_world.specs.Recovery.{notes_of}
use Rattle.tc_world.proofs.ComingBack.{all_at, come_back_listed}
use Rattle.tc_world.proofs.CutListed.{cuts_listed}
use Rattle.tc_world.specs.Whole.{Whole}
use Rattle.tc_world.specs.Steps.{Goes, Stops, Steps, with_core, with_dcs, with_copy, with_reply, told, sends_or_holds, ends_by, resends_wire, resends_sent}
use Rattle.tc_world.specs.Steps.{resends_by, gets_reply, performs_at, performs_copy, takes_answer, TakesBy, TakesReply}
use Rattle.tc_world.specs.Steps.{restarts_as, restarts_at, checkpoints_at, tells_unless, tells_news, redoes_by, with_news}
use Rattle.tc_world.specs.declared.step.Step.{Step}
use Rattle.tc_world.specs.declared.step.Step.TheVariants as step
use Rattle.tc_world.specs.declared.step.Outcome.{Outcome}
use Rattle.tc_world.specs.declared.step.Illegal.{Illegal}
use Rattle.tc_world.specs.OneAtATime.{is_forge}
use Rattle.tc_world.specs.Joining.Listed.{IsListed, wires_since, replies_since}
use Rattle.serial.specs.Values.{Table}
use Rattle.serial.specs.Serial.{done, now_from, HonestTo}
use Rattle.serial.specs.Lists.{logged, dc_of}
use Rattle.history.specs.Anew.{begun}
use Rattle.tc_world.proofs.Passing.{pushed, above_in, above_more, above_same, past_performed, set_back}
use Rattle.serial.proofs.BackLemmas.{logged_above}
use Rattle.tc_world.proofs.Bases.{based_set, behind_set, performed_base, performed_behind, checkpointed_behind, restarted_behind}
use Rattle.serial.specs.Joining.Behind.{StandsTo, IsNext}
use Rattle.serial.specs.Joining.Site.{SiteOk}
use Rattle.serial.specs.Joining.Sites.{CopyOk, ReplyOk, NewsOk, AreOk}
use Rattle.serial.proofs.LockLemmas.{both_left, both_right}
use Rattle.serial.proofs.ListLemmas.{if_some}
use Rattle.serial.proofs.NumberLemmas.{logged_below, flight_logged, done_answer, done_logged, flights, flight_absent}
use Rattle.serial.proofs.StoreLemmas.{reply_case, ReplyCase, is_old, listed}
use Rattle.serial.proofs.AnsweredLemmas.{IsSo, answered_so}
use Rattle.serial.proofs.RedoLemmas.{LogFacts}
use Rattle.serial.proofs.LogLemmas.{log_facts}
use Rattle.serial.proofs.SiteLemmas.{stands_less, site_checkpoint, site_restart, site_redone, site_up}
use Rattle.serial.proofs.SitesLemmas.{set_same, ok_sent, ok_copy, ok_reply, ok_news, ok_stored, ok_resited, ok_told, ok_answered}
use Rattle.serial.proofs.WireLemmas.{Becomes, equal, performs_ok, reply_facts}
use Rattle.serial.proofs.RedoneLemmas.{found_done, none_left, before_next, next_above, one_less, over_low}

-- ---- what the state keeps

pub record Known (c : Core) : Type 0 where
  pub legal : Legal c.procs c.events
  pub good : AllGood c.procs

pub is_known : (c d : Core) → c ≡ d → Legal c.procs c.events → AllGood c.procs → Known d
is_known c d same legal good = subst Known same (record { legal = legal; good = good })

went : (o p : Outcome) (w v : Whole) → Goes o w ≡ Goes p v → w ≡ v
went o p w v goes = cc

stopped : (why : Illegal) (p : Outcome) (v : Whole) → Stops why ≡ Goes p v → ⊥
stopped why p v goes = cc

behind : (o p : Outcome) (w v : Whole) → IsListed w → Goes o w ≡ Goes p v → IsListed v
behind o p w v s goes = subst IsListed (went o p w v goes) s

known_behind : (o p : Outcome) (w v : Whole) → Known v.core → Goes o w ≡ Goes p v → Known w.core
known_behind o p w v known goes = subst (λ (x : Whole). Known x.core) (sym (went o p w v goes)) known

-- ---- lists

-- ---- what happens to a world

abbrev Lists : Table → Whole → Core → Type 0
Lists base w c = AreOk base (logged c.events) (open_op c.events) (done c.events) (given c.events) c.sites w.dcs (wires_since w) (replies_since w) w.news

-- a new number is given out
asked : (ps : List Checked) (base : Table) (w : Whole) (e : Event) (t n : ℕ) (o : Op) → Legal ps w.core.events → n ≡ given w.core.events + 1
    → logged (e ∷ w.core.events) ≡ (λ m. if n == m then Some o else logged w.core.events m)
    → open_op (e ∷ w.core.events) ≡ (λ m. if n == m then Some (flight t o) else open_op w.core.events m)
    → done (e ∷ w.core.events) ≡ done w.core.events → given (e ∷ w.core.events) ≡ n
    → Lists base w w.core → Lists base w (with_event w.core e)
asked ps base w e t n o legal next lg fl dn top k =
    let h = w.core.events in
    let new : (m : ℕ) (q : Op) → logged h m ≡ Some q → n ≢ m = (λ m q is. let b = logged_below ps h legal m q is in omega (arith, next, b)) in
    let now = ok_sent base (logged h) (open_op h) (done h) (given h) w.core.sites w.dcs (wires_since w) (replies_since w) w.news n (flight t o)
    (omega (arith, next)) new (λ m said is. done_logged ps h legal m said is) k in
    subst (λ (g : ℕ → Option Op). AreOk base g (open_op (e ∷ h)) (done (e ∷ h)) (given (e ∷ h)) w.core.sites w.dcs
    (wires_since w) (replies_since w) w.news) (sym lg)
    (subst (λ (g : ℕ → Option Flight). AreOk base (λ m. if n == m then Some o else logged h m) g (done (e ∷ h)) (given (e ∷ h)) w.core.sites w.dcs
    (wires_since w) (replies_since w) w.news) (sym fl)
    (subst (λ (g : List Performed). AreOk base (λ m. if n == m then Some o else logged h m) (λ m. if n == m then Some (flight t o) else open_op h m) g
    (given (e ∷ h)) w.core.sites w.dcs (wires_since w) (replies_since w) w.news) (sym dn)
    (subst (λ (g : ℕ). AreOk base (λ m. if n == m then Some o else logged h m) (λ m. if n == m then Some (flight t o) else open_op h m) (done h) g
    w.core.sites w.dcs (wires_since w) (replies_since w) w.news) (sym top) now)))

abbrev pub IsCopy : Table → Whole → (ℕ → List Performed) → Wire → Type 0
IsCopy base w v x = CopyOk base (logged w.core.events) (open_op w.core.events) (done w.core.events) (given w.core.events) w.core.sites w.dcs v x

copied : (w : Whole) (x : Wire) → Legal w.core.procs w.core.events → (s : IsListed w) → IsCopy s.base w s.ok.v x → IsListed (with_copy w x)
copied w x legal s y =
    record {
      honest = s.honest;
      base = s.base;
      based = s.based;
      behind = s.behind;
      past = pushed (λ (z : Wire). z.number ≤ begun w.core.events → z.low_water ≤ begun w.core.events) w.copies x s.past
          (λ old. absurd (omega (arith, up, old)));
      ok = subst (λ (xs : List Wire). AreOk s.base (logged w.core.events) (open_op w.core.events) (done w.core.events) (given w.core.events)
          w.core.sites w.dcs xs (replies_since w) w.news) (sym more)
          (ok_copy s.base (logged w.core.events) (open_op w.core.events) (done w.core.events) (given w.core.events) w.core.sites w.dcs (wires_since w)
          (replies_since w) w.news x s.ok y);
    }
  where
    up : begun w.core.events < x.number
    up = logged_above w.core.procs w.core.events legal x.number x.op y.logs

    more : wires_since (with_copy w x) ≡ wires_since w ++ x ∷ []
    more = above_more (λ (z : Wire). z.number) (begun w.core.events) w.copies x up

-- the wire of an open number
wire_ok : (base : Table) (w : Whole) (v : ℕ → List Performed) (r : Asking) (f : Flight) (redo : Option Redoing) (x : Wire)
    → Legal w.core.procs w.core.events → logged w.core.events r.number ≡ Some r.op → open_op w.core.events r.number ≡ Some f
    → (site_of w.core.sites r.op).redo ≡ redo → Ok x ≡ wire_by w.core r (site_of w.core.sites r.op).incarnation redo → IsCopy base w v x
wire_ok base w v r f (Some redo) x legal logs flies up is = absurd cc
wire_ok base w v r f None x legal logs flies up is =
    let y : Wire = wire_for w.core r (site_of w.core.sites r.op).incarnation in
    let same : y ≡ x = cc in
    subst (IsCopy base w v) same (record {
      logs = logs;
      known = omega arith;
      ahead = λ z is less. refl;
      over = over_low w.core.procs w.core.events legal;
      now = λ now. inl (record { ordinary = refl; up = up; runs = inl (f, flies) });
    })

sent_listed : (w v : Whole) (r : Asking) (f : Flight) (x : Result Wire Down) (o : Outcome) → Known v.core → x ≡ wire_of w.core r
    → logged w.core.events r.number ≡ Some r.op → open_op w.core.events r.number ≡ Some f → IsListed w → sends_or_holds w r x ≡ Goes o v → IsListed v
sent_listed w v r f (Ok x) o known is logs flies s goes =
    let was = known_behind _ o (with_copy w x) v known goes in
    behind _ o (with_copy w x) v (copied w x was.legal s (wire_ok s.base w s.ok.v r f (site_of w.core.sites r.op).redo x was.legal logs flies refl is)) goes
sent_listed w v r f (Err down) o known is logs flies s goes = behind _ o w v s goes

asks_listed : (w v : Whole) (t : ℕ) (a : Asked) (o : Outcome) → Known v.core → IsListed w → told w t (after_ask w.core a) a ≡ Goes o v → IsListed v
asks_listed w v t (reply.Request r) o known s goes = by (wire_of c r) refl goes
  where
    c : Core
    c = with_event w.core (event.Ask r.txn r.number r.op)

    mid : Known c → IsListed (with_core w c)
    mid now_known = record {
      honest = (tt, s.honest);
      base = s.base;
      based = s.based;
      behind = s.behind;
      past = s.past;
      ok = asked w.core.procs s.base w (event.Ask r.txn r.number r.op) r.txn r.number r.op now_known.legal.1 now_known.legal.0.next refl refl refl
          (sym now_known.legal.0.next) s.ok;
    }

    logs : logged c.events r.number ≡ Some r.op
    logs = if_some r.number r.number (Some r.op) (logged w.core.events r.number) refl

    flies : open_op c.events r.number ≡ Some (flight r.txn r.op)
    flies = if_some r.number r.number (Some (flight r.txn r.op)) (open_op w.core.events r.number) refl

    by : (x : Result Wire Down) → x ≡ wire_of c r → sends_or_holds (with_core w c) r x ≡ Goes o v → IsListed v
    by (Ok x) is goes' =
        sent_listed (with_core w c) v r (flight r.txn r.op) (Ok x) o known is logs flies
        (mid (known_behind _ o (with_copy (with_core w c) x) v known goes')) goes'
    by (Err down) is goes' =
        sent_listed (with_core w c) v r (flight r.txn r.op) (Err down) o known is logs flies
        (mid (known_behind _ o (with_core w c) v known goes')) goes'
asks_listed w v t reply.Undoing o known s goes = behind _ o w v s goes
asks_listed w v t reply.Over o known s goes = behind _ o w v s goes
asks_listed w v t (reply.Stuck n) o known s goes = behind _ o w v s goes
asks_listed w v t (reply.Waits n) o known s goes = absurd (stopped _ o v goes)
asks_listed w v t reply.Running o known s goes = absurd (stopped _ o v goes)
asks_listed w v t reply.Unknown o known s goes = absurd (stopped _ o v goes)

undoes_listed : (w v : Whole) (t : ℕ) (a : Asked) (o : Outcome) → Known v.core → IsListed w → told w t (after_undo w.core a) a ≡ Goes o v → IsListed v
undoes_listed w v t (reply.Request r) o known s goes = by (wire_of c r) refl goes
  where
    c : Core
    c = with_event w.core (event.Undo r.txn r.number r.op)

    mid : Known c → IsListed (with_core w c)
    mid now_known = record {
      honest = (tt, s.honest);
      base = s.base;
      based = s.based;
      behind = s.behind;
      past = s.past;
      ok = asked w.core.procs s.base w (event.Undo r.txn r.number r.op) r.txn r.number r.op now_known.legal.1 now_known.legal.0.next refl refl refl
          (sym now_known.legal.0.next) s.ok;
    }

    logs : logged c.events r.number ≡ Some r.op
    logs = if_some r.number r.number (Some r.op) (logged w.core.events r.number) refl

    flies : open_op c.events r.number ≡ Some (flight r.txn r.op)
    flies = if_some r.number r.number (Some (flight r.txn r.op)) (open_op w.core.events r.number) refl

    by : (x : Result Wire Down) → x ≡ wire_of c r → sends_or_holds (with_core w c) r x ≡ Goes o v → IsListed v
    by (Ok x) is goes' =
        sent_listed (with_core w c) v r (flight r.txn r.op) (Ok x) o known is logs flies
        (mid (known_behind _ o (with_copy (with_core w c) x) v known goes')) goes'
    by (Err down) is goes' =
        sent_listed (with_core w c) v r (flight r.txn r.op) (Err down) o known is logs flies
        (mid (known_behind _ o (with_core w c) v known goes')) goes'
undoes_listed w v t reply.Undoing o known s goes = behind _ o w v s goes
undoes_listed w v t reply.Over o known s goes = behind _ o w v s goes
undoes_listed w v t (reply.Stuck n) o known s goes = behind _ o w v s goes
undoes_listed w v t (reply.Waits n) o known s goes = absurd (stopped _ o v goes)
undoes_listed w v t reply.Running o known s goes = absurd (stopped _ o v goes)
undoes_listed w v t reply.Unknown o known s goes = absurd (stopped _ o v goes)

ends_listed : (w v : Whole) (t : ℕ) (s : Option Standing) (e : Option Ending) (o : Outcome) → IsListed w → ends_by w t s e ≡ Goes o v → IsListed v
ends_listed w v t None e o kept goes = absurd (stopped _ o v goes)
ends_listed w v t (Some s) None o kept goes = absurd (stopped _ o v goes)
ends_listed w v t (Some s) (Some e) o kept goes = behind _ o (with_core w (with_event w.core (event.End t e))) v
    (record { honest = (tt, kept.honest); base = kept.base; based = kept.based; behind = kept.behind; past = kept.past; ok = kept.ok }) goes

resends_listed : (w v : Whole) (t : ℕ) (s : Option Standing) (o : Outcome) → Known v.core → standing w.core.events t ≡ s
    → IsListed w → resends_by w t s ≡ Goes o v → IsListed v
resends_listed w v t None o known is kept goes = absurd (stopped _ o v goes)
resends_listed w v t (Some s) o known is kept goes = by s.sent refl goes
  where
    wires : (r : Sent) → s.sent ≡ Some r → (x : Result Wire Down) → x ≡ wire_of w.core (record { txn = t; number = r.number; op = r.op })
        → resends_wire w r.op x ≡ Goes o v → IsListed v
    wires r waits (Ok x) wire goes' =
        let was = known_behind _ o (with_copy w x) v known goes' in
        let flies = (standing_flight w.core.procs w.core.events was.legal t s r is waits).1 in
        let a : Asking = record { txn = t; number = r.number; op = r.op } in
        behind _ o (with_copy w x) v (copied w x was.legal kept
        (wire_ok kept.base w kept.ok.v a (flight t r.op) (site_of w.core.sites r.op).redo x was.legal
        (flight_logged w.core.events r.number (flight t r.op) flies) flies refl wire)) goes'
    wires r waits (Err down) wire goes' = absurd (stopped _ o v goes')

    by : (r : Option Sent) → s.sent ≡ r → resends_sent w t r ≡ Goes o v → IsListed v
    by None waits goes' = absurd (stopped _ o v goes')
    by (Some r) waits goes' = wires r waits (wire_of w.core (record { txn = t; number = r.number; op = r.op })) refl goes'

-- ---- a wire comes

abbrev with_store : Whole → Wire → Store → Whole
with_store w x d = with_dcs w (slice_set w.dcs (dc_of x.op) (performed d x))

gets_known : (w v : Whole) (x : Option Reply) (o : Outcome) → Known v.core → gets_reply w x ≡ Goes o v → Known w.core
gets_known w v None o known goes = known_behind _ o w v known goes
gets_known w v (Some x) o known goes = known_behind _ o (with_reply w x) v known goes

replied_listed : (w : Whole) (x : Reply) → Legal w.core.procs w.core.events → (s : IsListed w)
    → ReplyOk (logged w.core.events) w.core.sites w.dcs s.ok.v x → IsListed (with_reply w x)
replied_listed w x legal s y =
    record {
      honest = s.honest;
      base = s.base;
      based = s.based;
      behind = s.behind;
      past = s.past;
      ok = subst (λ (xs : List Reply). AreOk s.base (logged w.core.events) (open_op w.core.events) (done w.core.events) (given w.core.events)
          w.core.sites w.dcs (wires_since w) xs w.news) (sym more)
          (ok_reply s.base (logged w.core.events) (open_op w.core.events) (done w.core.events) (given w.core.events) w.core.sites w.dcs
          (wires_since w) (replies_since w) w.news x s.ok y);
    }
  where
    more : replies_since (with_reply w x) ≡ replies_since w ++ x ∷ []
    more = above_more (λ (z : Reply). z.number) (begun w.core.events) w.replies x (logged_above w.core.procs w.core.events legal x.number y.o y.logs)

-- one to a number from before the log began
old_reply : (w : Whole) (x : Reply) → x.number ≤ begun w.core.events → IsListed w → IsListed (with_reply w x)
old_reply w x old s =
    record {
      honest = s.honest;
      base = s.base;
      based = s.based;
      behind = s.behind;
      past = s.past;
      ok = subst (λ (xs : List Reply). AreOk s.base (logged w.core.events) (open_op w.core.events) (done w.core.events) (given w.core.events)
          w.core.sites w.dcs (wires_since w) xs w.news)
          (sym (above_same (λ (z : Reply). z.number) (begun w.core.events) w.replies x old)) s.ok;
    }

gets_listed : (w v : Whole) (x : Option Reply) (o : Outcome) → Known w.core → (s : IsListed w)
    → ((y : Reply) → x ≡ Some y → ReplyOk (logged w.core.events) w.core.sites w.dcs s.ok.v y) → gets_reply w x ≡ Goes o v → IsListed v
gets_listed w v None o known s said goes = behind _ o w v s goes
gets_listed w v (Some x) o known s said goes = behind _ o (with_reply w x) v (replied_listed w x known.legal s (said x refl)) goes

gets_old : (w v : Whole) (x : Option Reply) (o : Outcome) → ((y : Reply) → x ≡ Some y → y.number ≤ begun w.core.events)
    → IsListed w → gets_reply w x ≡ Goes o v → IsListed v
gets_old w v None o old s goes = behind _ o w v s goes
gets_old w v (Some x) o old s goes = behind _ o (with_reply w x) v (old_reply w x (old x refl) s) goes

performs_at_listed : (w v : Whole) (x : Wire) (d : Option Store) (o : Outcome) → Known v.core → slice_get w.dcs (dc_of x.op) ≡ d → (s : IsListed w)
    → IsCopy s.base w s.ok.v x → performs_at w x d ≡ Goes o v → IsListed v
performs_at_listed w v x None o known at s y goes = absurd (stopped _ o v goes)
performs_at_listed w v x (Some d) o known at s y goes = gets_listed (with_store w x d) v (replied d x) o was
    (record {
      honest = s.honest;
      base = s.base;
      based = based_set s.base w.dcs (dc_of x.op) d (performed d x) at (performed_base d x) s.based;
      behind = behind_set (begun w.core.events) w.dcs (dc_of x.op) d (performed d x) at (performed_behind (begun w.core.events) d x) s.behind;
      past = s.past;
      ok = both.0;
    }) said goes
  where
    was : Known w.core
    was = gets_known (with_store w x d) v (replied d x) o known goes

    j : ℕ
    j = dc_of x.op

    facts : LogFacts s.base (logged w.core.events) (open_op w.core.events) (done w.core.events)
    facts = log_facts w.core.procs s.base w.core.events was.good was.legal s.honest

    becomes : Becomes s.base (logged w.core.events) (open_op w.core.events) (done w.core.events) (given w.core.events) (dc_of x.op) d (performed d x)
        (site_at w.core.sites (dc_of x.op)) (s.ok.v (dc_of x.op))
    becomes = performs_ok s.base (logged w.core.events) (open_op w.core.events) (done w.core.events) (given w.core.events) d (site_at w.core.sites j)
        (s.ok.v j) x facts (λ m g is. flight_logged w.core.events m g is) y.logs y.known (y.ahead d at) y.over y.now (s.ok.stores j d at)

    both : (l : AreOk s.base (logged w.core.events) (open_op w.core.events) (done w.core.events) (given w.core.events) w.core.sites
        (slice_set w.dcs (dc_of x.op) (performed d x)) (wires_since w) (replies_since w) w.news)
        × (l.v ≡ (λ i. if dc_of x.op == i then becomes.u else s.ok.v i))
    both = ok_stored s.base (logged w.core.events) (open_op w.core.events) (done w.core.events) (given w.core.events) w.core.sites w.dcs
        (wires_since w) (replies_since w) w.news j d (performed d x) becomes.u at s.ok
        (let same = becomes.incarnation in omega (arith, same)) becomes.grows
        (λ less p to. subst (StandsTo (logged w.core.events) (done w.core.events) j p) (sym (becomes.lists less)) to) becomes.ok

    said : (z : Reply) → replied d x ≡ Some z → ReplyOk (logged w.core.events) w.core.sites (slice_set w.dcs (dc_of x.op) (performed d x)) both.0.v z
    said z is =
        let it = reply_facts d x z is in
        record {
          o = x.op;
          logs = ap (logged w.core.events) it.number ∙ y.logs;
          s = performed d x;
          at = set_same w.dcs j d (performed d x) at;
          known = (let a = it.incarnation in let b = it.heard in let c = y.known in omega (arith, a, b, c));
          now = λ now. by (reply_case d x z is) (let a = it.incarnation in let b = becomes.incarnation in omega (arith, a, b, now));
        }
      where
        by : ReplyCase d x z → (site_at w.core.sites (dc_of x.op)).incarnation ≡ (performed d x).incarnation
            → (z.said ≡ Old) ⊎ (said_under (both.0.v (dc_of x.op)) z.number ≡ Some z.said)
        by (is_old old) now = inl old
        by (listed number under) now =
            let list : (performed d x).list ≡ becomes.u = becomes.ok.same now in
            let ghost_is : both.0.v j ≡ becomes.u = ap (λ (g : ℕ → List Performed). g j) both.1 ∙ if_some j j becomes.u (s.ok.v j) refl in
            inr (ap (λ (l : List Performed). said_under l z.number) (ghost_is ∙ sym list) ∙ under)

-- one of a number from before the log began changes nothing
performs_old : (w v : Whole) (x : Wire) (d : Option Store) (o : Outcome) → slice_get w.dcs (dc_of x.op) ≡ d → x.number ≤ begun w.core.events
    → x.low_water ≤ begun w.core.events → IsListed w → performs_at w x d ≡ Goes o v → IsListed v
performs_old w v x None o at old low s goes = absurd (stopped _ o v goes)
performs_old w v x (Some d) o at old low s goes =
    let same : performed d x ≡ d = past_performed (begun w.core.events) d x (s.behind (dc_of x.op) d at) old low in
    let stays : slice_set w.dcs (dc_of x.op) (performed d x) ≡ w.dcs = ap (slice_set w.dcs (dc_of x.op)) same ∙ set_back w.dcs (dc_of x.op) d at in
    gets_old w v (replied d x) o (λ y is. (let number = (reply_facts d x y is).number in omega (arith, number, old))) s
    (subst (λ (xs : List Store). gets_reply (with_dcs w xs) (replied d x) ≡ Goes o v) stays goes)

performs_copy_listed : (w v : Whole) (i : ℕ) (x : Option Wire) (o : Outcome) → Known v.core → slice_get w.copies i ≡ x
    → IsListed w → performs_copy w x ≡ Goes o v → IsListed v
performs_copy_listed w v i None o known at s goes = absurd (stopped _ o v goes)
performs_copy_listed w v i (Some x) o known at s goes = elim (cases_lt (begun w.core.events) x.number) [
  | inl up ↦
      let here = above_in (λ (z : Wire). z.number) (begun w.core.events) w.copies i x at up in
      performs_at_listed w v x (slice_get w.dcs (dc_of x.op)) o known refl s (all_at (IsCopy s.base w s.ok.v) (wires_since w) here.0 x here.1 s.ok.copies) goes
  | inr old ↦ performs_old w v x (slice_get w.dcs (dc_of x.op)) o refl old (s.past i x at old) s goes
]

-- ---- a reply is taken

old_never_fits : (o : Op) → fits o Old ≡ false
old_never_fits (Read r) = refl
old_never_fits (Insert r v) = refl
old_never_fits (Update r v) = refl
old_never_fits (Delete r) = refl

up_by : (redo : Option Redoing) (b : Bool) → (is_up redo && b) ≡ true → redo ≡ None
up_by None b e = refl
up_by (Some r) b e = absurd cc

took : (w : Whole) (f : Flight) (x : Reply) → Known (with_event w.core (event.Answer f.txn x.number x.said)) → open_op w.core.events x.number ≡ Some f
    → is_heard (site_of w.core.sites f.op) x ≡ true → fits f.op x.said ≡ true
    → (s : IsListed w) → ReplyOk (logged w.core.events) w.core.sites w.dcs s.ok.v x
    → IsListed (with_core w (with_event w.core (event.Answer f.txn x.number x.said)))
took w f x known flies heard fit s y =
    let h = w.core.events in
    let legal = known.legal.1 in
    let logs : logged h x.number ≡ Some f.op = flight_logged h x.number f flies in
    let same : y.o ≡ f.op = some_same y.o f.op (sym y.logs ∙ logs) in
    let up : (site_at w.core.sites (dc_of f.op)).redo ≡ None = up_by _ _ heard in
    let now : x.incarnation ≡ (site_at w.core.sites (dc_of f.op)).incarnation = sym (equal _ _ (both_right (is_up (site_of w.core.sites f.op).redo) _ heard)) in
    let at : slice_get w.dcs (dc_of f.op) ≡ Some y.s = subst (λ (o : Op). slice_get w.dcs (dc_of o) ≡ Some y.s) same y.at in
    let either : (x.said ≡ Old) ⊎ (said_under (s.ok.v (dc_of f.op)) x.number ≡ Some x.said) = subst
    (λ (o : Op). (x.said ≡ Old) ⊎ (said_under (s.ok.v (dc_of o)) x.number ≡ Some x.said)) same
    (y.now (now ∙ ap (λ (o : Op). (site_at w.core.sites (dc_of o)).incarnation) (sym same))) in
    let there : said_under (s.ok.v (dc_of f.op)) x.number ≡ Some x.said = elim either [
      | inl old ↦ absurd (let bad : false ≡ true = sym (old_never_fits f.op) ∙ (ap (fits f.op) (sym old) ∙ fit) in cc)
      | inr under ↦ under
    ] in
    let site = s.ok.stores (dc_of f.op) y.s at in
    let honest : HonestTo (Some f) x.said (now_from s.base h) = (site.up up).honest x.number f x.said flies there in
    let becomes : done (event.Answer f.txn x.number x.said ∷ h) ≡ (x.number, f.op, x.said) ∷ done h = done_answer h f.txn x.number f x.said flies in
    record {
      honest = (subst (λ (z : Option Flight). HonestTo z x.said (now_from s.base h)) (sym flies) honest, s.honest);
      base = s.base;
      based = s.based;
      behind = s.behind;
      past = s.past;
      ok = subst (λ (z : List Performed). AreOk s.base (logged h) (λ m. if x.number == m then None else open_op h m) z (given h) w.core.sites w.dcs
          (wires_since w) (replies_since w) w.news) (sym becomes)
          (ok_answered s.base (logged h) (open_op h) (done h) (given h) w.core.sites w.dcs (wires_since w) (replies_since w) w.news x.number f x.said
          y.s flies logs fit (flights w.core.procs h known.good legal x.number f flies) (flight_absent w.core.procs h legal x.number f flies) at
          up s.ok there);
    }

takes_answer_listed : (w v : Whole) (f : Flight) (x : Reply) (b : Bool) (o : Outcome) → Known v.core → open_op w.core.events x.number ≡ Some f
    → (is_heard (site_of w.core.sites f.op) x && fits f.op x.said) ≡ b
    → (s : IsListed w) → ReplyOk (logged w.core.events) w.core.sites w.dcs s.ok.v x → takes_answer w f x b ≡ Goes o v → IsListed v
takes_answer_listed w v f x false o known flies fit s y goes = absurd (stopped _ o v goes)
takes_answer_listed w v f x true o known flies fit s y goes =
    let e = event.Answer f.txn x.number x.said in
    let now_known = known_behind _ o (with_core w (with_event w.core e)) v known goes in
    behind _ o (with_core w (with_event w.core e)) v (took w f x now_known flies
    (both_left (is_heard (site_of w.core.sites f.op) x) (fits f.op x.said) fit)
    (both_right (is_heard (site_of w.core.sites f.op) x) (fits f.op x.said) fit) s y) goes

not_old : (said : Said) → is_done said ≡ true → said ≡ Old → ⊥
not_old said did old = (let bad : true ≡ false = sym did ∙ ap is_done old in cc)

redone_listed : (w : Whole) (x : Reply) (d : ℕ) → Known w.core → (is : IsRedone w.core d x) → (s : IsListed w)
    → ReplyOk (logged w.core.events) w.core.sites w.dcs s.ok.v x → IsListed (with_core w (after_redone w.core d x.number))
redone_listed w x d known is s y =
    subst (λ (z : Option Site). IsListed (with_core w (redone_at w.core d x.number z))) (sym is.there)
    (subst (λ (z : Option Redoing). IsListed (with_core w (with_site w.core d (record is.site { redo = redone_to x.number z })))) (sym is.down)
    (record { honest = s.honest; base = s.base; based = s.based; behind = s.behind; past = s.past; ok = now_ok }))
  where
    h : List Event
    h = w.core.events

    t' : Site
    t' = record is.site { redo = Some (record is.r { redone = x.number }) }

    site_is : site_at w.core.sites d ≡ is.site
    site_is = ap site_by is.there

    under : under_redo h w.core.sites d ≡ Some is.a
    under = ap (λ (z : Site). to_redo_by h d z.redo) site_is ∙ (ap (to_redo_by h d) is.down ∙ is.next)

    it : IsRedo h w.core.sites d is.a
    it = redo_is w.core.procs h known.legal w.core.sites d is.a under

    so : IsSo h is.a.number is.a
    so = answered_so w.core.procs h known.legal is.a.number is.a it.answered_so

    dc : dc_of is.a.op ≡ d
    dc = redo_dc w.core.procs h known.legal w.core.sites d is.a under

    did : is_done is.a.said ≡ true
    did = both_left _ _ it.done

    same_op : y.o ≡ is.a.op
    same_op = some_same y.o is.a.op (sym y.logs ∙ (ap (logged h) is.same_number ∙ so.0))

    here : dc_of y.o ≡ d
    here = ap dc_of same_op ∙ dc

    there : said_under (s.ok.v d) x.number ≡ Some is.a.said
    there =
        let now : x.incarnation ≡ (site_at w.core.sites (dc_of y.o)).incarnation = is.same_incarnation
        ∙ (ap (λ (z : Site). z.incarnation) (sym site_is) ∙ ap (λ (i : ℕ). (site_at w.core.sites i).incarnation) (sym here)) in
        elim (y.now now) [
          | inl old ↦ absurd (not_old is.a.said did (sym is.same_answer ∙ old))
          | inr said ↦ subst (λ (i : ℕ). said_under (s.ok.v i) x.number ≡ Some x.said) here said ∙ ap (λ (z : Said). Some z) is.same_answer
        ]

    rises : is.r.redone < x.number
    rises = (let a = next_above w.core.procs h known.legal d is.r.redone is.a is.next in let b = is.same_number in omega (arith, a, b))

    next : IsNext (logged h) (done h) d is.r.redone x.number is.a.op is.a.said
    next =
        let number = is.same_number in
        record {
          logs = ap (logged h) number ∙ so.0;
          dc = dc;
          was = ap (said_under (done h)) number ∙ so.1;
          did = did;
          least = λ m q u logs dc' was did' above. least_is m (found_done w.core.procs h known.legal d m q u logs dc' was did') above;
        }
      where
        least_is : (m : ℕ) → (a : Answered) × (done_at h d m ≡ Some a) → is.r.redone < m → x.number ≤ m
        least_is m found above = elim (cases_lt m x.number) [
          | inl below ↦
              let least = subst (IsToRedo h d is.r.redone) is.next (to_redo_is w.core.procs h known.legal d is.r.redone) in
              absurd (none_some _ found.0 (least.2 m above (let number = is.same_number in omega (arith, below, number))) found.1)
          | inr not_below ↦ omega (arith, not_below)
        ]

    now_ok : AreOk s.base (logged w.core.events) (open_op w.core.events) (done w.core.events) (given w.core.events)
        (slice_set w.core.sites d (record is.site { redo = Some (record is.r { redone = x.number }) })) w.dcs (wires_since w) (replies_since w) w.news
    now_ok = ok_resited s.base (logged h) (open_op h) (done h) (given h) w.core.sites w.dcs (wires_since w) (replies_since w) w.news d is.site t'
        is.there refl (λ up. absurd (none_some _ is.r up is.down)) s.ok
        (λ r down. (y.s, subst (λ (i : ℕ). slice_get w.dcs i ≡ Some y.s) here y.at))
        (λ z ok. site_redone s.base (logged h) (open_op h) (done h) (given h) d z is.site (s.ok.v d)
        is.r x.number is.a.op is.a.said is.down next rises there ok)

redone_above : (w : Whole) (x : Reply) (d : ℕ) → Known w.core → IsRedone w.core d x → begun w.core.events < x.number
redone_above w x d known is =
    let h = w.core.events in
    let site : site_at w.core.sites d ≡ is.site = ap site_by is.there in
    let under : under_redo h w.core.sites d ≡ Some is.a = ap (λ (z : Site). to_redo_by h d z.redo) site ∙ (ap (to_redo_by h d) is.down ∙ is.next) in
    let so = answered_so w.core.procs h known.legal is.a.number is.a (redo_is w.core.procs h known.legal w.core.sites d is.a under).answered_so in
    logged_above w.core.procs h known.legal x.number is.a.op (ap (logged h) is.same_number ∙ so.0)

heard : (w : Whole) (i : ℕ) (x : Reply) → slice_get w.replies i ≡ Some x → (s : IsListed w) → begun w.core.events < x.number
    → ReplyOk (logged w.core.events) w.core.sites w.dcs s.ok.v x
heard w i x at s up =
    let here = above_in (λ (z : Reply). z.number) (begun w.core.events) w.replies i x at up in
    all_at (ReplyOk (logged w.core.events) w.core.sites w.dcs s.ok.v) (replies_since w) here.0 x here.1 s.ok.replies

takes_listed : (w v : Whole) (i : ℕ) (x : Option Reply) (o : Outcome) → Known v.core → slice_get w.replies i ≡ x → IsListed w → TakesReply w x o v → IsListed v
takes_listed w v i None o known at s takes = absurd takes
takes_listed w v i (Some x) o known at s takes = by (open_op w.core.events x.number) refl takes
  where
    by : (f : Option Flight) → open_op w.core.events x.number ≡ f → TakesBy w x f o v → IsListed v
    by None flies takes' =
        let was : Known w.core = known_redone w x.number takes'.dc (slice_get w.core.sites takes'.dc) (subst (λ (z : Whole). Known z.core) takes'.next known) in
        subst IsListed (sym takes'.next) (redone_listed w x takes'.dc was takes'.is s (heard w i x at s (redone_above w x takes'.dc was takes'.is)))
      where
        known_redone : (w : Whole) (n d : ℕ) (z : Option Site) → Known (redone_at w.core d n z) → Known w.core
        known_redone w n d None k = k
        known_redone w n d (Some z) k = record { legal = k.legal; good = k.good }
    by (Some f) flies takes' = answers (is_heard (site_of w.core.sites f.op) x && fits f.op x.said) refl takes'
      where
        answers : (b : Bool) → (is_heard (site_of w.core.sites f.op) x && fits f.op x.said) ≡ b → takes_answer w f x b ≡ Goes o v → IsListed v
        answers false fit goes = absurd (stopped _ o v goes)
        answers true fit goes =
            let now : Known (with_event w.core (event.Answer f.txn x.number x.said)) = known_behind _ o
            (with_core w (with_event w.core (event.Answer f.txn x.number x.said))) v known goes in
            let up = logged_above w.core.procs w.core.events now.legal.1 x.number f.op (flight_logged w.core.events x.number f flies) in
            takes_answer_listed w v f x true o known flies fit s (heard w i x at s up) goes

-- ---- restarts

same_ghost : (w : Whole) (s : IsListed w) (j : ℕ) → (m : ℕ) (said : Said) → said_under (s.ok.v j) m ≡ Some said → said_under (s.ok.v j) m ≡ Some said
same_ghost w s j m said under = under

checkpoints_listed : (w v : Whole) (d : ℕ) (x : Option Store) (o : Outcome) → slice_get w.dcs d ≡ x → IsListed w → checkpoints_at w d x ≡ Goes o v → IsListed v
checkpoints_listed w v d None o at s goes = absurd (stopped _ o v goes)
checkpoints_listed w v d (Some x) o at s goes =
    let h = w.core.events in
    let site = site_checkpoint s.base (logged h) (open_op h) (done h) (given h) d x (site_at w.core.sites d) (s.ok.v d) (s.ok.stores d x at) in
    let both = ok_stored s.base (logged h) (open_op h) (done h) (given h) w.core.sites w.dcs (wires_since w) (replies_since w) w.news d x
    (checkpointed x) (s.ok.v d) at s.ok (omega arith) (same_ghost w s d) (λ less p to. to) site in
    behind _ o (with_dcs w (slice_set w.dcs d (checkpointed x))) v
    (record {
      honest = s.honest;
      base = s.base;
      based = based_set s.base w.dcs d x (checkpointed x) at refl s.based;
      behind = behind_set (begun h) w.dcs d x (checkpointed x) at (checkpointed_behind (begun h) x) s.behind;
      past = s.past;
      ok = both.0;
    }) goes

restarts_listed : (w v : Whole) (d : ℕ) (x : Option Store) (o : Outcome) → slice_get w.dcs d ≡ x → IsListed w → restarts_at w d x ≡ Goes o v → IsListed v
restarts_listed w v d None o at s goes = absurd (stopped _ o v goes)
restarts_listed w v d (Some x) o at s goes = by (nat_le (2 ^ 62) x.incarnation) goes
  where
    h : List Event
    h = w.core.events

    was : SiteOk s.base (logged w.core.events) (open_op w.core.events) (done w.core.events) (given w.core.events) d x (site_at w.core.sites d) (s.ok.v d)
    was = s.ok.stores d x at

    both : (l : AreOk s.base (logged w.core.events) (open_op w.core.events) (done w.core.events) (given w.core.events) w.core.sites
        (slice_set w.dcs d (restarted x)) (wires_since w) (replies_since w) w.news) × (l.v ≡ (λ i. if d == i then s.ok.v d else s.ok.v i))
    both = ok_stored s.base (logged h) (open_op h) (done h) (given h) w.core.sites w.dcs (wires_since w) (replies_since w) w.news d x (restarted x)
        (s.ok.v d) at s.ok (omega arith) (same_ghost w s d)
        (λ less p to. subst (StandsTo (logged h) (done h) d p) (was.idle less) to)
        (site_restart s.base (logged h) (open_op h) (done h) (given h) d x (site_at w.core.sites d) (s.ok.v d) was)

    by : (b : Bool) → restarts_as w d x b ≡ Goes o v → IsListed v
    by true goes' = absurd (stopped _ o v goes')
    by false goes' =
        let n : ℕ × News = (d, news_of (restarted x)) in
        behind _ o (with_news (with_dcs w (slice_set w.dcs d (restarted x))) d (news_of (restarted x))) v
        (record {
          honest = s.honest;
          base = s.base;
          based = based_set s.base w.dcs d x (restarted x) at refl s.based;
          behind = behind_set (begun h) w.dcs d x (restarted x) at (restarted_behind (begun h) x) s.behind;
          past = s.past;
          ok = ok_news s.base (logged h) (open_op h) (done h) (given h) w.core.sites
              (slice_set w.dcs d (restarted x)) (wires_since w) (replies_since w) w.news n both.0
              (record { s = restarted x; at = set_same w.dcs d x (restarted x) at; over = was.saved_over; made = omega arith; later = λ less. was.saved_to });
        }) goes'

lt_true : (a b : ℕ) → nat_lt a b ≡ true → a < b
lt_true a b e = grind (arith, nat_tests)

told_by : (w v : Whole) (x : ℕ × News) (t : Option Site) (o : Outcome) → slice_get w.core.sites x.0 ≡ t → (s : IsListed w)
    → NewsOk s.base (logged w.core.events) (open_op w.core.events) (done w.core.events) (given w.core.events) w.core.sites w.dcs x
    → tells_unless w x.0 x.1 (news_fault_by (begun w.core.events) t x.1) ≡ Goes o v → IsListed v
told_by w v x None o at s y goes = absurd (stopped _ o v goes)
told_by w v x (Some t) o at s y goes = by (nat_lt t.incarnation x.1.incarnation) refl goes
  where
    h : List Event
    h = w.core.events

    by : (b : Bool) → nat_lt t.incarnation x.1.incarnation ≡ b
        → tells_unless w x.0 x.1 (if b then lost_fault (begun w.core.events) x.1 else Some fault.OldNews) ≡ Goes o v → IsListed v
    by false less goes' = absurd (stopped _ o v goes')
    by true less goes' = taken (nat_lt x.1.mark (begun w.core.events)) less goes'
      where
        taken : (b : Bool) → nat_lt t.incarnation x.1.incarnation ≡ true
            → tells_unless w x.0 x.1 (if b then Some fault.Forgotten else None) ≡ Goes o v → IsListed v
        taken true less goes' = absurd (stopped _ o v goes')
        taken false less goes' =
            let later : t.incarnation < x.1.incarnation = lt_true t.incarnation x.1.incarnation less in
            let known : (site_at w.core.sites x.0).incarnation ≡ t.incarnation = ap (λ (z : Option Site). (site_by z).incarnation) at in
            behind _ o (with_core w (after_told w.core x.0 x.1)) v
            (record {
              honest = s.honest;
              base = s.base;
              based = s.based;
              behind = s.behind;
              past = s.past;
              ok = ok_told s.base (logged h) (open_op h) (done h) (given h) w.core.sites w.dcs (wires_since w) (replies_since w) w.news x.0
                  x.1.incarnation x.1.mark y.s t at y.at later y.made (y.later (omega (arith, known, later))) y.over s.ok;
            }) goes'

tells_listed : (w v : Whole) (i : ℕ) (x : Option (ℕ × News)) (o : Outcome) → slice_get w.news i ≡ x → IsListed w → tells_news w x ≡ Goes o v → IsListed v
tells_listed w v i None o at s goes = absurd (stopped _ o v goes)
tells_listed w v i (Some x) o at s goes =
    told_by w v x (slice_get w.core.sites x.0) o refl s
    (all_at (NewsOk s.base (logged w.core.events) (open_op w.core.events) (done w.core.events)
    (given w.core.events) w.core.sites w.dcs) w.news i x at s.ok.news) goes

redoes_listed : (w v : Whole) (d : ℕ) (x : Option Site) (o : Outcome) → Known v.core → slice_get w.core.sites d ≡ x → IsListed w
    → redoes_by w d (redo_at w.core d x) ≡ Goes o v → IsListed v
redoes_listed w v d None o known at s goes = absurd (stopped _ o v goes)
redoes_listed w v d (Some x) o known at s goes = by x.redo refl goes
  where
    h : List Event
    h = w.core.events

    by : (r : Option Redoing) → x.redo ≡ r → redoes_by w d (redo_by w.core d x.incarnation r) ≡ Goes o v → IsListed v
    by None is goes' = absurd (stopped _ o v goes')
    by (Some r) is goes' = sends (to_redo w.core.events d r.redone) refl goes'
      where
        down : (site_at w.core.sites d).redo ≡ Some r
        down = ap (λ (z : Option Site). (site_by z).redo) at ∙ is

        store : (z : Store) × (slice_get w.dcs d ≡ Some z)
        store = s.ok.there d r down

        site : SiteOk s.base (logged w.core.events) (open_op w.core.events) (done w.core.events)
            (given w.core.events) d store.0 (site_at w.core.sites d) (s.ok.v d)
        site = s.ok.stores d store.0 store.1

        sends : (a : Option Answered) → to_redo w.core.events d r.redone ≡ a → redoes_by w d (sends_again x.incarnation r.mark a) ≡ Goes o v → IsListed v
        sends (Some a) next goes'' =
            let y = redo_wire x.incarnation r.mark a in
            let was = known_behind _ o (with_copy w y) v known goes'' in
            let under : under_redo h w.core.sites d ≡ Some a = ap (to_redo_by h d) down ∙ next in
            let it = redo_is w.core.procs h was.legal w.core.sites d a under in
            let so = answered_so w.core.procs h was.legal a.number a it.answered_so in
            let dc : dc_of a.op ≡ d = redo_dc w.core.procs h was.legal w.core.sites d a under in
            let redone = site.down r down in
            let above = next_above w.core.procs h was.legal d r.redone a next in
            let p = one_less a.number r.redone above in
            let before = before_next w.core.procs h was.legal d r.redone p.0 a (s.ok.v d) next p.1 redone.stands in
            let low = stands_less (logged h) (done h) d r.mark r.redone (s.ok.v d) redone.told_le redone.stands in
            behind _ o (with_copy w y) v (copied w y was.legal s (record {
              logs = so.0;
              known = subst (λ (i : ℕ). x.incarnation ≤ (site_at w.core.sites i).incarnation) (sym dc)
                  (let e = ap (λ (z : Option Site). (site_by z).incarnation) at in omega (arith, e));
              ahead = λ z is less. subst (λ (i : ℕ). x.incarnation ≡ (site_at w.core.sites i).incarnation)
                  (sym dc) (sym (ap (λ (z : Option Site). (site_by z).incarnation) at));
              over = redone.told_over;
              now = λ now. inr (record {
                redo = refl;
                dc = refl;
                said = a.said;
                was = so.1;
                did = both_left _ _ it.done;
                p = p.0;
                next = p.1;
                before = subst (λ (i : ℕ). StandsTo (logged h) (done h) i p.0 (s.ok.v i)) (sym dc) before;
                low = subst (λ (i : ℕ). StandsTo (logged h) (done h) i r.mark (s.ok.v i)) (sym dc) low;
              });
            })) goes''
        sends None next goes'' =
            let t' : Site = record x { redo = None } in
            let was : Known w.core = known_up w d (slice_get w.core.sites d)
            (known_behind _ o (with_core w (after_redo w.core d redo.Finished)) v known goes'') in
            let facts = log_facts w.core.procs s.base h was.good was.legal s.honest in
            let ok = ok_resited s.base (logged h) (open_op h) (done h) (given h) w.core.sites w.dcs
            (wires_since w) (replies_since w) w.news d x t' at refl (λ up. refl) s.ok
            (λ q e. absurd (none_some _ q refl e))
            (λ z k. site_up s.base (logged h) (open_op h) (done h) (given h) d z x (s.ok.v d) r facts is
            (λ n q said logs dc was' did. none_left w.core.procs h was.legal d r.redone next n q said logs dc was' did) k) in
            behind _ o (with_core w (after_redo w.core d redo.Finished)) v
            (subst (λ (y : Option Site). IsListed (with_core w (up_again w.core d y))) (sym at)
            (record { honest = s.honest; base = s.base; based = s.based; behind = s.behind; past = s.past; ok = ok })) goes''
          where
            known_up : (w : Whole) (d : ℕ) (z : Option Site) → Known (up_again w.core d z) → Known w.core
            known_up w d None k = k
            known_up w d (Some z) k = record { legal = k.legal; good = k.good }

-- whatever the step is, but a forged reply
pub stay_listed : (w v : Whole) (x : Step) (o : Outcome) → Known w.core → Known v.core → is_forge x ≡ false → Steps w x o v → IsListed w → IsListed v
stay_listed w v (step.Admit call) o was known honest goes s = subst IsListed (sym goes.next)
    (record { honest = (tt, s.honest); base = s.base; based = s.based; behind = s.behind; past = s.past; ok = s.ok })
stay_listed w v (step.Ask t) o was known honest goes s = asks_listed w v t (ask_reply w.core t) o known s goes
stay_listed w v (step.Undo t) o was known honest goes s = undoes_listed w v t (undo_reply w.core t) o known s goes
stay_listed w v (step.End t) o was known honest goes s = ends_listed w v t (standing w.core.events t) (end_of w.core t) o s goes
stay_listed w v (step.Resend t) o was known honest goes s = resends_listed w v t (standing w.core.events t) o known refl s goes
stay_listed w v (step.Perform i) o was known honest goes s = performs_copy_listed w v i (slice_get w.copies i) o known refl s goes
stay_listed w v (step.Take i) o was known honest goes s = takes_listed w v i (slice_get w.replies i) o known refl s goes
stay_listed w v (step.Restart d) o was known honest goes s = restarts_listed w v d (slice_get w.dcs d) o refl s goes
stay_listed w v (step.Forge x) o was known honest goes s = absurd (let bad : true ≡ false = honest in cc)
stay_listed w v (step.Checkpoint d) o was known honest goes s = checkpoints_listed w v d (slice_get w.dcs d) o refl s goes
stay_listed w v (step.Tell i) o was known honest goes s = tells_listed w v i (slice_get w.news i) o refl s goes
stay_listed w v (step.Redo d) o was known honest goes s = redoes_listed w v d (slice_get w.core.sites d) o known refl s goes
stay_listed w v (step.Crash n) o was known honest goes s =
    subst IsListed (sym goes.next) (come_back_listed w (first_events n w.core.events) (notes_of w) was.good was.legal goes.may.written s)
stay_listed w v step.Cut o was known honest goes s = cuts_listed w v o was.legal known.legal goes s
