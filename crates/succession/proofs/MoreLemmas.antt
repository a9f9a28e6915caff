-- Each step is possible where further wires are on their way, and leaves the same.
use Rattle.std.proofs.Common.{◌≡◌, ℕ, zero, suc, Bool, true, false, ◌&&◌, List, [], ◌∷◌, ◌++◌, Option, Some, None, refl, sym, subst}
use Rattle.std.specs.Prelude.{◌^◌, slice_get, slice_set, nat_le, Result, Ok, Err}
use Rattle.access_slots.specs.Access.{fits}
use Rattle.access_slots.specs.declared.op.Wire.{Wire}
use Rattle.access_slots.specs.declared.op.Reply.{Reply}
use Rattle.access_slots.specs.declared.op.News.{News}
use Rattle.tc_log.specs.declared.event.Outcome.{Outcome as Ending}
use Rattle.tc_log.specs.declared.event.Event.TheVariants as event
use Rattle.history.specs.Flight.{Flight, open_op}
use Rattle.transactions.specs.declared.Sent.{Sent}
use Rattle.transactions.specs.InFlight.{site_of}
use Rattle.transactions.specs.Standing.{Standing, standing}
use Rattle.transactions.proofs.StandingLemmas.{none_some}
use Rattle.data_component.specs.Store.{Store, replied, performed}
use Rattle.tc_core.specs.Core.{Core}
use Rattle.tc_core.specs.Replies.{with_event, ask_reply, after_ask, undo_reply, after_undo, end_of, is_heard}
use Rattle.tc_core.specs.Lent.{wire_of}
use Rattle.tc_core.specs.Redo.{news_fault, after_told, redo_reply, after_redo}
use Rattle.tc_core.specs.declared.state.Asked.{Asked}
use Rattle.tc_core.specs.declared.state.Asked.TheVariants as reply
use Rattle.tc_core.specs.declared.state.Down.{Down}
use Rattle.tc_core.specs.declared.state.NewsFault.{NewsFault}
use Rattle.tc_core.specs.declared.state.NewsFault.TheVariants as fault
use Rattle.tc_core.specs.declared.state.Redo.{Redo}
use Rattle.tc_core.specs.declared.state.Redo.TheVariants as redo
use Rattle.tc_world.specs.Whole.{Whole}
use Rattle.tc_world.specs.Lives.{AreAmong}
use Rattle.tc_world.specs.Steps.{Fate, Goes, Steps, with_core, with_dcs, with_copy, with_reply, told, sends_or_holds, ends_by}
use Rattle.tc_world.specs.Steps.{resends_wire, resends_sent, resends_by, dc_of, gets_reply, performs_at, performs_copy}
use Rattle.tc_world.specs.Steps.{takes_answer, TakesBy, TakesReply, restarts_as, restarts_at, checkpoints_at}
use Rattle.tc_world.specs.Steps.{tells_unless, tells_news, redoes_by}
use Rattle.tc_world.specs.declared.step.Step.{Step}
use Rattle.tc_world.specs.declared.step.Step.TheVariants as step
use Rattle.tc_world.specs.declared.step.Outcome.{Outcome}
use Rattle.tc_world.proofs.Marks.{went, stopped}
use Rattle.succession.specs.More.{with_more, StepsWith}

-- ---- lists, one behind the other

pub at_left : {X : Type 0} (ls bs : List X) (k : ℕ) (x : X) → slice_get ls k ≡ Some x → slice_get (ls ++ bs) k ≡ Some x
at_left [] bs k x at = absurd (none_some _ x refl at)
at_left (l ∷ ls) bs zero x at = at
at_left (l ∷ ls) bs (suc k) x at = at_left ls bs k x at

pub at_right : {X : Type 0} (ls bs : List X) (k : ℕ) (x : X) → slice_get bs k ≡ Some x → (j : ℕ) × (slice_get (ls ++ bs) j ≡ Some x)
at_right [] bs k x at = (k, at)
at_right (l ∷ ls) bs k x at = (let there = at_right ls bs k x at in (suc there.0, there.1))

pub either : {X : Type 0} {P : Type 0} (ls bs : List X) (k : ℕ) (x : X) → slice_get (ls ++ bs) k ≡ Some x
    → ((j : ℕ) → slice_get ls j ≡ Some x → P) → ((j : ℕ) → slice_get bs j ≡ Some x → P) → P
either [] bs k x at left right = right k at
either (l ∷ ls) bs zero x at left right = left zero at
either (l ∷ ls) bs (suc k) x at left right = either ls bs k x at (λ j there. left (suc j) there) right

pub all_among : {X : Type 0} (xs : List X) → AreAmong xs xs
all_among xs k x at = (k, at)

-- in another order
pub turned : {X : Type 0} (ls bs cs : List X) → AreAmong ((ls ++ bs) ++ cs) ((ls ++ cs) ++ bs)
turned ls bs cs k x at =
    either (ls ++ bs) cs k x at
    (λ j there. either ls bs j x there
    (λ i here. (i, at_left (ls ++ cs) bs i x (at_left ls cs i x here)))
    (λ i here. at_right (ls ++ cs) bs i x here))
    (λ j there. (let here = at_right ls cs j x there in (here.0, at_left (ls ++ cs) bs here.0 x here.1)))

module _ (xs : List Wire) where
  -- what a step leaves in both
  record Both (v : Whole) (fate : Fate) : Type 0 where
    o : Outcome
    u : Whole
    goes : fate ≡ Goes o u
    core : u.core ≡ v.core
    dcs : u.dcs ≡ v.dcs
    replies : u.replies ≡ v.replies
    news : u.news ≡ v.news
    among : AreAmong (v.copies ++ xs) u.copies

  both_behind : (o p : Outcome) (w v : Whole) (fate : Fate) → Both w fate → Goes o w ≡ Goes p v → Both v fate
  both_behind o p w v fate b goes = subst (λ (z : Whole). Both z fate) (went o p w v goes) b

  -- nothing is sent
  plain : (o : Outcome) (v : Whole) → Both v (Goes o (with_more xs v))
  plain o v = record { o = o; u = with_more xs v; goes = refl; core = refl; dcs = refl; replies = refl; news = refl; among = all_among (v.copies ++ xs) }

  -- this wire is sent
  sent : (o : Outcome) (v : Whole) (y : Wire) → Both (with_copy v y) (Goes o (with_copy (with_more xs v) y))
  sent o v y = record {
    o = o;
    u = with_copy (with_more xs v) y;
    goes = refl;
    core = refl;
    dcs = refl;
    replies = refl;
    news = refl;
    among = turned v.copies (y ∷ []) xs;
  }

  told_both : (w v : Whole) (t : ℕ) (c : Core) (a : Asked) (o : Outcome) → told w t c a ≡ Goes o v → Both v (told (with_more xs w) t c a)
  told_both w v t c (reply.Request r) o goes = by (wire_of c r) goes
    where
      by : (x : Result Wire Down) → sends_or_holds (with_core w c) r x ≡ Goes o v → Both v (sends_or_holds (with_core (with_more xs w) c) r x)
      by (Ok x) goes' = both_behind _ o (with_copy (with_core w c) x) v _ (sent _ (with_core w c) x) goes'
      by (Err down) goes' = both_behind _ o (with_core w c) v _ (plain _ (with_core w c)) goes'
  told_both w v t c reply.Undoing o goes = both_behind _ o w v _ (plain _ w) goes
  told_both w v t c reply.Over o goes = both_behind _ o w v _ (plain _ w) goes
  told_both w v t c (reply.Stuck n) o goes = both_behind _ o w v _ (plain _ w) goes
  told_both w v t c (reply.Waits n) o goes = absurd (stopped _ o v goes)
  told_both w v t c reply.Running o goes = absurd (stopped _ o v goes)
  told_both w v t c reply.Unknown o goes = absurd (stopped _ o v goes)

  ends_both : (w v : Whole) (t : ℕ) (s : Option Standing) (e : Option Ending) (o : Outcome) → ends_by w t s e ≡ Goes o v
      → Both v (ends_by (with_more xs w) t s e)
  ends_both w v t None e o goes = absurd (stopped _ o v goes)
  ends_both w v t (Some s) None o goes = absurd (stopped _ o v goes)
  ends_both w v t (Some s) (Some e) o goes = (let u = with_core w (with_event w.core (event.End t e)) in both_behind _ o u v _ (plain _ u) goes)

  resends_both : (w v : Whole) (t : ℕ) (s : Option Standing) (o : Outcome) → resends_by w t s ≡ Goes o v → Both v (resends_by (with_more xs w) t s)
  resends_both w v t None o goes = absurd (stopped _ o v goes)
  resends_both w v t (Some s) o goes = by s.sent goes
    where
      wires : (r : Sent) (x : Result Wire Down) → resends_wire w r.op x ≡ Goes o v → Both v (resends_wire (with_more xs w) r.op x)
      wires r (Ok x) goes' = both_behind _ o (with_copy w x) v _ (sent _ w x) goes'
      wires r (Err down) goes' = absurd (stopped _ o v goes')

      by : (q : Option Sent) → resends_sent w t q ≡ Goes o v → Both v (resends_sent (with_more xs w) t q)
      by None goes' = absurd (stopped _ o v goes')
      by (Some r) goes' = wires r (wire_of w.core (record { txn = t; number = r.number; op = r.op })) goes'

  gets_both : (w v : Whole) (x : Option Reply) (o : Outcome) → gets_reply w x ≡ Goes o v → Both v (gets_reply (with_more xs w) x)
  gets_both w v None o goes = both_behind _ o w v _ (plain _ w) goes
  gets_both w v (Some x) o goes = both_behind _ o (with_reply w x) v _ (plain _ (with_reply w x)) goes

  performs_both : (w v : Whole) (x : Wire) (s : Option Store) (o : Outcome) → performs_at w x s ≡ Goes o v → Both v (performs_at (with_more xs w) x s)
  performs_both w v x None o goes = absurd (stopped _ o v goes)
  performs_both w v x (Some s) o goes = gets_both (with_dcs w (slice_set w.dcs (dc_of x) (performed s x))) v (replied s x) o goes

  copy_both : (w v : Whole) (place : ℕ) (x : Option Wire) (o : Outcome) → slice_get w.copies place ≡ x → performs_copy w x ≡ Goes o v
      → Both v (performs_copy (with_more xs w) (slice_get (w.copies ++ xs) place))
  copy_both w v place None o at goes = absurd (stopped _ o v goes)
  copy_both w v place (Some x) o at goes =
      subst (λ (y : Option Wire). Both v (performs_copy (with_more xs w) y)) (sym (at_left w.copies xs place x at))
      (performs_both w v x (slice_get w.dcs (dc_of x)) o goes)

  answer_both : (w v : Whole) (f : Flight) (x : Reply) (b : Bool) (o : Outcome) → takes_answer w f x b ≡ Goes o v
      → Both v (takes_answer (with_more xs w) f x b)
  answer_both w v f x false o goes = absurd (stopped _ o v goes)
  answer_both w v f x true o goes =
      (let u = with_core w (with_event w.core (event.Answer f.txn x.number x.said)) in both_behind _ o u v _ (plain _ u) goes)

  restarts_both : (w v : Whole) (d : ℕ) (s : Option Store) (o : Outcome) → restarts_at w d s ≡ Goes o v → Both v (restarts_at (with_more xs w) d s)
  restarts_both w v d None o goes = absurd (stopped _ o v goes)
  restarts_both w v d (Some s) o goes = by (nat_le (2 ^ 62) s.incarnation) goes
    where
      by : (b : Bool) → restarts_as w d s b ≡ Goes o v → Both v (restarts_as (with_more xs w) d s b)
      by true goes' = absurd (stopped _ o v goes')
      by false goes' = both_behind _ o _ v _ (plain _ _) goes'

  checkpoints_both : (w v : Whole) (d : ℕ) (s : Option Store) (o : Outcome) → checkpoints_at w d s ≡ Goes o v
      → Both v (checkpoints_at (with_more xs w) d s)
  checkpoints_both w v d None o goes = absurd (stopped _ o v goes)
  checkpoints_both w v d (Some s) o goes = both_behind _ o _ v _ (plain _ _) goes

  tells_both : (w v : Whole) (x : Option (ℕ × News)) (o : Outcome) → tells_news w x ≡ Goes o v → Both v (tells_news (with_more xs w) x)
  tells_both w v None o goes = absurd (stopped _ o v goes)
  tells_both w v (Some x) o goes = by (news_fault w.core x.0 x.1) goes
    where
      by : (f : Option NewsFault) → tells_unless w x.0 x.1 f ≡ Goes o v → Both v (tells_unless (with_more xs w) x.0 x.1 f)
      by (Some fault.NoDc) goes' = absurd (stopped _ o v goes')
      by (Some fault.OldNews) goes' = absurd (stopped _ o v goes')
      by (Some fault.Forgotten) goes' = absurd (stopped _ o v goes')
      by None goes' = both_behind _ o (with_core w (after_told w.core x.0 x.1)) v _ (plain _ (with_core w (after_told w.core x.0 x.1))) goes'

  redoes_both : (w v : Whole) (d : ℕ) (a : Redo) (o : Outcome) → redoes_by w d a ≡ Goes o v → Both v (redoes_by (with_more xs w) d a)
  redoes_both w v d (redo.Send x) o goes = both_behind _ o (with_copy w x) v _ (sent _ w x) goes
  redoes_both w v d redo.Finished o goes =
      (let u = with_core w (after_redo w.core d redo.Finished) in both_behind _ o u v _ (plain _ u) goes)
  redoes_both w v d redo.NotDown o goes = absurd (stopped _ o v goes)
  redoes_both w v d redo.NoDc o goes = absurd (stopped _ o v goes)

  -- of steps that are told by a fate
  by_fate : (w v : Whole) (x : Step) (fate : Fate) → ((o : Outcome) (u : Whole) → fate ≡ Goes o u → Steps (with_more xs w) x o u) → Both v fate
      → StepsWith xs w v x
  by_fate w v x fate is b = record {
    o = b.o;
    u = b.u;
    goes = is b.o b.u b.goes;
    core = b.core;
    dcs = b.dcs;
    replies = b.replies;
    news = b.news;
    among = b.among;
  }

  -- and of those that leave another state alone
  by_core : (w v : Whole) (x : Step) (o : Outcome) (c : Core) → v ≡ with_core w c → Steps (with_more xs w) x o (with_core (with_more xs w) c)
      → StepsWith xs w v x
  by_core w v x o c same goes = subst (λ (z : Whole). StepsWith xs w z x) (sym same) (record {
    o = o;
    u = with_core (with_more xs w) c;
    goes = goes;
    core = refl;
    dcs = refl;
    replies = refl;
    news = refl;
    among = all_among (w.copies ++ xs);
  })

  takes_both : (w v : Whole) (i : ℕ) (x : Option Reply) (o : Outcome) → slice_get w.replies i ≡ x → TakesReply w x o v → StepsWith xs w v (step.Take i)
  takes_both w v i None o at takes = absurd takes
  takes_both w v i (Some x) o at takes = by (open_op w.core.events x.number) refl takes
    where
      here : (p : Outcome) (u : Whole) (f : Option Flight) → open_op w.core.events x.number ≡ f → TakesBy (with_more xs w) x f p u
          → TakesReply (with_more xs w) (slice_get w.replies i) p u
      here p u f flies is = subst (λ (y : Option Reply). TakesReply (with_more xs w) y p u) (sym at)
          (subst (λ (g : Option Flight). TakesBy (with_more xs w) x g p u) (sym flies) is)

      by : (f : Option Flight) → open_op w.core.events x.number ≡ f → TakesBy w x f o v → StepsWith xs w v (step.Take i)
      by None flies takes' =
          by_core w v (step.Take i) o _ takes'.next
          (here o _ None flies (record { dc = takes'.dc; is = takes'.is; outcome = takes'.outcome; next = refl }))
      by (Some f) flies takes' =
          let fate = takes_answer (with_more xs w) f x (is_heard (site_of w.core.sites f.op) x && fits f.op x.said) in
          by_fate w v (step.Take i) fate (λ p u goes. here p u (Some f) flies goes)
          (answer_both w v f x (is_heard (site_of w.core.sites f.op) x && fits f.op x.said) o takes')

  pub steps_with : (w v : Whole) (x : Step) (o : Outcome) → ((n : ℕ) → x ≡ step.Crash n → ⊥) → Steps w x o v → StepsWith xs w v x
  steps_with w v (step.Admit call) o never goes =
      by_core w v (step.Admit call) o _ goes.next (record { may = goes.may; outcome = goes.outcome; next = refl })
  steps_with w v (step.Ask t) o never goes =
      by_fate w v (step.Ask t) _ (λ p u is. is) (told_both w v t (after_ask w.core (ask_reply w.core t)) (ask_reply w.core t) o goes)
  steps_with w v (step.Undo t) o never goes =
      by_fate w v (step.Undo t) _ (λ p u is. is) (told_both w v t (after_undo w.core (undo_reply w.core t)) (undo_reply w.core t) o goes)
  steps_with w v (step.End t) o never goes =
      by_fate w v (step.End t) _ (λ p u is. is) (ends_both w v t (standing w.core.events t) (end_of w.core t) o goes)
  steps_with w v (step.Resend t) o never goes =
      by_fate w v (step.Resend t) _ (λ p u is. is) (resends_both w v t (standing w.core.events t) o goes)
  steps_with w v (step.Perform i) o never goes =
      by_fate w v (step.Perform i) _ (λ p u is. is) (copy_both w v i (slice_get w.copies i) o refl goes)
  steps_with w v (step.Take i) o never goes = takes_both w v i (slice_get w.replies i) o refl goes
  steps_with w v (step.Restart d) o never goes =
      by_fate w v (step.Restart d) _ (λ p u is. is) (restarts_both w v d (slice_get w.dcs d) o goes)
  steps_with w v (step.Forge x) o never goes =
      by_fate w v (step.Forge x) _ (λ p u is. is) (both_behind _ o (with_reply w x) v _ (plain _ (with_reply w x)) goes)
  steps_with w v (step.Checkpoint d) o never goes =
      by_fate w v (step.Checkpoint d) _ (λ p u is. is) (checkpoints_both w v d (slice_get w.dcs d) o goes)
  steps_with w v (step.Tell i) o never goes =
      by_fate w v (step.Tell i) _ (λ p u is. is) (tells_both w v (slice_get w.news i) o goes)
  steps_with w v (step.Redo d) o never goes =
      by_fate w v (step.Redo d) _ (λ p u is. is) (redoes_both w v d (redo_reply w.core d) o goes)
  steps_with w v (step.Crash n) o never goes = absurd (never n refl)
  steps_with w v step.Cut o never goes =
      subst (λ (z : Whole). StepsWith xs w z step.Cut) (sym goes.next) (record {
        o = o;
        u = with_more xs (record w { core = _; dcs = v.dcs });
        goes = record { may = goes.may; outcome = goes.outcome; forgotten = goes.forgotten; next = refl };
        core = refl;
        dcs = refl;
        replies = refl;
        news = refl;
        among = all_among (w.copies ++ xs);
      })
