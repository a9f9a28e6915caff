-- Each step of coming back is one or some of a world in which nothing was on its way, and what was on its way then is lost.
use Rattle.std.proofs.Common.{◌≡◌, ℕ, Bool, true, false, cond, ◌&&◌, List, [], ◌∷◌, ◌++◌, length, Option, Some, None}
use Rattle.std.proofs.Common.{Result, Ok, Err, refl, sym, ◌∙◌, ap, subst, inl, inr, arith}
use Rattle.std.specs.Prelude.{slice_get, slice_set}
use Rattle.std.proofs.lemmas.Bool.{cases_eq, cond-true, cond-false}
use Rattle.access_slots.specs.Access.{fits}
use Rattle.access_slots.specs.Locks.{target}
use Rattle.access_slots.specs.declared.op.Op.{Op}
use Rattle.access_slots.specs.declared.op.Wire.{Wire}
use Rattle.access_slots.specs.declared.op.Reply.{Reply}
use Rattle.tc_log.specs.declared.event.Event.{Event}
use Rattle.tc_log.specs.declared.event.Event.TheVariants as event
use Rattle.tc_log.specs.declared.event.Outcome.{Outcome as Ending}
use Rattle.verifier.specs.Checked.{Checked}
use Rattle.history.specs.Flight.{Flight, open_op}
use Rattle.history.specs.Redo.{answered, is_done_at, if_done_at, done_at, IsToRedo}
use Rattle.history.specs.declared.Answered.{Answered}
use Rattle.data_component.specs.Store.{Store, replied, performed}
use Rattle.transactions.specs.declared.Site.{Site}
use Rattle.transactions.specs.Standing.{Standing, standing}
use Rattle.transactions.specs.InFlight.{site_of}
use Rattle.transactions.specs.Legal.{Legal}
use Rattle.transactions.specs.Reached.{AllGood}
use Rattle.transactions.specs.Next.{next_in}
use Rattle.transactions.proofs.StandingLemmas.{eq-true, eq-false}
use Rattle.transactions.proofs.Flights.{flight, standing_flight}
use Rattle.transactions.proofs.Restarts.{answered_given, to_redo_is}
use Rattle.tc_core.specs.Core.{Core, Asking}
use Rattle.tc_core.specs.Lent.{wire_of}
use Rattle.tc_core.specs.Redo.{redo_reply, redo_at, after_redo, up_again, IsRedone, redone_at, after_redone}
use Rattle.tc_core.specs.Replies.{next_at, with_event, ask_reply, after_ask, undo_reply, after_undo, over_in, end_of, after_end, is_heard, IsAnswer, after_answer}
use Rattle.tc_core.specs.GivingUp.{IsOpenHere}
use Rattle.tc_core.specs.declared.state.Down.{Down}
use Rattle.tc_core.specs.declared.state.Asked.{Asked}
use Rattle.tc_core.specs.declared.state.Asked.TheVariants as reply
use Rattle.tc_core.specs.declared.state.Redo.{Redo}
use Rattle.tc_core.specs.declared.state.Redo.TheVariants as redo
use Rattle.tc_world.specs.Whole.{Whole}
use Rattle.tc_world.specs.Steps.{Goes, with_core, with_dcs, with_copy, with_reply, sends, told, sends_or_holds, asks, undoes, ends_by, ends, resends_by, resends_sent, resends_wire, resends}
use Rattle.tc_world.specs.Steps.{gets_reply, performs_at, performs_copy, performs, takes_answer, TakesBy, TakesReply, Takes, redoes_by, redoes}
use Rattle.tc_world.specs.Lives.{AreAmong, left_with, Becomes}
use Rattle.tc_world.specs.declared.step.Step.TheVariants as step
use Rattle.tc_world.specs.declared.step.Outcome.{Outcome}
use Rattle.tc_world.specs.declared.step.Outcome.TheVariants as outcome
use Rattle.tc_world.proofs.Listed.{Known}
use Rattle.tc_world.proofs.LivingLemmas.{step_becomes, loss_becomes}
use Rattle.coming_back.specs.Coming.{at_rest}
use Rattle.coming_back.specs.Joining.Performing.{PerformsAt}

abbrev still : Core → Core
still c = record c { given_up = [] }

still_known : (c : Core) → Legal c.procs c.events → AllGood c.procs → Known (still c)
still_known c legal good = record { legal = legal; good = good }

among_none : {X : Type 0} (ys : List X) → AreAmong [] ys
among_none ys k x is = absurd cc

-- all that is on its way is lost
quiet : (start w : Whole) → Becomes start w → Becomes start (left_with [] [] [] w)
quiet start w l = loss_becomes start w [] [] [] (among_none w.copies) (among_none w.replies) (among_none w.news) l

abbrev bare : Core → List Store → Whole
bare c ds = record { core = c; dcs = ds; copies = []; replies = []; news = [] }

-- a world that went on, with nothing on its way
settled : (start w v : Whole) (c : Core) (ds : List Store) → v.core ≡ c → w.dcs ≡ ds → Becomes start (with_core w v.core) → Becomes start (bare c ds)
settled start w v c ds core dcs l =
    subst (λ (d : Core). Becomes start (bare d ds)) core (subst (λ (es : List Store). Becomes start (bare v.core es)) dcs (quiet start (with_core w v.core) l))

-- ---- `ask`, `undo_next` and `end`

same_ask : (c : Core) (t : ℕ) → ask_reply (still c) t ≡ ask_reply c t
unfolding next_at
same_ask c t = refl

same_undo : (c : Core) (t : ℕ) → undo_reply (still c) t ≡ undo_reply c t
unfolding next_at
same_undo c t = refl

same_end : (c : Core) (t : ℕ) → end_of (still c) t ≡ end_of c t
unfolding next_at
same_end c t = refl

-- a request's wire is made, and lost, or it is held back
sent_lived : (start w v : Whole) (r : Asking) (x : Result Wire Down) → v.copies ≡ [] → v.replies ≡ [] → v.news ≡ []
    → ((o : Outcome) (u : Whole) → u.core ≡ v.core → sends_or_holds v r x ≡ Goes o u → Becomes start u) → Becomes start (left_with [] [] [] v)
sent_lived start w v r (Ok x) copies replies news goes = quiet start (with_copy v x) (goes (outcome.Sent (length v.copies) x) (with_copy v x) refl refl)
sent_lived start w v r (Err down) copies replies news goes = quiet start v (goes (outcome.Held r.number r.op) v refl refl)

pub ask_lived : (t : ℕ) (c : Core) (a : Asked) (ds : List Store) → a ≡ ask_reply c t → Legal (after_ask c a).procs (after_ask c a).events → AllGood c.procs
    → (start : Whole) → Becomes start (at_rest c ds) → Becomes start (at_rest (after_ask c a) ds)
ask_lived t c (reply.Request r) ds is legal good start l =
    let w = at_rest c ds in
    let v = with_core w (with_event (still c) (event.Ask r.txn r.number r.op)) in
    let same : ask_reply w.core t ≡ reply.Request r = same_ask c t ∙ sym is in
    let asked : asks w t ≡ sends_or_holds v r (wire_of v.core r) = ap (λ (a : Asked). told w t (after_ask w.core a) a) same in
    sent_lived start w v r (wire_of v.core r) refl refl refl
    (λ o u core goes. step_becomes start w u (step.Ask t) o (subst Known (sym core) (record { legal = legal; good = good })) refl (asked ∙ goes) l)
ask_lived t c reply.Undoing ds is legal good start l = l
ask_lived t c reply.Over ds is legal good start l = l
ask_lived t c (reply.Stuck n) ds is legal good start l = l
ask_lived t c (reply.Waits n) ds is legal good start l = l
ask_lived t c reply.Running ds is legal good start l = l
ask_lived t c reply.Unknown ds is legal good start l = l

pub undo_lived : (t : ℕ) (c : Core) (a : Asked) (ds : List Store) → a ≡ undo_reply c t → Legal (after_undo c a).procs (after_undo c a).events → AllGood c.procs
    → (start : Whole) → Becomes start (at_rest c ds) → Becomes start (at_rest (after_undo c a) ds)
undo_lived t c (reply.Request r) ds is legal good start l =
    let w = at_rest c ds in
    let v = with_core w (with_event (still c) (event.Undo r.txn r.number r.op)) in
    let same : undo_reply w.core t ≡ reply.Request r = same_undo c t ∙ sym is in
    let asked : undoes w t ≡ sends_or_holds v r (wire_of v.core r) = ap (λ (a : Asked). told w t (after_undo w.core a) a) same in
    sent_lived start w v r (wire_of v.core r) refl refl refl
    (λ o u core goes. step_becomes start w u (step.Undo t) o (subst Known (sym core) (record { legal = legal; good = good })) refl (asked ∙ goes) l)
undo_lived t c reply.Undoing ds is legal good start l = l
undo_lived t c reply.Over ds is legal good start l = l
undo_lived t c (reply.Stuck n) ds is legal good start l = l
undo_lived t c (reply.Waits n) ds is legal good start l = l
undo_lived t c reply.Running ds is legal good start l = l
undo_lived t c reply.Unknown ds is legal good start l = l

ending_open : (ps : List Checked) (s : Option Standing) (o : Ending) → over_in (next_in ps s) ≡ Some o → (q : Standing) × (s ≡ Some q)
ending_open ps None o is = absurd cc
ending_open ps (Some q) o is = (q, refl)

end_open : (c : Core) (t : ℕ) (o : Ending) → end_of c t ≡ Some o → (q : Standing) × (standing c.events t ≡ Some q)
unfolding next_at
end_open c t o is = ending_open c.procs (standing c.events t) o is

pub end_lived : (t : ℕ) (c : Core) (o : Option Ending) (ds : List Store) → o ≡ end_of c t
    → Legal (after_end c t o).procs (after_end c t o).events → AllGood c.procs
    → (start : Whole) → Becomes start (at_rest c ds) → Becomes start (at_rest (after_end c t o) ds)
end_lived t c None ds is legal good start l = l
end_lived t c (Some o) ds is legal good start l =
    let w = at_rest c ds in
    let it = end_open c t o (sym is) in
    let goes : ends w t ≡ ends_by w t (Some it.0) (Some o) = ap
    (λ (s : Option Standing). ends_by w t s (end_of w.core t)) it.1
    ∙ ap (ends_by w t (Some it.0)) (same_end c t ∙ sym is) in
    step_becomes start w (with_core w (with_event w.core (event.End t o))) (step.End t) _ (record { legal = legal; good = good }) refl goes l

-- ---- a wire that is performed

-- a world with one wire, which its data component performs
performed_lived : (start w : Whole) (x : Wire) (y : Option Reply) (es : List Store) → w.copies ≡ x ∷ [] → w.replies ≡ []
    → Known w.core → PerformsAt w.dcs x y es → Becomes start w
    → Becomes start (left_with [] [] [] (with_dcs w es))
    × ((z : Reply) → y ≡ Some z → (v : Whole) × (v.core ≡ w.core) × (v.dcs ≡ es) × (v.replies ≡ z ∷ [])
    × Becomes start v)
performed_lived start w x y es one none known it l = by (replied it.s x) refl
  where
    v : Whole
    v = with_dcs w (slice_set w.dcs (target x.op).dc (performed it.s x))

    goes : performs w 0 ≡ gets_reply (with_dcs w (slice_set w.dcs (target x.op).dc (performed it.s x))) (replied it.s x)
    goes = ap (λ (xs : List Wire). performs_copy w (slice_get xs 0)) one ∙ ap (performs_at w x) it.at

    by : (z : Option Reply) → replied it.s x ≡ z
        → Becomes start (left_with [] [] [] (with_dcs w es))
        × ((u : Reply) → y ≡ Some u → (v : Whole) × (v.core ≡ w.core) × (v.dcs ≡ es) × (v.replies ≡ u ∷ [])
        × Becomes start v)
    by None is =
        let then : Whole = with_dcs w (slice_set w.dcs (target x.op).dc (performed it.s x)) in
        let lived = step_becomes start w then (step.Perform 0) outcome.Silent known refl (goes ∙ ap (gets_reply then) is) l in (
          subst (λ (ds : List Store). Becomes start (left_with [] [] [] (with_dcs w ds))) (sym it.then_is) (quiet start then lived),
          λ u some. absurd (let bad : None ≡ Some u = sym is ∙ (sym it.said ∙ some) in cc),
        )
    by (Some z) is =
        let mid : Whole = with_dcs w (slice_set w.dcs (target x.op).dc (performed it.s x)) in
        let then : Whole = with_reply mid z in
        let lived = step_becomes start w then (step.Perform 0) (outcome.Replied (length w.replies) z) known refl (goes ∙ ap (gets_reply mid) is) l in (
          subst (λ (ds : List Store). Becomes start (left_with [] [] [] (with_dcs w ds))) (sym it.then_is) (quiet start then lived),
          λ u some.
              let same : Some z ≡ Some u = sym is ∙ (sym it.said ∙ some) in
              (then, refl, sym it.then_is, ap (λ (rs : List Reply). rs ++ z ∷ []) none ∙ ap (λ (q : Reply). q ∷ []) (let it : z ≡ u = cc in it), lived),
        )

-- ---- a request that is sent

same_asking : (t n : ℕ) (o : Op) (r : Asking) → t ≡ r.txn → n ≡ r.number → o ≡ r.op → (let a : Asking = record { txn = t; number = n; op = o } in a ≡ r)
same_asking t n o r own number op =
    ap (λ (u : ℕ). let a : Asking = record { txn = u; number = n; op = o } in a) own
    ∙ (ap (λ (m : ℕ). let a : Asking = record { txn = r.txn; number = m; op = o } in a) number
    ∙ ap (λ (q : Op). let a : Asking = record { txn = r.txn; number = r.number; op = q } in a) op)

resent : (w : Whole) (r : Asking) (x : Wire) → IsOpenHere w.core r → wire_of w.core r ≡ Ok x → resends w r.txn ≡ sends w x
resent w r x here is =
    ap (resends_by w r.txn) here.is
    ∙ (ap (resends_sent w r.txn) here.waits
    ∙ (ap (λ (a : Asking). resends_wire w a.op (wire_of w.core a)) (same_asking r.txn here.sent.number here.sent.op r refl here.same_number here.same_op)
    ∙ ap (resends_wire w r.op) is))

still_open : (c : Core) (r : Asking) → IsOpenHere c r → IsOpenHere (still c) r
still_open c r here = record { s = here.s; is = here.is; sent = here.sent; waits = here.waits; same_number = here.same_number; same_op = here.same_op }

-- it is performed
pub carried_lived : (c : Core) (r : Asking) (x : Wire) (y : Option Reply) (ds es : List Store) → Legal c.procs c.events
    → AllGood c.procs → IsOpenHere c r → wire_of c r ≡ Ok x
    → PerformsAt ds x y es → (start : Whole) → Becomes start (at_rest c ds) → Becomes start (at_rest c es)
carried_lived c r x y ds es legal good here is it start l =
    let w = at_rest c ds in
    let known = still_known c legal good in
    let one = step_becomes start w (with_copy w x) (step.Resend r.txn) _ known refl (resent w r x (still_open c r here) is) l in
    (performed_lived start (with_copy w x) x y es refl refl known it one).0

flies : (c : Core) (r : Asking) (n : ℕ) → Legal c.procs c.events → IsOpenHere c r → n ≡ r.number → open_op c.events n ≡ Some (flight r.txn r.op)
flies c r n legal here agree =
    ap (open_op c.events) (agree ∙ sym here.same_number)
    ∙ ((standing_flight c.procs c.events legal r.txn here.s here.sent here.is here.waits).1 ∙ ap (λ (o : Op). Some (flight r.txn o)) here.same_op)

both_true : (a b : Bool) → a ≡ true → b ≡ true → (a && b) ≡ true
both_true a b p q = ap (λ (x : Bool). x && b) p ∙ q

takes_it : (w : Whole) (r : Asking) (z : Reply) → open_op w.core.events z.number ≡ Some (flight r.txn r.op) → w.replies ≡ z ∷ []
    → is_heard (site_of w.core.sites r.op) z ≡ true → fits r.op z.said ≡ true → z.number ≡ r.number
    → Takes w 0 (outcome.Took z.number) (with_core w (after_answer w.core r z.said))
takes_it w r z flying one heard fit agree =
    subst (λ (rs : List Reply). TakesReply w (slice_get rs 0) (outcome.Took z.number) (with_core w (after_answer w.core r z.said))) (sym one)
    (subst (λ (f : Option Flight). TakesBy w z f (outcome.Took z.number) (with_core w (after_answer w.core r z.said))) (sym flying)
    (ap (takes_answer w (flight r.txn r.op) z) (both_true _ _ heard fit)
    ∙ ap (λ (n : ℕ). Goes (outcome.Took z.number) (with_core w (with_event w.core (event.Answer r.txn n z.said)))) agree))

pub open_for : (c : Core) (r : Asking) (z : Reply) → IsAnswer c r z → IsOpenHere c r
open_for c r z a = record { s = a.s; is = a.is; sent = a.sent; waits = a.waits; same_number = a.same_number; same_op = a.same_op }

-- and answered
pub answered_lived : (c : Core) (r : Asking) (x : Wire) (z : Reply) (ds es : List Store) → Legal c.procs c.events → AllGood c.procs → wire_of c r ≡ Ok x
    → PerformsAt ds x (Some z) es → IsAnswer c r z → Legal c.procs (after_answer c r z.said).events → (start : Whole)
    → Becomes start (at_rest c ds) → Becomes start (at_rest (after_answer c r z.said) es)
answered_lived c r x z ds es legal good is it a legal' start l =
    let w = at_rest c ds in
    let known = still_known c legal good in
    let here = open_for c r z a in
    let one = step_becomes start w (with_copy w x) (step.Resend r.txn) _ known refl (resent w r x (still_open c r here) is) l in
    let v = (performed_lived start (with_copy w x) x (Some z) es refl refl known it one).1 z refl in
    let core : v.0.core ≡ still c = v.1 in
    let took =
    takes_it v.0 r z (ap (λ (d : Core). open_op d.events z.number) core ∙ flies c r z.number legal here a.agree) v.3
    (ap (λ (d : Core). is_heard (site_of d.sites r.op) z) core ∙ a.heard) a.fit a.agree in
    let after : Core = after_answer v.0.core r z.said in
    let known' : Known after = subst (λ (d : Core). Known (after_answer d r z.said)) (sym core) (record { legal = legal'; good = good }) in
    settled start v.0 (with_core v.0 after) (after_answer (still c) r z.said) es (ap (λ (d : Core). after_answer d r z.said) core) v.2
    (step_becomes start v.0 (with_core v.0 after) (step.Take 0) (outcome.Took z.number) known' refl took v.4)

-- ---- what is redone

done_answered : (n : ℕ) (o : Option Answered) (a : Answered) → if_done_at n o ≡ Some a → o ≡ Some a
done_answered n None a is = absurd cc
done_answered n (Some b) a is = by (is_done_at n b) is
  where
    by : (done : Bool) → cond done (Some b) None ≡ Some a → Some b ≡ Some a
    by true it = it
    by false it = absurd cc

-- what was done was answered
pub answered_done : (h : List Event) (n m : ℕ) (a : Answered) → done_at h n m ≡ Some a → answered h m ≡ Some a
answered_done h n m a is = done_answered n (answered h m) a is

-- what was answered isn't open
pub closed_by : (ps : List Checked) (h : List Event) → Legal ps h → (n : ℕ) (a : Answered) → answered h n ≡ Some a → open_op h n ≡ None
closed_by ps [] legal n a is = absurd cc
closed_by ps (event.Ask t m o ∷ h) legal n a is =
    let few = answered_given ps h legal.1 n a is in
    let next = legal.0.next in
    cond-false _ _ _ (eq-false m n (λ same. absurd (omega (arith, few, next, same)))) ∙ closed_by ps h legal.1 n a is
closed_by ps (event.Answer t m said ∷ h) legal n a is = elim (cases_eq m n) [
  | inl same ↦ cond-true _ _ _ (eq-true m n same)
  | inr other ↦ cond-false _ _ _ (eq-false m n other) ∙ closed_by ps h legal.1 n a (sym (cond-false _ _ _ (eq-false m n other)) ∙ is)
]
closed_by ps (event.Undo t m o ∷ h) legal n a is =
    let few = answered_given ps h legal.1 n a is in
    let next = legal.0.next in
    cond-false _ _ _ (eq-false m n (λ same. absurd (omega (arith, few, next, same)))) ∙ closed_by ps h legal.1 n a is
closed_by ps (_ ∷ h) legal n a is = closed_by ps h legal.1 n a is

redone_closed : (c : Core) (d : ℕ) (z : Reply) → Legal c.procs c.events → IsRedone c d z → open_op c.events z.number ≡ None
redone_closed c d z legal it =
    let facts : IsToRedo c.events d it.r.redone (Some it.a) = subst (IsToRedo c.events d it.r.redone) it.next
    (to_redo_is c.procs c.events legal d it.r.redone) in
    ap (open_op c.events) it.same_number ∙ closed_by c.procs c.events legal it.a.number it.a (answered_done c.events d it.a.number it.a facts.1)

same_redo_at : (c : Core) (d : ℕ) (o : Option Site) → redo_at (still c) d o ≡ redo_at c d o
same_redo_at c d None = refl
same_redo_at c d (Some s) = refl

same_redo : (c : Core) (d : ℕ) → redo_reply (still c) d ≡ redo_reply c d
same_redo c d = same_redo_at c d (slice_get c.sites d)

still_redone : (c : Core) (d : ℕ) (z : Reply) → IsRedone c d z → IsRedone (still c) d z
still_redone c d z it = record {
  site = it.site;
  there = it.there;
  r = it.r;
  down = it.down;
  a = it.a;
  next = it.next;
  same_number = it.same_number;
  same_incarnation = it.same_incarnation;
  same_answer = it.same_answer;
}

same_after : (c : Core) (d n : ℕ) (o : Option Site) → redone_at (still c) d n o ≡ still (redone_at c d n o)
same_after c d n None = refl
same_after c d n (Some s) = refl

same_up : (c : Core) (d : ℕ) (o : Option Site) → up_again (still c) d o ≡ still (up_again c d o)
same_up c d None = refl
same_up c d (Some s) = refl

-- a data component is up again, or nothing happened
pub next_lived : (d : ℕ) (c : Core) (ds : List Store) (a : Redo) → a ≡ redo_reply c d → Legal c.procs c.events → AllGood c.procs
    → (start : Whole) → Becomes start (at_rest c ds) → Becomes start (at_rest (after_redo c d a) ds)
next_lived d c ds (redo.Send x) is legal good start l = l
next_lived d c ds redo.Finished is legal good start l =
    let w = at_rest c ds in
    let after : Core = up_again w.core d (slice_get c.sites d) in
    let same : after ≡ still (up_again c d (slice_get c.sites d)) = same_up c d (slice_get c.sites d) in
    let goes : redoes w d ≡ Goes (outcome.Up d) (with_core w after) = ap (redoes_by w d) (same_redo c d ∙ sym is) in
    let events : (up_again c d (slice_get c.sites d)).events ≡ c.events = up_events c d (slice_get c.sites d) in
    let procs : (up_again c d (slice_get c.sites d)).procs ≡ c.procs = up_procs c d (slice_get c.sites d) in
    let known : Known after = subst Known (sym same) (record {
      legal = subst (λ (ps : List Checked). Legal ps (up_again c d (slice_get c.sites d)).events) (sym procs) (subst (Legal c.procs) (sym events) legal);
      good = subst AllGood (sym procs) good;
    }) in
    settled start w (with_core w after) (still (up_again c d (slice_get c.sites d))) ds same refl
    (step_becomes start w (with_core w after) (step.Redo d) (outcome.Up d) known refl goes l)
  where
    up_events : (c : Core) (d : ℕ) (o : Option Site) → (up_again c d o).events ≡ c.events
    up_events c d None = refl
    up_events c d (Some s) = refl

    up_procs : (c : Core) (d : ℕ) (o : Option Site) → (up_again c d o).procs ≡ c.procs
    up_procs c d None = refl
    up_procs c d (Some s) = refl
next_lived d c ds redo.NotDown is legal good start l = l
next_lived d c ds redo.NoDc is legal good start l = l

-- an operation is sent again, and performed
pub resent_lived : (d : ℕ) (c : Core) (x : Wire) (y : Option Reply) (ds es : List Store) → Legal c.procs c.events
    → AllGood c.procs → redo.Send x ≡ redo_reply c d
    → PerformsAt ds x y es → (start : Whole) → Becomes start (at_rest c ds) → Becomes start (at_rest c es)
resent_lived d c x y ds es legal good is it start l =
    let w = at_rest c ds in
    let known = still_known c legal good in
    let goes : redoes w d ≡ Goes (outcome.Redoing (length w.copies) x) (with_copy w x) = ap (redoes_by w d) (same_redo c d ∙ sym is) in
    (performed_lived start (with_copy w x) x y es refl refl known it (step_becomes start w (with_copy w x) (step.Redo d) _ known refl goes l)).0

-- and redone
pub redone_lived : (d : ℕ) (c : Core) (x : Wire) (z : Reply) (ds es : List Store) → Legal c.procs c.events → AllGood c.procs → redo.Send x ≡ redo_reply c d
    → PerformsAt ds x (Some z) es → IsRedone c d z → (start : Whole) → Becomes start (at_rest c ds) → Becomes start (at_rest (after_redone c d z.number) es)
redone_lived d c x z ds es legal good is it redone start l =
    let w = at_rest c ds in
    let known = still_known c legal good in
    let goes : redoes w d ≡ Goes (outcome.Redoing (length w.copies) x) (with_copy w x) = ap (redoes_by w d) (same_redo c d ∙ sym is) in
    let v = (performed_lived start (with_copy w x) x (Some z) es refl refl known it
    (step_becomes start w (with_copy w x) (step.Redo d) _ known refl goes l)).1 z refl in
    let core : v.0.core ≡ still c = v.1 in
    let after : Core = after_redone v.0.core d z.number in
    let same : after ≡ still (after_redone c d z.number) = ap (λ (e : Core). after_redone e d z.number) core ∙ same_after c d z.number (slice_get c.sites d) in
    let again : IsRedone v.0.core d z = subst (λ (e : Core). IsRedone e d z) (sym core) (still_redone c d z redone) in
    let closed : open_op v.0.core.events z.number ≡ None = ap (λ (e : Core). open_op e.events z.number) core ∙ redone_closed c d z legal redone in
    let takes : Takes v.0 0 (outcome.Redone z.number) (with_core v.0 after) =
    subst (λ (rs : List Reply). TakesReply v.0 (slice_get rs 0) (outcome.Redone z.number) (with_core v.0 after)) (sym v.3)
    (subst (λ (f : Option Flight). TakesBy v.0 z f (outcome.Redone z.number) (with_core v.0 after)) (sym closed)
    (record { dc = d; is = again; outcome = refl; next = refl })) in
    let known' : Known after = subst Known (sym same) (after_known c d z.number (slice_get c.sites d) legal good) in
    settled start v.0 (with_core v.0 after) (still (after_redone c d z.number)) es same v.2
    (step_becomes start v.0 (with_core v.0 after) (step.Take 0) (outcome.Redone z.number) known' refl takes v.4)
  where
    after_known : (c : Core) (d n : ℕ) (o : Option Site) → Legal c.procs c.events → AllGood c.procs → Known (still (redone_at c d n o))
    after_known c d n None legal good = record { legal = legal; good = good }
    after_known c d n (Some s) legal good = record { legal = legal; good = good }
