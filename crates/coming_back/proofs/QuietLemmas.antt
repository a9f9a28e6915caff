-- A request that a data component doesn't answer finds it full, where nothing else is on its way.
use Rattle.std.proofs.Common.{◌≡◌, ℕ, zero, suc, ◌+◌, ◌<◌, ◌≤◌, Bool, true, false, cond}
use Rattle.std.proofs.Common.{if◌then◌else◌, ◌==◌, ◌&&◌, nat_lt, nat_le, List, [], ◌∷◌, ◌++◌, length}
use Rattle.std.proofs.Common.{Option, Some, None, Ok, Err, refl, sym, ◌∙◌, ap, subst, inl, inr, arith}
use Rattle.std.specs.Prelude.{slice_get, slice_set}
use Rattle.std.proofs.lemmas.Bool.{cases_eq}
use Rattle.std.proofs.lemmas.Bool.Decides.{nat_tests}
use Rattle.access_slots.specs.Access.{fits}
use Rattle.access_slots.specs.Locks.{target}
use Rattle.access_slots.specs.declared.op.Op.{Op}
use Rattle.access_slots.specs.declared.op.Op.TheVariants.{Read, Insert, Update, Delete}
use Rattle.access_slots.specs.declared.op.Said.{Said}
use Rattle.access_slots.specs.declared.op.Reply.{Reply}
use Rattle.access_slots.specs.declared.op.Wire.{Wire}
use Rattle.verifier.specs.Checked.{Checked}
use Rattle.request_numbers.specs.Given.{holds}
use Rattle.tc_log.specs.declared.event.Event.{Event}
use Rattle.tc_log.specs.declared.event.Event.TheVariants as event
use Rattle.tc_log.specs.declared.event.Outcome.{Outcome}
use Rattle.history.specs.Flight.{Flight, open_op, given, low_water}
use Rattle.history.specs.Redo.{done_at}
use Rattle.history.specs.declared.Answered.{Answered}
use Rattle.data_component.specs.Performed.{Performed, RecordValue, said_under, said_to, value_in, answer, has_room}
use Rattle.data_component.specs.Store.{Store, raised, marked, store_by, fate_of, fate_of_new, fate_above, reply_by, Fate, IsOld, Again, Silent, New, replied, performed}
use Rattle.transactions.specs.declared.Redoing.{Redoing}
use Rattle.transactions.specs.InFlight.{site_of}
use Rattle.transactions.specs.Legal.{Legal}
use Rattle.transactions.proofs.StandingLemmas.{some_same, none_some, eq-true}
use Rattle.transactions.proofs.Flights.{flight, standing_flight}
use Rattle.transactions.proofs.LowWater.{mark_rises, flight_above}
use Rattle.transactions.proofs.Restarts.{answered_given, done_number}
use Rattle.serial.proofs.ListLemmas.{if_none, if_some}
use Rattle.serial.proofs.SitesLemmas.{set_same, set_other}
use Rattle.serial.proofs.StoreLemmas.{PerformCase, old, silent, again, news, perform_case, says}
use Rattle.tc_core.specs.Core.{Core, Asking}
use Rattle.tc_core.specs.GivingUp.{IsOpenHere, with_given_up}
use Rattle.tc_core.specs.Lent.{wire_by, wire_for}
use Rattle.tc_core.specs.Replies.{with_event, IsAnswer, after_answer, is_up}
use Rattle.tc_core.specs.declared.state.Down.{Down}
use Rattle.tc_core.proofs.DoubtLemmas.{given_up_before}
use Rattle.tc_core.proofs.MarkedLemmas.{holds_beside}
use Rattle.tc_world.specs.OneAtATime.{EachIsKnown}
use Rattle.tc_world.specs.Marks.{AreMarksLow}
use Rattle.tc_world.proofs.ComingBack.{all_at}
use Rattle.tc_world.proofs.Marks.{IsStoreLow, performed_low}
use Rattle.coming_back.specs.Coming.{at_rest, AreFullWhereGivenUp}
use Rattle.coming_back.specs.Done.{list_of, done_above, EachHasWhatWasDone}
use Rattle.coming_back.specs.Joining.Performing.{PerformsAt, There, Nowhere, Sends, Sent, Unsent}
use Rattle.coming_back.specs.Joining.Quiet.{IsQuietAt, IsQuiet}
use Rattle.coming_back.proofs.ServingLemmas.{performed_by}
use Rattle.coming_back.proofs.SilentLemmas.{full_by, silent_room}
use Rattle.coming_back.proofs.LivedLemmas.{answered_done, closed_by}

-- ---- the log goes on

-- what is open behind the event, and was given out before it, was open before it
pub record IsLater (h : List Event) (e : Event) : Type 0 where
  pub many : given h ≤ given (e ∷ h)
  pub low : low_water h ≤ low_water (e ∷ h)
  pub opens : (n : ℕ) (f : Flight) → n ≤ given h → open_op (e ∷ h) n ≡ Some f → open_op h n ≡ Some f

still_closed : (o : Option Flight) → ((f : Flight) → o ≡ Some f → ⊥) → o ≡ None
still_closed None never = refl
still_closed (Some f) never = absurd (never f refl)

pub quiet_later : (c : Core) (e : Event) (ds : List Store) → IsLater c.events e → IsQuiet c ds → IsQuiet (with_event c e) ds
quiet_later c e ds later q = record {
  each = λ d s at.
      let is = q.each d s at in
      let mark = is.mark in
      let saved = is.saved_mark in
      let low = later.low in
      let many = later.many in
      record {
        up = is.up;
        known = is.known;
        mark = omega (arith, mark, low);
        saved_mark = omega (arith, saved, low);
        list = λ k p there. (let x = is.list k p there in let few = x.0 in
            (omega (arith, few, many), still_closed (open_op (e ∷ c.events) p.0) (λ f opens. none_some _ f x.1 (later.opens p.0 f few opens))));
      };
  given_up = λ n held.
      let few = q.given_up n (given_up_before e c.given_up n held) in
      let many = later.many in
      omega (arith, few, many);
  full = λ n f s held opens at.
      let was = given_up_before e c.given_up n held in
      q.full n f s was (later.opens n f (q.given_up n was) opens) at;
}

pub asked_later : (ps : List Checked) (h : List Event) (t m : ℕ) (o : Op) → Legal ps (event.Ask t m o ∷ h) → IsLater h (event.Ask t m o)
asked_later ps h t m o legal = record {
  many = omega arith;
  low = mark_rises ps h (event.Ask t m o) legal.0;
  opens = λ n f few is. (let next = legal.0.next in sym (if_none m n (Some (flight t o)) (open_op h n) (omega (arith, few, next))) ∙ is);
}

pub undone_later : (ps : List Checked) (h : List Event) (t m : ℕ) (o : Op) → Legal ps (event.Undo t m o ∷ h) → IsLater h (event.Undo t m o)
undone_later ps h t m o legal = record {
  many = omega arith;
  low = mark_rises ps h (event.Undo t m o) legal.0;
  opens = λ n f few is. (let next = legal.0.next in sym (if_none m n (Some (flight t o)) (open_op h n) (omega (arith, few, next))) ∙ is);
}

pub ended_later : (ps : List Checked) (h : List Event) (t : ℕ) (o : Outcome) → Legal ps (event.End t o ∷ h) → IsLater h (event.End t o)
ended_later ps h t o legal = record { many = omega arith; low = mark_rises ps h (event.End t o) legal.0; opens = λ n f few is. is }

answered_later : (ps : List Checked) (h : List Event) (t m : ℕ) (said : Said) → Legal ps (event.Answer t m said ∷ h) → IsLater h (event.Answer t m said)
answered_later ps h t m said legal = record {
  many = omega arith;
  low = mark_rises ps h (event.Answer t m said) legal.0;
  opens = λ n f few is. elim (cases_eq m n) [
    | inl same ↦ absurd (none_some _ f (if_some m n None (open_op h n) same) is)
    | inr other ↦ sym (if_none m n None (open_op h n) other) ∙ is
  ];
}

-- ---- a wire is performed

ops_by : (s : Store) (n : ℕ) (o : Op) (f : Fate) → (store_by s n o f).ops ≡ s.ops
ops_by s n o IsOld = refl
ops_by s n o (Again said) = refl
ops_by s n o Silent = refl
ops_by s n o (New said) = refl

if_heard : (b : Bool) (s t : Store) → t.ops ≡ s.ops → (cond b t s).ops ≡ s.ops
if_heard true s t same = same
if_heard false s t same = refl

same_ops : (s : Store) (x : Wire) → (performed s x).ops ≡ s.ops
same_ops s x = if_heard (s.incarnation == x.incarnation) s (store_by (marked s x.low_water) x.number x.op (fate_of s x))
    (ops_by (marked s x.low_water) x.number x.op (fate_of s x))

no_shorter : (s : Store) (x : Wire) → PerformCase s x → length s.list ≤ length (performed s x).list
no_shorter s x (old r l) = (let same = ap length l in omega (arith, same))
no_shorter s x (silent r l) = (let same = ap length l in omega (arith, same))
no_shorter s x (again said u r l) = (let same = ap length l in omega (arith, same))
no_shorter s x (news u r l) = (let same : length (performed s x).list ≡ suc (length s.list) = ap length l in omega (arith, same))

abbrev IsOver : List Event → Performed → Type 0
IsOver h e = (e.0 ≤ given h) × (open_op h e.0 ≡ None)

abbrev AllOver : List Event → List Performed → Type 0
AllOver h list = (k : ℕ) (e : Performed) → slice_get list k ≡ Some e → IsOver h e

over_more : (h : List Event) (x : Performed) (list : List Performed) → IsOver h x → AllOver h list → AllOver h (x ∷ list)
over_more h x list is all zero e at = subst (IsOver h) (some_same x e at) is
over_more h x list is all (suc k) e at = all k e at

over_case : (h : List Event) (s : Store) (x : Wire) → IsOver h (x.number, x.op, says s x) → AllOver h s.list → PerformCase s x → AllOver h (performed s x).list
over_case h s x is all (old r l) = subst (AllOver h) (sym l) all
over_case h s x is all (silent r l) = subst (AllOver h) (sym l) all
over_case h s x is all (again said u r l) = subst (AllOver h) (sym l) all
over_case h s x is all (news u r l) = subst (AllOver h) (sym l) (over_more h (x.number, x.op, says s x) s.list is all)

silent_case : (h : List Event) (s : Store) (x : Wire) → replied s x ≡ None → AllOver h s.list → PerformCase s x → AllOver h (performed s x).list
silent_case h s x none all (old r l) = absurd (none_some _ _ none r)
silent_case h s x none all (silent r l) = subst (AllOver h) (sym l) all
silent_case h s x none all (again said u r l) = absurd (none_some _ _ none r)
silent_case h s x none all (news u r l) = absurd (none_some _ _ none r)

-- a data component performed a wire whose mark is low
stored : (c : Core) (ds es : List Store) (x : Wire) (y : Option Reply) (it : PerformsAt ds x y es)
    → x.low_water ≤ low_water c.events → AllOver c.events (performed it.s x).list
    → IsQuiet c ds → IsQuiet c es
stored c ds es x y it low over q = subst (IsQuiet c) (sym it.then_is) (record {
  each = λ d s at. each d s at;
  given_up = q.given_up;
  full = λ n f s held opens at. full n f s held opens at;
})
  where
    n : ℕ
    n = (target x.op).dc

    t : Store
    t = performed it.s x

    was : IsQuietAt c n it.s
    was = q.each n it.s it.at

    marks : IsStoreLow (low_water c.events) t
    marks = performed_low it.s x (low_water c.events) low (was.mark, was.saved_mark)

    each : (d : ℕ) (s : Store) → slice_get (slice_set ds n t) d ≡ Some s → IsQuietAt c d s
    each d s at = elim (cases_eq n d) [
      | inl here ↦
          let mine : t ≡ s = some_same t s (sym (set_same ds n it.s t it.at) ∙ (ap (slice_get (slice_set ds n t)) here ∙ at)) in
          subst (IsQuietAt c d) mine (subst (λ (k : ℕ). IsQuietAt c k t) here
          (record { up = was.up; known = was.known ∙ sym (performed_by it.s x); mark = marks.0; saved_mark = marks.1; list = over }))
      | inr other ↦ q.each d s (sym (set_other ds n d t other) ∙ at)
    ]

    full : AreFullWhereGivenUp c (slice_set ds n t)
    full m f s held opens at = elim (cases_eq n (target f.op).dc) [
      | inl here ↦
          let mine : t ≡ s = some_same t s (sym (set_same ds n it.s t it.at) ∙ (ap (slice_get (slice_set ds n t)) here ∙ at)) in
          let most = q.full m f it.s held opens (ap (slice_get ds) (sym here) ∙ it.at) in
          let longer = no_shorter it.s x (perform_case it.s x) in
          let ops = same_ops it.s x in
          subst (λ (z : Store). z.ops ≤ length z.list) mine (omega (arith, most, longer, ops))
      | inr other ↦ q.full m f s held opens (sym (set_other ds n (target f.op).dc t other) ∙ at)
    ]

-- ---- the wire of a request

wire_is : (c : Core) (r : Asking) (n : ℕ) (o : Option Redoing) (x : Wire) → wire_by c r n o ≡ Ok x → (x ≡ wire_for c r n) × (o ≡ None)
wire_is c r n None x is = (let same : wire_for c r n ≡ x = cc in (sym same, refl))
wire_is c r n (Some q) x is = absurd cc

none_sent : (c : Core) (r : Asking) (n : ℕ) (o : Option Redoing) (down : Down) → wire_by c r n o ≡ Err down → o ≡ None → ⊥
none_sent c r n None down is up = cc
none_sent c r n (Some q) down is up = none_some _ q up refl

pub flies_here : (c : Core) (r : Asking) → Legal c.procs c.events → IsOpenHere c r → open_op c.events r.number ≡ Some (flight r.txn r.op)
flies_here c r legal here =
    ap (open_op c.events) (sym here.same_number)
    ∙ ((standing_flight c.procs c.events legal r.txn here.s here.sent here.is here.waits).1 ∙ ap (λ (o : Op). Some (flight r.txn o)) here.same_op)

few_here : (c : Core) (r : Asking) → Legal c.procs c.events → IsOpenHere c r → r.number ≤ given c.events
few_here c r legal here =
    let few = (standing_flight c.procs c.events legal r.txn here.s here.sent here.is here.waits).0 in
    let same = here.same_number in
    omega (arith, few, same)

-- it is answered
pub answered_quiet : (c : Core) (r : Asking) (z : Reply) (ds es : List Store) → Legal c.procs c.events → IsAnswer c r z
    → Legal c.procs (after_answer c r z.said).events
    → Sends c r ds (Some z) es → IsQuiet c ds → IsQuiet (after_answer c r z.said) es
answered_quiet c r z ds es legal a legal' (Unsent down is none same) q = absurd (let bad : Some z ≡ None = none in cc)
answered_quiet c r z ds es legal a legal' (Sent x is (Nowhere past none same)) q = absurd (let bad : Some z ≡ None = none in cc)
answered_quiet c r z ds es legal a legal' (Sent x is (There it)) q =
    let here : IsOpenHere c r = record { s = a.s; is = a.is; sent = a.sent; waits = a.waits; same_number = a.same_number; same_op = a.same_op } in
    let wire = (wire_is c r (site_of c.sites r.op).incarnation (site_of c.sites r.op).redo x is).0 in
    let number : x.number ≡ r.number = ap (λ (y : Wire). y.number) wire in
    let mark : x.low_water ≡ low_water c.events = ap (λ (y : Wire). y.low_water) wire in
    let e = event.Answer r.txn r.number z.said in
    let later = answered_later c.procs c.events r.txn r.number z.said legal' in
    let low = later.low in
    let q' : IsQuiet (with_event c e) ds = quiet_later c e ds later q in
    let few = few_here c r legal here in
    let over : IsOver (e ∷ c.events) (x.number, x.op, says it.s x) =
    (omega (arith, few, number), if_some r.number x.number None (open_op c.events x.number) (sym number)) in
    stored (with_event c e) ds es x (Some z) it (omega (arith, mark, low))
    (over_case (e ∷ c.events) it.s x over (q'.each (target x.op).dc it.s it.at).list (perform_case it.s x)) q'

-- ---- what is said to a number that is open

said_fits : (room : Bool) (v : RecordValue) (o : Op) → fits o (said_to room v o) ≡ true
said_fits room None (Read r) = refl
said_fits room (Some v) (Read r) = refl
said_fits true None (Insert r w) = refl
said_fits false None (Insert r w) = refl
said_fits room (Some v) (Insert r w) = refl
said_fits room None (Update r w) = refl
said_fits room (Some v) (Update r w) = refl
said_fits room None (Delete r) = refl
said_fits room (Some v) (Delete r) = refl

abbrev IsSaid : Store → ℕ → Op → Reply → Type 0
IsSaid s n o y = (y.incarnation ≡ s.incarnation) × (y.number ≡ n) × (fits o y.said ≡ true)

reply_new : (s m : Store) (n : ℕ) (more : Bool) (o : Op) (z : Reply) → reply_by s n (fate_of_new m more o) ≡ Some z → IsSaid s n o z
reply_new s m n more o z is = by (nat_lt (length m.list) m.ops) is
  where
    by : (b : Bool) → reply_by s n (if b then New (answer (has_room m.rows more m.base m.list) m.base m.list o) else Silent) ≡ Some z → IsSaid s n o z
    by true e = subst (IsSaid s n o) (some_same _ z e) (refl, refl, said_fits (has_room m.rows more m.base m.list) (value_in m.base m.list (target o)) o)
    by false e = absurd (none_some _ z refl e)

not_old : (a b n : ℕ) → a ≤ b → b < n → nat_le n (raised a b) ≡ false
not_old a b n low above = by (nat_le a b)
  where
    by : (t : Bool) → nat_le n (if t then b else a) ≡ false
    by true = grind (arith, nat_tests)
    by false = grind (arith, nat_tests)

fresh_reply : (s : Store) (x : Wire) (z : Reply) → nat_le x.number (raised s.mark x.low_water) ≡ false
    → said_under s.list x.number ≡ None → replied s x ≡ Some z → IsSaid s x.number x.op z
fresh_reply s x z above none is = by (s.incarnation == x.incarnation) is
  where
    m : Store
    m = marked s x.low_water

    fresh : fate_of s x ≡ fate_of_new m x.redo x.op
    fresh = ap (λ (b : Bool). if b then IsOld else fate_above (said_under s.list x.number) m x.redo x.op) above
        ∙ ap (λ (o : Option Said). fate_above o m x.redo x.op) none

    by : (b : Bool) → (if b then reply_by s x.number (fate_of s x) else None) ≡ Some z → IsSaid s x.number x.op z
    by true e = reply_new s m x.number x.redo x.op z (ap (reply_by s x.number) (sym fresh) ∙ e)
    by false e = absurd (none_some _ z refl e)

under_get : (list : List Performed) (n : ℕ) (said : Said) → said_under list n ≡ Some said → (k : ℕ) × (e : Performed) × (slice_get list k ≡ Some e) × (e.0 ≡ n)
under_get [] n said is = absurd (none_some _ said refl is)
under_get (x ∷ list) n said is = elim (cases_eq x.0 n) [
  | inl same ↦ (0, x, refl, same)
  | inr other ↦ (let ih = under_get list n said (sym (if_none x.0 n (Some x.2) (said_under list n) other) ∙ is) in (suc ih.0, ih.1, ih.2, ih.3))
]

none_under : (o : Option Said) → ((said : Said) → o ≡ Some said → ⊥) → o ≡ None
none_under None never = refl
none_under (Some said) never = absurd (never said refl)

-- ---- it is given up

-- the data component of the request is full, if it is there
abbrev IsFullFor : Asking → List Store → Type 0
IsFullFor r ds = (s : Store) → slice_get ds (target r.op).dc ≡ Some s → s.ops ≤ length s.list

given_up_quiet : (c : Core) (r : Asking) (ds : List Store) → Legal c.procs c.events → IsOpenHere c r → IsFullFor r ds
    → IsQuiet c ds → IsQuiet (with_given_up c r.number) ds
given_up_quiet c r ds legal here full q = record {
  each = λ d s at. (let is = q.each d s at in record { up = is.up; known = is.known; mark = is.mark; saved_mark = is.saved_mark; list = is.list });
  given_up = λ m held. elim (cases_eq r.number m) [
    | inl same ↦ (let few = few_here c r legal here in omega (arith, few, same))
    | inr other ↦ q.given_up m (sym (holds_beside (holds r.number c.given_up) r.number m c.given_up other) ∙ held)
  ];
  full = λ m f s held opens at. elim (cases_eq r.number m) [
    | inl same ↦
        let mine : flight r.txn r.op ≡ f = some_same (flight r.txn r.op) f (sym (flies_here c r legal here) ∙ (ap (open_op c.events) same ∙ opens)) in
        full s (ap (λ (g : Flight). slice_get ds (target g.op).dc) mine ∙ at)
    | inr other ↦ q.full m f s (sym (holds_beside (holds r.number c.given_up) r.number m c.given_up other) ∙ held) opens at
  ];
}

pub left_quiet : (c : Core) (r : Asking) (y : Option Reply) (ds es : List Store) → Legal c.procs c.events → IsOpenHere c r → Sends c r ds y es
    → ((z : Reply) → y ≡ Some z → IsAnswer c r z → ⊥) → IsQuiet c ds → IsQuiet (with_given_up c r.number) es
left_quiet c r y ds es legal here (Unsent down is none same) refused q =
    subst (IsQuiet (with_given_up c r.number)) (sym same)
    (given_up_quiet c r ds legal here
    (λ s at. absurd (none_sent c r (site_of c.sites r.op).incarnation (site_of c.sites r.op).redo down is
    (q.each (target r.op).dc s at).up)) q)
left_quiet c r y ds es legal here (Sent x is (Nowhere past none same)) refused q =
    let wire = (wire_is c r (site_of c.sites r.op).incarnation (site_of c.sites r.op).redo x is).0 in
    let op : x.op ≡ r.op = ap (λ (w : Wire). w.op) wire in
    subst (IsQuiet (with_given_up c r.number)) (sym same)
    (given_up_quiet c r ds legal here (λ s at. absurd (none_some _ s past (ap (λ (o : Op). slice_get ds (target o).dc) op ∙ at))) q)
left_quiet c r y ds es legal here (Sent x is (There it)) refused q = by y refl
  where
    n : ℕ
    n = (site_of c.sites r.op).incarnation

    facts : (x ≡ wire_for c r n) × ((site_of c.sites r.op).redo ≡ None)
    facts = wire_is c r n (site_of c.sites r.op).redo x is

    op : x.op ≡ r.op
    op = ap (λ (w : Wire). w.op) facts.0

    at : slice_get ds (target r.op).dc ≡ Some it.s
    at = ap (λ (o : Op). slice_get ds (target o).dc) (sym op) ∙ it.at

    was : IsQuietAt c (target r.op).dc it.s
    was = q.each (target r.op).dc it.s at

    heard : it.s.incarnation ≡ x.incarnation
    heard = sym was.known ∙ sym (ap (λ (w : Wire). w.incarnation) facts.0)

    number : x.number ≡ r.number
    number = ap (λ (w : Wire). w.number) facts.0

    low : x.low_water ≡ low_water c.events
    low = ap (λ (w : Wire). w.low_water) facts.0

    flying : open_op c.events r.number ≡ Some (flight r.txn r.op)
    flying = flies_here c r legal here

    none : said_under it.s.list x.number ≡ None
    none = none_under (said_under it.s.list x.number) (λ said under.
        let e = under_get it.s.list x.number said under in
        none_some _ (flight r.txn r.op) ((was.list e.0 e.1 e.2).1) (ap (open_op c.events) (e.3 ∙ number) ∙ flying))

    above : nat_le x.number (raised it.s.mark x.low_water) ≡ false
    above =
        let mark = was.mark in
        let over = flight_above c.procs c.events legal r.number (flight r.txn r.op) flying in
        not_old it.s.mark x.low_water x.number (omega (arith, mark, low)) (omega (arith, over, low, number))

    answers : (z : Reply) → y ≡ Some z → IsAnswer c r z
    answers z some =
        let said : IsSaid it.s x.number x.op z = fresh_reply it.s x z above none (sym it.said ∙ some) in
        record {
          s = here.s;
          is = here.is;
          sent = here.sent;
          waits = here.waits;
          same_number = here.same_number;
          same_op = here.same_op;
          heard = ap (λ (o : Option Redoing). is_up o && ((site_of c.sites r.op).incarnation == z.incarnation)) facts.1 ∙ eq-true _ _ (was.known ∙ sym said.0);
          agree = said.1 ∙ number;
          fit = subst (λ (o : Op). fits o z.said ≡ true) op said.2;
        }

    by : (w : Option Reply) → y ≡ w → IsQuiet (with_given_up c r.number) es
    by (Some z) some = absurd (refused z some (answers z some))
    by None silence =
        let quiet : replied it.s x ≡ None = sym it.said ∙ silence in
        let t : Store = performed it.s x in
        let q' : IsQuiet c es = stored c ds es x y it (omega (arith, low))
        (silent_case c.events it.s x quiet (q.each (target x.op).dc it.s it.at).list (perform_case it.s x)) q in
        let full : t.ops ≤ length t.list =
        full_by it.s (marked it.s x.low_water) x.number x.op (it.s.incarnation == x.incarnation) (fate_of it.s x) refl
        refl (eq-true _ _ heard) quiet (silent_room it.s x) in
        let there : slice_get es (target r.op).dc ≡ Some t =
        subst (λ (o : Op). slice_get es (target o).dc ≡ Some t) op
        (ap (λ (fs : List Store). slice_get fs (target x.op).dc) it.then_is
        ∙ set_same ds (target x.op).dc it.s t it.at) in
        given_up_quiet c r es legal here (λ s is_there. subst (λ (z : Store). z.ops ≤ length z.list) (some_same t s (sym there ∙ is_there)) full) q'

-- ---- where nothing was sent but what is redone

done_over : (ps : List Checked) (h : List Event) → Legal ps h → (d from more : ℕ) → AllOver h (done_above h d from more)
done_over ps h legal d from zero k e at = absurd (none_some _ e refl at)
done_over ps h legal d from (suc more) k e at = by (done_over ps h legal d from more) (done_at h d (from + suc more)) refl k e at
  where
    by : AllOver h (done_above h d from more) → (o : Option Answered) → done_at h d (from + suc more) ≡ o → AllOver h (list_of o ++ done_above h d from more)
    by rest None is = rest
    by rest (Some a) is =
        let was = answered_done h d (from + suc more) a is in
        let number = done_number h d (from + suc more) a is in
        over_more h (a.number, a.op, a.said) (done_above h d from more)
        (subst (λ (m : ℕ). (m ≤ given h) × (open_op h m ≡ None)) (sym number)
        (answered_given ps h legal (from + suc more) a was, closed_by ps h legal (from + suc more) a was))
        rest

pub quiet_at_first : (c : Core) (ds : List Store) → Legal c.procs c.events → c.given_up ≡ [] → EachIsKnown (at_rest c ds) → AreMarksLow (at_rest c ds)
    → EachHasWhatWasDone c.events ds → IsQuiet c ds
quiet_at_first c ds legal none known low done = record {
  each = λ d s at.
      let is = known d s at in
      record {
        up = is.up;
        known = is.now;
        mark = all_at (λ (x : Store). x.mark ≤ low_water c.events) ds d s at low.dcs;
        saved_mark = all_at (λ (x : Store). x.saved_mark ≤ low_water c.events) ds d s at low.saved;
        list = subst (AllOver c.events) (sym (done d s at)) (done_over c.procs c.events legal d s.base_mark _);
      };
  given_up = λ m held. absurd (let bad : false ≡ true = sym (ap (holds m) none) ∙ held in cc);
  full = λ m f s held opens at. absurd (let bad : false ≡ true = sym (ap (holds m) none) ∙ held in cc);
}
