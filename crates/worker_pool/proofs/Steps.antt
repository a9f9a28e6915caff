-- What the locked value keeps is kept by each step.
use Rattle.std.proofs.Common.{◌≡◌, ◌≢◌, ℕ, zero, suc, ◌+◌, ◌≤◌, List, [], ◌∷◌, Bool, true}
use Rattle.std.proofs.Common.{false, length, refl, sym, ◌∙◌, ap, subst, inl, inr, arith, Option, Some, None, cond}
use Rattle.std.proofs.Common.{replicate, Result, Ok, Err}
use Rattle.std.proofs.Math.ListN.{set}
use Rattle.std.proofs.lemmas.Bool.{cases_eq}
use Rattle.std.proofs.lemmas.List.{length-replicate}
use Rattle.std.proofs.lemmas.List.Folds.{sum_by-replicate}
use Rattle.std.specs.List.{slice_get, count_by}
use Rattle.std.specs.Prelude.{OnOk, OnErr}
use Rattle.tc_log.specs.declared.event.Event.{Event}
use Rattle.tc_log.specs.declared.event.Event.TheVariants.{Admit, Ask, Answer as Answers, Undo, End}
use Rattle.tc_log.specs.declared.event.Outcome.{Outcome}
use Rattle.tc_log.specs.declared.event.Outcome.TheVariants as outcome
use Rattle.history.specs.Calls.{admitted}
use Rattle.history.specs.Calls as named
use Rattle.history.specs.Flight.{given}
use Rattle.verifier.specs.Checked.{Checked}
use Rattle.access_slots.specs.declared.op.News.{News}
use Rattle.transactions.specs.declared.Site.{Site}
use Rattle.transactions.specs.Standing.{Standing, moved}
use Rattle.transactions.proofs.StandingLemmas.{standing-same, standing-other}
use Rattle.tc_core.specs.Core.{Core, Asking}
use Rattle.tc_core.specs.Admission.{IsCalled, Takes}
use Rattle.tc_core.specs.Replies.{with_event, after_ask, after_undo, after_answer, end_reply, after_end}
use Rattle.tc_core.specs.Doubts.{given_up_behind}
use Rattle.tc_core.specs.GivingUp.{IsOpenHere, with_given_up}
use Rattle.tc_core.specs.Redo.{after_told, up_again, after_redo, redone_at, after_redone}
use Rattle.tc_core.specs.declared.state.NewsFault.{NewsFault}
use Rattle.tc_core.specs.declared.state.Redo.{Redo}
use Rattle.tc_core.specs.declared.state.Redo.TheVariants as redo
use Rattle.tc_core.specs.declared.state.RedoMismatch.{RedoMismatch}
use Rattle.tc_core.specs.declared.state.Receipt.{Receipt}
use Rattle.tc_core.specs.declared.state.Stranger.{Stranger}
use Rattle.tc_core.specs.declared.state.Call.{Call}
use Rattle.tc_core.specs.declared.state.TxnId.{TxnId}
use Rattle.tc_core.specs.declared.state.Refusal.{Refusal}
use Rattle.tc_core.specs.declared.state.Refusal.TheVariants as refusal
use Rattle.tc_core.specs.declared.state.Asked.{Asked}
use Rattle.tc_core.specs.declared.state.Asked.TheVariants.{Request, Undoing, Over, Stuck, Waits, Running, Unknown}
use Rattle.worker_pool.specs.declared.answer.Answer.{Answer}
use Rattle.worker_pool.specs.declared.answer.Answer.TheVariants.{Committed, Aborted, NoRoom, InDoubt, Blocked, Refused}
use Rattle.worker_pool.specs.declared.answer.Progress.{Progress}
use Rattle.worker_pool.specs.declared.answer.Progress.TheVariants.{Waiting, Begun, Answered}
use Rattle.tc_core.specs.Admission.{call_of}
use Rattle.worker_pool.specs.Answers.{place_of, is_some, answer_of, StandsBehind, IsAdmitted}
use Rattle.worker_pool.specs.Answers.{IsEnded, RefusalFits, StaysBut, BeginWith, still_given_up, IsMoment, AnswerFits}
use Rattle.worker_pool.specs.Kept.{ends, serial_of, txn_of, place_in, is_placed, IsOpen, IsBegun, Fits, IsAdmittedFor, Keeps}
use Rattle.worker_pool.specs.Joining.Seen.{IsAnswered, AnswersStay}
use Rattle.worker_pool.specs.Joining.Moves.{MovesOn, IsAnsweredBy}
use Rattle.worker_pool.specs.Acknowledged.{WasAnswered}
use Rattle.worker_pool.specs.declared.pool_state.Next.{Next}
use Rattle.worker_pool.specs.declared.pool_state.Next.TheVariants as next
use Rattle.worker_pool.proofs.Lists.{get_set, set_here, set_other, length_set, count_set}
use Rattle.worker_pool.proofs.Placed.{stands_more, stands_here, stood, stands_within, begins_more, begins_length}
use Rattle.worker_pool.specs.Doubts.{IsDoubtful}
use Rattle.worker_pool.proofs.Doubtful.{sends_more, doubtful_sent}
use Rattle.worker_pool.proofs.GivenUp.{begin_same, begin_then, begin_behind, given_up_more}
use Rattle.worker_pool.specs.Restarts.{StaysKnown}
use Rattle.worker_pool.proofs.Known.{known_behind}

-- ---- one event more

-- the event takes back neither admissions nor numbers
abbrev IsMore : List Event → Event → Type 0
IsMore h e = (admitted h ≤ admitted (e ∷ h)) × (given h ≤ given (e ∷ h))

stays_more : (start c : Core) (e : Event) → StaysBut start c → StaysBut start (with_event c e)
stays_more start c e stays = ap (λ (s : Core). record s { events = e ∷ c.events; given_up = given_up_behind e c.given_up; sites = c.sites }) stays

behind_more : (first h : List Event) (e : Event) (place : ℕ) (x : Event) → StandsBehind first h place x → StandsBehind first (e ∷ h) place x
behind_more first h e place x at = record { behind = at.behind; stands = stands_more h e place x at.stands }

is_admitted_more : (first h : List Event) (e : Event) (c : named.Call) (t : ℕ) → IsAdmitted first h c t → IsAdmitted first (e ∷ h) c t
is_admitted_more first h e c t a = record { place = a.place; at = behind_more first h e a.place (Admit t c.proc c.args) a.at }

ended_more : (start : Core) (h : List Event) (e : Event) (c : named.Call) (o : Option ℕ) (place : ℕ) (how : Outcome)
    → IsEnded start h c o place how → IsEnded start (e ∷ h) c o place how
ended_more start h e c o place how it =
    record {
      t = it.t;
      own = it.own;
      takes = it.takes;
      admitted = is_admitted_more start.events h e c it.t it.admitted;
      ended = behind_more start.events h e place (End it.t how) it.ended;
    }

refusal_more : (start : Core) (h : List Event) (e : Event) (c : named.Call) (why : Refusal)
    → IsMore h e → RefusalFits start h c why → RefusalFits start (e ∷ h) c why
refusal_more start h e c refusal.NoProcedure more it = it
refusal_more start h e c refusal.ArgumentCount more it = it
refusal_more start h e c (refusal.Busy b) more it = it
refusal_more start h e c refusal.NumbersSpent more it = (it.0, (let many = it.1 in omega (arith, more.0, more.1, many)))
refusal_more start h e c refusal.Memory more it = it

-- one event more is one moment more
moment_more : (start then now : Core) (e : Event) → IsMoment start then now → IsMoment start then (with_event now e)
moment_more start then now e m = record {
  stays = m.stays;
  begins = m.begins;
  goes_on = record { later = e ∷ m.goes_on.later; is = ap (λ (l : List Event). e ∷ l) m.goes_on.is };
  given_up = begin_behind e (still_given_up m.goes_on.later then.given_up) now.given_up m.given_up;
}

answer_more : (start now : Core) (e : Event) (c : named.Call) (a : Answer) (o : Option ℕ)
    → IsMore now.events e → AnswerFits start now c a o → AnswerFits start (with_event now e) c a o
answer_more start now e c (Committed p) o more it = ended_more start now.events e c o p outcome.Committed it
answer_more start now e c (Aborted v p) o more it = ended_more start now.events e c o p (outcome.Aborted v) it
answer_more start now e c (NoRoom p) o more it = ended_more start now.events e c o p outcome.NoRoom it
answer_more start now e c (InDoubt n) o more it =
    record {
      t = it.t;
      own = it.own;
      takes = it.takes;
      admitted = is_admitted_more start.events now.events e c it.t it.admitted;
      sent = sends_more start.events now.events e it.t n it.sent;
    }
answer_more start now e c (Blocked b) o more it =
    record {
      waits = it.waits;
      takes = it.takes;
      then = it.then;
      moment = moment_more start it.then now e it.moment;
      blocked = it.blocked;
      first = it.first;
      other = it.other;
      place = it.place;
      admitted = stands_more now.events e it.place (Admit b.holder it.other.proc it.other.args) it.admitted;
      excluded = it.excluded;
    }
answer_more start now e c (Refused why) o more it = (it.0, refusal_more start now.events e c why more it.1)

-- where the transaction stays open
fits_more : (start now : Core) (e : Event) (c : named.Call) (p : Progress) → IsMore now.events e
    → ((t : ℕ) → txn_of p ≡ Some t → IsOpen now.events t → IsOpen (e ∷ now.events) t) → Fits start now c p → Fits start (with_event now e) c p
fits_more start now e c Waiting more still it = it
fits_more start now e c (Begun t) more still it =
    record { takes = it.takes; admitted = is_admitted_more start.events now.events e c t.serial it.admitted; still = still t.serial refl it.still }
fits_more start now e c (Answered a o) more still it = answer_more start now e c a (serial_of o) more it

-- ---- no event, but numbers given up or news of data components

-- numbers given up stay, and sites are another matter
answer_beside : (start now : Core) (numbers : List ℕ) (sites : List Site) (c : named.Call) (a : Answer) (o : Option ℕ)
    → BeginWith now.given_up numbers → AnswerFits start now c a o → AnswerFits start (record now { given_up = numbers; sites = sites }) c a o
answer_beside start now numbers sites c (Committed p) o more it = it
answer_beside start now numbers sites c (Aborted v p) o more it = it
answer_beside start now numbers sites c (NoRoom p) o more it = it
answer_beside start now numbers sites c (InDoubt n) o more it = it
answer_beside start now numbers sites c (Blocked b) o more it =
    let m = it.moment in
    record {
      waits = it.waits;
      takes = it.takes;
      then = it.then;
      moment = record {
        stays = m.stays;
        begins = m.begins;
        goes_on = m.goes_on;
        given_up = begin_then (still_given_up m.goes_on.later it.then.given_up) now.given_up numbers m.given_up more;
      };
      blocked = it.blocked;
      first = it.first;
      other = it.other;
      place = it.place;
      admitted = it.admitted;
      excluded = it.excluded;
    }
answer_beside start now numbers sites c (Refused why) o more it = it

fits_beside : (start now : Core) (numbers : List ℕ) (sites : List Site) (c : named.Call) (p : Progress)
    → BeginWith now.given_up numbers → Fits start now c p → Fits start (record now { given_up = numbers; sites = sites }) c p
fits_beside start now numbers sites c Waiting more it = it
fits_beside start now numbers sites c (Begun t) more it = it
fits_beside start now numbers sites c (Answered a o) more it = answer_beside start now numbers sites c a (serial_of o) more it

-- another's event leaves a transaction open
open_other : (h : List Event) (e : Event) (t : ℕ) → named.txn_of e ≢ t → IsOpen h t → IsOpen (e ∷ h) t
open_other h e t other still = record { s = still.s; is = standing-other e h t other ∙ still.is }

-- ---- who has a transaction, where one element is written and keeps its transaction

record Owner (ps : List Progress) (i t : ℕ) : Type 0 where
  progress : Progress
  at : slice_get ps i ≡ Some progress
  own : txn_of progress ≡ Some t

owner : (ps : List Progress) (k : ℕ) (p p' : Progress) → slice_get ps k ≡ Some p → txn_of p' ≡ txn_of p
    → (i : ℕ) (q : Progress) (t : ℕ) → slice_get (set ps k p') i ≡ Some q → txn_of q ≡ Some t → Owner ps i t
owner ps k p p' at same i q t at' own =
    elim (get_set ps k i p' q at') [
      | inl x ↦ record { progress = p; at = ap (λ (n : ℕ). slice_get ps n) x.0 ∙ at; own = sym same ∙ (ap txn_of x.1 ∙ own) }
      | inr x ↦ record { progress = q; at = x.1; own = own }
    ]

owner_back : (ps : List Progress) (k : ℕ) (p p' : Progress) → slice_get ps k ≡ Some p → txn_of p' ≡ txn_of p
    → (i : ℕ) (q : Progress) (t : ℕ) → slice_get ps i ≡ Some q → txn_of q ≡ Some t → Owner (set ps k p') i t
owner_back ps k p p' at same i q t at' own =
    elim (cases_eq i k) [
      | inl e ↦
          let both : Some p ≡ Some q = sym at ∙ (ap (λ (n : ℕ). slice_get ps n) (sym e) ∙ at') in
          let pq : p ≡ q = cc in
          record { progress = p'; at = ap (λ (n : ℕ). slice_get (set ps k p') n) e ∙ set_here ps k p p' at; own = same ∙ (ap txn_of pq ∙ own) }
      | inr ne ↦ record { progress = q; at = set_other ps k i p' ne ∙ at'; own = own }
    ]

of_call : (calls : List Call) (ps qs : List Progress) (t proc : ℕ) (args : List ℕ)
    → (x : IsAdmittedFor calls ps t proc args) → Owner qs x.k t → IsAdmittedFor calls qs t proc args
of_call calls ps qs t proc args x y = record { k = x.k; progress = y.progress; at = y.at; own = y.own; c = x.c; of = x.of; same = x.same }

same_named : (c : named.Call) (proc : ℕ) (args : List ℕ) → c.proc ≡ proc → c.args ≡ args → c ≡ record { proc = proc; args = args }
same_named c proc args pp aa = ap (λ (n : ℕ). record c { proc = n }) pp ∙ ap (λ (v : List ℕ). record c { proc = proc; args = v }) aa

same_call : (calls : List Call) (k i : ℕ) (c d : Call) → slice_get calls k ≡ Some c → i ≡ k → slice_get calls i ≡ Some d → c ≡ d
same_call calls k i c d of is of' = (let both : Some c ≡ Some d = sym of ∙ (ap (λ (n : ℕ). slice_get calls n) (sym is) ∙ of') in cc)

no_place : (p : Progress) (place : ℕ) → place_in p ≡ None → place_in p ≡ Some place → ⊥
no_place p place none is = (let bad : None ≡ Some place = sym none ∙ is in cc)

-- ---- the steps

-- nothing happened: a call is answered with no place, and keeps its transaction
pub told : (start : Core) (calls : List Call) (state : Core) (ps : List Progress) (k : ℕ) (p p' : Progress) (c : Call)
    → Keeps start calls state ps → slice_get ps k ≡ Some p → slice_get calls k ≡ Some c
    → Fits start state (call_of c) p' → txn_of p' ≡ txn_of p → place_in p ≡ None → place_in p' ≡ None
    → Keeps start calls state (set ps k p')
told start calls state ps k p p' c keeps at of fits same was none = record {
  stays = keeps.stays;
  begins = keeps.begins;
  restarts = keeps.restarts;
  one_each = length_set ps k p' ∙ keeps.one_each;
  fits = λ i q d at' of'. elim (get_set ps k i p' q at') [
    | inl x ↦ subst (λ (y : Progress). Fits start state (call_of d) y) x.1
        (subst (λ (y : Call). Fits start state (call_of y) p') (same_call calls k i c d of x.0 of') fits)
    | inr x ↦ keeps.fits i q d x.1 of'
  ];
  recent = λ i q t at' own. let o = owner ps k p p' at same i q t at' own in keeps.recent i o.progress t o.at o.own;
  own = λ i j q r t a b qa rb.
      let x = owner ps k p p' at same i q t a qa in
      let y = owner ps k p p' at same j r t b rb in
      keeps.own i j x.progress y.progress t x.at y.at x.own y.own;
  known = λ place t proc args low stands.
      let x = keeps.known place t proc args low stands in
      of_call calls ps (set ps k p') t proc args x (owner_back ps k p p' at same x.k x.progress t x.at x.own);
  below = λ i q place at' is. elim (get_set ps k i p' q at') [
    | inl x ↦ absurd (no_place p' place none (ap place_in x.1 ∙ is))
    | inr x ↦ keeps.below i q place x.1 is
  ];
  places = λ i j q r place a b qa rb. elim (get_set ps k i p' q a) [
    | inl x ↦ absurd (no_place p' place none (ap place_in x.1 ∙ qa))
    | inr x ↦ elim (get_set ps k j p' r b) [
      | inl y ↦ absurd (no_place p' place none (ap place_in y.1 ∙ rb))
      | inr y ↦ keeps.places i j q r place x.1 y.1 qa rb
    ]
  ];
  ends_placed =
      let n = count_set is_placed ps k p p' at in
      let m : count_by is_placed (set ps k p') + cond false 1 0 ≡ count_by is_placed ps + cond false 1 0 =
      subst (λ (b : Bool). count_by is_placed (set ps k p') + cond b 1 0 ≡ count_by is_placed ps + cond false 1 0) (ap is_some was)
      (subst (λ (b : Bool). count_by is_placed (set ps k p') + cond (is_placed p) 1 0 ≡ count_by is_placed ps + cond b 1 0) (ap is_some none) n) in
      let old = keeps.ends_placed in
      omega arith;
}

-- an event that neither admits nor ends a transaction
record IsQuiet (h : List Event) (e : Event) : Type 0 where
  more : IsMore h e
  no_end : ends (e ∷ h) ≡ ends h
  no_admit : (t proc : ℕ) (args : List ℕ) → e ≡ Admit t proc args → ⊥
  still : (t : ℕ) → IsOpen h t → IsOpen (e ∷ h) t

quiet_by : (h : List Event) (e : Event) → IsMore h e → ends (e ∷ h) ≡ ends h
    → ((t proc : ℕ) (args : List ℕ) → e ≡ Admit t proc args → ⊥)
    → ((s : Standing) → (s' : Standing) × (moved e (Some s) ≡ Some s')) → IsQuiet h e
quiet_by h e more no_end no_admit goes_on = record {
  more = more;
  no_end = no_end;
  no_admit = no_admit;
  still = λ t open'. elim (cases_eq (named.txn_of e) t) [
    | inl own ↦ let next = goes_on open'.s in record { s = next.0; is = standing-same e h t own ∙ (ap (moved e) open'.is ∙ next.1) }
    | inr other ↦ open_other h e t other open'
  ];
}

quiet_ask : (h : List Event) (t n : ℕ) (o : _) → IsQuiet h (Ask t n o)
quiet_ask h t n o = quiet_by h (Ask t n o) (omega arith, omega arith) refl (λ u proc args bad. cc) (λ s. (_, refl))

quiet_answer : (h : List Event) (t n : ℕ) (said : _) → IsQuiet h (Answers t n said)
quiet_answer h t n said = quiet_by h (Answers t n said) (omega arith, omega arith) refl (λ u proc args bad. cc) (λ s. (_, refl))

quiet_undo : (h : List Event) (t n : ℕ) (o : _) → IsQuiet h (Undo t n o)
quiet_undo h t n o = quiet_by h (Undo t n o) (omega arith, omega arith) refl (λ u proc args bad. cc) (λ s. (_, refl))

grown : (start : Core) (calls : List Call) (state : Core) (ps : List Progress) (e : Event) → IsQuiet state.events e
    → Keeps start calls state ps → Keeps start calls (with_event state e) ps
grown start calls state ps e quiet keeps =
    let h = state.events in
    record {
      stays = stays_more start state e keeps.stays;
      begins = begins_more start.events h e keeps.begins;
      restarts = keeps.restarts;
      one_each = keeps.one_each;
      fits = λ k p c at of. fits_more start state e (call_of c) p quiet.more (λ t own. quiet.still t) (keeps.fits k p c at of);
      recent = λ k p t at own. let old = keeps.recent k p t at own in omega (arith, old, quiet.more.0);
      own = keeps.own;
      known = λ place t proc args low stands. elim (stood h e place (Admit t proc args) stands) [
        | inl x ↦ keeps.known place t proc args low x
        | inr x ↦ absurd (quiet.no_admit t proc args x.1)
      ];
      below = λ k p place at is. let old = keeps.below k p place at is in omega (arith, old);
      places = keeps.places;
      ends_placed = quiet.no_end ∙ keeps.ends_placed;
    }

-- a question, an undo, an answer
pub asked : (start : Core) (calls : List Call) (state : Core) (ps : List Progress) (reply : Asked)
    → Keeps start calls state ps → Keeps start calls (after_ask state reply) ps
asked start calls state ps (Request r) keeps = grown start calls state ps (Ask r.txn r.number r.op) (quiet_ask state.events r.txn r.number r.op) keeps
asked start calls state ps Undoing keeps = keeps
asked start calls state ps Over keeps = keeps
asked start calls state ps (Stuck n) keeps = keeps
asked start calls state ps (Waits n) keeps = keeps
asked start calls state ps Running keeps = keeps
asked start calls state ps Unknown keeps = keeps

pub undone : (start : Core) (calls : List Call) (state : Core) (ps : List Progress) (reply : Asked)
    → Keeps start calls state ps → Keeps start calls (after_undo state reply) ps
undone start calls state ps (Request r) keeps = grown start calls state ps (Undo r.txn r.number r.op) (quiet_undo state.events r.txn r.number r.op) keeps
undone start calls state ps Undoing keeps = keeps
undone start calls state ps Over keeps = keeps
undone start calls state ps (Stuck n) keeps = keeps
undone start calls state ps (Waits n) keeps = keeps
undone start calls state ps Running keeps = keeps
undone start calls state ps Unknown keeps = keeps

pub answered : (start : Core) (calls : List Call) (state : Core) (ps : List Progress) (r : Asking) (said : _)
    → Keeps start calls state ps → Keeps start calls (after_answer state r said) ps
answered start calls state ps r said keeps = grown start calls state ps (Answers r.txn r.number said) (quiet_answer state.events r.txn r.number said) keeps

-- an answer that is taken in, or a stranger that changes nothing
pub heard : (start : Core) (calls : List Call) (old new : Core) (ps : List Progress) (r : Asking) (said : _) (result : Result Unit Stranger)
    → OnOk result (new ≡ after_answer old r said) → OnErr result (new ≡ old) → Keeps start calls old ps → Keeps start calls new ps
heard start calls old new ps r said (Ok x) ok err keeps = rw ok (answered start calls old ps r said keeps)
heard start calls old new ps r said (Err s) ok err keeps = rw err keeps

-- no event, but more numbers given up, or something else known of data components
beside : (start : Core) (calls : List Call) (old : Core) (ps : List Progress) (numbers : List ℕ) (sites : List Site)
    → BeginWith old.given_up numbers → StaysKnown old (record old { given_up = numbers; sites = sites })
    → Keeps start calls old ps → Keeps start calls (record old { given_up = numbers; sites = sites }) ps
beside start calls old ps numbers sites more known keeps = record {
  stays = ap (λ (s : Core). record s { events = old.events; given_up = numbers; sites = sites }) keeps.stays;
  begins = keeps.begins;
  restarts = λ d incarnation n come. known d incarnation n (keeps.restarts d incarnation n come);
  one_each = keeps.one_each;
  fits = λ k p c at of. fits_beside start old numbers sites (call_of c) p more (keeps.fits k p c at of);
  recent = keeps.recent;
  own = keeps.own;
  known = keeps.known;
  below = keeps.below;
  places = keeps.places;
  ends_placed = keeps.ends_placed;
}

-- a number more is given up, or none
pub gave_up : (start : Core) (calls : List Call) (old new : Core) (ps : List Progress) (r : Asking)
    → (IsOpenHere old r → new ≡ with_given_up old r.number) → ((IsOpenHere old r → ⊥) → new ≡ old)
    → new ≡ record old { given_up = new.given_up } → Keeps start calls old ps → Keeps start calls new ps
gave_up start calls old new ps r here elsewhere rest keeps =
    subst (λ (s : Core). Keeps start calls s ps) (sym rest)
    (beside start calls old ps new.given_up old.sites (given_up_more old new r here elsewhere) (λ d incarnation n come. come) keeps)

-- something else is known of data components
sited : (start : Core) (calls : List Call) (old : Core) (ps : List Progress) (sites : List Site)
    → StaysKnown old (record old { sites = sites }) → Keeps start calls old ps → Keeps start calls (record old { sites = sites }) ps
sited start calls old ps sites known keeps = beside start calls old ps old.given_up sites (begin_same old.given_up) known keeps

pub restart_told : (start : Core) (calls : List Call) (old new : Core) (ps : List Progress) (d : ℕ) (news : News) (result : Result Unit NewsFault)
    → OnOk result (new ≡ after_told old d news) → OnErr result (new ≡ old) → StaysKnown old new → Keeps start calls old ps → Keeps start calls new ps
restart_told start calls old new ps d news (Ok x) ok err known keeps =
    rw ok (sited start calls old ps (after_told old d news).sites (subst (λ (s : Core). StaysKnown old s) ok known) keeps)
restart_told start calls old new ps d news (Err f) ok err known keeps = rw err keeps

up_again_keeps : (start : Core) (calls : List Call) (old : Core) (ps : List Progress) (d : ℕ) (o : Option Site)
    → StaysKnown old (up_again old d o) → Keeps start calls old ps → Keeps start calls (up_again old d o) ps
up_again_keeps start calls old ps d None known keeps = keeps
up_again_keeps start calls old ps d (Some s) known keeps = sited start calls old ps (up_again old d (Some s)).sites known keeps

pub redo_asked : (start : Core) (calls : List Call) (old : Core) (ps : List Progress) (d : ℕ) (reply : Redo)
    → Keeps start calls old ps → Keeps start calls (after_redo old d reply) ps
redo_asked start calls old ps d (redo.Send w) keeps = keeps
redo_asked start calls old ps d redo.Finished keeps = up_again_keeps start calls old ps d (slice_get old.sites d) (known_behind old d redo.Finished) keeps
redo_asked start calls old ps d redo.NotDown keeps = keeps
redo_asked start calls old ps d redo.NoDc keeps = keeps

redone_keeps : (start : Core) (calls : List Call) (old : Core) (ps : List Progress) (d n : ℕ) (o : Option Site)
    → StaysKnown old (redone_at old d n o) → Keeps start calls old ps → Keeps start calls (redone_at old d n o) ps
redone_keeps start calls old ps d n None known keeps = keeps
redone_keeps start calls old ps d n (Some s) known keeps = sited start calls old ps (redone_at old d n (Some s)).sites known keeps

pub redo_heard : (start : Core) (calls : List Call) (old new : Core) (ps : List Progress) (d n : ℕ) (result : Result Unit RedoMismatch)
    → OnOk result (new ≡ after_redone old d n) → OnErr result (new ≡ old) → StaysKnown old new → Keeps start calls old ps → Keeps start calls new ps
redo_heard start calls old new ps d n (Ok x) ok err known keeps =
    rw ok (redone_keeps start calls old ps d n (slice_get old.sites d) (subst (λ (s : Core). StaysKnown old s) ok known) keeps)
redo_heard start calls old new ps d n (Err f) ok err known keeps = rw err keeps

-- a call is admitted
pub admitted_one : (start : Core) (calls : List Call) (state : Core) (ps : List Progress) (k : ℕ) (t : TxnId) (c : Call)
    → Keeps start calls state ps → slice_get ps k ≡ Some Waiting → slice_get calls k ≡ Some c
    → Takes state (call_of c) → t.serial ≡ admitted state.events + 1
    → Keeps start calls (with_event state (Admit t.serial c.proc c.args.items)) (set ps k (Begun t))
admitted_one start calls state ps k t c keeps at of there is =
    let h = state.events in
    let e : Event = Admit t.serial c.proc c.args.items in
    let p' : Progress = Begun t in
    let low : length start.events ≤ length h = begins_length start.events h keeps.begins in
    let same : state.procs ≡ start.procs = ap (λ (s : Core). s.procs) keeps.stays in
    let takes : Takes start (call_of c) = record { q = there.q; is = subst (λ (v : List Checked). IsCalled v (call_of c) there.q) same there.is } in
    let new : IsBegun start (e ∷ h) (call_of c) t.serial = record {
      takes = takes;
      admitted = record { place = length h; at = record { behind = low; stands = stands_here h e } };
      still = record { s = _; is = standing-same e h t.serial refl };
    } in
    let above : (u : ℕ) → Some t.serial ≡ Some u → u ≤ admitted h → ⊥ = λ u own le. (let tu : t.serial ≡ u = cc in absurd (omega (arith, tu, le, is))) in
    record {
      stays = stays_more start state e keeps.stays;
      begins = begins_more start.events h e keeps.begins;
      restarts = keeps.restarts;
      one_each = length_set ps k p' ∙ keeps.one_each;
      fits = λ i q d at' of'. elim (get_set ps k i p' q at') [
        | inl x ↦ subst (λ (y : Progress). Fits start (with_event state e) (call_of d) y) x.1
            (subst (λ (y : Call). Fits start (with_event state e) (call_of y) p') (same_call calls k i c d of x.0 of')
            new)
        | inr x ↦ fits_more start state e (call_of d) q (omega arith, omega arith)
            (λ u own. open_other h e u (λ tu. absurd (above u (ap (λ (n : ℕ). Some n) tu) (keeps.recent i q u x.1 own)))) (keeps.fits i q d x.1 of')
      ];
      recent = λ i q u at' own. elim (get_set ps k i p' q at') [
        | inl x ↦ let both : Some t.serial ≡ Some u = ap txn_of x.1 ∙ own in let tu : t.serial ≡ u = cc in omega (arith, tu, is)
        | inr x ↦ let old = keeps.recent i q u x.1 own in omega (arith, old)
      ];
      own = λ i j q r u a b qa rb. elim (get_set ps k i p' q a) [
        | inl x ↦ elim (get_set ps k j p' r b) [
          | inl y ↦ x.0 ∙ sym y.0
          | inr y ↦ absurd (above u (ap txn_of x.1 ∙ qa) (keeps.recent j r u y.1 rb))
        ]
        | inr x ↦ elim (get_set ps k j p' r b) [
          | inl y ↦ absurd (above u (ap txn_of y.1 ∙ rb) (keeps.recent i q u x.1 qa))
          | inr y ↦ keeps.own i j q r u x.1 y.1 qa rb
        ]
      ];
      known = λ place u proc args behind stands. elim (stood h e place (Admit u proc args) stands) [
        | inl x ↦
            let y = keeps.known place u proc args behind x in
            let other : y.k ≢ k = λ here.
            (let both : Some Waiting ≡ Some y.progress = sym at ∙ (ap (λ (n : ℕ). slice_get ps n) (sym here) ∙ y.at) in
            let w : Waiting ≡ y.progress = cc in
            let bad : None ≡ Some u = ap txn_of w ∙ y.own in cc) in
            of_call calls ps (set ps k p') u proc args y (record { progress = y.progress; at = set_other ps k y.k p' other ∙ y.at; own = y.own })
        | inr x ↦
            let tu : t.serial ≡ u = cc in
            let pp : c.proc ≡ proc = cc in
            let aa : c.args.items ≡ args = cc in
            record {
              k = k;
              progress = p';
              at = set_here ps k Waiting p' at;
              own = ap (λ (n : ℕ). Some n) tu;
              c = c;
              of = of;
              same = same_named (call_of c) proc args pp aa;
            }
      ];
      below = λ i q place at' has. elim (get_set ps k i p' q at') [
        | inl x ↦ absurd (no_place p' place refl (ap place_in x.1 ∙ has))
        | inr x ↦ let old = keeps.below i q place x.1 has in omega (arith, old)
      ];
      places = λ i j q r place a b qa rb. elim (get_set ps k i p' q a) [
        | inl x ↦ absurd (no_place p' place refl (ap place_in x.1 ∙ qa))
        | inr x ↦ elim (get_set ps k j p' r b) [
          | inl y ↦ absurd (no_place p' place refl (ap place_in y.1 ∙ rb))
          | inr y ↦ keeps.places i j q r place x.1 y.1 qa rb
        ]
      ];
      ends_placed = let m = count_set is_placed ps k Waiting p' at in let old = keeps.ends_placed in omega arith;
    }

-- a call's transaction ends, and its answer names the end's place
ended : (start : Core) (calls : List Call) (state : Core) (ps : List Progress) (k : ℕ) (t : TxnId) (o : Outcome) (a : Answer) (c : Call)
    → Keeps start calls state ps → slice_get ps k ≡ Some (Begun t) → slice_get calls k ≡ Some c
    → AnswerFits start (with_event state (End t.serial o)) (call_of c) a (Some t.serial) → place_of a ≡ Some (length state.events)
    → Keeps start calls (with_event state (End t.serial o)) (set ps k (Answered a (Some t)))
ended start calls state ps k t o a c keeps at of fits' place =
    let h = state.events in
    let e : Event = End t.serial o in
    let p : Progress = Begun t in
    let p' : Progress = Answered a (Some t) in
    let here : (m : ℕ) → place_in p' ≡ Some m → m ≡ length h = λ m is. (let both : Some (length h) ≡ Some m = sym place ∙ is in cc) in
    record {
      stays = stays_more start state e keeps.stays;
      begins = begins_more start.events h e keeps.begins;
      restarts = keeps.restarts;
      one_each = length_set ps k p' ∙ keeps.one_each;
      fits = λ i q d at' of'. elim (get_set ps k i p' q at') [
        | inl x ↦ subst (λ (y : Progress). Fits start (with_event state e) (call_of d) y) x.1
            (subst (λ (y : Call). Fits start (with_event state e) (call_of y) p') (same_call calls k i c d of x.0 of')
            fits')
        | inr x ↦ fits_more start state e (call_of d) q (omega arith, omega arith)
            (λ u own. open_other h e u (λ tu. x.0 (keeps.own i k q p u x.1 at own (ap (λ (n : ℕ). Some n) tu)))) (keeps.fits i q d x.1 of')
      ];
      recent = λ i q u at' own. let w = owner ps k p p' at refl i q u at' own in keeps.recent i w.progress u w.at w.own;
      own = λ i j q r u a' b qa rb.
          let x = owner ps k p p' at refl i q u a' qa in
          let y = owner ps k p p' at refl j r u b rb in
          keeps.own i j x.progress y.progress u x.at y.at x.own y.own;
      known = λ place' u proc args low stands. elim (stood h e place' (Admit u proc args) stands) [
        | inl x ↦
            let y = keeps.known place' u proc args low x in
            of_call calls ps (set ps k p') u proc args y (owner_back ps k p p' at refl y.k y.progress u y.at y.own)
        | inr x ↦ absurd (let bad : End t.serial o ≡ Admit u proc args = x.1 in cc)
      ];
      below = λ i q m at' is. elim (get_set ps k i p' q at') [
        | inl x ↦ let last = here m (ap place_in x.1 ∙ is) in omega (arith, last)
        | inr x ↦ let old = keeps.below i q m x.1 is in omega (arith, old)
      ];
      places = λ i j q r m a' b qa rb. elim (get_set ps k i p' q a') [
        | inl x ↦ elim (get_set ps k j p' r b) [
          | inl y ↦ x.0 ∙ sym y.0
          | inr y ↦ absurd (omega (arith, here m (ap place_in x.1 ∙ qa), keeps.below j r m y.1 rb))
        ]
        | inr x ↦ elim (get_set ps k j p' r b) [
          | inl y ↦ absurd (omega (arith, here m (ap place_in y.1 ∙ rb), keeps.below i q m x.1 qa))
          | inr y ↦ keeps.places i j q r m x.1 y.1 qa rb
        ]
      ];
      ends_placed =
          let m : count_by is_placed (set ps k p') + cond false 1 0 ≡ count_by is_placed ps + cond true 1 0 =
          subst (λ (b : Bool). count_by is_placed (set ps k p') + cond false 1 0 ≡ count_by is_placed ps + cond b 1 0)
          (ap is_some place) (count_set is_placed ps k p p' at) in
          let old = keeps.ends_placed in
          omega arith;
    }

-- the answer of an end fits, by its place
ended_answer : (start now : Core) (c : named.Call) (t : ℕ) (o : Outcome) → length start.events ≤ length now.events
    → IsBegun start now.events c t → AnswerFits start (with_event now (End t o)) c (answer_of o (length now.events)) (Some t)
ended_answer start now c t o low begun = by o
  where
    it : (how : Outcome) → IsEnded start (End t how ∷ now.events) c (Some t) (length now.events) how
    it how = record {
      t = t;
      own = refl;
      takes = begun.takes;
      admitted = is_admitted_more start.events now.events (End t how) c t begun.admitted;
      ended = record { behind = low; stands = stands_here now.events (End t how) };
    }

    by : (how : Outcome) → AnswerFits start (with_event now (End t how)) c (answer_of how (length now.events)) (Some t)
    by outcome.Committed = it outcome.Committed
    by (outcome.Aborted v) = it (outcome.Aborted v)
    by outcome.NoRoom = it outcome.NoRoom

answer_place : (o : Outcome) (p : ℕ) → place_of (answer_of o p) ≡ Some p
answer_place outcome.Committed p = refl
answer_place (outcome.Aborted v) p = refl
answer_place outcome.NoRoom p = refl

-- the step of an end, as the state's call gives it
ended_one : (start : Core) (calls : List Call) (state : Core) (ps : List Progress) (k : ℕ) (t : TxnId) (o : Outcome) (c : Call)
    → Keeps start calls state ps → slice_get ps k ≡ Some (Begun t) → slice_get calls k ≡ Some c
    → Keeps start calls (with_event state (End t.serial o)) (set ps k (Answered (answer_of o (length state.events)) (Some t)))
ended_one start calls state ps k t o c keeps at of =
    ended start calls state ps k t o (answer_of o (length state.events)) c keeps at of
    (ended_answer start state (call_of c) t.serial o (begins_length start.events state.events keeps.begins) (keeps.fits k (Begun t) c at of))
    (answer_place o (length state.events))

pub ended_by : (start : Core) (calls : List Call) (old new : Core) (ps : List Progress) (k : ℕ) (t : TxnId) (c : Call) (receipt : Receipt) (o : Option Outcome)
    → Keeps start calls old ps → slice_get ps k ≡ Some (Begun t) → slice_get calls k ≡ Some c
    → Ok receipt ≡ end_reply old t.serial o → new ≡ after_end old t.serial o
    → Keeps start calls new (set ps k (Answered (answer_of receipt.outcome receipt.place) (Some t)))
ended_by start calls old new ps k t c receipt None keeps at of reply is = absurd cc
ended_by start calls old new ps k t c receipt (Some o) keeps at of reply is =
    let same : receipt ≡ record { place = length old.events; txn = t.serial; outcome = o } = cc in
    subst (λ (r : Receipt). Keeps start calls new (set ps k (Answered (answer_of r.outcome r.place) (Some t)))) (sym same)
    (subst (λ (s : Core). Keeps start calls s (set ps k (Answered (answer_of o (length old.events)) (Some t)))) (sym is)
    (ended_one start calls old ps k t o c keeps at of))

-- the answer of a transaction in doubt
pub in_doubt_fits : (start : Core) (state : Core) (c : Call) (t : TxnId) (n : ℕ)
    → IsBegun start state.events (call_of c) t.serial → IsDoubtful state t.serial n
    → AnswerFits start state (call_of c) (InDoubt n) (Some t.serial)
in_doubt_fits start state c t n begun doubt =
    record {
      t = t.serial;
      own = refl;
      takes = begun.takes;
      admitted = begun.admitted;
      sent = doubtful_sent start.events state (call_of c) t.serial n begun.admitted begun.still doubt;
    }

-- ---- the beginning

get_replicate : {X : Type 0} (n k : ℕ) (x y : X) → slice_get (replicate n x) k ≡ Some y → x ≡ y
get_replicate zero k x y at = cc
get_replicate (suc n) zero x y at = cc
get_replicate (suc n) (suc k) x y at = get_replicate n k x y at

count_replicate : {X : Type 0} (p : X → Bool) (n : ℕ) (x : X) → p x ≡ false → count_by p (replicate n x) ≡ 0
count_replicate p n x fails =
    let e = sum_by-replicate (λ y. cond (p y) 1 0) n x in
    let f = rw fails at e in
    omega (arith, f)

-- each call waits, and nothing was done
pub opened : (start : Core) (calls : List Call) → Keeps start calls start (replicate (length calls) Waiting)
opened start calls =
    let n = length calls in
    let all : (k : ℕ) (p : Progress) → slice_get (replicate n Waiting) k ≡ Some p → Waiting ≡ p = λ k p at. get_replicate n k Waiting p at in
    record {
      stays = refl;
      begins = record { later = []; is = refl };
      restarts = λ d incarnation m come. come;
      one_each = length-replicate n Waiting;
      fits = λ k p c at of. subst (λ (y : Progress). Fits start start (call_of c) y) (all k p at) tt;
      recent = λ k p t at own. absurd (let bad : None ≡ Some t = ap txn_of (all k p at) ∙ own in cc);
      own = λ i j p q t a b pa qb. absurd (let bad : None ≡ Some t = ap txn_of (all i p a) ∙ pa in cc);
      known = λ place t proc args low stands. absurd (omega (arith, low, stands_within start.events place (Admit t proc args) stands));
      below = λ k p place at is. absurd (no_place Waiting place refl (ap place_in (all k p at) ∙ is));
      places = λ i j p q place a b pa qb. absurd (no_place Waiting place refl (ap place_in (all i p a) ∙ pa));
      ends_placed = let none : count_by is_placed (replicate n Waiting) ≡ 0 = count_replicate is_placed n Waiting refl in omega (arith, none);
    }

-- ---- answers

abbrev pub is_answered : Progress → Bool
is_answered Waiting = false
is_answered (Begun t) = false
is_answered (Answered a o) = true

-- an answer where there was none: answers stay
pub answers_stay : (ps : List Progress) (k : ℕ) (p p' : Progress) → slice_get ps k ≡ Some p → is_answered p ≡ false → AnswersStay ps (set ps k p')
answers_stay ps k p p' at not_yet i h =
    let ne : i ≢ k = λ same.
    (let both : Some p ≡ Some (Answered h.answer h.txn) = sym at ∙ (ap (λ (n : ℕ). slice_get ps n) (sym same) ∙ h.at) in
    let is : p ≡ Answered h.answer h.txn = cc in
    let bad : false ≡ true = sym not_yet ∙ ap is_answered is in cc)
    in record { answer = h.answer; txn = h.txn; at = set_other ps k i p' ne ∙ h.at }

pub now_answered : (ps : List Progress) (k : ℕ) (p : Progress) (a : Answer) (o : Option TxnId)
    → slice_get ps k ≡ Some p → IsAnswered (set ps k (Answered a o)) k
now_answered ps k p a o at = record { answer = a; txn = o; at = set_here ps k p (Answered a o) at }

-- the answer of a call is true of the state as it is
pub was_answered : (start : Core) (calls : List Call) (state : Core) (ps : List Progress) (k : ℕ) (a : Answer) (t : Option TxnId) (c : Call)
    (logged : ℕ) → Keeps start calls state ps → slice_get ps k ≡ Some (Answered a t) → slice_get calls k ≡ Some c
    → length state.events ≡ logged → WasAnswered start calls k a logged
was_answered start calls state ps k a t c logged keeps at of count = record {
  c = c;
  of = of;
  then = state;
  stays = keeps.stays;
  begins = keeps.begins;
  count = count;
  txn = serial_of t;
  fits = keeps.fits k (Answered a t) c at of;
}

-- ---- a step, and what came before it

stays_then : (old mid new : List Progress) → AnswersStay old mid → AnswersStay mid new → AnswersStay old new
stays_then old mid new first then k it = then k (first k it)

moved_stays : (old new : List Progress) (k : ℕ) (n : Next) → MovesOn old new k n → AnswersStay old new
moved_stays old new k next.Begun it = it
moved_stays old new k next.Carry it = it
moved_stays old new k next.Unanswered it = it
moved_stays old new k next.Busy it = it
moved_stays old new k next.Over it = it.1
moved_stays old new k next.LeftOut it = it.1

moves_then : (old mid new : List Progress) (k : ℕ) (n : Next) → AnswersStay old mid → MovesOn mid new k n → MovesOn old new k n
moves_then old mid new k next.Begun first it = stays_then old mid new first it
moves_then old mid new k next.Carry first it = stays_then old mid new first it
moves_then old mid new k next.Unanswered first it = stays_then old mid new first it
moves_then old mid new k next.Busy first it = stays_then old mid new first it
moves_then old mid new k next.Over first it = (it.0, stays_then old mid new first it.1)
moves_then old mid new k next.LeftOut first it = (it.0, stays_then old mid new first it.1)

pub moves_on : (old mid new : List Progress) (k : ℕ) (m n : Next) → MovesOn old mid k m → MovesOn mid new k n → MovesOn old new k n
moves_on old mid new k m n first then = moves_then old mid new k n (moved_stays old mid k m first) then

-- what is left to do for a call tells whether it is answered
pub answered_by : (old new : List Progress) (k : ℕ) (n : Next) → MovesOn old new k n → IsAnsweredBy new k n
answered_by old new k next.Begun it = tt
answered_by old new k next.Carry it = tt
answered_by old new k next.Unanswered it = tt
answered_by old new k next.Busy it = tt
answered_by old new k next.Over it = it.0
answered_by old new k next.LeftOut it = it.0
