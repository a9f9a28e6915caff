-- How a run that is run again goes along a log.
use Rattle.std.proofs.Common.{
  ◌≡◌,
  ◌≢◌,
  ℕ,
  ◌+◌,
  ◌<◌,
  length,
  arith,
  Bool,
  true,
  false,
  ◌||◌,
  List,
  [],
  ◌∷◌,
  ◌++◌,
  Option,
  Some,
  None,
  refl,
  sym,
  ◌∙◌,
  ap,
  subst,
}
use Rattle.std.specs.Prelude.{slice_get}
use Rattle.access_slots.specs.Access.{fits, is_no_room}
use Rattle.access_slots.specs.declared.op.Op.{Op}
use Rattle.access_slots.specs.declared.op.Said.{Said}
use Rattle.tc_log.specs.declared.event.Event.{Event}
use Rattle.tc_log.specs.declared.event.Event.TheVariants.{Admit, Ask, Answer, Undo, End, Checkpoint}
use Rattle.tc_log.specs.declared.event.Outcome.{Outcome}
use Rattle.verifier.specs.Checked.{Checked}
use Rattle.history.specs.Calls.{txn_of}
use Rattle.transactions.specs.declared.Sent.{Sent}
use Rattle.transactions.specs.Legal.{Legal}
use Rattle.transactions.specs.Reached.{AllGood, Asks, reached_of, stop_at}
use Rattle.transactions.specs.Standing.{Standing, standing, fresh, answered, answers_after, full_after, undo_after, tries_after}
use Rattle.transactions.proofs.StandingLemmas.{some_same, none_some, standing-same, standing-other}
use Rattle.transactions.proofs.Sound.{standing_sound, reached_at}
use Rattle.interpreter.specs.declared.pause.Pause.TheVariants as pause
use Rattle.tc_core.specs.Running.{as_reached}
use Rattle.tc_core.proofs.Resuming.{paused_reached}
use Rattle.call_results.specs.Joining.Along.{Runs, MayHear, IsAlong, MayAnswer, Follows, MayFollow}
use Rattle.tc_core.specs.Recovery.{first_events}
use Rattle.tc_core.proofs.RecoveryLemmas.{all-first}
use Rattle.call_results.specs.declared.rerun.Rerun.{Rerun}

-- ---- what an answer makes of it

-- the standing that was answered, where what it waits for is given
abbrev answered_to : Option Sent → Said → Standing → Standing
answered_to x said s = record {
  call = s.call;
  answers = answers_after x said s.answers;
  sent = None;
  full = full_after x said s.full;
  undo = undo_after x said s.undo;
  tries = tries_after x said s.tries;
  used = s.used;
  last = s.last;
}

or_none : (b : Bool) → (b || false) ≡ b
or_none true = refl
or_none false = refl

or_some : (b : Bool) → (b || true) ≡ true
or_some true = refl
or_some false = refl

-- the same run, of whatever the transaction waits for
same_runs : (q : Checked) (r r' : Rerun) (args : List ℕ) (answers : List Said)
    → r' ≡ record r { is_open = r'.is_open; is_undoing = r'.is_undoing; is_full = r'.is_full } → Runs q r args answers → Runs q r' args answers
same_runs q r r' args answers same k = subst (λ (x : Rerun). Runs q x args answers) (sym same)
    (record { started = k.started; call = k.call; layout = k.layout; pauses = k.pauses; there = k.there })

-- an undo is answered
pub along_undone : (ps : List Checked) (r : Rerun) (s : Standing) (said : Said) → MayAnswer ps r s said → r.is_undoing ≡ true → IsAlong ps r (answered said s)
along_undone ps r s said m undoing =
    let a = m.along in
    let yes_it : m.x.undoing ≡ true = a.undoing m.x m.waits ∙ undoing in
    subst (λ (x : Option Sent). IsAlong ps r (answered_to x said s)) (sym m.waits) (record {
      q = a.q;
      loaded = a.loaded;
      proc = a.proc;
      is_open = a.is_open;
      undoing = λ x e. absurd cc;
      full = rw yes_it (a.full ∙ sym (or_none s.full));
      runs = rw yes_it a.runs;
    })

-- an insert found no room
pub along_full : (ps : List Checked) (r r' : Rerun) (s : Standing) (said : Said) → MayAnswer ps r s said → r.is_undoing ≡ false → is_no_room said ≡ true
    → r' ≡ record r { is_full = true } → IsAlong ps r' (answered said s)
along_full ps r r' s said m asking no_room same =
    let a = m.along in
    let not_it : m.x.undoing ≡ false = a.undoing m.x m.waits ∙ asking in
    subst (λ (y : Rerun). IsAlong ps y (answered said s)) (sym same)
    (subst (λ (x : Option Sent). IsAlong ps (record r { is_full = true }) (answered_to x said s)) (sym m.waits) (record {
      q = a.q;
      loaded = a.loaded;
      proc = a.proc;
      is_open = a.is_open;
      undoing = λ x e. absurd cc;
      full = rw (not_it, no_room) (sym (or_some s.full));
      runs = rw (not_it, no_room) (same_runs a.q r (record r { is_full = true }) s.call.args s.answers refl a.runs);
    }))

-- its question is answered
pub along_told : (ps : List Checked) (r r' : Rerun) (s : Standing) (said : Said) → (m : MayAnswer ps r s said) → r.is_undoing ≡ false → is_no_room said ≡ false
    → r'.proc ≡ r.proc → r'.is_open ≡ r.is_open → r'.is_full ≡ r.is_full → Runs m.along.q r' s.call.args (s.answers ++ said ∷ []) → IsAlong ps r' (answered said s)
along_told ps r r' s said m asking room proc opens full runs =
    let a = m.along in
    let not_it : m.x.undoing ≡ false = a.undoing m.x m.waits ∙ asking in
    subst (λ (x : Option Sent). IsAlong ps r' (answered_to x said s)) (sym m.waits) (record {
      q = a.q;
      loaded = a.loaded;
      proc = proc ∙ a.proc;
      is_open = opens ∙ a.is_open;
      undoing = λ x e. absurd cc;
      full = rw (not_it, room) (full ∙ (a.full ∙ sym (or_none s.full)));
      runs = rw (not_it, room) runs;
    })

-- it stands at the question that it waits for
pub may_hear : (ps : List Checked) (r : Rerun) (s : Standing) (said : Said) (o : Op) → (m : MayAnswer ps r s said) → r.is_undoing ≡ false → r.pause ≡ pause.Ask o
    → MayHear m.along.q r s.call.args s.answers o said
may_hear ps r s said o m asking pauses =
    let a = m.along in
    let asks = m.asks (a.undoing m.x m.waits ∙ asking) in
    let here : reached_of (stop_at a.q s.call.args s.answers) ≡ Asks o = paused_reached r.pause r.machine.config _ a.runs.pauses ∙ ap as_reached pauses in
    let same : m.x.op ≡ o = asks_same m.x.op o (sym asks ∙ here) in
    record { runs = a.runs; fitting = m.fitting; asks = here; fit = subst (λ (x : Op). fits x said ≡ true) same m.fit }
  where
    asks_same : (x y : Op) → Asks x ≡ Asks y → x ≡ y
    asks_same x y e = cc

-- ---- what an event makes of it

-- the transaction is open, and the run follows it
along_here : (ps : List Checked) (r : Rerun) (h : List Event) (t : ℕ) (s : Standing) → standing h t ≡ Some s → Follows ps r (standing h t) → IsAlong ps r s
along_here ps r h t s is follows = subst (Follows ps r) is follows

pub follows_other : (ps : List Checked) (r : Rerun) (h : List Event) (e : Event) (t : ℕ) → txn_of e ≢ t → MayFollow ps r h e t → Follows ps r (standing (e ∷ h) t)
follows_other ps r h e t other m = subst (Follows ps r) (sym (standing-other e h t other)) m.follows

pub follows_begun : (ps : List Checked) (r r' : Rerun) (h : List Event) (t p : ℕ) (args : List ℕ) → MayFollow ps r h (Admit t p args) t
    → ((q : Checked) → slice_get ps p ≡ Some q → Runs q r' args []) → r'.proc ≡ p → r'.is_open ≡ true → r'.is_full ≡ false
    → Follows ps r' (standing (Admit t p args ∷ h) t)
follows_begun ps r r' h t p args m runs proc opens full =
    let can = m.legal.0 in
    subst (Follows ps r') (sym (standing-same (Admit t p args) h t refl)) (record {
      q = can.q;
      loaded = can.loaded;
      proc = proc;
      is_open = opens;
      undoing = λ x e. absurd cc;
      full = full;
      runs = runs can.q can.loaded;
    })

pub follows_asked : (ps : List Checked) (r : Rerun) (h : List Event) (t n : ℕ) (o : Op) → MayFollow ps r h (Ask t n o) t
    → Follows ps (record r { is_undoing = false }) (standing (Ask t n o ∷ h) t)
follows_asked ps r h t n o m =
    let can = m.legal.0 in
    let a = along_here ps r h t can.s can.is m.follows in
    let r' : Rerun = record r { is_undoing = false } in
    subst (Follows ps r') (sym (standing-same (Ask t n o) h t refl)) (rw can.is (record {
      q = a.q;
      loaded = a.loaded;
      proc = a.proc;
      is_open = a.is_open;
      undoing = λ x e. ap (λ (y : Sent). y.undoing) (sym (some_same _ x e));
      full = a.full;
      runs = same_runs a.q r r' can.s.call.args can.s.answers refl a.runs;
    }))

pub follows_undone : (ps : List Checked) (r : Rerun) (h : List Event) (t n : ℕ) (o : Op) → MayFollow ps r h (Undo t n o) t
    → Follows ps (record r { is_undoing = true }) (standing (Undo t n o ∷ h) t)
follows_undone ps r h t n o m =
    let can = m.legal.0 in
    let a = along_here ps r h t can.s can.is m.follows in
    let r' : Rerun = record r { is_undoing = true } in
    subst (Follows ps r') (sym (standing-same (Undo t n o) h t refl)) (rw can.is (record {
      q = a.q;
      loaded = a.loaded;
      proc = a.proc;
      is_open = a.is_open;
      undoing = λ x e. ap (λ (y : Sent). y.undoing) (sym (some_same _ x e));
      full = a.full;
      runs = same_runs a.q r r' can.s.call.args can.s.answers refl a.runs;
    }))

pub may_answer : (ps : List Checked) (r : Rerun) (h : List Event) (t n : ℕ) (said : Said) → MayFollow ps r h (Answer t n said) t
    → (s : Standing) × (standing h t ≡ Some s) × MayAnswer ps r s said
may_answer ps r h t n said m =
    let can = m.legal.0 in
    let a = along_here ps r h t can.s can.is m.follows in
    let sound = standing_sound ps m.good h m.legal.1 t can.s can.is in
    let same : sound.q ≡ a.q = some_same sound.q a.q (sym sound.loaded ∙ a.loaded) in (
      can.s,
      can.is,
      record {
        along = a;
        x = can.r;
        waits = can.waits;
        fit = can.fit;
        fitting = rw (← same) sound.fit;
        asks = λ own. reached_at ps can.s a.q (Asks can.r.op) a.loaded (sound.own can.r can.waits own).1;
      },
    )

pub follows_answered : (ps : List Checked) (r r' : Rerun) (h : List Event) (t n : ℕ) (said : Said) → MayFollow ps r h (Answer t n said) t
    → ((s : Standing) → MayAnswer ps r s said → IsAlong ps r' (answered said s)) → Follows ps r' (standing (Answer t n said ∷ h) t)
follows_answered ps r r' h t n said m along =
    let may = may_answer ps r h t n said m in
    subst (Follows ps r') (sym (standing-same (Answer t n said) h t refl)) (rw may.1 (along may.0 may.2))

pub follows_ended : (ps : List Checked) (r : Rerun) (h : List Event) (t : ℕ) (o : Outcome) → MayFollow ps r h (End t o) t
    → Follows ps (record r { is_open = false }) (standing (End t o ∷ h) t)
follows_ended ps r h t o m = subst (Follows ps (record r { is_open = false })) (sym (standing-same (End t o) h t refl)) refl

pub follows_begins : (ps : List Checked) (r : Rerun) (h : List Event) (t before numbers : ℕ) → 0 ≡ t → MayFollow ps r h (Checkpoint before numbers) t
    → Follows ps r (standing (Checkpoint before numbers ∷ h) t)
follows_begins ps r h t before numbers zero m = subst (Follows ps r) (sym (standing-same (Checkpoint before numbers) h t zero)) m.follows

-- ---- a slot that is declared has a buffer

pub buffer_there : (ps : List Checked) (r : Rerun) (at : Option Standing) (q : Checked) → Follows ps r at → r.is_open ≡ true → slice_get ps r.proc ≡ Some q
    → r.slot < length q.decl.slots → r.slot + 2 < length r.machine.config.memory
buffer_there ps r None q shut opened loaded few = absurd (let bad : true ≡ false = sym opened ∙ shut in cc)
buffer_there ps r (Some s) q a opened loaded few =
    let same : a.q ≡ q = some_same a.q q (sym a.loaded ∙ (ap (slice_get ps) (sym a.proc) ∙ loaded)) in
    let buffers = a.runs.started.buffers in
    let slots = ap (λ (x : Checked). length x.decl.slots) same in
    omega (arith, few, buffers, slots)

-- ---- what is told of the whole log

pub told_of_all : (A : Type 0) (told : List Checked → Option Standing → ℕ → A) (ps first last : List Checked) (h g : List Event) (n t u slot : ℕ)
    (r : Rerun) (x : A) → first ≡ ps → last ≡ ps → g ≡ h → n ≡ length g → u ≡ t → r.slot ≡ slot
    → Follows first r (standing (first_events n g) u)
    → ((at : Option Standing) → Follows last r at → x ≡ told last at r.slot) → x ≡ told ps (standing h t) slot
told_of_all A told ps first last h g n t u slot r x same same' log all txn own follows tells =
    let at = standing (first_events n g) u in
    tells at (subst (λ (qs : List Checked). Follows qs r at) (same ∙ sym same') follows)
    ∙ (ap (λ (qs : List Checked). told qs at r.slot) same'
    ∙ (ap (λ (y : List Event). told ps (standing y u) r.slot) (all-first n g all ∙ log)
    ∙ (ap (λ (y : ℕ). told ps (standing h y) r.slot) txn ∙ ap (told ps (standing h t)) own)))
