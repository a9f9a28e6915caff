-- What an answer makes of a transaction as it is kept.
use Rattle.std.proofs.Common.{◌≡◌, ℕ, ◌+◌, Bool, true, false, ◌||◌, List, length, Option}
use Rattle.std.proofs.Common.{Some, None, arith, refl, sym, subst, ap, ◌∙◌}
use Rattle.access_slots.specs.Access.{fits}
use Rattle.access_slots.specs.declared.op.Op.{Op}
use Rattle.access_slots.specs.declared.op.Said.{Said}
use Rattle.verifier.specs.Checked.{Checked}
use Rattle.transactions.specs.declared.Sent.{Sent}
use Rattle.transactions.specs.Standing.{Standing, answered, answers_after, full_after, undo_after, tries_after}
use Rattle.transactions.specs.Standing.{told_to, found_full, undo_done, tries_done}
use Rattle.transactions.specs.Reached.{Asks, reached_of, stop_at}
use Rattle.transactions.proofs.StandingLemmas.{some_same}
use Rattle.tc_core.specs.Running.{Runs, MayResume}
use Rattle.tc_core.specs.Kept.{Keeps}
use Rattle.tc_core.specs.Joining.Hearing.{MayHear}
use Rattle.tc_core.specs.declared.transaction.Tx.{Tx}

-- the standing behind an answer to an undo (true) or a question (false)
abbrev answered_as : Bool → Op → Said → Standing → Standing
answered_as b o said s =
    record {
      call = s.call;
      answers = told_to b said s.answers;
      sent = None;
      full =
          s.full || found_full b said;
      undo = undo_done b o said s.undo;
      tries = tries_done b said s.tries;
      used =
          s.used;
      last = s.last;
    }

-- the same, where what it waits for is given
abbrev answered_to : Option Sent → Said → Standing → Standing
answered_to r said s =
    record {
      call = s.call;
      answers = answers_after r said s.answers;
      sent = None;
      full =
          full_after r said s.full;
      undo = undo_after r said s.undo;
      tries = tries_after r said s.tries;
      used =
          s.used;
      last = s.last;
    }

or_none : (x : Bool) → (x || false) ≡ x
or_none true = refl
or_none false = refl

answered_where : (q : Checked) (tx : Tx) (s : Standing) (said : Said) (r : Sent) (b : Bool) → s.sent ≡ Some r
    → r.undoing ≡ b → Keeps q tx (answered_as b r.op said s) → Keeps q tx (answered said s)
answered_where q tx s said r b waits u it =
    subst (λ (x : Option Sent). Keeps q tx (answered_to x said s)) (sym waits) (subst (λ (y : Bool). Keeps q tx (answered_as y r.op said s)) (sym u) it)

pub waits_for : (q : Checked) (tx : Tx) (s : Standing) (said : Said) (r : Sent) → (m : MayHear q tx s said) → tx.sent ≡ Some r → m.r ≡ r
waits_for q tx s said r m e = some_same m.r r (sym m.waits ∙ (sym m.keeps.sent ∙ e))

pub keeps_undone : (q : Checked) (tx tx1 : Tx) (s : Standing) (said : Said) (r : Sent) → MayHear q tx s said → tx.sent ≡ Some r → r.undoing ≡ true
    → tx1 ≡ record tx { sent = None; undo = tx1.undo; tries = tx1.tries; in_doubt = false }
    → tx1.undo.ops ≡ undo_done true r.op said tx.undo.ops → tx1.tries ≡ tries_done true said tx.tries
    → length tx1.undo.ops + tx1.undo.room ≡ length tx.undo.ops + tx.undo.room
    → Keeps q tx1 (answered said s)
keeps_undone q tx tx1 s said r m e u rest ops tries room =
    let k = m.keeps in
    let waits : s.sent ≡ Some r = sym k.sent ∙ e in
    let kept_room = k.room in
    answered_where q tx1 s said r true waits u (record {
      proc = ap (λ (x : Tx). x.proc) rest ∙ k.proc;
      sent = ap (λ (x : Tx). x.sent) rest;
      full = ap (λ (x : Tx). x.full) rest ∙ (k.full ∙ sym (or_none s.full));
      undo = ops ∙ ap (undo_done true r.op said) k.undo;
      tries = tries ∙ ap (tries_done true said) k.tries;
      last = ap (λ (x : Tx). x.last) rest ∙ k.last;
      left = ap (λ (x : Tx). x.left) rest ∙ k.left;
      room = omega (arith, room, kept_room);
      runs = subst (λ (x : Tx). Runs q x s.call.args s.answers) (sym rest)
          (record { started = k.runs.started; call = k.runs.call; layout = k.runs.layout; pauses = k.runs.pauses });
    })

-- it waits for the answer to its question
pub may_resume : (q : Checked) (tx : Tx) (s : Standing) (said : Said) (r : Sent) → MayHear q tx s said → tx.sent ≡ Some r → r.undoing ≡ false
    → MayResume q tx s.call.args s.answers r.op said
may_resume q tx s said r m e u =
    let same = waits_for q tx s said r m e in
    record {
      runs = m.keeps.runs;
      fit = m.fitting;
      asks = subst (λ (x : Sent). reached_of (stop_at q s.call.args s.answers) ≡ Asks x.op) same (m.asks (ap (λ (x : Sent). x.undoing) same ∙ u));
      fits = subst (λ (x : Sent). fits x.op said ≡ true) same m.fit;
    }

pub keeps_told : (q : Checked) (tx tx1 : Tx) (s : Standing) (said : Said) (r : Sent) → MayHear q tx s said → tx.sent ≡ Some r → r.undoing ≡ false
    → Runs q tx1 s.call.args (told_to false said s.answers)
    → tx1.full ≡ (tx.full || found_full false said)
    → tx1.undo.ops ≡ undo_done false r.op said tx.undo.ops → length tx1.undo.ops + tx1.undo.room ≡ length tx.undo.ops + tx.undo.room
    → tx1 ≡ record tx { sent = None; machine = tx1.machine; pause = tx1.pause; full = tx1.full; undo = tx1.undo; in_doubt = false }
    → Keeps q tx1 (answered said s)
keeps_told q tx tx1 s said r m e u runs full ops room rest =
    let k = m.keeps in
    let waits : s.sent ≡ Some r = sym k.sent ∙ e in
    let kept_room = k.room in
    answered_where q tx1 s said r false waits u (record {
      proc = ap (λ (x : Tx). x.proc) rest ∙ k.proc;
      sent = ap (λ (x : Tx). x.sent) rest;
      full = full ∙ ap (λ (b : Bool). b || found_full false said) k.full;
      undo = ops ∙ ap (undo_done false r.op said) k.undo;
      tries = ap (λ (x : Tx). x.tries) rest ∙ k.tries;
      last = ap (λ (x : Tx). x.last) rest ∙ k.last;
      left = ap (λ (x : Tx). x.left) rest ∙ k.left;
      room = omega (arith, room, kept_room);
      runs = runs;
    })

-- a change of what is to be undone, or of doubt, leaves the run where it stands
pub resumes : (q : Checked) (tx tx1 : Tx) (args : List ℕ) (answers : List Said) (o : Op) (said : Said)
    → tx1 ≡ record tx { undo = tx1.undo; in_doubt = tx1.in_doubt } → MayResume q tx args answers o said → MayResume q tx1 args answers o said
resumes q tx tx1 args answers o said rest m =
    subst (λ (x : Tx). MayResume q x args answers o said) (sym rest)
    (record {
      runs = record {
        started = m.runs.started;
        call = m.runs.call;
        layout = m.runs.layout;
        pauses =
            m.runs.pauses;
      };
      fit = m.fit;
      asks = m.asks;
      fits = m.fits;
    })

-- the run stands where it does, whatever is waited for
pub runs_on : (q : Checked) (tx : Tx) (args : List ℕ) (answers : List Said) → Runs q tx args answers → Runs q (record tx { sent = None }) args answers
runs_on q tx args answers k = record { started = k.started; call = k.call; layout = k.layout; pauses = k.pauses }
