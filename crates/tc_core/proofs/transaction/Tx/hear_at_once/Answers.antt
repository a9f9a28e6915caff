use Rattle.std.proofs.Common.{◌+◌, ◌-◌, length, false, Option, refl, sym, ap, ◌∙◌}
use Rattle.transactions.specs.declared.Sent.{Sent}
use Rattle.tc_core.specs.Joining.Sends.{asking_under}
use Rattle.tc_core.specs.Joining.Writes.{Writes}
use Rattle.tc_core.specs.Running.{MayResume}
use Rattle.tc_core.specs.declared.transaction.Tx.{Tx}
use Rattle.tc_core.proofs.HearingLemmas.{keeps_told, may_resume, waits_for}
use Rattle.tc_core.proofs.transaction.Tx.hear_at_once.Goals as goal

pub wrote-requires : goal.wrote-requires
wrote-requires c =
    let m = c.requires.hears.1 in
    let r : Sent = record { number = c.args.number; op = c.args.op.now; undoing = false } in
    m.room (ap (λ (x : Sent). x.undoing) (waits_for _ (asking_under c.args.number c.args.op.now c.args.self.now) _ _ r m refl))

pub told-requires : goal.told-requires
told-requires c =
    let s = c.requires.hears.0 in
    let m = may_resume _ (asking_under c.args.number c.args.op.now c.args.self.now) s c.args.said.now _ c.requires.hears.1 refl refl in (
      s.call.args,
      s.answers,
      c.args.op.now,
      record {
        runs = record { started = m.runs.started; call = m.runs.call; layout = m.runs.layout; pauses = m.runs.pauses };
        fit = m.fit;
        asks = m.asks;
        fits = m.fits;
      },
    )

pub returns-clause-keeps : goal.returns-clause-keeps
returns-clause-keeps c = λ s m.
    let tx = c.args.self.now in
    let n = c.args.number in
    let x = c.told.new.self in
    let rest = c.told.ensures.rest in
    let ops = ap (λ (y : Tx). y.undo.ops) rest ∙ c.wrote.ensures.ops in
    let room = ap (λ (y : Tx). length y.undo.ops + y.undo.room) rest ∙ c.wrote.ensures.room in
    let as_is : Option Sent → Writes → Tx = (λ r u. record tx {
      sent = r;
      machine = x.machine;
      pause = x.pause;
      full = x.full;
      undo = u;
      last = n;
      left = tx.left - 1;
      in_doubt = false;
    }) in
    let undo = ap (as_is tx.sent) (sym (ap (λ (y : Tx). y.undo) rest)) in
    let silent = ap (λ (r : Option Sent). as_is r x.undo) c.requires.idle in
    let may = may_resume _ (asking_under n c.args.op.now tx) s c.args.said.now _ m refl refl in
    let may' : MayResume _ (record tx { last = n; left = tx.left - 1; in_doubt = false; undo = c.wrote.new.undo }) s.call.args s.answers c.args.op.now c.args.said.now = record {
      runs = record { started = may.runs.started; call = may.runs.call; layout = may.runs.layout; pauses = may.runs.pauses };
      fit = may.fit;
      asks = may.asks;
      fits = may.fits;
    } in
    keeps_told _ (asking_under n c.args.op.now tx) x s c.args.said.now _ m refl refl (c.told.ensures.runs _ _ _ may') c.told.ensures.full
    ops room (rest ∙ (undo ∙ silent))
