use Rattle.std.proofs.Common.{rules, ℕ, List, ap, sym, ◌∙◌}
use Rattle.tc_log.specs.declared.event.Event.TheVariants.{Admit}
use Rattle.access_slots.specs.declared.slot.Record.{Record}
use Rattle.tc_log.specs.Arguments.{listed}
use Rattle.tc_log.specs.Heads.{head_with}
use Rattle.tc_log.specs.declared.heads.Kind.TheVariants.{AdmitsMany}
use Rattle.tc_log.proofs.Laying.{laid_admit, laid_ask, laid_answer, laid_undo, laid_end, laid_checkpoint}
use Rattle.tc_log.proofs.heads.lay.Goals as goal

pub returns-in-Many-clause-laid : goal.returns-in-Many-clause-laid
returns-in-Many-clause-laid c =
    laid_admit c.args.words.now.items c.args.calls.now.items c.push_reserved.new.self.items c.args.event c.head_of-in-Many.result c.in-Admit.txn c.in-Admit.proc
    c.len-place.result c.len-key.result 0 0 c.in-Many.many c.push_reserved.ensures.items (search rules) (search rules)
    (c.head_of-in-Many.ensures.parts
    ∙ ap (λ (r : Record). head_with AdmitsMany c.in-Admit.txn c.in-Admit.proc r c.len-place.result 0) c.keyed.ensures)
    (c.in-Admit.is ∙ ap (λ (numbers : List ℕ). Admit c.in-Admit.txn c.in-Admit.proc numbers) (sym c.numbers.ensures ∙ ap listed c.in-Many.is))

pub returns-in-Ask-clause-laid : goal.returns-in-Ask-clause-laid
returns-in-Ask-clause-laid c =
    laid_ask c.args.words.now.items c.keep_any-count.new.words.items c.args.calls.now.items c.args.event
    c.head_of-in-Ask.result c.in-Ask.txn c.in-Ask.number c.len-place.result c.keep_any-count.result c.in-Ask.op
    c.record.result.now c.kind.result _ c.keep_any-count.ensures.kept c.value.ensures c.kind.ensures.again
    c.record.ensures (search rules) c.head_of-in-Ask.ensures.parts c.in-Ask.is

pub returns-in-Undo-clause-laid : goal.returns-in-Undo-clause-laid
returns-in-Undo-clause-laid c =
    laid_undo c.args.words.now.items c.keep_any-count-in-Undo.new.words.items c.args.calls.now.items c.args.event
    c.head_of-in-Undo.result c.in-Undo.txn c.in-Undo.number c.len-place.result
    c.keep_any-count-in-Undo.result c.in-Undo.op
    c.record-in-Undo.result.now c.kind-in-Undo.result _ c.keep_any-count-in-Undo.ensures.kept c.value-in-Undo.ensures
    c.kind-in-Undo.ensures.again c.record-in-Undo.ensures (search rules) c.head_of-in-Undo.ensures.parts c.in-Undo.is

pub returns-in-End-clause-laid : goal.returns-in-End-clause-laid
returns-in-End-clause-laid c =
    laid_end c.args.words.now.items c.args.calls.now.items c.args.event c.head_of-in-End.result c.in-End.txn c.end-kind.result.1 c.len-place.result (record { dc = 0; table = 0; key = 0 })
    c.in-End.outcome c.end-kind.result.0 c.end-kind.ensures (search rules) c.head_of-in-End.ensures.parts c.in-End.is

pub returns-in-Checkpoint-clause-laid : goal.returns-in-Checkpoint-clause-laid
returns-in-Checkpoint-clause-laid c =
    laid_checkpoint c.args.words.now.items c.args.calls.now.items c.args.event c.head_of-in-Checkpoint.result c.in-Checkpoint.admitted c.in-Checkpoint.given
    c.len-place.result (record { dc = 0; table = 0; key = 0 }) (search rules) c.head_of-in-Checkpoint.ensures.parts c.in-Checkpoint.is

pub returns-in-Answer-clause-laid : goal.returns-in-Answer-clause-laid
returns-in-Answer-clause-laid c =
    laid_answer c.args.words.now.items c.keep_any-count-in-Answer.new.words.items c.args.calls.now.items c.args.event
    c.head_of-in-Answer.result c.in-Answer.txn c.in-Answer.number
    c.len-place.result c.keep_any-count-in-Answer.result c.in-Answer.said
    (record { dc = 0; table = 0; key = 0 }) c.kind-in-Answer.result _ c.keep_any-count-in-Answer.ensures.kept
    c.value-in-Answer.ensures c.kind-in-Answer.ensures.again (search rules)
    c.head_of-in-Answer.ensures.parts c.in-Answer.is
