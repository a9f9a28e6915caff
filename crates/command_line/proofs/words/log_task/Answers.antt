use Rattle.std.proofs.Common.{◌≡◌, ◌∙◌, Bool, Option, Some, None, Err, option_map, ap, ap₂, sym, refl, rules}
use Rattle.clap.specs.Words.{Text, found_of, rows_of}
use Rattle.command_line.specs.Task.{Log, log_wish}
use Rattle.command_line.specs.Joining.LogWanted.{audit_wanted}
use Rattle.command_line.proofs.Options.{some_some, none_some}
use Rattle.command_line.proofs.Wishes.{log_said, log_parted, shown_fits, audit_fits}
use Rattle.command_line.proofs.words.log_task.Goals as goal

pub returns-in_err-part-clause-task : goal.returns-in_err-part-clause-task
returns-in_err-part-clause-task c = λ wanted says. absurd (log_parted (rows_of (found_of c.args.matches.now)) wanted says c.in_err-part.ensures.err.1)

pub returns-in-None-clause-task : goal.returns-in-None-clause-task
returns-in-None-clause-task c = λ wanted says.
    let said = log_said (rows_of (found_of c.args.matches.now)) c.flag_of-rows.result c.flag_of-audit.result c.flag_of-follow.result
    (option_map (λ s. s.now) c.text_of.result) (option_map (λ s. s.now) c.text_of-picture.result) c.in_ok-part.part c.flag_of-rows.ensures
    c.flag_of-audit.ensures c.flag_of-follow.ensures c.text_of.ensures c.text_of-picture.ensures c.in_ok-part.ensures.ok wanted says in
    none_some wanted (rw (c.in-None.is, c.if-audit.true) at said)

pub returns-in-Some-clause-task : goal.returns-in-Some-clause-task
returns-in-Some-clause-task c = λ wanted says.
    let said = log_said (rows_of (found_of c.args.matches.now)) c.flag_of-rows.result c.flag_of-audit.result c.flag_of-follow.result
    (option_map (λ s. s.now) c.text_of.result) (option_map (λ s. s.now) c.text_of-picture.result) c.in_ok-part.part c.flag_of-rows.ensures
    c.flag_of-audit.ensures c.flag_of-follow.ensures c.text_of.ensures c.text_of-picture.ensures c.in_ok-part.ensures.ok wanted says in
    none_some wanted (rw (c.in-Some.is, c.if-not-audit.true) at said)

pub returns-in_err-shown_task-in-None-2-clause-task : goal.returns-in_err-shown_task-in-None-2-clause-task
returns-in_err-shown_task-in-None-2-clause-task c = λ wanted says.
    let said = log_said (rows_of (found_of c.args.matches.now)) c.flag_of-rows.result c.flag_of-audit.result c.flag_of-follow.result
    (option_map (λ s. s.now) c.text_of.result) (option_map (λ s. s.now) c.text_of-picture.result) c.in_ok-part.part c.flag_of-rows.ensures
    c.flag_of-audit.ensures c.flag_of-follow.ensures c.text_of.ensures c.text_of-picture.ensures c.in_ok-part.ensures.ok wanted says in
    absurd (none_some wanted (sym c.in_err-shown_task-in-None-2.ensures.err.1 ∙ (rw (c.in-None-2.is, c.if-audit.false) at said)))

pub returns-in_ok-shown_task-in-None-2-clause-task : goal.returns-in_ok-shown_task-in-None-2-clause-task
returns-in_ok-shown_task-in-None-2-clause-task c = λ wanted says.
    let said = log_said (rows_of (found_of c.args.matches.now)) c.flag_of-rows.result c.flag_of-audit.result c.flag_of-follow.result
    (option_map (λ s. s.now) c.text_of.result) (option_map (λ s. s.now) c.text_of-picture.result) c.in_ok-part.part c.flag_of-rows.ensures
    c.flag_of-audit.ensures c.flag_of-follow.ensures c.text_of.ensures c.text_of-picture.ensures c.in_ok-part.ensures.ok wanted says in
    ap Log (some_some _ wanted (sym c.in_ok-shown_task-in-None-2.ensures.ok ∙ (rw (c.in-None-2.is, c.if-audit.false) at said)))

pub returns-in_err-audit_task-in-Some-2-clause-task : goal.returns-in_err-audit_task-in-Some-2-clause-task
returns-in_err-audit_task-in-Some-2-clause-task c = λ wanted says.
    let said = log_said (rows_of (found_of c.args.matches.now)) c.flag_of-rows.result c.flag_of-audit.result c.flag_of-follow.result
    (option_map (λ s. s.now) c.text_of.result) (option_map (λ s. s.now) c.text_of-picture.result) c.in_ok-part.part c.flag_of-rows.ensures
    c.flag_of-audit.ensures c.flag_of-follow.ensures c.text_of.ensures c.text_of-picture.ensures c.in_ok-part.ensures.ok wanted says in
    let asked = ap₂ (λ (shown : Bool) (script : Option Text). audit_wanted shown c.in_ok-part.part c.in-Some.field-0.now script)
    c.is_shown-shown.ensures c.text_of-script.ensures in
    absurd (none_some wanted (sym c.in_err-audit_task-in-Some-2.ensures.err.1 ∙ (asked ∙ rw (c.in-Some.is, c.if-not-audit.false) at said)))

pub returns-in_ok-audit_task-in-Some-2-clause-task : goal.returns-in_ok-audit_task-in-Some-2-clause-task
returns-in_ok-audit_task-in-Some-2-clause-task c = λ wanted says.
    let said = log_said (rows_of (found_of c.args.matches.now)) c.flag_of-rows.result c.flag_of-audit.result c.flag_of-follow.result
    (option_map (λ s. s.now) c.text_of.result) (option_map (λ s. s.now) c.text_of-picture.result) c.in_ok-part.part c.flag_of-rows.ensures
    c.flag_of-audit.ensures c.flag_of-follow.ensures c.text_of.ensures c.text_of-picture.ensures c.in_ok-part.ensures.ok wanted says in
    let asked = ap₂ (λ (shown : Bool) (script : Option Text). audit_wanted shown c.in_ok-part.part c.in-Some.field-0.now script)
    c.is_shown-shown.ensures c.text_of-script.ensures in
    ap Log (some_some _ wanted (sym c.in_ok-audit_task-in-Some-2.ensures.ok ∙ (asked ∙ rw (c.in-Some.is, c.if-not-audit.false) at said)))

pub returns-in_ok-shown_task-in-None-2-clause-wrong : goal.returns-in_ok-shown_task-in-None-2-clause-wrong
returns-in_ok-shown_task-in-None-2-clause-wrong c =
    shown_fits (rows_of (found_of c.args.matches.now)) c.flag_of-rows.result c.flag_of-audit.result c.flag_of-follow.result
    (option_map (λ s. s.now) c.text_of.result) (option_map (λ s. s.now) c.text_of-picture.result) c.in_ok-part.part c.flag_of-rows.ensures
    c.flag_of-audit.ensures c.flag_of-follow.ensures c.text_of.ensures c.text_of-picture.ensures c.in_ok-part.ensures.ok
    (log_wish c.in_ok-shown_task-in-None-2.field-0) (ap (option_map (λ s. s.now)) c.in-None-2.is) c.if-audit.false c.in_ok-shown_task-in-None-2.ensures.ok

pub returns-in_ok-audit_task-in-Some-2-clause-wrong : goal.returns-in_ok-audit_task-in-Some-2-clause-wrong
returns-in_ok-audit_task-in-Some-2-clause-wrong c =
    audit_fits (rows_of (found_of c.args.matches.now)) c.flag_of-rows.result c.flag_of-audit.result c.flag_of-follow.result
    (option_map (λ s. s.now) c.text_of.result) (option_map (λ s. s.now) c.text_of-picture.result) c.in_ok-part.part c.flag_of-rows.ensures
    c.flag_of-audit.ensures c.flag_of-follow.ensures c.text_of.ensures c.text_of-picture.ensures c.in_ok-part.ensures.ok
    c.in-Some.field-0.now c.is_shown-shown.result _ (log_wish c.in_ok-audit_task-in-Some-2.field-0) (ap (option_map (λ s. s.now)) c.in-Some.is)
    c.if-not-audit.false c.is_shown-shown.ensures c.in_ok-audit_task-in-Some-2.ensures.ok

pub returns-in_err-shown_task-in-None-2-clause-err : goal.returns-in_err-shown_task-in-None-2-clause-err
returns-in_err-shown_task-in-None-2-clause-err c =
    let is : c.from_residual-in_err-shown_task-in-None-2.result ≡ Err c.in_err-shown_task-in-None-2.field-0.0 = search rules in
    rw is (c.in_err-shown_task-in-None-2.ensures.err.0 (rows_of (found_of c.args.matches.now)))

pub returns-in_err-audit_task-in-Some-2-clause-err : goal.returns-in_err-audit_task-in-Some-2-clause-err
returns-in_err-audit_task-in-Some-2-clause-err c =
    let is : c.from_residual-in_err-audit_task-in-Some-2.result ≡ Err c.in_err-audit_task-in-Some-2.field-0.0 = search rules in
    rw is (c.in_err-audit_task-in-Some-2.ensures.err.0 (rows_of (found_of c.args.matches.now)))
