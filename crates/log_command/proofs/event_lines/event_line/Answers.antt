use Rattle.std.proofs.Common.{◌≡◌, ◌++◌, rules, ap, sym, ◌∙◌}
use Rattle.std.specs.Prelude.{IfOk, string_bytes, codes, decimal}
use Rattle.tc_log.specs.Entered.{seen}
use Rattle.log_command.specs.EventLines.{event_line}
use Rattle.std.proofs.lemmas.Result.{IfOk-weaker}
use Rattle.log_command.proofs.EventLemmas.{admit_text, admit_is}
use Rattle.log_command.proofs.event_lines.event_line.Goals as goal

pub returns-in_ok-args-in-Admit : goal.returns-in_ok-args-in-Admit
returns-in_ok-args-in-Admit c =
    let text = string_bytes c.in_ok-args-in-Admit.args in
    let written : IfOk c.format.result (λ s. string_bytes s ≡ admit_text c.args.place c.in-Admit.txn c.in-Admit.proc
    (string_bytes c.in_ok-args-in-Admit.args)) = search rules in
    IfOk-weaker c.format.result _ _
    (λ s is. admit_is c.args.place c.in-Admit.txn c.in-Admit.proc c.in-Admit.args.now (seen c.args.event.now) text (string_bytes s)
    (ap seen c.in-Admit.is) c.in_ok-args-in-Admit.ensures is) written

pub returns-in-Checkpoint : goal.returns-in-Checkpoint
returns-in-Checkpoint c =
    let text = decimal c.args.place ++ (codes " checkpoint " ++ (decimal c.in-Checkpoint.admitted ++ (codes " " ++ (decimal c.in-Checkpoint.given ++ codes "\n")))) in
    let written : IfOk c.format-in-Checkpoint.result (λ s. string_bytes s ≡ text) = search rules in
    IfOk-weaker c.format-in-Checkpoint.result _ _ (λ s is. is ∙ ap (event_line c.args.place) (sym (ap seen c.in-Checkpoint.is))) written
