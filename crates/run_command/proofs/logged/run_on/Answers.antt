use Rattle.std.proofs.Common.{◌∙◌, ◌++◌, List, ℕ, ap}
use Rattle.std.specs.Prelude.{string_bytes}
use Rattle.std.proofs.lemmas.Result.{IfOk-weaker}
use Rattle.run_command.proofs.logged.run_on.Goals as goal

pub returns-in-Ok-run_from : goal.returns-in-Ok-run_from
returns-in-Ok-run_from g c = λ kept.
    let first = c.in-Ok.ensures.renewed in
    let ground = c.renew_first.new.ground in
    let ran = rw (c.as_slice.ensures.value, c.as_slice-2.ensures.value, c.renew_first.ensures.same) at (c.in-Ok-run_from.ensures.run (c.in-Ok.ensures.kept kept)) in
    IfOk-weaker c.behind.result _ _ (λ r h. record {
      renewal = first.renewal;
      anew = ground.state;
      anew_dcs = ground.dcs.items;
      renewed = first.renewed;
      wanted = λ no. first.wanted (c.over_before-over.ensures.none no);
      answers = string_bytes c.in-Ok-run_from.ran.report.lines;
      ran = rw (h.0, h.1) ran;
      lines_are = h.2 ∙ ap (λ (l : List ℕ). l ++ string_bytes c.in-Ok-run_from.ran.report.lines) (c.as_str.ensures.value ∙ first.line);
    }) c.behind.ensures
