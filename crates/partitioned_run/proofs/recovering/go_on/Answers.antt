use Rattle.std.proofs.Common.{rules, ◌≡◌, ◌∙◌, List, length, refl, subst, sym}
use Rattle.std.specs.Prelude.{string_bytes}
use Rattle.std.proofs.lemmas.List.{length-map}
use Rattle.base_records.proofs.BaseLemmas.{begun_count}
use Rattle.data_component.specs.Store.{Store, restarted}
use Rattle.log_file.specs.Found.{base_in}
use Rattle.run_log.proofs.LoggedLemmas.{lent_whole}
use Rattle.run_log.specs.Recovering.{IsLogRefusal, IsBackFrom}
use Rattle.partitioned_run.specs.Logged.{Itself, Others}
use Rattle.partitioned_run.proofs.RecoveringLemmas.{back_at}
use Rattle.partitioned_run.proofs.recovering.go_on.Goals as goal

pub returns-in-Some : goal.returns-in-Some
returns-in-Some c = λ opened.
    let o = c.args.opened in
    let of_other = rw (c.in-Some.is, c.procs.ensures) at c.other_of.ensures.other in
    let made = rw c.as_str.ensures.value at c.in_ok-refused.ensures in (
      made.0,
      (
        string_bytes c.in_ok-line.line,
        Others opened.file (base_in o.base) o.log.events c.in-Some.other opened.is_log of_other c.in_ok-line.ensures,
        made.1,
      ),
    )

pub returns-in-Ok-Ready : goal.returns-in-Ok-Ready
returns-in-Ok-Ready c = λ opened.
    let ground = c.args.ground in
    let o = c.args.opened in
    let back = c.in-Ok-Ready.field-0-0 in
    let base = base_in o.base in
    let same : c.as_mut_slice-dcs.result.now ≡ ground.dcs.items = search rules in
    let from = subst (λ (dcs : List Store). IsBackFrom ground.state dcs base o.log.events c.go_back.new.state c.go_back.new.dcs back)
    same (rw c.in-Ok-Ready.field-0-is at (c.in-Ok-Ready.ensures opened)) in
    let len : ground.dcs.len ≡ length ground.dcs.items = search rules in
    let count : length c.go_back.new.dcs ≡ length ground.dcs.items =
    from.is_back.came_back.served.count ∙ (length-map from.begun restarted ∙ begun_count base _ ground.dcs.items from.begun from.begins) in
    let whole = lent_whole c.go_back.new.dcs ground.dcs.items ground.dcs.len len count in (
      refl,
      back_at ground.state ground.dcs.items c.args.partitions.now c.args.number o _ back opened refl
          (subst (λ (dcs : List Store). IsBackFrom ground.state ground.dcs.items base o.log.events c.go_back.new.state dcs back) (sym whole) from)
          (rw (c.in_default.is, c.procs.ensures) at c.other_of.ensures.own),
    )

pub returns-in_ok-refused-in-Ok-Refused : goal.returns-in_ok-refused-in-Ok-Refused
returns-in_ok-refused-in-Ok-Refused c = λ opened.
    let lines = string_bytes c.in-Ok-Refused.report.lines in
    let same : c.as_mut_slice-dcs.result.now ≡ c.args.ground.dcs.items = search rules in
    let refused = rw c.in-Ok-Refused.field-0-is at (c.in-Ok-Refused.ensures opened) in
    let made = rw c.as_str-in-Ok-Refused.ensures.value at c.in_ok-refused-in-Ok-Refused.ensures in
    (made.0, (lines, Itself (subst (λ (dcs : List Store). IsLogRefusal c.args.ground.state dcs lines) same refused.0), made.1))
