use Rattle.std.proofs.Common.{false, rules, ◌≡◌, ◌∙◌, ◌++◌, ℕ, List, length, ap, subst}
use Rattle.std.specs.Prelude.{string_bytes}
use Rattle.data_component.specs.Store.{Store, restarted}
use Rattle.base_records.proofs.BaseLemmas.{begun_count}
use Rattle.run_log.proofs.LoggedLemmas.{lent_whole}
use Rattle.std.proofs.lemmas.List.{length-map}
use Rattle.std.proofs.lemmas.Result.{IfOk-weaker}
use Rattle.run_log.specs.Recovering.{IsLogRefusal, IsBackTo}
use Rattle.run_command.specs.Logged.{IsRunOn, Unopened, Refused, Behind}
use Rattle.run_command.proofs.logged.run_behind.Goals as goal

pub returns-in-Some : goal.returns-in-Some
returns-in-Some g c =
    Unopened c.in-Some.stop (c.in-Some.ensures.unfit false) c.in_ok-stopped.ensures.status c.in_ok-stopped.ensures.lines

pub returns-in-Ok-Ready : goal.returns-in-Ok-Ready
returns-in-Ok-Ready g c =
    let loaded = c.args.loaded in
    let options = c.args.options in
    let same : c.as_mut_slice.result.now ≡ loaded.dcs.items = search rules in
    let to = subst (λ (dcs : List Store). IsBackTo loaded.state dcs c.begin.new.state c.begin.new.dcs c.in-Ok-Ready.back)
    same (rw c.in-Ok-Ready.field-0-is at c.in-Ok-Ready.ensures) in
    let from = to.from in
    let b = from.is_back in
    let len : loaded.dcs.len ≡ length loaded.dcs.items = search rules in
    let count : length c.begin.new.dcs ≡ length loaded.dcs.items =
    b.came_back.served.count ∙ (length-map from.begun restarted ∙ begun_count to.base _ loaded.dcs.items from.begun from.begins) in
    let whole = lent_whole c.begin.new.dcs loaded.dcs.items loaded.dcs.len len count in
    IfOk-weaker c.run_on.result _ _ (λ r h. Behind (record {
      file = to.file;
      base = to.base;
      log = to.log;
      is_log = to.is_log;
      begun = from.begun;
      begins = from.begins;
      back = c.begin.new.state;
      dcs = c.begin.new.dcs;
      resumed = b.resumed;
      came_back = b.came_back;
      goes_on = b.goes_on;
      dropped = b.dropped;
      path = b.path;
      on = subst (λ (lines : List ℕ). IsRunOn r.journal options.checkpoints c.begin.new.state c.begin.new.dcs
          loaded.first.items loaded.calls.items options.manner.workers options.manner.tries options.manner.audit options.manner.strict
          options.manner.results r.report.status lines (string_bytes r.report.lines)) b.lines
          (subst (λ (dcs : List Store). IsRunOn r.journal options.checkpoints c.begin.new.state dcs loaded.first.items
          loaded.calls.items options.manner.workers options.manner.tries options.manner.audit options.manner.strict options.manner.results
          r.report.status (string_bytes c.in-Ok-Ready.back.lines) (string_bytes r.report.lines)) whole h);
    })) (c.run_on.ensures b.kept)

pub returns-in-Ok-Refused : goal.returns-in-Ok-Refused
returns-in-Ok-Refused g c =
    let same : c.as_mut_slice.result.now ≡ c.args.loaded.dcs.items = search rules in
    let refused = rw c.in-Ok-Refused.field-0-is at c.in-Ok-Refused.ensures in
    Refused (subst (λ (dcs : List Store). IsLogRefusal c.args.loaded.state dcs (string_bytes c.in-Ok-Refused.report.lines)) same refused.0) refused.1
