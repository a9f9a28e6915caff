use Rattle.std.proofs.lemmas.Result.{IfOk-weaker}
use Rattle.std.proofs.Common.{◌≡◌, ℕ, List, length, reverse, Some, ap, subst, sym, ◌∙◌}
use Rattle.std.specs.Prelude.{string_bytes}
use Rattle.coming_back.specs.declared.resumed.Resumed.{Resumed}
use Rattle.tc_log.specs.declared.event.Event.{Event}
use Rattle.history.specs.Places.{Begins}
use Rattle.base_records.specs.Beginning.{HaveBegun, IsUnbegun}
use Rattle.base_records.proofs.BaseLemmas.{have_only_rows}
use Rattle.log_file.specs.Found.{base_in}
use Rattle.run_log.specs.LogLines.{back_lines}
use Rattle.run_ground.specs.Kept.{KeepsLog}
use Rattle.run_log.specs.Recovering.{HasComeBack, overfull}
use Rattle.run_log.proofs.RecoveringLemmas.{baseless_comes, unfit_comes, overfull_comes}
use Rattle.run_log.proofs.recovering.come.Goals as goal

pub returns-in-Some : goal.returns-in-Some
returns-in-Some c = λ file is was.
    let base = base_in c.args.base.now in
    let why : IsUnbegun base c.args.dcs.now c.in-Some.fault = rw c.in-Some.is at c.in_ok-fault.ensures.fault in
    baseless_comes c.args.state.now c.args.dcs.now file base c.args.log.now.events c.args.state.now c.begin.new.dcs c.args.journal.now
    c.refusal.result c.in-Some.fault is why (ap string_bytes c.refusal.ensures.1 ∙ c.in_ok-base_fault_line.ensures) c.refusal.ensures.0

pub come_back-requires : goal.come_back-requires
come_back-requires c =
    have_only_rows (base_in c.args.base.now) (reverse c.args.log.now.events) c.args.dcs.now c.begin.new.dcs
    (rw c.in_default.is at c.in_ok-fault.ensures.begun) c.requires

pub returns-in-Err : goal.returns-in-Err
returns-in-Err c = λ file is was.
    let begins : HaveBegun (base_in c.args.base.now) (reverse c.args.log.now.events) c.args.dcs.now c.begin.new.dcs = rw
    c.in_default.is at c.in_ok-fault.ensures.begun in
    IfOk-weaker c.unfit.result _ _ (λ x h. unfit_comes c.args.state.now c.args.dcs.now file (base_in c.args.base.now)
    c.args.log.now.events c.begin.new.dcs c.come_back.new.state c.come_back.new.dcs c.args.journal.now
    c.in-Err.fault x is begins c.in-Err.ensures.fault h)
    c.unfit.ensures

pub returns-in-Some-overfull : goal.returns-in-Some-overfull
returns-in-Some-overfull c = λ file is was.
    let begins : HaveBegun (base_in c.args.base.now) (reverse c.args.log.now.events) c.args.dcs.now c.begin.new.dcs = rw
    c.in_default.is at c.in_ok-fault.ensures.begun in
    let came : HasComeBack c.args.state.now c.begin.new.dcs c.args.log.now.events c.come_back.new.state c.come_back.new.dcs c.in-Ok.resumed.items = record {
      legal = c.in-Ok.ensures.legal;
      begins = c.in-Ok.ensures.begins;
      same = c.in-Ok.ensures.same;
      known = c.in-Ok.ensures.known;
      served = c.in-Ok.ensures.served;
      told = c.in-Ok.ensures.resumed;
      doubts = c.in-Ok.ensures.doubts;
      each = c.in-Ok.ensures.each;
    } in
    overfull_comes c.args.state.now c.args.dcs.now file (base_in c.args.base.now) c.args.log.now.events c.begin.new.dcs
    c.come_back.new.state c.come_back.new.dcs c.in-Ok.resumed.items c.args.journal.now
    c.refusal-in-Some-overfull.result c.in-Some-overfull.dc is begins came
    (subst (λ (rs : List Resumed). overfull c.come_back.new.dcs rs ≡ Some c.in-Some-overfull.dc)
    c.as_slice.ensures.value (sym (rw c.in-Some-overfull.is at c.overfull.ensures)))
    (ap string_bytes c.refusal-in-Some-overfull.ensures.1 ∙ c.in_ok-overfull_refusal.ensures)
    c.refusal-in-Some-overfull.ensures.0

pub returns : goal.returns
returns c = λ file is was. record {
  begun = c.begin.new.dcs;
  begins = rw c.in_default.is at c.in_ok-fault.ensures.begun;
  is_back = record {
    resumed = c.in-Ok.resumed.items;
    came_back = record {
      legal = c.in-Ok.ensures.legal;
      begins = c.in-Ok.ensures.begins;
      same = c.in-Ok.ensures.same;
      known = c.in-Ok.ensures.known;
      served = c.in-Ok.ensures.served;
      told = c.in-Ok.ensures.resumed;
      doubts = c.in-Ok.ensures.doubts;
      each = c.in-Ok.ensures.each;
    };
    goes_on = record { lived = c.in-Ok.ensures.lived };
    kept =
        subst (λ (h : List Event). KeepsLog (Some c.keep_behind.new.journal) h) c.log.ensures
        (c.in_ok-keep_behind.ensures c.args.log.now.events was (subst (Begins c.args.log.now.events) (sym c.log.ensures) c.in-Ok.ensures.begins) c.len.ensures);
    dropped = c.args.dropped;
    path = c.args.path.now;
    lines = c.in_ok-back_lines.ensures
        ∙ (ap (λ (n : ℕ). back_lines n c.args.dropped c.args.path.now c.as_slice-2.result.now) c.len-2.ensures
        ∙ ap (back_lines (length c.args.log.now.events) c.args.dropped c.args.path.now) c.as_slice-2.ensures.value);
  };
}
