-- The report of calls that were run.
use Rattle.std.proofs.Common.{ℕ, List}
use Rattle.std.specs.Prelude.{Bool, string_bytes}
use Rattle.data_component.specs.Store.{Store}
use Rattle.scripts.specs.declared.script.Call.{Call}
use Rattle.tc_core.specs.Core.{Core}
use Rattle.worker_pool.specs.Faults.{InRange}
use Rattle.run_ground.specs.declared.ground.Checkpoints.{Checkpoints}
use Rattle.run_log.specs.declared.anew.Renewal.{Renewal}
use Rattle.run_command.specs.declared.parts.RunOutcome.{RunOutcome}
use Rattle.run_command.specs.Joining.Parts.{HasEnded}
use Rattle.run_command.specs.Running.{AreLinesOf, IsCallsRun, Ran, Stopped}

pub ran_run : (Kept : Core → Renewal → Type 0) (checkpoints : Checkpoints) (start : Core) (dcs : List Store) (first calls : List Call) (workers tries : ℕ)
    (audit strict results : Bool) (status : ℕ) (lines : List ℕ) (o : RunOutcome) → InRange workers tries → HasEnded results start dcs first calls checkpoints o
    → AreLinesOf o.ground.state o.ground.dcs.items audit strict o.answers.first.items o.answers.calls.items (string_bytes o.lines) o.renewal
    status lines
    → Kept o.ground.state o.renewal → IsCallsRun Kept checkpoints start dcs first calls workers tries audit strict results status lines
ran_run Kept checkpoints start dcs first calls workers tries audit strict results status lines o range ended printed kept =
    Ran range (record {
      first_answers = o.answers.first.items;
      other_answers = o.answers.calls.items;
      told = string_bytes o.lines;
      behind = ended.behind;
      behind_dcs = ended.behind_dcs;
      stages = ended.stages;
      led = ended.led;
      one = ended.one;
      last = o.ground.state;
      last_dcs = o.ground.dcs.items;
      renewal = o.renewal;
      renewed = ended.renewed;
      wanted = ended.wanted;
      printed = printed;
      kept = kept;
    })

-- what is kept may be left out
pub run_weaker : (K L : Core → Renewal → Type 0) → ((c : Core) (r : Renewal) → K c r → L c r) → (checkpoints : Checkpoints) (start : Core) (dcs : List Store)
    (first calls : List Call) (workers tries : ℕ) (audit strict results : Bool) (status : ℕ) (lines : List ℕ)
    → IsCallsRun K checkpoints start dcs first calls workers tries audit strict results status lines
    → IsCallsRun L checkpoints start dcs first calls workers tries audit strict results status lines
run_weaker K L less checkpoints start dcs first calls workers tries audit strict results status lines (Ran range r) =
    Ran range (record {
      first_answers = r.first_answers;
      other_answers = r.other_answers;
      told = r.told;
      behind = r.behind;
      behind_dcs = r.behind_dcs;
      stages = r.stages;
      led = r.led;
      one = r.one;
      last = r.last;
      last_dcs = r.last_dcs;
      renewal = r.renewal;
      renewed = r.renewed;
      wanted = r.wanted;
      printed = r.printed;
      kept = less r.last r.renewal r.kept;
    })
run_weaker K L less checkpoints start dcs first calls workers tries audit strict results status lines (Stopped cause stops is line) = Stopped cause stops is line
