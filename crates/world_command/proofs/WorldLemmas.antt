-- A script's steps, from the world in which nothing happened.
use Rattle.std.proofs.Common.{◌≡◌, ◌++◌, ℕ, Bool, List, [], sym, ap, ap₂, subst, ◌∙◌}
use Rattle.std.specs.Prelude.{IfOk, Result, Ok, Err, string_bytes}
use Rattle.data_component.specs.Store.{Store}
use Rattle.scripts.specs.Reading.{Contents}
use Rattle.scripts.specs.declared.script.Step.{Step as ScriptStep}
use Rattle.tc_core.specs.Core.{Core}
use Rattle.tc_world.specs.Whole.{Whole}
use Rattle.script_loading.specs.Loading.{IsReady}
use Rattle.world_command.specs.Stepping.{AreTaken}
use Rattle.world_command.specs.WorldReport.{begun, IsLeft, IsStepped}
use Rattle.script_loading.specs.declared.loading.Loaded.{Loaded}
use Rattle.world_command.specs.declared.world.Behind.{Behind}
use Rattle.report_texts.specs.declared.output.Output.{Output}

abbrev unsent : Core → List Store → Whole
unsent core dcs = record { core = core; dcs = dcs; copies = []; replies = []; news = [] }

-- what becomes of the numbers given up isn't looked at
left_as : (core whole : Core) (dcs : List Store) (behind : Behind) (all : Bool) (stepped : List ℕ) (status : ℕ) (lines : List ℕ)
    → core ≡ record whole { given_up = core.given_up } → IsLeft core dcs behind all stepped status lines → IsLeft whole dcs behind all stepped status lines
left_as core whole dcs behind all stepped status lines same left =
    let l = subst (λ (c : Core). IsLeft c dcs behind all stepped status lines) same left in
    record { kept = l.kept; rows = l.rows; found = l.found; sound = l.sound; audit = l.audit; lines_are = l.lines_are; status_is = l.status_is }

stepped_from : (contents : Contents) (loaded : Loaded) (behind : Behind) (all : Bool) (start end : Whole) (stepped lines : List ℕ) (status : ℕ)
    → IsReady contents loaded
    → start ≡ record { core = loaded.state; dcs = loaded.dcs.items; copies = []; replies = []; news = [] }
    → AreTaken start loaded.steps.items end [] stepped all
    → IsLeft end.core end.dcs behind all stepped status lines → IsStepped contents behind status lines
stepped_from contents loaded behind all start end stepped lines status ready is taken left =
    let begins : start ≡ begun contents = is ∙ ap₂ unsent ready.state ready.dcs in
    let from_begun = subst (λ (w : Whole). AreTaken w loaded.steps.items end [] stepped all) begins taken in
    let all_taken = subst (λ (xs : List ScriptStep). AreTaken (begun contents) xs end [] stepped all) ready.steps from_begun in
    record { end = end; all = all; stepped = stepped; taken = all_taken; left = left }

-- the report of a script's steps
abbrev pub Reported : Loaded → Behind → Output → Type 0
Reported loaded behind r = (contents : Contents) → IsReady contents loaded → IsStepped contents behind r.status (string_bytes r.lines)

-- the steps were taken, and behind their lines stands what is left
pub stepped_report : {E : Type 0} (told result : Result Output E) (loaded : Loaded) (behind : Behind) (all : Bool)
    (start end : Whole) (stepped : List ℕ) (core : Core) (dcs : List Store)
    → told ≡ result → dcs ≡ end.dcs → core ≡ record end.core { given_up = core.given_up }
    → start ≡ record { core = loaded.state; dcs = loaded.dcs.items; copies = []; replies = []; news = [] }
    → AreTaken start loaded.steps.items end [] stepped all
    → IfOk result (λ r. IsLeft core dcs behind all stepped r.status (string_bytes r.lines)) → IfOk told (Reported loaded behind)
stepped_report told (Ok r) loaded behind all start end stepped core dcs told_is dcs_are core_is is taken left =
    let here = left_as core end.core dcs behind all stepped r.status (string_bytes r.lines) core_is left in
    let there = subst (λ (ds : List Store). IsLeft end.core ds behind all stepped r.status (string_bytes r.lines)) dcs_are here in
    subst (λ (x : Result Output _). IfOk x (Reported loaded behind)) (sym told_is)
    (λ contents ready. stepped_from contents loaded behind all start end stepped (string_bytes r.lines) r.status ready is taken there)
stepped_report told (Err e) loaded behind all start end stepped core dcs told_is dcs_are core_is is taken left =
    subst (λ (x : Result Output _). IfOk x (Reported loaded behind)) (sym told_is) tt

pub none_reported : {E : Type 0} (told : Result Output E) (loaded : Loaded) (behind : Behind) (e : E) → told ≡ Err e → IfOk told (Reported loaded behind)
none_reported told loaded behind e told_is = subst (λ (x : Result Output _). IfOk x (Reported loaded behind)) (sym told_is) tt
