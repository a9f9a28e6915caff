-- What a script comes to before its first step or call.
use Rattle.std.specs.Prelude.{◌≡◌, ℕ, List, map, string_bytes}
use Rattle.script_loading.specs.Loading.{empty_store}
use Rattle.script_loading.specs.declared.loading.Accepted.{Accepted as AcceptedScript}
use Rattle.script_loading.specs.declared.loading.Acceptance.{Acceptance}
use Rattle.script_loading.specs.declared.loading.Acceptance.TheVariants as acceptance
use Rattle.script_loading.specs.declared.loading.Loading.{Loading}
use Rattle.script_loading.specs.declared.loading.Loading.TheVariants.{Ready, Refused}

-- steps and calls begin with the script's state and with data components that are empty
abbrev pub IsReadied : AcceptedScript → Loading → Type 0
IsReadied a (Ready loaded) =
    (loaded.state ≡ a.state) × (loaded.dcs.items ≡ map empty_store a.script.dcs.items) × (loaded.steps.items ≡ a.script.steps.items)
    × (loaded.first.items ≡ a.script.first.items) × (loaded.calls.items ≡ a.script.calls.items)
IsReadied a (Refused report) = ⊥

-- nothing begins, and these lines say why
abbrev pub IsRefusal : List ℕ → Acceptance → Type 0
IsRefusal lines (acceptance.Accepted a) = ⊥
IsRefusal lines (acceptance.Refused report) = (string_bytes report.lines ≡ lines) × (report.status ≡ 1)
