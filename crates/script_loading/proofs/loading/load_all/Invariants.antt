use Rattle.std.proofs.Common.{◌≡◌, drop, take}
use Rattle.std.specs.Option.{option_map}
use Rattle.script_loading.specs.Loading.{first_unverified, with_procedures}
use Rattle.script_loading.proofs.loading.load_all.Given as goal

abbrev pub invariant-procedures : goal.invariant-procedures
invariant-procedures l =
    (l.state ≡ with_procedures l.fn.state (take l.procedure-index l.procedures))
    × (first_unverified (option_map (λ file. file.now) l.object) (drop l.procedure-index l.procedures)
    ≡ first_unverified (option_map (λ file. file.now) l.object) l.procedures)
