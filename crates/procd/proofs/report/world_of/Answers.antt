use Rattle.std.proofs.Common.{ℕ, List, Bor}
use Rattle.std.specs.Prelude.{option_map, string_bytes}
use Rattle.procd.proofs.Sources.{world_of_source}
use Rattle.procd.proofs.report.world_of.Goals as goal

pub returns-clause-ok : goal.returns-clause-ok
returns-clause-ok g c =
    let r = c.in_ok-world.field-0 in
    let script = option_map (λ (path : Bor (List ℕ)). path.now) c.args.script in
    world_of_source c.args.behind script c.args.file.now c.in_ok-source.source r.status (string_bytes r.lines) c.in_ok-source.ensures.ok c.in_ok-world.ensures
