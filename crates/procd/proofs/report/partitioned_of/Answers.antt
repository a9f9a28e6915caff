use Rattle.std.proofs.Common.{ℕ, Bool, List, Bor, subst}
use Rattle.std.specs.Prelude.{is_some, option_map, string_bytes}
use Rattle.scripts.specs.declared.keyword.Command.TheVariants as command
use Rattle.script_loading.specs.Loading.{beginning_of}
use Rattle.partitioned_run.specs.Logged.{IsPartitionedRun}
use Rattle.procd.proofs.Sources.{as_there, partitioned_of_source}
use Rattle.procd.proofs.report.partitioned_of.Goals as goal

pub returns-in-Ok-clause-ok : goal.returns-in-Ok-clause-ok
returns-in-Ok-clause-ok g c =
    let m = c.args.manner in
    let r = c.in-Ok.report in
    let log = option_map (λ (path : Bor (List ℕ)). path.now) c.args.log in
    let script = option_map (λ (path : Bor (List ℕ)). path.now) c.args.script in
    partitioned_of_source (is_some log) m.workers m.tries m.audit m.strict script c.args.file.now c.in_ok-source.source r.status (string_bytes r.lines)
    c.in_ok-source.ensures.ok
    (subst (λ (b : Bool). IsPartitionedRun b m.workers m.tries m.audit m.strict (beginning_of command.Run c.in_ok-source.source) r.status (string_bytes r.lines))
    (as_there (λ (path : Bor (List ℕ)). path.now) c.args.log) c.in-Ok.ensures)

pub returns-clause-further : goal.returns-clause-further
returns-clause-further g c = c.apart_fault.ensures.further (option_map (λ (path : Bor (List ℕ)). path.now) c.args.script)
