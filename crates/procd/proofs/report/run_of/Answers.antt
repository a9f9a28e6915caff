use Rattle.std.proofs.Common.{ℕ, List, Bor}
use Rattle.std.specs.Prelude.{option_map, string_bytes}
use Rattle.std.proofs.lemmas.Result.{IfOk-weaker}
use Rattle.procd.proofs.Sources.{run_of_source}
use Rattle.procd.proofs.report.run_of.Goals as goal

pub returns-in-Some-clause-ok : goal.returns-in-Some-clause-ok
returns-in-Some-clause-ok g c =
    let o = c.args.options in
    let m = o.manner in
    let log = option_map (λ (path : Bor (List ℕ)). path.now) c.args.log in
    let script = option_map (λ (path : Bor (List ℕ)). path.now) c.args.script in
    IfOk-weaker c.logged.result _ _ (λ r h.
    run_of_source o.checkpoints m.workers m.tries m.audit m.strict m.results log script c.args.file.now c.in_ok-source.source r.status (string_bytes r.lines)
    c.in_ok-source.ensures.ok (rw c.in-Some.is h)) c.logged.ensures.ok

pub returns-in-Ok-clause-ok : goal.returns-in-Ok-clause-ok
returns-in-Ok-clause-ok g c =
    let o = c.args.options in
    let m = o.manner in
    let r = c.in-Ok.report in
    let log = option_map (λ (path : Bor (List ℕ)). path.now) c.args.log in
    let script = option_map (λ (path : Bor (List ℕ)). path.now) c.args.script in
    run_of_source o.checkpoints m.workers m.tries m.audit m.strict m.results log script c.args.file.now c.in_ok-source.source r.status (string_bytes r.lines)
    c.in_ok-source.ensures.ok (rw c.in-None.is c.in-Ok.ensures)
