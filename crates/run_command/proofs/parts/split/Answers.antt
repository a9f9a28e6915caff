use Rattle.std.proofs.Common.{List, sym, subst}
use Rattle.scripts.specs.declared.script.Call.{Call}
use Rattle.run_command.specs.Fitting.{IsMeasured}
use Rattle.run_command.proofs.parts.split.Goals as goal

pub returns-clause-measured : goal.returns-clause-measured
returns-clause-measured c =
    let ground = c.args.ground.now in
    let measured = rw (c.procs.ensures, c.as_slice-dcs.ensures.value) at c.part_length.ensures.measured in
    subst (λ (calls : List Call). IsMeasured ground.state.procs ground.dcs.items c.args.renewal calls) (sym c.split_at.ensures.front) measured
