use Rattle.std.proofs.Common.{sym, ◌∙◌}
use Rattle.embedding.proofs.Parts.{served_on, kept_on, run_on}
use Rattle.embedding.proofs.engine.serve_body.Goals as goal

pub returns-in-Tc-clause-served : goal.returns-in-Tc-clause-served
returns-in-Tc-clause-served c part same =
    served_on c.in-Tc.part part c.serve.new.self c.args.frame.now c.serve.new.frame c.serve.result (sym c.in-Tc.is ∙ same) c.serve.ensures

pub returns-in-Dc-clause-kept : goal.returns-in-Dc-clause-kept
returns-in-Dc-clause-kept c store same =
    kept_on c.in-Dc.dc store c.serve-in-Dc.new.dc c.args.frame.now c.serve-in-Dc.new.frame c.serve-in-Dc.result (sym c.in-Dc.is ∙ same) c.serve-in-Dc.ensures

pub returns-in-Code-clause-run : goal.returns-in-Code-clause-run
returns-in-Code-clause-run c program same =
    run_on c.in-Code.part program c.serve-in-Code.new.self c.args.frame.now c.serve-in-Code.new.frame c.serve-in-Code.result (sym c.in-Code.is ∙ same) c.serve-in-Code.ensures
