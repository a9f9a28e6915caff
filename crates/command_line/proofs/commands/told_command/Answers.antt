use Rattle.command_line.proofs.commands.told_command.Goals as goal

pub returns-clause-app : goal.returns-clause-app
returns-clause-app c =
    let with_workers = c.with_arg-with_workers.ensures.app _ _ c.new.ensures.app c.option_arg-workers.ensures.rule c.option_arg-workers.ensures.local in
    let with_tries = c.with_arg-with_tries.ensures.app _ _ with_workers c.option_arg-tries.ensures.rule c.option_arg-tries.ensures.local in
    let with_stats = c.with_arg-with_stats.ensures.app _ _ with_tries c.stats_arg.ensures.rule c.stats_arg.ensures.local in
    let with_audit = c.with_arg-with_audit.ensures.app _ _ with_stats c.audit_arg.ensures.rule c.audit_arg.ensures.local in
    let with_strict = c.with_arg-with_strict.ensures.app _ _ with_audit c.strict_arg.ensures.rule c.strict_arg.ensures.local in
    let with_results = c.with_arg-with_results.ensures.app _ _ with_strict c.results_arg.ensures.rule c.results_arg.ensures.local in
    c.with_arg.ensures.app _ _ with_results c.tell_arg.ensures.rule c.tell_arg.ensures.local

pub returns-clause-local : goal.returns-clause-local
returns-clause-local c =
    let with_workers = c.with_arg-with_workers.ensures.local c.new.ensures.local c.option_arg-workers.ensures.local in
    let with_tries = c.with_arg-with_tries.ensures.local with_workers c.option_arg-tries.ensures.local in
    let with_stats = c.with_arg-with_stats.ensures.local with_tries c.stats_arg.ensures.local in
    let with_audit = c.with_arg-with_audit.ensures.local with_stats c.audit_arg.ensures.local in
    let with_strict = c.with_arg-with_strict.ensures.local with_audit c.strict_arg.ensures.local in
    let with_results = c.with_arg-with_results.ensures.local with_strict c.results_arg.ensures.local in
    c.with_arg.ensures.local with_results c.tell_arg.ensures.local
