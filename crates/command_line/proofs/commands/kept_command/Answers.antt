use Rattle.command_line.proofs.commands.kept_command.Goals as goal

pub returns-clause-app : goal.returns-clause-app
returns-clause-app c =
    let with_metrics = c.with_arg-with_metrics.ensures.app _ _ c.told_command.ensures.app c.option_arg-metrics.ensures.rule c.option_arg-metrics.ensures.local in
    let with_trace = c.with_arg-with_trace.ensures.app _ _ with_metrics c.option_arg-trace.ensures.rule c.option_arg-trace.ensures.local in
    let with_log = c.with_arg-with_log.ensures.app _ _ with_trace c.option_arg-log.ensures.rule c.option_arg-log.ensures.local in
    c.with_arg.ensures.app _ _ with_log c.partitions_arg.ensures.rule c.partitions_arg.ensures.local

pub returns-clause-local : goal.returns-clause-local
returns-clause-local c =
    let with_metrics = c.with_arg-with_metrics.ensures.local c.told_command.ensures.local c.option_arg-metrics.ensures.local in
    let with_trace = c.with_arg-with_trace.ensures.local with_metrics c.option_arg-trace.ensures.local in
    let with_log = c.with_arg-with_log.ensures.local with_trace c.option_arg-log.ensures.local in
    c.with_arg.ensures.local with_log c.partitions_arg.ensures.local
