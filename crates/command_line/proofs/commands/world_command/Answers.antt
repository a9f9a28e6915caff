use Rattle.command_line.proofs.commands.world_command.Goals as goal

pub returns-clause-app : goal.returns-clause-app
returns-clause-app c =
    let with_log = c.with_arg-with_log.ensures.app _ _ c.new.ensures.app c.log_arg.ensures.rule c.log_arg.ensures.local in
    let with_audit = c.with_arg-with_audit.ensures.app _ _ with_log c.audit_arg.ensures.rule c.audit_arg.ensures.local in
    let with_file = c.with_arg-with_file.ensures.app _ _ with_audit c.file_arg.ensures.rule c.file_arg.ensures.local in
    c.with_arg.ensures.app _ _ with_file c.script_arg.ensures.rule c.script_arg.ensures.local

pub returns-clause-local : goal.returns-clause-local
returns-clause-local c =
    let with_log = c.with_arg-with_log.ensures.local c.new.ensures.local c.log_arg.ensures.local in
    let with_audit = c.with_arg-with_audit.ensures.local with_log c.audit_arg.ensures.local in
    let with_file = c.with_arg-with_file.ensures.local with_audit c.file_arg.ensures.local in
    c.with_arg.ensures.local with_file c.script_arg.ensures.local
