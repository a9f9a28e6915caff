use Rattle.command_line.proofs.commands.log_command.Goals as goal

pub returns-clause-app : goal.returns-clause-app
returns-clause-app c =
    let with_rows = c.with_arg-with_rows.ensures.app _ _ c.new.ensures.app c.rows_arg.ensures.rule c.rows_arg.ensures.local in
    let with_audit = c.with_arg-with_audit.ensures.app _ _ with_rows c.audit_arg.ensures.rule c.audit_arg.ensures.local in
    let with_follow = c.with_arg-with_follow.ensures.app _ _ with_audit c.follow_arg.ensures.rule c.follow_arg.ensures.local in
    let with_picture = c.with_arg-with_picture.ensures.app _ _ with_follow c.option_arg-picture.ensures.rule c.option_arg-picture.ensures.local in
    let with_from = c.with_arg-with_from.ensures.app _ _ with_picture c.option_arg-from.ensures.rule c.option_arg-from.ensures.local in
    let with_tail = c.with_arg-with_tail.ensures.app _ _ with_from c.option_arg-tail.ensures.rule c.option_arg-tail.ensures.local in
    let with_file = c.with_arg-with_file.ensures.app _ _ with_tail c.file_arg-file.ensures.rule c.file_arg-file.ensures.local in
    let with_source = c.with_arg-with_source.ensures.app _ _ with_file c.source_arg.ensures.rule c.source_arg.ensures.local in
    c.with_arg.ensures.app _ _ with_source c.script_arg.ensures.rule c.script_arg.ensures.local

pub returns-clause-local : goal.returns-clause-local
returns-clause-local c =
    let with_rows = c.with_arg-with_rows.ensures.local c.new.ensures.local c.rows_arg.ensures.local in
    let with_audit = c.with_arg-with_audit.ensures.local with_rows c.audit_arg.ensures.local in
    let with_follow = c.with_arg-with_follow.ensures.local with_audit c.follow_arg.ensures.local in
    let with_picture = c.with_arg-with_picture.ensures.local with_follow c.option_arg-picture.ensures.local in
    let with_from = c.with_arg-with_from.ensures.local with_picture c.option_arg-from.ensures.local in
    let with_tail = c.with_arg-with_tail.ensures.local with_from c.option_arg-tail.ensures.local in
    let with_file = c.with_arg-with_file.ensures.local with_tail c.file_arg-file.ensures.local in
    let with_source = c.with_arg-with_source.ensures.local with_file c.source_arg.ensures.local in
    c.with_arg.ensures.local with_source c.script_arg.ensures.local
