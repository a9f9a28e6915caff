use Rattle.command_line.proofs.commands.dis_command.Goals as goal

pub returns-clause-app : goal.returns-clause-app
returns-clause-app c =
    let with_raw = c.with_arg-with_raw.ensures.app _ _ c.new.ensures.app c.raw_arg.ensures.rule c.raw_arg.ensures.local in
    c.with_arg.ensures.app _ _ with_raw c.file_arg.ensures.rule c.file_arg.ensures.local

pub returns-clause-local : goal.returns-clause-local
returns-clause-local c =
    let with_raw = c.with_arg-with_raw.ensures.local c.new.ensures.local c.raw_arg.ensures.local in
    c.with_arg.ensures.local with_raw c.file_arg.ensures.local
