use Rattle.std.proofs.Common.{◌≡◌, rules}
use Rattle.clap.specs.Words.{rule_of}
use Rattle.command_line.specs.Said.{arg_rule}
use Rattle.command_line.proofs.commands.exec_command.Goals as goal

pub returns-clause-app : goal.returns-clause-app
returns-clause-app c =
    let arg_is : rule_of c.help-arg.result ≡ arg_rule = search rules in
    let with_raw = c.with_arg-with_raw.ensures.app _ _ c.new-2.ensures.app c.raw_arg.ensures.rule c.raw_arg.ensures.local in
    let with_file = c.with_arg-with_file.ensures.app _ _ with_raw c.file_arg.ensures.rule c.file_arg.ensures.local in
    c.with_arg.ensures.app _ _ with_file arg_is (search rules)

pub returns-clause-local : goal.returns-clause-local
returns-clause-local c =
    let with_raw = c.with_arg-with_raw.ensures.local c.new-2.ensures.local c.raw_arg.ensures.local in
    let with_file = c.with_arg-with_file.ensures.local with_raw c.file_arg.ensures.local in
    c.with_arg.ensures.local with_file (search rules)
