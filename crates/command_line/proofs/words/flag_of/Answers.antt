use Rattle.std.proofs.Common.{◌∙◌}
use Rattle.clap.specs.Words.{found_of, rows_of, one_of}
use Rattle.clap.proofs.WalkLemmas.{one_text-rows}
use Rattle.command_line.proofs.Options.{flag_is}
use Rattle.command_line.proofs.words.flag_of.Goals as goal

pub returns : goal.returns
returns c =
    let found = found_of c.args.matches.now in
    let text = one_text-rows found c.args.name.now in
    flag_is (one_of c.args.name.now (rows_of found)) c.get_flag.result
    (λ e. c.get_flag.ensures.none (text ∙ e)) (λ e. c.get_flag.ensures.value (text ∙ e)) (λ e. c.get_flag.ensures.other (text ∙ e))
