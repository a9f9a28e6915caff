use Rattle.clap.specs.Words.{found_of, rows_of}
use Rattle.command_line.proofs.Wishes.{says_none, says_some}
use Rattle.command_line.proofs.words.says_more.Goals as goal

pub returns-clause-silent : goal.returns-clause-silent
returns-clause-silent c = λ says.
    says_none (rows_of (found_of c.args.matches.now)) _ _ _ _ _ _ _ c.is_any_set-is_set.result c.is_any_there.result
    c.flag_of-stats.ensures c.flag_of-results.ensures c.flag_of-tell.ensures c.flag_of-checkpoint.ensures
    c.text_of-metrics.ensures c.text_of-trace.ensures c.text_of-over.ensures
    c.is_any_set-is_set.ensures c.is_any_there.ensures says

pub returns-clause-more : goal.returns-clause-more
returns-clause-more c = λ off more.
    says_some (rows_of (found_of c.args.matches.now)) _ _ _ _ _ _ _ c.is_any_set-is_set.result c.is_any_there.result
    c.flag_of-stats.ensures c.flag_of-results.ensures c.flag_of-tell.ensures c.flag_of-checkpoint.ensures
    c.text_of-metrics.ensures c.text_of-trace.ensures c.text_of-over.ensures
    c.is_any_set-is_set.ensures c.is_any_there.ensures off more
