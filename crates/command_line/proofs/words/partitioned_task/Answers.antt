use Rattle.std.proofs.Common.{◌∙◌, sym, Option, ap₂, Bool}
use Rattle.clap.specs.Words.{Text}
use Rattle.command_line.specs.Task.{Partitioned}
use Rattle.command_line.proofs.Wishes.{true_false}
use Rattle.command_line.proofs.words.partitioned_task.Goals as goal

pub returns-then-says_more-clause-task : goal.returns-then-says_more-clause-task
returns-then-says_more-clause-task c = λ audit strict log script says. absurd (true_false (sym c.if-says_more.true ∙ c.says_more.ensures.silent says.6))

pub returns-clause-task : goal.returns-clause-task
returns-clause-task c = λ audit strict log script says.
    ap₂ (λ (l s : Option Text). Partitioned c.args.workers c.args.tries c.flag_of.result c.flag_of-2.result l s) (c.text_of.ensures ∙ says.3) (c.text_of-2.ensures ∙ says.4)
    ∙ ap₂ (λ (a b : Bool). Partitioned c.args.workers c.args.tries a b log script) (c.flag_of.ensures audit says.2) (c.flag_of-2.ensures strict says.7)
