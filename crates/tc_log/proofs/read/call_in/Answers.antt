use Rattle.std.proofs.Common.{rules, ◌∙◌, ap₂}
use Rattle.tc_log.specs.Reading.{cells_in, numbers_in}
use Rattle.tc_log.proofs.Again.{call_is, rest_is}
use Rattle.tc_log.proofs.read.call_in.Goals as goal

pub returns-clause-value : goal.returns-clause-value
returns-clause-value c =
    call_is (cells_in c.args.bytes.now) _ _ _ (search rules) c.long.ensures c.long-2.ensures
    (c.from_vec.ensures ∙ c.in_ok-numbers.ensures.value ∙ ap₂ numbers_in (search rules) (rest_is c.args.bytes.now))
