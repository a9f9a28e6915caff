use Rattle.std.proofs.Common.{◌∙◌, sym}
use Rattle.log_file.proofs.ReplacementLemmas.{none_left}
use Rattle.log_file.proofs.replacement.are_left.Goals as goal

pub returns : goal.returns
returns c = sym (c.bytes.invariant ∙ none_left c.bytes.bytes.now c.bytes.rest.now c.in_default.ensures.cases)
