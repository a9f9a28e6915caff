use Rattle.std.proofs.Common.{sym}
use Rattle.std.proofs.lemmas.List.{take_all}
use Rattle.source_lines.specs.declared.files.TheConstants.{MOST_PATH}
use Rattle.source_lines.proofs.files.front_of.Goals as goal

pub returns-then-bytes-le-MOST_PATH : goal.returns-then-bytes-le-MOST_PATH
returns-then-bytes-le-MOST_PATH c = sym (take_all MOST_PATH c.args.bytes.now c.if-bytes-le-MOST_PATH.true)
