use Rattle.std.proofs.Common.{rules}
use Rattle.scripts.proofs.Names.{one_text_more}
use Rattle.scripts.proofs.reading.take_name.Goals as goal

pub returns-clause-ok : goal.returns-clause-ok
returns-clause-ok c =
    let more = one_text_more c.args.names.now.keys c.as_str.result c.args.name.now c.as_str.ensures c.requires in
    search (rules, more)
