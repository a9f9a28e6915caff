use Rattle.std.proofs.Common.{rules}
use Rattle.scripts.proofs.Names.{any_text}
use Rattle.scripts.proofs.reading.is_taken.Goals as goal

pub returns : goal.returns
returns c = let any = any_text c.args.name.now c.args.names.now.keys in search (rules, any)
