use Rattle.std.proofs.Common.{rules}
use Rattle.scripts.proofs.Names.{place_of_text}
use Rattle.scripts.proofs.reading.Reading.call_of.Goals as goal

pub returns-in-Some : goal.returns-in-Some
returns-in-Some c =
    let at = place_of_text c.args.name.now c.self.inside.names.keys in
    search (rules, at)

pub returns-in-None : goal.returns-in-None
returns-in-None c =
    let at = place_of_text c.args.name.now c.self.inside.names.keys in
    search (rules, at)
