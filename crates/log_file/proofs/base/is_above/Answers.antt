use Rattle.std.proofs.Common.{rules, ◌≡◌, sym}
use Rattle.access_slots.specs.Locks.{record_less}
use Rattle.log_file.proofs.BaseLemmas.{above_is}
use Rattle.log_file.proofs.base.is_above.Goals as goal

pub returns-in-Some : goal.returns-in-Some
returns-in-Some c =
    let less : c.lt.result ≡ record_less c.in-Some.last.now.0 c.args.row.now.0 = search rules in
    above_is c.args.rows.now c.in-Some.last.now c.args.row.now c.lt.result c.requires (sym c.in-Some.ensures.value) less
