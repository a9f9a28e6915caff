use Rattle.std.proofs.Common.{ap, ◌∙◌}
use Rattle.lock_table.specs.Clashes.{clashes}
use Rattle.lock_table.specs.Facts.{Table, held_in}
use Rattle.lock_table.proofs.maps.LockMaps.excludes.Goals as goal

pub returns : goal.returns
returns c = c.excludes_in.ensures ∙ ap (λ (t : Table). clashes c.args.set.now (held_in t.sets c.args.txn)) c.self.view_is
