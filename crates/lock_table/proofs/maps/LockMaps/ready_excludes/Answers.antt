use Rattle.std.proofs.Common.{List, Option, sym, ap, ◌∙◌}
use Rattle.access_slots.specs.declared.lock.Lock.{Lock}
use Rattle.lock_table.specs.Clashes.{clashes}
use Rattle.lock_table.specs.Facts.{Table, mode_among}
use Rattle.lock_table.proofs.Keeping.{clashes_nothing}
use Rattle.lock_table.proofs.maps.LockMaps.ready_excludes.Goals as goal

pub returns-in-None : goal.returns-in-None
returns-in-None c =
    sym (clashes_nothing c.args.set.now)
    ∙ ap (λ (o : Option (List Lock)). clashes c.args.set.now (mode_among o)) (sym c.in-None.is)
    ∙ ap (λ (t : Table). clashes c.args.set.now (mode_among t.reserved)) c.self.view_is
