use Rattle.std.proofs.Common.{List, Option, sym, ap, ◌∙◌}
use Rattle.access_slots.specs.declared.lock.Lock.{Lock}
use Rattle.lock_table.specs.Clashes.{clashes}
use Rattle.lock_table.specs.Facts.{mode_among}
use Rattle.lock_table.proofs.Keeping.{clashes_nothing}
use Rattle.lock_table.proofs.maps.excludes_in.Goals as goal

pub returns-in-None : goal.returns-in-None
returns-in-None c =
    sym (clashes_nothing c.args.wanted.now)
    ∙ ap (λ (held : Option (List Lock)). clashes c.args.wanted.now (mode_among held)) c.in-None.ensures.value
