use Rattle.std.proofs.Common.{◌≡◌, true, ap, sym, subst}
use Rattle.lock_table.specs.Clashes.{keeps_out}
use Rattle.lock_table.specs.Facts.{Sets, Table, held_in}
use Rattle.lock_table.specs.Rows.{IsNext}
use Rattle.lock_table.proofs.HoldLemmas.{next_way}
use Rattle.lock_table.proofs.maps.LockMaps.next_in_the_way.Goals as goal

pub returns : goal.returns
returns c = λ way.
    let lock = c.args.lock.now in
    let sets = ap (λ (t : Table). t.sets) c.self.view_is in
    let here = subst (λ (ss : Sets). keeps_out (held_in ss) lock c.args.txn ≡ true) (sym sets) way in
    subst (λ (ss : Sets). IsNext (keeps_out (held_in ss) lock) c.args.txn c.beside.result.behind) sets
    (subst (IsNext (keeps_out (held_in c.self.inside.sets.entries) lock) c.args.txn) (sym c.beside.ensures.behind)
    (next_way (λ t. held_in c.self.inside.sets.entries t lock.«record») lock.mode _ _ _ (c.self.invariant.0.holds lock.«record») c.args.txn here))
