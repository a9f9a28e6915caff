use Rattle.std.proofs.Common.{◌≡◌, ℕ, ◌≢◌, nat_eq, List, refl, sym, ap, ◌∙◌}
use Rattle.std.specs.Prelude.{Option, Some, None}
use Rattle.std.specs.Map.{lookup}
use Rattle.std.proofs.lemmas.Bool.{cond-false}
use Rattle.access_slots.specs.declared.lock.Lock.{Lock}
use Rattle.lock_table.specs.Alone.{set_of, seen}
use Rattle.lock_table.specs.Clashes.{clashes}
use Rattle.lock_table.specs.Facts.{Table, held_by, mode_among}
use Rattle.lock_table.proofs.Keeping.{clashes_nothing}
use Rattle.lock_table.proofs.RowLemmas.{apart}
use Rattle.lock_table.proofs.table.LockTable.excludes.Goals as goal

-- the others have no set
others_lack : (set : Option (List Lock)) (t u : ℕ) → t ≢ u → lookup (nat_eq u) (set_of t set) ≡ None
others_lack None t u ne = refl
others_lack (Some set) t u ne = cond-false _ (Some set) None (apart u t (λ same. ne (sym same)))

pub returns-else-alone-txn : goal.returns-else-alone-txn
returns-else-alone-txn c =
    let maps = c.self.inside.maps in
    apart c.in-Some.alone c.args.txn c.if-alone-txn.false
    ∙ sym (clashes_nothing c.args.set.now)
    ∙ ap (λ (o : Option (List Lock)). clashes c.args.set.now (mode_among o)) (sym (others_lack maps.reserved c.in-Some.alone c.args.txn c.if-alone-txn.false))
    ∙ ap (λ (o : Option ℕ). clashes c.args.set.now (held_by (seen o maps) c.args.txn)) (sym c.in-Some.is)
    ∙ ap (λ (t : Table). clashes c.args.set.now (held_by t c.args.txn)) c.self.view_is
