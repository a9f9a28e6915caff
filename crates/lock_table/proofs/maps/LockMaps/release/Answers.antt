use Rattle.std.proofs.Common.{ap, sym, ◌∙◌, List, Option}
use Rattle.access_slots.specs.declared.lock.Lock.{Lock}
use Rattle.access_slots.specs.Locks.{mode_in}
use Rattle.lock_table.specs.Facts.{Table, held_in, mode_among}
use Rattle.lock_table.proofs.Keeping.{not_ready, taken_kept}
use Rattle.lock_table.proofs.maps.LockMaps.release.Goals as goal

pub take_holders-requires-clause-held : goal.take_holders-requires-clause-held
take_holders-requires-clause-held c = (
  held_in c.self.inside.sets.entries,
  c.self.invariant.0.holds,
  λ r. ap (λ (o : Option (List Lock)). mode_among o r) (sym c.swap_remove.ensures.value ∙ c.in-Some.is) ∙ ap (λ (ls : List Lock). mode_in ls r) (sym c.locks.ensures.value),
)

pub invariant_of-self : goal.invariant_of-self
invariant_of-self c = (
  taken_kept c.self.inside.sets c.swap_remove.new.self c.take_holders.new.records c.take_holders.new.links c.args.txn c.in-Some.set
      c.swap_remove.ensures.updates c.swap_remove.ensures.unique
      (c.take_holders.ensures (held_in c.self.inside.sets.entries) c.self.invariant.0.holds
      (λ r. ap (λ (o : Option (List Lock)). mode_among o r) (sym c.swap_remove.ensures.value ∙ c.in-Some.is) ∙ ap (λ (ls : List Lock). mode_in ls r) (sym c.locks.ensures.value))),
  not_ready _ _ (ap (λ (t : Table). t.reserved) c.self.view_is ∙ c.put_by.ensures.spent),
)
