use Rattle.std.proofs.Common.{sym, subst, ◌∙◌, List}
use Rattle.std.specs.Prelude.{Option, IfSome}
use Rattle.access_slots.specs.declared.lock.Lock.{Lock}
use Rattle.access_slots.specs.Locks.{mode_in}
use Rattle.access_slots.specs.Held.{Compatible}
use Rattle.lock_table.specs.Facts.{Table, held_in, mode_among, granted, HoldsNothing}
use Rattle.lock_table.specs.Holds.{AreHeldAs, HasRoom}
use Rattle.lock_table.proofs.Keeping.{not_ready, put_kept}
use Rattle.lock_table.proofs.maps.LockMaps.claim.Goals as goal

pub add_holders-requires-clause-room : goal.add_holders-requires-clause-room
add_holders-requires-clause-room c =
    let ready = sym c.take.ensures.value ∙ c.in-Some.is in
    let room : HasRoom c.self.inside.sets c.self.inside.records c.self.inside.links c.in-Some.set =
    subst (λ (o : Option (List Lock)). IfSome o (HasRoom c.self.inside.sets c.self.inside.records c.self.inside.links)) ready c.self.invariant.1 in
    let here = subst (λ (ls : List Lock). HasRoom c.self.inside.sets c.self.inside.records c.self.inside.links ls) (sym c.locks.ensures.value) room in
    (here.0, here.1)

pub add_holders-requires-clause-held : goal.add_holders-requires-clause-held
add_holders-requires-clause-held c =
    let ready = sym c.take.ensures.value ∙ c.in-Some.is in
    let nothing = subst (λ (t : Table). HoldsNothing (held_in t.sets) c.args.txn) (sym c.self.view_is) c.requires.nothing in
    let free = subst (λ (t : Table). Compatible (held_in t.sets) (mode_among t.reserved)) (sym c.self.view_is) c.requires.free in (
      held_in c.self.inside.sets.entries,
      c.self.invariant.0.holds,
      nothing,
      subst (λ (ls : List Lock). Compatible (held_in c.self.inside.sets.entries) (mode_in ls)) (sym c.locks.ensures.value)
          (subst (λ (o : Option (List Lock)). Compatible (held_in c.self.inside.sets.entries) (mode_among o)) ready free),
    )

pub invariant_of-self : goal.invariant_of-self
invariant_of-self c =
    let ready = sym c.take.ensures.value ∙ c.in-Some.is in
    let nothing = subst (λ (t : Table). HoldsNothing (held_in t.sets) c.args.txn) (sym c.self.view_is) c.requires.nothing in
    let free = subst (λ (t : Table). Compatible (held_in t.sets) (mode_among t.reserved)) (sym c.self.view_is) c.requires.free in
    let here = subst (λ (ls : List Lock). Compatible (held_in c.self.inside.sets.entries) (mode_in ls)) (sym c.locks.ensures.value)
    (subst (λ (o : Option (List Lock)). Compatible (held_in c.self.inside.sets.entries) (mode_among o)) ready free) in
    let are = subst (λ (ls : List Lock). AreHeldAs (granted (held_in c.self.inside.sets.entries) c.args.txn (mode_in ls)) c.add_holders.new.records c.add_holders.new.links)
    c.locks.ensures.value (c.add_holders.ensures (held_in c.self.inside.sets.entries) c.self.invariant.0.holds nothing here) in (
      put_kept c.self.inside.sets c.put_set.new.sets c.add_holders.new.records c.add_holders.new.links c.args.txn c.in-Some.set
          c.put_set.ensures.updates c.put_set.ensures.unique are,
      not_ready _ _ c.take.ensures.after,
    )
