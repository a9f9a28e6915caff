use Rattle.std.proofs.Common.{ap, sym, ◌∙◌}
use Rattle.lock_table.specs.Facts.{Table, held_in}
use Rattle.lock_table.proofs.Keeping.{nobody_holds, somebody_holds}
use Rattle.lock_table.proofs.maps.LockMaps.is_held.Goals as goal

pub returns-clause-free : goal.returns-clause-free
returns-clause-free c none_ t =
    sym (ap (λ (s : Table). held_in s.sets t c.args.name.now) c.self.view_is)
    ∙ nobody_holds (λ u. held_in c.self.inside.sets.entries u c.args.name.now) _ _ _ (c.self.invariant.0.holds c.args.name.now) (sym c.is_in.ensures ∙ none_) t

pub returns-clause-held : goal.returns-clause-held
returns-clause-held c yes_it =
    let it = somebody_holds (λ u. held_in c.self.inside.sets.entries u c.args.name.now) _ _ _ (c.self.invariant.0.holds c.args.name.now) (sym c.is_in.ensures ∙ yes_it) in
    (it.0, it.1, sym (ap (λ (s : Table). held_in s.sets it.0 c.args.name.now) c.self.view_is) ∙ it.2)
