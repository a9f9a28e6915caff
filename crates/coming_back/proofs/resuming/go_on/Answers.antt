use Rattle.std.proofs.Common.{ℕ, [], ◌∷◌, sym, subst}
use Rattle.coming_back.specs.declared.resumed.Resumed.TheVariants.{InDoubt}
use Rattle.coming_back.specs.Coming.{IsLeft, Stuck}
use Rattle.coming_back.specs.Joining.Moving.{Moves, CameOf}
use Rattle.coming_back.proofs.MovingLemmas.{moves_then, came_left}
use Rattle.coming_back.proofs.resuming.go_on.Goals as goal

pub returns-in-Ok-clause-moves : goal.returns-in-Ok-clause-moves
returns-in-Ok-clause-moves c =
    let ds = c.args.dcs.now in
    moves_then c.args.txn.serial _ _ _ ds ds c.carry.new.dcs (c.next_of.ensures.moves ds)
    (subst (λ (u : ℕ). Moves u c.next_of.new.state ds c.carry.new.state c.carry.new.dcs) c.in-Send.ensures.next.0 c.carry.ensures.moves)

pub returns-in-Err-clause-moves : goal.returns-in-Err-clause-moves
returns-in-Err-clause-moves c =
    let ds = c.args.dcs.now in
    moves_then c.args.txn.serial _ _ _ ds ds c.carry.new.dcs (c.next_of.ensures.moves ds)
    (subst (λ (u : ℕ). Moves u c.next_of.new.state ds c.carry.new.state c.carry.new.dcs) c.in-Send.ensures.next.0 c.carry.ensures.moves)

pub returns-in-Err-clause-came : goal.returns-in-Err-clause-came
returns-in-Err-clause-came c =
    let t = c.args.txn.serial in
    subst (λ (u : ℕ). CameOf c.args.state.now c.carry.new.state t (InDoubt u c.in-Err.number ∷ [])) (sym c.serial-serial.ensures)
    (came_left c.args.state.now c.carry.new.state t c.in-Err.number c.requires
    (subst (λ (u : ℕ). IsLeft c.carry.new.state u c.in-Err.number) c.in-Send.ensures.next.0 c.in-Err.ensures.left))

pub returns-in-Stuck-clause-came : goal.returns-in-Stuck-clause-came
returns-in-Stuck-clause-came c =
    let t = c.args.txn.serial in
    subst (λ (u : ℕ). CameOf c.args.state.now c.next_of.new.state t (InDoubt u c.in-Stuck.number ∷ [])) (sym c.serial-serial.ensures)
    (came_left c.args.state.now c.next_of.new.state t c.in-Stuck.number c.requires (Stuck c.in-Stuck.ensures.next))
