use Rattle.std.proofs.Common.{refl, sym, ◌∙◌}
use Rattle.coming_back.specs.Joining.Performing.{Sent, Unsent}
use Rattle.coming_back.proofs.performing.send.Goals as goal

pub returns-in-Ok : goal.returns-in-Ok
returns-in-Ok c = Sent c.in-Ok.wire (sym c.wire.ensures ∙ c.in-Ok.is) c.perform.ensures

pub returns-in-Err : goal.returns-in-Err
returns-in-Err c = Unsent _ (sym c.wire.ensures ∙ c.in-Err.is) refl refl
