use Rattle.std.proofs.Common.{◌≡◌, ℕ, ◌<◌, None}
use Rattle.transactions.specs.InFlight.{site_at}
use Rattle.coming_back.specs.Joining.Redoing.{Redoes, IsRedoneTo}
use Rattle.coming_back.proofs.redoing.redo_all.Given as goal

abbrev pub invariant-loop-dc : goal.invariant-loop-dc
invariant-loop-dc l = record {
  redoes : Redoes l.fn.state l.fn.dcs l.state l.dcs;
  done : (d : ℕ) → IsRedoneTo l.fn.state l.fn.dcs d → IsRedoneTo l.state l.dcs d;
  up : (d : ℕ) → d < l.dc → (site_at l.state.sites d).redo ≡ None;
}
