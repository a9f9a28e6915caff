-- The laws under names that the code can cite.
use Rattle.std.proofs.Common.{◌≡◌, ◌≢◌, ℕ, ◌+◌, ◌*◌, ◌<◌, ◌≤◌, List, Some, arith}
use Rattle.tc_log.specs.declared.event.Event.{Event}
use Rattle.verifier.specs.Checked.{Checked}
use Rattle.transactions.specs.Standing.{Standing, standing}
use Rattle.transactions.specs.Reached.{calls, AllGood}
use Rattle.transactions.specs.Legal.{Legal}
use Rattle.transactions.proofs.Sound.{standing_sound}

pub numbers_suffice : (ps : List Checked) (h : List Event) → AllGood ps → Legal ps h → (t : ℕ) (s : Standing)
    → standing h t ≡ Some s → s.used ≤ 5 * calls ps s.call.proc
numbers_suffice ps h good legal t s is = (let it = standing_sound ps good h legal t s is in omega (arith, it.spent, it.few, it.tries_owed))
