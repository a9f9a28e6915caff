-- Whether a log may begin anew, and what the state is then.
use Rattle.std.specs.Prelude.{◌≡◌, ◌≢◌, ℕ, ◌<◌, ◌≤◌, ◌^◌, Bool, true, false, nat_le, List, [], length}
use Rattle.std.specs.List.{list_all}
use Rattle.history.specs.Calls.{admitted}
use Rattle.history.specs.Flight.{given}
use Rattle.history.specs.Anew.{anew}
use Rattle.transactions.specs.declared.Site.{Site}
use Rattle.transactions.specs.Alike.{IsAtRest}
use Rattle.transactions.specs.Room.{each_one, total}
use Rattle.tc_core.specs.Core.{Core}
use Rattle.tc_core.specs.Replies.{is_up}
use Rattle.tc_core.specs.declared.beginning.CheckpointFault.{CheckpointFault}
use Rattle.tc_core.specs.declared.beginning.CheckpointFault.TheVariants.{Nothing, Open, DcCount, Down, Behind, Spent}

-- each data component is up
abbrev pub are_up : List Site → Bool
are_up sites = list_all (λ (s : Site). is_up s.redo) sites

-- the checkpoint of each data component has kept at least this mark
abbrev pub have_kept : ℕ → List ℕ → Bool
have_kept n marks = list_all (λ (m : ℕ). nat_le n m) marks

-- something has happened, no transaction is open, and each data component is up and has kept all that was answered
pub record MayCheckpoint (c : Core) (kept : List ℕ) : Type 0 where
  pub some : c.events ≢ []
  pub rest : IsAtRest c.events
  pub count : length kept ≡ c.dcs
  pub up : are_up c.sites ≡ true
  pub kept_all : have_kept (given c.events) kept ≡ true
  pub few : admitted c.events ≤ 2 ^ 62

-- what happened is that so many were admitted and so many numbers given out
abbrev pub checkpointed : Core → Core
checkpointed c = record c { events = anew c.events; given_up = [] }

-- why it may not begin anew, and nothing that is looked for first is so
abbrev pub IsCheckpointFault : Core → List ℕ → CheckpointFault → Type 0
IsCheckpointFault c kept Nothing = c.events ≡ []
IsCheckpointFault c kept (Open n) = (n ≡ total each_one c.events) × (0 < n)
IsCheckpointFault c kept DcCount = IsAtRest c.events × (length kept ≢ c.dcs)
IsCheckpointFault c kept Down = IsAtRest c.events × (length kept ≡ c.dcs) × (are_up c.sites ≡ false)
IsCheckpointFault c kept Behind =
    IsAtRest c.events × (length kept ≡ c.dcs) × (are_up c.sites ≡ true) × (have_kept (given c.events) kept ≡ false)
IsCheckpointFault c kept Spent =
    IsAtRest c.events × (length kept ≡ c.dcs) × (are_up c.sites ≡ true) × (have_kept (given c.events) kept ≡ true)
    × (2 ^ 62 < admitted c.events)
