-- Which events of a log of so many are shown.
use Rattle.std.specs.Prelude.{◌≡◌, ◌≤◌, ℕ, ◌+◌}
use Rattle.log_part.specs.declared.part.Part.{Part}
use Rattle.log_command.specs.PictureReport.{shown_from, shown_to}

pub record IsRange (part : Part) (count from to : ℕ) : Type 0 where
  pub begins : from ≡ shown_from part count
  pub ends : to ≡ shown_to part count
  pub ordered : from ≤ to
  pub few : to ≤ from + 1000
  pub within : to ≤ count
