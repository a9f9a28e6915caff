-- A log that begins anew before the calls.
use Rattle.std.specs.Prelude.{◌≡◌, ℕ, ◌++◌, Option, None, string_bytes}
use Rattle.std.specs.declared.string.String.{String}
use Rattle.std.specs.declared.alloc.Global.{Global}
use Rattle.run_ground.specs.declared.ground.Ground.{Ground}
use Rattle.run_log.specs.declared.anew.Renewal.{Renewal}
use Rattle.run_log.specs.declared.anew.Renewal.TheVariants.{Unwanted}
use Rattle.run_log.specs.Anew.{IsRenewal, IsHeeded, renewal_line}

-- it has begun anew where it is to, or is barred, and its line stands behind these
pub record IsRenewedFirst (was : Ground) (lines : String Global) (over : Option ℕ) (now : Ground) (all : String Global) : Type 0 where
  pub renewal : Renewal
  pub renewed : IsRenewal was.state was.dcs.items now.state now.dcs.items renewal
  pub wanted : over ≡ None → renewal ≡ Unwanted
  pub heeded : IsHeeded now.journal over renewal
  pub line : string_bytes all ≡ string_bytes lines ++ renewal_line now.state.events renewal
