-- What is made of FILE as a script, or as an object file with a script beside it.
use Rattle.std.proofs.Common.{◌≡◌, ℕ, Bool, List, Option, Some, None, refl}
use Rattle.std.specs.Prelude.{is_some, option_map}
use Rattle.scripts.specs.declared.keyword.Command.TheVariants as command
use Rattle.script_loading.specs.declared.loading.Source.{Source}
use Rattle.script_loading.specs.Loading.{beginning_of}
use Rattle.run_ground.specs.declared.ground.Checkpoints.{Checkpoints}
use Rattle.partitioned_run.specs.Logged.{IsPartitionedRun}
use Rattle.world_command.specs.WorldReport.{IsWorld}
use Rattle.world_command.specs.declared.world.Behind.{Behind}
use Rattle.procd.specs.Report.{IsRunReport, IsRunOf, IsPartitionedOf, IsWorldOf}
use Rattle.procd.specs.Joining.Further.{IsSourceOf}

pub run_of_source : (checkpoints : Checkpoints) (workers tries : ℕ) (audit strict results : Bool) (log script : Option (List ℕ)) (file : List ℕ) (source : Source)
    (status : ℕ) (lines : List ℕ) → IsSourceOf script file source
    → IsRunReport checkpoints workers tries audit strict results log (beginning_of command.Run source) status lines
    → IsRunOf checkpoints workers tries audit strict results log script file status lines
run_of_source checkpoints workers tries audit strict results log None file source status lines is run = rw (is.0, is.1) at run
run_of_source checkpoints workers tries audit strict results log (Some path) file source status lines is run = (source.text.now, rw is at run)

pub as_there : {X Y : Type 0} (f : X → Y) (o : Option X) → is_some o ≡ is_some (option_map f o)
as_there f None = refl
as_there f (Some x) = refl

pub partitioned_of_source : (keeps : Bool) (workers tries : ℕ) (audit strict : Bool) (script : Option (List ℕ)) (file : List ℕ) (source : Source) (status : ℕ) (lines : List ℕ)
    → IsSourceOf script file source → IsPartitionedRun keeps workers tries audit strict (beginning_of command.Run source) status lines
    → IsPartitionedOf keeps workers tries audit strict script file status lines
partitioned_of_source keeps workers tries audit strict None file source status lines is run = rw (is.0, is.1) at run
partitioned_of_source keeps workers tries audit strict (Some path) file source status lines is run = (source.text.now, rw is at run)

pub world_of_source : (behind : Behind) (script : Option (List ℕ)) (file : List ℕ) (source : Source) (status : ℕ) (lines : List ℕ)
    → IsSourceOf script file source → IsWorld behind (beginning_of command.World source) status lines → IsWorldOf behind script file status lines
world_of_source behind None file source status lines is run = rw (is.0, is.1) at run
world_of_source behind (Some path) file source status lines is run = (source.text.now, rw is at run)
