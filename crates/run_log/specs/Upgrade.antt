-- A log of other procedures that says nothing of them, and goes on under those of now.
use Rattle.std.specs.Prelude.{ℕ, List, Some}
use Rattle.base_records.specs.Beginning.{IsUnbegun}
use Rattle.data_component.specs.Store.{Store}
use Rattle.procedure_digest.specs.Header.{header_of}
use Rattle.tc_core.specs.Core.{Core, loaded_in}
use Rattle.run_log.specs.declared.upgrade.StoredCheckpoint.{StoredCheckpoint}
use Rattle.run_log.specs.declared.upgrade.Upgrade.{Upgrade}
use Rattle.run_log.specs.declared.upgrade.Upgrade.TheVariants.{Done, Unfit, Bound}
use Rattle.run_log.specs.Checkpoint.{IsCheckpointIn, IsAsFound}
use Rattle.run_log.specs.Recovering.{IsOpened}

-- a log that was found goes on under the procedures of this state, or its records don't fit the data components; of one that isn't gone on
-- from nothing is said
abbrev pub IsUpgrade : Core → List Store → Upgrade → Type 0
IsUpgrade start dcs (Done o) =
    (file : List ℕ) × (c : StoredCheckpoint) × IsCheckpointIn (header_of (loaded_in start)) file c × IsAsFound c o × IsOpened start o
IsUpgrade start dcs (Unfit fault) =
    (file : List ℕ) × (c : StoredCheckpoint) × IsCheckpointIn (header_of (loaded_in start)) file c × IsUnbegun (Some c.base.items) dcs fault
IsUpgrade start dcs Bound = Unit {0}
