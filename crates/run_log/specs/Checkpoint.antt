-- A log's file that is a checkpoint alone.
use Rattle.std.specs.Prelude.{◌≡◌, ◌≤◌, ℕ, true, List, length, Some}
use Rattle.log_file.specs.declared.header.Header.{Header}
use Rattle.log_file.specs.declared.stored.Stored.{Stored}
use Rattle.log_file.specs.Found.{base_in}
use Rattle.log_file.specs.Stored.{IsStored}
use Rattle.procedure_digest.specs.Difference.{is_same_session}
use Rattle.run_log.specs.declared.recovering.OpenLog.{OpenLog}
use Rattle.run_log.specs.declared.upgrade.StoredCheckpoint.{StoredCheckpoint}

-- the file is a whole log of records and a checkpoint alone: no call stands in it, so it says nothing of its procedures. Its data components
-- are among those of this header, and so is its session
pub record IsCheckpointIn (h : Header) (file : List ℕ) (c : StoredCheckpoint) : Type 0 where
  pub s : Stored
  pub stored : IsStored file s
  pub whole : s.unfinished ≡ 0
  pub header_is : c.header ≡ s.header
  pub base_is : base_in s.base ≡ Some c.base.items
  pub log_is : c.log.events ≡ s.log.events
  pub alone : length c.log.events ≡ 1
  pub there : c.header.dcs ≤ h.dcs
  pub same : is_same_session c.header.session h.session ≡ true

-- what is gone on from has the records and the checkpoint that were found
pub record IsAsFound (c : StoredCheckpoint) (o : OpenLog) : Type 0 where
  pub base : base_in o.base ≡ Some c.base.items
  pub log : o.log.events ≡ c.log.events
