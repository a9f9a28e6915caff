-- Why a call isn't admitted, and why a log can't begin anew, as text.
use Rattle.std.specs.Prelude.{ℕ, List, ◌++◌, codes, decimal}
use Rattle.lock_table.specs.declared.table.Busy.{Busy}
use Rattle.tc_core.specs.declared.beginning.CheckpointFault.{CheckpointFault}
use Rattle.tc_core.specs.declared.beginning.CheckpointFault.TheVariants as fault
use Rattle.tc_core.specs.declared.state.Refusal.{Refusal}
use Rattle.tc_core.specs.declared.state.Refusal.TheVariants as refusal
use Rattle.state_lines.specs.RecordTexts.{record_text}

abbrev pub busy_text : Busy → List ℕ
busy_text b = codes "B1 Busy " ++ (record_text b.name ++ (codes " holder " ++ decimal b.holder))

-- code, name and detail
abbrev pub refusal_text : Refusal → List ℕ
refusal_text refusal.NoProcedure = codes "B4 NoProcedure"
refusal_text refusal.ArgumentCount = codes "B5 ArgumentCount"
refusal_text (refusal.Busy b) = busy_text b
refusal_text refusal.NumbersSpent = codes "B2 NumbersSpent"
refusal_text refusal.Memory = codes "B3 Memory"

abbrev pub checkpoint_fault_text : CheckpointFault → List ℕ
checkpoint_fault_text fault.Nothing = codes "G1 Nothing"
checkpoint_fault_text (fault.Open n) = codes "G2 Open " ++ decimal n
checkpoint_fault_text fault.DcCount = codes "G3 DcCount"
checkpoint_fault_text fault.Down = codes "G4 Down"
checkpoint_fault_text fault.Behind = codes "G5 Behind"
checkpoint_fault_text fault.Spent = codes "G6 Spent"
