-- What is printed of a script that is refused.
use Rattle.std.specs.Prelude.{ℕ, List, ◌++◌, codes, decimal}
use Rattle.scripts.specs.declared.reading.Fault.{Fault}
use Rattle.report_texts.specs.FaultNames.{script_fault_name}

-- its first fault, and the fault's line
abbrev pub script_refusal : Fault → List ℕ
script_refusal f = codes "refused line " ++ (decimal f.line ++ (codes " " ++ (script_fault_name f.fault ++ codes "\n")))
