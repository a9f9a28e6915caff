-- Why data components don't begin with the records with which a log begins, as a line.
use Rattle.std.specs.Prelude.{ℕ, List, ◌++◌, codes, decimal}
use Rattle.base_records.specs.declared.beginning.BaseFault.{BaseFault}
use Rattle.base_records.specs.declared.beginning.BaseFault.TheVariants.{NoDc, NoRoom}

abbrev pub base_fault_line : BaseFault → List ℕ
base_fault_line (NoDc dc) = codes "refused log NoDc dc " ++ (decimal dc ++ codes "\n")
base_fault_line (NoRoom dc) = codes "refused log NoRoom dc " ++ (decimal dc ++ codes "\n")
