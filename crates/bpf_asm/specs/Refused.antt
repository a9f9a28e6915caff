-- What a refusal says.
use Rattle.std.specs.Prelude.{◌≡◌, Result, Err}
use Rattle.bpf_asm.specs.declared.assemble.AsmFault.{AsmFault}
use Rattle.bpf_asm.specs.declared.assemble.AsmFault.TheVariants.{Line, TooLong, NoCode, Memory}

-- the fault that comes first, want of memory aside
abbrev pub IsAsmFault : {A : Type 0} → Result A AsmFault → AsmFault → Type 0
IsAsmFault r (Line number e) = r ≡ Err (Line number e)
IsAsmFault r (TooLong number) = r ≡ Err (TooLong number)
IsAsmFault r NoCode = r ≡ Err NoCode
IsAsmFault r Memory = Unit {0}
