use Rattle.std.proofs.Common.{◌≡◌, drop}
use Rattle.bpf_asm.specs.Mnemonics.{named}
use Rattle.bpf_asm.specs.Operand.{register_name}
use Rattle.bpf_asm.specs.declared.line.LineFault.TheVariants.{BadRegister}
use Rattle.bpf_asm.proofs.operand.first_named.Given as goal

abbrev pub invariant-names : goal.invariant-names
invariant-names l = named register_name BadRegister (drop l.register-index l.registers) l.text ≡ named register_name BadRegister l.registers l.text
