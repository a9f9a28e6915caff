use Rattle.std.proofs.Common.{◌≡◌, drop}
use Rattle.bpf_asm.specs.Mnemonics.{named, mnemonic_name}
use Rattle.bpf_asm.specs.declared.line.LineFault.TheVariants.{UnknownWord}
use Rattle.bpf_asm.proofs.mnemonic.first_named.Given as goal

abbrev pub invariant-names : goal.invariant-names
invariant-names l = named mnemonic_name UnknownWord (drop l.mnemonic-index l.mnemonics) l.text ≡ named mnemonic_name UnknownWord l.mnemonics l.text
