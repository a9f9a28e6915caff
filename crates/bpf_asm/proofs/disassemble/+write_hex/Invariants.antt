use Rattle.bpf_asm.proofs.disassemble.+write_hex.Given as goal

abbrev pub decreases-write_hex : goal.decreases-write_hex
decreases-write_hex l = l.digits
