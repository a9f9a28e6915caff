-- A slot of the code as its fields.
use Rattle.bpf_encoding.specs.Fields as specs
use Rattle.bpf_encoding.specs.declared.slot.Fields.{Fields}

abbrev pub viewed : Fields → specs.Fields
viewed s = record { opcode = s.opcode; dst = s.dst; src = s.src; offset = s.offset; imm = s.imm }
