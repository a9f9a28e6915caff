-- A procedure as far as it was read.
use Rattle.std.specs.Prelude.{ℕ, ◌+◌, ◌==◌, nat_lt, if◌then◌else◌, List, [], ◌∷◌, ◌++◌, length, Option, Some, None, Result, Ok, Err}
use Rattle.access_slots.specs.Declaration.{decl_fault}
use Rattle.access_slots.specs.declared.decl.DeclFault.{DeclFault}
use Rattle.access_slots.specs.declared.slot.Slot.{Slot}
use Rattle.bpf_encoding.specs.Spelling.{places_of}
use Rattle.bpf_encoding.specs.declared.insn.Insn.{Insn}
use Rattle.scripts.specs.declared.fault.ScriptFault.{ScriptFault}
use Rattle.scripts.specs.declared.fault.ScriptFault.TheVariants.{Order, TooLong, NoCode, Decl}
use Rattle.scripts.specs.declared.script.Procedure.{Procedure}

pub record Open : Type 0 where
  pub name : List ℕ
  pub args : ℕ
  pub slots : List Slot
  pub insns : List Insn

abbrev pub begun : List ℕ → ℕ → Open
begun name args = record { name = name; args = args; slots = []; insns = [] }

-- a slot stands before all code
abbrev pub slot_added : Open → Slot → Result Open ScriptFault
slot_added o slot = if length o.insns == 0 then Ok (record o { slots = o.slots ++ slot ∷ [] }) else Err Order

-- code has at most 4096 slots
abbrev pub insn_added : Open → Insn → Result Open ScriptFault
insn_added o insn =
    if nat_lt 4096 (length (places_of o.insns) + length (places_of (insn ∷ []))) then Err TooLong else
    Ok (record o { insns = o.insns ++ insn ∷ [] })

abbrev pub unless_declared : Option DeclFault → Result Procedure ScriptFault → Result Procedure ScriptFault
unless_declared (Some fault) procedure = Err (Decl fault)
unless_declared None procedure = procedure

-- the declaration's fault comes before that there is no code
abbrev pub finished : Open → ℕ → Result Procedure ScriptFault
finished o line =
    unless_declared (decl_fault o.args o.slots)
    (if length o.insns == 0 then Err NoCode else
    Ok (record { name = o.name; decl = record { args = o.args; slots = o.slots }; code = places_of o.insns; line = Some line }))
