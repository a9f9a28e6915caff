-- What the rows of the table of kinds begin with: a declaration, a register of each kind, and what an instruction gives.
-- Offsets count from a region's first byte: the stack has 512 bytes, the arguments 8 each, a buffer 64.
use Rattle.std.proofs.Common.{ℕ, [], ◌∷◌, Some, None}
use Rattle.std.specs.Prelude.{pos, Result, Ok, slice_set}
use Rattle.access_slots.specs.Declaration.{Declaration}
use Rattle.access_slots.specs.declared.slot.Mode.TheVariants as mode
use Rattle.access_slots.specs.declared.slot.Key.TheVariants.{Arg}
use Rattle.bpf_encoding.specs.declared.insn.Insn.{Insn}
use Rattle.register_kinds.specs.declared.kind.Kind.{Kind}
use Rattle.register_kinds.specs.declared.kind.Kind.TheVariants.{Empty, Number, Const, Stack, Args, Buffer, MaybeBuffer}
use Rattle.register_kinds.specs.declared.kind.Violation.{Violation}
use Rattle.register_kinds.specs.declared.kinds.Kinds.{Kinds}
use Rattle.register_kinds.specs.declared.kinds.Ways.{Ways}
use Rattle.register_kinds.specs.Transfer.{transfer_of}

-- two arguments, a slot for writing and one for reading
abbrev pub declared : Declaration
declared =
    record {
      args = 2;
      slots = record { mode = mode.Write; dc = 0; table = 0; key = Arg 0 } ∷ record { mode = mode.Read; dc = 0; table = 0; key = Arg 1 } ∷ [];
    }

-- a register of each kind
abbrev pub starts : Kinds
starts =
    record {
      registers =
          Empty ∷ Args (pos 0) ∷ Number ∷ Const 5 ∷ Stack (pos 496) ∷ MaybeBuffer 0 ∷ Buffer 1 (pos 8) ∷ Const
          18446744073709551615 ∷ Const 4294967301 ∷ Number ∷ Stack (pos 512) ∷ [];
    }

abbrev pub does : Insn → Result Ways Violation
does insn = transfer_of declared insn starts

-- on to the next slot with this kind in the register, and all others as they were
abbrev pub with_register : ℕ → Kind → Kinds
with_register r kind = record { registers = slice_set starts.registers r kind }

abbrev pub gives : ℕ → Kind → Result Ways Violation
gives r kind = Ok (record { next = Some (with_register r kind); jump = None })

abbrev pub falls : Result Ways Violation
falls = Ok (record { next = Some starts; jump = None })

abbrev pub jumps : Result Ways Violation
jumps = Ok (record { next = None; jump = Some starts })

abbrev pub branches : Result Ways Violation
branches = Ok (record { next = Some starts; jump = Some starts })

-- one kind at the next slot, another at the jump's target
abbrev pub splits : ℕ → Kind → Kind → Result Ways Violation
splits r next jump = Ok (record { next = Some (with_register r next); jump = Some (with_register r jump) })

-- the answer's kind in register 0, and registers 1 to 5 empty
abbrev pub returns : Kind → Result Ways Violation
returns kind =
    Ok (record {
      next = Some (record {
        registers = kind ∷ Empty ∷ Empty ∷ Empty ∷ Empty ∷ Empty ∷ Buffer 1 (pos 8) ∷ Const
            18446744073709551615 ∷ Const 4294967301 ∷ Number ∷ Stack (pos 512) ∷ [];
      });
      jump = None;
    })

abbrev pub ends : Result Ways Violation
ends = Ok (record { next = None; jump = None })
