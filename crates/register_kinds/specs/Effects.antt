-- What an instruction does to the kinds, in short: the ways on from it are made of this and the kinds.
use Rattle.std.specs.Prelude.{Option, Some, None, Result, Ok, Err}
use Rattle.bpf_encoding.specs.Spelling.{number_of}
use Rattle.register_kinds.specs.declared.kind.Violation.{Violation}
use Rattle.register_kinds.specs.declared.kinds.Kinds.{Kinds}
use Rattle.register_kinds.specs.declared.kinds.Ways.{Ways}
use Rattle.register_kinds.specs.declared.effect.Effect.{Effect}
use Rattle.register_kinds.specs.declared.effect.Effect.TheVariants.{Falls, Writes, Returns, Jumps, Branches, Splits, Ends}
use Rattle.register_kinds.specs.Kinds.{with_kind, after_call}

-- the kinds at the next slot, where the run may go there
abbrev pub next_by : Kinds → Effect → Option Kinds
next_by ks Falls = Some ks
next_by ks (Writes r k) = Some (with_kind ks (number_of r) k)
next_by ks (Returns k) = Some (after_call ks k)
next_by ks Jumps = None
next_by ks Branches = Some ks
next_by ks (Splits r k there) = Some (with_kind ks (number_of r) k)
next_by ks Ends = None

-- and at the jump's target
abbrev pub jump_by : Kinds → Effect → Option Kinds
jump_by ks Falls = None
jump_by ks (Writes r k) = None
jump_by ks (Returns k) = None
jump_by ks Jumps = Some ks
jump_by ks Branches = Some ks
jump_by ks (Splits r k there) = Some (with_kind ks (number_of r) there)
jump_by ks Ends = None

abbrev pub ways_by : Kinds → Effect → Ways
ways_by ks e = record { next = next_by ks e; jump = jump_by ks e }

abbrev pub result_by : Kinds → Result Effect Violation → Result Ways Violation
result_by ks (Ok e) = Ok (ways_by ks e)
result_by ks (Err v) = Err v
