-- What the kinds say of a configuration.
use Rattle.std.specs.Prelude.{◌≡◌, ℕ, ◌+◌, ◌*◌, ◌<◌, ◌≤◌, ◌^◌, ℤ, pos, ◌+ℤ◌, ◌⊎◌, Bool, true, false, List, ◌∷◌}
use Rattle.std.specs.Prelude.{length, map, take, Option, Some, None, IsSome, slice_get}
use Rattle.std.specs.List.{slice_index_or}
use Rattle.access_slots.specs.Access.{fits, is_no_room}
use Rattle.access_slots.specs.Declaration.{Declaration}
use Rattle.access_slots.specs.declared.op.Said.{Said}
use Rattle.bpf_encoding.specs.declared.insn.Insn.{Insn}
use Rattle.semantics.specs.Memory.{Region, Memory}
use Rattle.semantics.specs.Step.{Config, Step, Next, Ask, Done, Trap, Setting, place_of, address, buffer_base}
use Rattle.semantics.specs.Reach.{IsLayout, IsBySlot, answered}
use Rattle.semantics.specs.Instruction.{instruction_step}
use Rattle.register_kinds.specs.declared.kind.Kind.{Kind}
use Rattle.register_kinds.specs.declared.kind.Kind.TheVariants.{Empty, Number, Const, Stack, Args, Buffer, MaybeBuffer}
use Rattle.register_kinds.specs.declared.kinds.Kinds.{Kinds}
use Rattle.register_kinds.specs.declared.kinds.Ways.{Ways}
use Rattle.register_kinds.specs.Kinds.{kind_at}
use Rattle.register_kinds.specs.Arriving.{next_place, jump_offset, jump_place}

-- ---- registers

abbrev pub IsDeclared : Setting → ℕ → Type 0
IsDeclared s slot = slot < length s.program.decl.slots

abbrev pub Fits : Setting → Kind → Option ℕ → Type 0
Fits s Empty v = Unit {0}
Fits s Number v = IsSome v
Fits s (Const n) v = (v ≡ Some n) × (n < 2 ^ 64)
Fits s (Stack offset) v = v ≡ Some (address s.bases.stack offset)
Fits s (Args offset) v = v ≡ Some (address s.bases.arguments offset)
Fits s (Buffer slot offset) v = (v ≡ Some (address (buffer_base s slot) offset)) × IsDeclared s slot
Fits s (MaybeBuffer slot) v = ((v ≡ Some 0) ⊎ (v ≡ Some (buffer_base s slot))) × IsDeclared s slot

-- each register fits its kind
pub record AllFit (s : Setting) (ks : Kinds) (registers : List (Option ℕ)) : Type 0 where
  pub at : (r : ℕ) → Fits s (kind_at ks r) (slice_index_or registers r None)

-- what fits the first kinds fits the second
pub record IsWeaker (from to : Kinds) : Type 0 where
  pub fits : (s : Setting) (registers : List (Option ℕ)) → AllFit s from registers → AllFit s to registers

-- ---- memory

-- a region but for its bytes
pub record Shape : Type 0 where
  pub base : ℕ
  pub writable : Bool
  pub size : ℕ

abbrev pub shape : Region → Shape
shape r = record { base = r.base; writable = r.writable; size = length r.bytes }

abbrev pub shapes : Memory → List Shape
shapes memory = map shape memory

abbrev pub buffer_shapes : List ℕ → List Shape
buffer_shapes bases = map (λ base. record { base = base; writable = true; size = 64 }) bases

-- the stack, the arguments given, and the buffers of the declared slots
abbrev pub shapes_of : Setting → List Shape
shapes_of s =
    record { base = s.bases.stack; writable = true; size = 512 }
    ∷ record { base = s.bases.arguments; writable = false; size = 8 * length s.args }
    ∷ buffer_shapes (take (length s.program.decl.slots) s.bases.buffers)

-- a layout, and as many arguments and slots as a declaration has
pub record IsSetting (s : Setting) : Type 0 where
  pub layout : IsLayout s.bases
  pub count : length s.args ≡ s.program.decl.args
  pub few_args : s.program.decl.args ≤ 8
  pub few_slots : length s.program.decl.slots ≤ 16

-- eleven registers, and memory as it is laid out
pub record IsStanding (s : Setting) (c : Config) : Type 0 where
  pub eleven : length c.registers ≡ 11
  pub memory : shapes c.memory ≡ shapes_of s

-- ---- steps

-- the way that was taken, and what fits behind it
abbrev pub TookWay : Setting → ℕ → Insn → Ways → Config → Type 0
TookWay s at i ways c =
    ((ks : Kinds) × (ways.next ≡ Some ks) × (c.place ≡ next_place at i) × AllFit s ks c.registers)
    ⊎ ((ks : Kinds) × (ways.jump ≡ Some ks) × (jump_place at i ≡ Some c.place) × AllFit s ks c.registers)

abbrev pub WentOn : Setting → ℕ → ℕ → Insn → Ways → Config → Type 0
WentOn s at taken i ways c = (c.taken ≡ taken + 1) × IsStanding s c × TookWay s at i ways c

-- a step that is no trap, took one of these ways and was counted; a question does so with each answer that fits
abbrev pub IsSound : Setting → ℕ → ℕ → Insn → Ways → Step → Type 0
IsSound s at taken i ways (Next c) = WentOn s at taken i ways c
IsSound s at taken i ways (Ask slot operation c) =
    (c.place ≡ at) × (c.taken ≡ taken + 1) × IsBySlot s.args (slice_get s.program.decl.slots slot) operation
    × ((a : Said) → fits operation a ≡ true → is_no_room a ≡ false → WentOn s at taken i ways (answered s slot c a))
IsSound s at taken i ways (Done v c) = c.taken ≡ taken + 1
IsSound s at taken i ways (Trap cause) = ⊥

-- a jump leads to some place
abbrev pub Lands : ℕ → Option ℤ → Type 0
Lands at None = Unit {0}
Lands at (Some offset) = (to : ℕ) × (place_of (pos (at + 1) +ℤ offset) ≡ Some to)

-- with each layout and arguments of this declaration, a step of the instruction from what fits these kinds is sound
abbrev pub KeepsKinds : Declaration → Insn → Kinds → Ways → Type 0
KeepsKinds decl i ks ways =
    (s : Setting) (c : Config) → s.program.decl ≡ decl → IsSetting s → AllFit s ks c.registers → IsStanding s c →
    Lands c.place (jump_offset i) → IsSound s c.place c.taken i ways (instruction_step s c i)
