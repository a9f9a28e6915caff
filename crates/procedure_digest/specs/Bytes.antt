-- Procedures as bytes, of which a header has the digest. Numbers have 8, little-endian.
use Rattle.std.specs.Prelude.{ℕ, ◌+◌, ◌*◌, ◌<◌, ◌^◌, List, [], ◌∷◌, ◌++◌, length}
use Rattle.std.specs.List.{flat_map}
use Rattle.std.specs.Int.{w16, w32, w64, cast_unsigned, to_le_bytes}
use Rattle.access_slots.specs.Declaration.{Declaration}
use Rattle.access_slots.specs.declared.slot.Slot.{Slot}
use Rattle.access_slots.specs.declared.slot.Mode.{Mode}
use Rattle.access_slots.specs.declared.slot.Mode.TheVariants.{Read, Write}
use Rattle.access_slots.specs.declared.slot.Key.{Key}
use Rattle.access_slots.specs.declared.slot.Key.TheVariants.{Arg, Fixed}
use Rattle.bpf_encoding.specs.Fields.{Fields}
use Rattle.bpf_encoding.specs.Spelling.{fields_of_code}
use Rattle.bpf_encoding.specs.Spells.{Spells}
use Rattle.bpf_encoding.specs.declared.insn.Insn.TheVariants.{LoadWide}
use Rattle.bpf_encoding.specs.declared.insn.Place.{Place}
use Rattle.bpf_encoding.specs.declared.insn.Place.TheVariants as place
use Rattle.verifier.specs.Checked.{Checked}

-- ---- a declaration

abbrev pub mode_number : Mode → ℕ
mode_number Read = 0
mode_number Write = 1

abbrev pub key_kind : Key → ℕ
key_kind (Arg n) = 0
key_kind (Fixed k) = 1

abbrev pub key_number : Key → ℕ
key_number (Arg n) = n
key_number (Fixed k) = k

-- the mode, the data component, the table, whether the key is fixed, and the argument's number or the key
unfoldable pub slot_bytes : Slot → List ℕ
slot_bytes s =
    (((to_le_bytes w64 (mode_number s.mode) ++ to_le_bytes w64 s.dc) ++ to_le_bytes w64 s.table) ++ to_le_bytes w64 (key_kind s.key))
    ++ to_le_bytes w64 (key_number s.key)

-- how many arguments and slots, and the slots
unfoldable pub decl_bytes : Declaration → List ℕ
decl_bytes d = (to_le_bytes w64 d.args ++ to_le_bytes w64 (length d.slots)) ++ flat_map slot_bytes d.slots

-- ---- code (RFC 9669, section 3)

-- the opcode, src and dst in four bits each, the offset and imm
unfoldable pub field_bytes : Fields → List ℕ
field_bytes f =
    ((f.opcode ∷ (f.dst + 16 * f.src) ∷ []) ++ to_le_bytes w16 (cast_unsigned w16 f.offset)) ++ to_le_bytes w32 (cast_unsigned w32 f.imm)

unfoldable pub code_bytes : List Place → List ℕ
code_bytes places = flat_map field_bytes (fields_of_code places)

-- ---- procedures

-- the declaration, how many bytes the code has, and the code
unfoldable pub procedure_bytes : Checked → List ℕ
procedure_bytes p = (decl_bytes p.decl ++ to_le_bytes w64 (length (code_bytes p.code))) ++ code_bytes p.code

abbrev pub procedures_bytes : List Checked → List ℕ
procedures_bytes ps = flat_map procedure_bytes ps

-- ---- numbers of machines

pub record IsSlot (s : Slot) : Type 0 where
  pub dc : s.dc < 2 ^ 64
  pub table : s.table < 2 ^ 64
  pub key : key_number s.key < 2 ^ 64

abbrev pub AreSlots : List Slot → Type 0
AreSlots [] = Unit {0}
AreSlots (s ∷ slots) = IsSlot s × AreSlots slots

abbrev pub IsWide : Place → Type 0
IsWide (place.Insn (LoadWide dst value)) = value < 2 ^ 64
IsWide other = Unit {0}

abbrev pub AreWide : List Place → Type 0
AreWide [] = Unit {0}
AreWide (p ∷ places) = IsWide p × AreWide places

-- the numbers of a declaration and of wide instructions have 64 bits, and the code is spelled by its bytes
pub record IsInRange (p : Checked) : Type 0 where
  pub args : p.decl.args < 2 ^ 64
  pub count : length p.decl.slots < 2 ^ 64
  pub slots : AreSlots p.decl.slots
  pub spelled : Spells (code_bytes p.code) p.code
  pub wide : AreWide p.code

abbrev pub AreInRange : List Checked → Type 0
AreInRange [] = Unit {0}
AreInRange (p ∷ ps) = IsInRange p × AreInRange ps
