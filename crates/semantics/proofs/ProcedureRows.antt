-- Four procedures with declared records, after each answer that fits: what the prover computes of them.
-- `put` inserts a value, `get` reads one, `bad` writes 7 and then aborts with 5, `move` takes an amount from one record to another.
-- The slots are what LLVM's assembler (llvm-mc 19) writes for the instructions named beside them.
use Rattle.std.proofs.Common.{◌≡◌, ℕ, List, [], ◌∷◌, ◌++◌, Some, None, refl}
use Rattle.std.specs.List.{range_with_len}
use Rattle.std.specs.Int.{w64, to_le_bytes}
use Rattle.access_slots.specs.declared.slot.Record.{Record}
use Rattle.access_slots.specs.declared.slot.Mode.{Mode}
use Rattle.access_slots.specs.declared.slot.Mode.TheVariants as mode
use Rattle.access_slots.specs.declared.slot.Key.TheVariants.{Arg}
use Rattle.access_slots.specs.declared.slot.Slot.{Slot}
use Rattle.access_slots.specs.declared.op.Op.TheVariants.{Read, Insert, Update}
use Rattle.access_slots.specs.declared.op.Said.{Said}
use Rattle.access_slots.specs.declared.op.Said.TheVariants.{Value, Absent, Done, Duplicate, Missing}
use Rattle.semantics.specs.Reach.{zeros}
use Rattle.semantics.specs.Row.{Seen, Asks, Exits, seen_of}

-- the record of table 0 at data component 0 with this key
abbrev row : ℕ → Record
row key = record { dc = 0; table = 0; key = key }

abbrev slot : Mode → ℕ → Slot
slot mode argument = record { mode = mode; dc = 0; table = 0; key = Arg argument }

-- a value that begins with this number, and one that is nothing else
abbrev value : ℕ → List ℕ
value n = to_le_bytes w64 n ++ range_with_len 8 56

abbrev plain : ℕ → List ℕ
plain n = to_le_bytes w64 n ++ zeros 56

-- ---- put key value

-- ldxdw r6, [r1+8]; mov r1, 0; call 5; stxdw [r0+0], r6; mov r1, 0; call 2; exit
abbrev put : List ℕ → List Said → Seen
put args answers =
    seen_of (record { args = 2; slots = slot mode.Write 0 ∷ [] }) (0x81679 ∷ 0x1b7 ∷ 0x500000085 ∷ 0x607b ∷ 0x1b7 ∷ 0x200000085 ∷ 0x95 ∷ []) args answers

put_asks : put (5 ∷ 100 ∷ []) [] ≡ Asks 0 (Insert (row 5) (plain 100)) 6
put_asks = refl

put_done : put (5 ∷ 100 ∷ []) (Done None ∷ []) ≡ Exits 0 7
put_done = refl

put_duplicate : put (5 ∷ 100 ∷ []) (Duplicate ∷ []) ≡ Exits 1 7
put_duplicate = refl

-- answers that are left over after the end change nothing
put_more : put (5 ∷ 100 ∷ []) (Done None ∷ Duplicate ∷ []) ≡ Exits 0 7
put_more = refl

-- ---- get key

-- mov r1, 0; call 1; jeq r0, 0, +2; mov r0, 0; exit; mov r0, 1; exit
abbrev get : List ℕ → List Said → Seen
get args answers =
    seen_of (record { args = 1; slots = slot mode.Read 0 ∷ [] }) (0x1b7 ∷ 0x100000085 ∷ 0x20015 ∷ 0xb7 ∷ 0x95 ∷ 0x1000000b7 ∷ 0x95 ∷ []) args answers

get_asks : get (5 ∷ []) [] ≡ Asks 0 (Read (row 5)) 2
get_asks = refl

get_present : get (5 ∷ []) (Value (value 100) ∷ []) ≡ Exits 0 5
get_present = refl

get_absent : get (5 ∷ []) (Absent ∷ []) ≡ Exits 1 5
get_absent = refl

-- ---- bad key

-- mov r1, 0; call 1; jeq r0, 0, +5; stdw [r0+0], 7; mov r1, 0; call 3; mov r0, 5; exit; mov r0, 1; exit
abbrev bad : List ℕ → List Said → Seen
bad args answers =
    seen_of (record { args = 1; slots = slot mode.Write 0 ∷ [] })
    (0x1b7 ∷ 0x100000085 ∷ 0x50015 ∷ 0x70000007a ∷ 0x1b7 ∷ 0x300000085 ∷ 0x5000000b7 ∷ 0x95 ∷ 0x1000000b7 ∷ 0x95 ∷ []) args answers

bad_asks : bad (5 ∷ []) [] ≡ Asks 0 (Read (row 5)) 2
bad_asks = refl

bad_absent : bad (5 ∷ []) (Absent ∷ []) ≡ Exits 1 5
bad_absent = refl

bad_updates : bad (5 ∷ []) (Value (value 100) ∷ []) ≡ Asks 0 (Update (row 5) (value 7)) 6
bad_updates = refl

bad_done : bad (5 ∷ []) (Value (value 100) ∷ Done (Some (value 100)) ∷ []) ≡ Exits 5 8
bad_done = refl

bad_missing : bad (5 ∷ []) (Value (value 100) ∷ Missing ∷ []) ≡ Exits 5 8
bad_missing = refl

-- ---- move from to amount

-- ldxdw r6, [r1+16]; mov r1, 0; call 1; jeq r0, 0, +16; mov r7, r0; mov r1, 1; call 1; jeq r0, 0, +12; mov r8, r0;
-- ldxdw r2, [r7+0]; sub r2, r6; stxdw [r7+0], r2; ldxdw r2, [r8+0]; add r2, r6; stxdw [r8+0], r2;
-- mov r1, 0; call 3; mov r1, 1; call 3; exit; mov r0, 1; exit
abbrev move_code : List ℕ
move_code =
    0x101679 ∷ 0x1b7 ∷ 0x100000085 ∷ 0x100015 ∷ 0x7bf ∷ 0x1000001b7 ∷ 0x100000085 ∷ 0xc0015 ∷ 0x8bf ∷ 0x7279 ∷ 0x621f ∷ 0x277b ∷ 0x8279 ∷ 0x620f ∷ 0x287b
    ∷ 0x1b7 ∷ 0x300000085 ∷ 0x1000001b7 ∷ 0x300000085 ∷ 0x95 ∷ 0x1000000b7 ∷ 0x95 ∷ []

abbrev move : List ℕ → List Said → Seen
move args answers = seen_of (record { args = 3; slots = slot mode.Write 0 ∷ slot mode.Write 1 ∷ [] }) move_code args answers

move_asks : move (5 ∷ 6 ∷ 10 ∷ []) [] ≡ Asks 0 (Read (row 5)) 3
move_asks = refl

move_first_absent : move (5 ∷ 6 ∷ 10 ∷ []) (Absent ∷ []) ≡ Exits 1 6
move_first_absent = refl

move_reads_the_second : move (5 ∷ 6 ∷ 10 ∷ []) (Value (value 100) ∷ []) ≡ Asks 1 (Read (row 6)) 7
move_reads_the_second = refl

move_second_absent : move (5 ∷ 6 ∷ 10 ∷ []) (Value (value 100) ∷ Absent ∷ []) ≡ Exits 1 10
move_second_absent = refl

move_updates : move (5 ∷ 6 ∷ 10 ∷ []) (Value (value 100) ∷ Value (plain 7) ∷ []) ≡ Asks 0 (Update (row 5) (value 90)) 17
move_updates = refl

move_updates_the_second : move (5 ∷ 6 ∷ 10 ∷ []) (Value (value 100) ∷ Value (plain 7) ∷ Done (Some (value 100)) ∷ [])
    ≡ Asks 1 (Update (row 6) (plain 17)) 19
move_updates_the_second = refl

move_done : move (5 ∷ 6 ∷ 10 ∷ []) (Value (value 100) ∷ Value (plain 7) ∷ Done (Some (value 100)) ∷ Done (Some (plain 7)) ∷ []) ≡ Exits 0 20
move_done = refl

move_second_missing : move (5 ∷ 6 ∷ 10 ∷ []) (Value (value 100) ∷ Value (plain 7) ∷ Done (Some (value 100)) ∷ Missing ∷ []) ≡ Exits 1 20
move_second_missing = refl

-- the answer to the first update isn't kept: the second one's is
move_first_missing : move (5 ∷ 6 ∷ 10 ∷ []) (Value (value 100) ∷ Value (plain 7) ∷ Missing ∷ Done (Some (plain 7)) ∷ []) ≡ Exits 0 20
move_first_missing = refl

-- two slots that name one record have a buffer each
move_within_one : move (5 ∷ 5 ∷ 10 ∷ []) (Value (plain 100) ∷ Value (plain 100) ∷ Done (Some (plain 100)) ∷ [])
    ≡ Asks 1 (Update (row 5) (plain 110)) 19
move_within_one = refl
