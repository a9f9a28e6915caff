-- Two writes that are undone: what the prover computes of histories whose undos fail, and of undos that are told NoRoom.
use Rattle.std.proofs.Common.{◌≡◌, ℕ, List, [], ◌∷◌, Option, Some, None, refl}
use Rattle.std.specs.Prelude.{pos, ◌+◌}
use Rattle.access_slots.specs.declared.slot.Record.{Record}
use Rattle.access_slots.specs.declared.slot.Mode.TheVariants as mode
use Rattle.access_slots.specs.declared.slot.Key.TheVariants.{Fixed}
use Rattle.access_slots.specs.declared.slot.Slot.{Slot}
use Rattle.access_slots.specs.declared.op.Op.{Op}
use Rattle.access_slots.specs.declared.op.Op.TheVariants.{Insert, Delete}
use Rattle.access_slots.specs.declared.op.Said.{Said}
use Rattle.access_slots.specs.declared.op.Said.TheVariants.{Done, Duplicate, NoRoom}
use Rattle.bpf_encoding.specs.declared.insn.Width.TheVariants.{Bits64}
use Rattle.bpf_encoding.specs.declared.insn.Register.{Register}
use Rattle.bpf_encoding.specs.declared.insn.Register.TheVariants.{R0, R1}
use Rattle.bpf_encoding.specs.declared.insn.Source.TheVariants.{Imm}
use Rattle.bpf_encoding.specs.declared.insn.Operation.TheVariants.{Mov}
use Rattle.bpf_encoding.specs.declared.insn.Insn.TheVariants as insn
use Rattle.bpf_encoding.specs.declared.insn.Place.{Place}
use Rattle.bpf_encoding.specs.declared.insn.Place.TheVariants as place
use Rattle.tc_log.specs.declared.event.Event.{Event}
use Rattle.tc_log.specs.declared.event.Event.TheVariants.{Admit, Ask, Answer, Undo}
use Rattle.tc_log.specs.declared.event.Outcome.TheVariants as outcome
use Rattle.verifier.specs.Checked.{Checked}
use Rattle.transactions.specs.declared.Next.{Next}
use Rattle.transactions.specs.declared.Next.TheVariants as next
use Rattle.transactions.specs.Standing.{standing}
use Rattle.transactions.specs.Reached.{stop_at}
use Rattle.transactions.specs.Next.{next_in}

-- r = n
abbrev set : Register → ℕ → Place
set r n = place.Insn (insn.Alu Bits64 Mov r (Imm (pos n)))

-- a slot for writing the record under this key
abbrev writing : ℕ → Slot
writing key = record { mode = mode.Write; dc = 0; table = 0; key = Fixed key }

-- deletes two records, and ends with 5: r1 = 0; call 4; r1 = 1; call 4; r0 = 5; exit
abbrev drops_two : Checked
drops_two =
    record {
      code = set R1 0 ∷ place.Insn (insn.Call (pos 4)) ∷ set R1 1 ∷ place.Insn (insn.Call (pos 4)) ∷ set R0 5 ∷ place.Insn insn.Exit ∷ [];
      decl = record { args = 0; slots = writing 3 ∷ writing 4 ∷ [] };
    }

abbrev under : ℕ → Record
under key = record { dc = 0; table = 0; key = key }

-- what undoes the first deletion, and the second
abbrev first : Op
first = Insert (under 3) (30 ∷ [])

abbrev second : Op
second = Insert (under 4) (40 ∷ [])

-- both deletions were done: the newest event stands first
abbrev both_done : List Event
both_done =
    Answer 1 2 (Done (Some (40 ∷ []))) ∷ Ask 1 2 (Delete (under 4)) ∷ Answer 1 1 (Done (Some (30 ∷ []))) ∷ Ask 1 1 (Delete (under 3))
    ∷ Admit 1 0 [] ∷ []

-- and then an undo was told this
abbrev tried : ℕ → Op → Said → List Event → List Event
tried n o said h = Answer 1 n said ∷ Undo 1 n o ∷ h

-- and then three undos failed
abbrev failed_thrice : ℕ → Op → List Event → List Event
failed_thrice n o h = tried (2 + n) o Duplicate (tried (1 + n) o Duplicate (tried n o Duplicate h))

abbrev does_next : List Event → Option Next
does_next h = next_in (drops_two ∷ []) (standing h 1)

last_write_first : does_next both_done ≡ Some (next.Undoes second)
unfolding stop_at
last_write_first = refl

-- ---- four tries for each write

fourth_try : does_next (failed_thrice 3 second both_done) ≡ Some (next.Undoes second)
unfolding stop_at
fourth_try = refl

no_fifth_try : does_next (tried 6 second Duplicate (failed_thrice 3 second both_done)) ≡ Some (next.Stuck 6)
unfolding stop_at
no_fifth_try = refl

-- the second write was undone by the fourth try
abbrev second_undone : List Event
second_undone = tried 6 second (Done None) (failed_thrice 3 second both_done)

first_write_then : does_next second_undone ≡ Some (next.Undoes first)
unfolding stop_at
first_write_then = refl

fourth_try_of_the_first : does_next (failed_thrice 7 first second_undone) ≡ Some (next.Undoes first)
unfolding stop_at
fourth_try_of_the_first = refl

no_fifth_try_of_the_first : does_next (tried 10 first NoRoom (failed_thrice 7 first second_undone)) ≡ Some (next.Stuck 10)
unfolding stop_at
no_fifth_try_of_the_first = refl

both_undone : does_next (tried 10 first (Done None) (failed_thrice 7 first second_undone)) ≡ Some (next.Over (outcome.Aborted 5))
unfolding stop_at
both_undone = refl

-- ---- an undo told NoRoom is one try more, and no insert of the procedure's

no_room_for_an_undo : does_next (tried 3 second NoRoom both_done) ≡ Some (next.Undoes second)
unfolding stop_at
no_room_for_an_undo = refl

aborted_all_the_same : does_next (tried 5 first (Done None) (tried 4 second (Done None) (tried 3 second NoRoom both_done)))
    ≡ Some (next.Over (outcome.Aborted 5))
unfolding stop_at
aborted_all_the_same = refl
