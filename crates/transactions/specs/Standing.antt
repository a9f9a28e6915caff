-- Where a transaction stands, read off a history, the newest event first.
use Rattle.std.specs.Prelude.{ℕ, ◌+◌, Bool, true, false, ◌||◌, ◌==◌, if◌then◌else◌, List, [], ◌∷◌, ◌++◌, Option, Some, None}
use Rattle.access_slots.specs.declared.op.Op.{Op}
use Rattle.access_slots.specs.declared.op.Op.TheVariants.{Read, Insert, Update, Delete}
use Rattle.access_slots.specs.declared.op.Said.{Said}
use Rattle.access_slots.specs.declared.op.Said.TheVariants.{Done}
use Rattle.access_slots.specs.Access.{is_no_room}
use Rattle.tc_log.specs.declared.event.Event.{Event}
use Rattle.tc_log.specs.declared.event.Event.TheVariants.{Admit, Ask, Answer, Undo, End}
use Rattle.history.specs.Calls.{Call, txn_of}
use Rattle.transactions.specs.declared.Sent.{Sent}

-- an open transaction: its call; what was said to its own questions, oldest first, NoRoom left out; the operation that it waits for;
-- whether an insert found no room; what undoes its writes that stand, the newest first; how often the first of these was sent; how
-- many numbers it was given
pub record Standing : Type 0 where
  pub call : Call
  pub answers : List Said
  pub sent : Option Sent
  pub full : Bool
  pub undo : List Op
  pub tries : ℕ
  pub used : ℕ
  pub last : ℕ

abbrev pub fresh : Call → Standing
fresh call = record { call = call; answers = []; sent = None; full = false; undo = []; tries = 0; used = 0; last = 0 }

-- what undoes a write that was done: an insert's is the record's deletion, the others bring the former value back
abbrev pub inverse : Op → Option (List ℕ) → Option Op
inverse (Read r) former = None
inverse (Insert r v) former = Some (Delete r)
inverse (Update r v) None = None
inverse (Update r v) (Some former) = Some (Update r former)
inverse (Delete r) None = None
inverse (Delete r) (Some former) = Some (Insert r former)

abbrev pub with_undo : Option Op → List Op → List Op
with_undo None ops = ops
with_undo (Some o) ops = o ∷ ops

abbrev pub rest_of : List Op → List Op
rest_of [] = []
rest_of (o ∷ ops) = ops

abbrev pub told_to : Bool → Said → List Said → List Said
told_to true said answers = answers
told_to false said answers = if is_no_room said then answers else answers ++ said ∷ []

abbrev pub answers_after : Option Sent → Said → List Said → List Said
answers_after None said answers = answers
answers_after (Some r) said answers = told_to r.undoing said answers

abbrev pub found_full : Bool → Said → Bool
found_full true said = false
found_full false said = is_no_room said

abbrev pub full_after : Option Sent → Said → Bool → Bool
full_after None said full = full
full_after (Some r) said full = full || found_full r.undoing said

abbrev pub undo_done : Bool → Op → Said → List Op → List Op
undo_done true o (Done former) ops = rest_of ops
undo_done true o said ops = ops
undo_done false o (Done former) ops = with_undo (inverse o former) ops
undo_done false o said ops = ops

abbrev pub undo_after : Option Sent → Said → List Op → List Op
undo_after None said ops = ops
undo_after (Some r) said ops = undo_done r.undoing r.op said ops

abbrev pub tries_done : Bool → Said → ℕ → ℕ
tries_done true (Done former) tries = 0
tries_done true said tries = tries
tries_done false said tries = tries

abbrev pub tries_after : Option Sent → Said → ℕ → ℕ
tries_after None said tries = tries
tries_after (Some r) said tries = tries_done r.undoing said tries

abbrev pub sent_as : ℕ → Op → Bool → Option Sent
sent_as n o undoing = Some (record { number = n; op = o; undoing = undoing })

abbrev pub asked : ℕ → Op → Standing → Standing
asked n o s = record s { sent = sent_as n o false; used = s.used + 1; last = n }

abbrev pub undone : ℕ → Op → Standing → Standing
undone n o s = record s { sent = sent_as n o true; tries = s.tries + 1; used = s.used + 1; last = n }

abbrev pub answered : Said → Standing → Standing
answered said s =
    record s {
      answers = answers_after s.sent said s.answers;
      sent = None;
      full = full_after s.sent said s.full;
      undo = undo_after s.sent said s.undo;
      tries = tries_after s.sent said s.tries;
    }

-- what an event makes of its transaction
abbrev pub moved : Event → Option Standing → Option Standing
moved (Admit t p args) was = Some (fresh (record { proc = p; args = args }))
moved (Ask t n o) None = None
moved (Ask t n o) (Some s) = Some (asked n o s)
moved (Answer t n said) None = None
moved (Answer t n said) (Some s) = Some (answered said s)
moved (Undo t n o) None = None
moved (Undo t n o) (Some s) = Some (undone n o s)
moved (End t outcome) was = None
-- no other changes anything of it
moved _ was = was

-- where a transaction stands: None where it isn't open
abbrev pub standing : List Event → ℕ → Option Standing
standing [] t = None
standing (e ∷ h) t = if txn_of e == t then moved e (standing h t) else standing h t
