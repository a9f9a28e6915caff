-- A question that is answered at once.
use Rattle.std.specs.Prelude.{◌≡◌, ℕ, ◌+◌, List, Some, true, slice_get}
use Rattle.access_slots.specs.Access.{fits}
use Rattle.access_slots.specs.declared.op.Reply.{Reply}
use Rattle.access_slots.specs.declared.op.Said.{Said}
use Rattle.access_slots.specs.declared.op.Wire.{Wire}
use Rattle.verifier.specs.Checked.{Checked}
use Rattle.transactions.specs.declared.Next.TheVariants.{Asks}
use Rattle.slab.specs.Slab.{get}
use Rattle.tc_core.specs.Core.{Core, Asking}
use Rattle.tc_core.specs.Kept.{IsBook}
use Rattle.tc_core.specs.Running.{does}
use Rattle.tc_core.specs.Replies.{ask_reply, after_ask, IsAnswer, after_answer}
use Rattle.tc_core.specs.declared.book.Book.{Book}
use Rattle.tc_core.specs.declared.state.Asked.TheVariants.{Request}
use Rattle.tc_core.specs.declared.transaction.Tx.{Tx}

-- the transaction at this key asks for the wire's operation next, its number is the next one, and the answer fits it
pub record MayHearAtOnce (ps : List Checked) (b : Book) (key : ℕ) (q : Checked) (w : Wire) (said : Said) : Type 0 where
  pub book : IsBook ps b
  pub tx : Tx
  pub found : get b.txns key ≡ Some tx
  pub loaded : slice_get ps tx.proc ≡ Some q
  pub asks : does tx ≡ Some (Asks w.op)
  pub number : w.number ≡ b.numbers.last + 1
  pub fit : fits w.op said ≡ true

-- the transaction asked, and took the reply in
pub record IsAnsweredAtOnce (t : ℕ) (c now : Core) : Type 0 where
  pub r : Asking
  pub x : Reply
  pub asks : ask_reply c t ≡ Request r
  pub answers : IsAnswer (after_ask c (Request r)) r x
  pub state : now ≡ after_answer (after_ask c (Request r)) r x.said
