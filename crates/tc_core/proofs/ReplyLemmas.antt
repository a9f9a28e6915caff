-- What the replies compute to.
use Rattle.std.proofs.Common.{◌≡◌, ℕ, Option, Some, None, refl, sym, ap, ◌∙◌}
use Rattle.transactions.specs.declared.Next.{Next}
use Rattle.transactions.specs.Legal.{first_undo}
use Rattle.transactions.specs.Standing.{standing}
use Rattle.transactions.specs.Next.{next_by, next_in}
use Rattle.tc_core.specs.Core.{Core}
use Rattle.tc_core.specs.Running.{as_reached}
use Rattle.tc_log.specs.declared.event.Outcome.{Outcome}
use Rattle.tc_core.specs.Replies.{next_at, end_of, over_in}
use Rattle.tc_core.specs.declared.transaction.Tx.{Tx}
use Rattle.tc_core.proofs.KeptLemmas.{Seen, next_kept}

pub next-unknown : (c : Core) (t : ℕ) → standing c.events t ≡ None → next_at c t ≡ None
unfolding next_at
next-unknown c t is = rw is refl

pub next-known : (c : Core) (t : ℕ) (tx : Tx) (n : Next) → (w : Seen c.procs c.events t tx)
    → next_by tx.sent tx.full (first_undo tx.undo.ops) tx.tries tx.last (as_reached tx.pause) ≡ Some n
    → next_at c t ≡ Some n
unfolding next_at
next-known c t tx n w does = ap (next_in c.procs) w.is ∙ (next_kept c.procs c.events t tx w ∙ does)

pub end-unknown : (c : Core) (t : ℕ) → standing c.events t ≡ None → end_of c t ≡ None
end-unknown c t is = ap over_in (next-unknown c t is)

pub end-known : (c : Core) (t : ℕ) (tx : Tx) (o : Option Outcome) → (w : Seen c.procs c.events t tx)
    → o ≡ over_in (next_by tx.sent tx.full (first_undo tx.undo.ops) tx.tries tx.last (as_reached tx.pause))
    → end_of c t ≡ o
unfolding next_at
end-known c t tx o w does = ap over_in (ap (next_in c.procs) w.is ∙ next_kept c.procs c.events t tx w) ∙ sym does
