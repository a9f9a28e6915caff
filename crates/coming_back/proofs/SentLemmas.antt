-- Which data component a wire of a redo is sent to.
use Rattle.std.proofs.Common.{◌≡◌, ℕ, Option, Some, None, refl, sym, ◌∙◌, ap}
use Rattle.std.specs.Prelude.{slice_get}
use Rattle.access_slots.specs.Locks.{target}
use Rattle.access_slots.specs.declared.op.Wire.{Wire}
use Rattle.history.specs.Redo.{to_redo}
use Rattle.history.specs.declared.Answered.{Answered}
use Rattle.transactions.specs.declared.Redoing.{Redoing}
use Rattle.transactions.specs.declared.Site.{Site}
use Rattle.transactions.specs.InFlight.{site_at, site_by, to_redo_by, under_redo}
use Rattle.transactions.specs.Legal.{Legal}
use Rattle.transactions.proofs.Restarts.{redo_dc}
use Rattle.tc_core.specs.Core.{Core}
use Rattle.tc_core.specs.Redo.{redo_wire, sends_again, redo_by, redo_at}
use Rattle.tc_core.specs.declared.state.Redo.TheVariants as redo

pub record IsSentTo (c : Core) (n : ℕ) (x : Wire) : Type 0 where
  pub dc : (target x.op).dc ≡ n
  pub incarnation : x.incarnation ≡ (site_at c.sites n).incarnation

sent_by : (c : Core) (n : ℕ) (x : Wire) (s : Site) (o : Option Redoing) → Legal c.procs c.events
    → slice_get c.sites n ≡ Some s → s.redo ≡ o → redo.Send x ≡ redo_by c n s.incarnation o → IsSentTo c n x
sent_by c n x s None legal at down is = absurd cc
sent_by c n x s (Some r) legal at down is = by (to_redo c.events n r.redone) refl is
  where
    by : (a : Option Answered) → to_redo c.events n r.redone ≡ a → redo.Send x ≡ sends_again s.incarnation r.mark a → IsSentTo c n x
    by None next bad = absurd cc
    by (Some a) next sends =
        let same : x ≡ redo_wire s.incarnation r.mark a = cc in
        let known : (site_at c.sites n).redo ≡ Some r = ap (λ (o : Option Site). (site_by o).redo) at ∙ down in
        let under : under_redo c.events c.sites n ≡ Some a = ap (to_redo_by c.events n) known ∙ next in
        record {
          dc = ap (λ (y : Wire). (target y.op).dc) same ∙ redo_dc c.procs c.events legal c.sites n a under;
          incarnation = ap (λ (y : Wire). y.incarnation) same ∙ sym (ap (λ (o : Option Site). (site_by o).incarnation) at);
        }

pub sent_at : (c : Core) (n : ℕ) (x : Wire) (o : Option Site) → Legal c.procs c.events → slice_get c.sites n ≡ o → redo.Send x ≡ redo_at c n o → IsSentTo c n x
sent_at c n x None legal at is = absurd cc
sent_at c n x (Some s) legal at is = sent_by c n x s s.redo legal at refl is
