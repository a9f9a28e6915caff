-- Restarts of data components, as the transaction component is told of them, and the redo behind each (Lomet, Fekete, Weikum,
-- Zwilling, CIDR 2009).
use Rattle.std.specs.Prelude.{◌≡◌, ℕ, true, max, nat_lt, if◌then◌else◌, Option, Some, None, slice_get, slice_set}
use Rattle.access_slots.specs.declared.op.Wire.{Wire}
use Rattle.access_slots.specs.declared.op.Reply.{Reply}
use Rattle.access_slots.specs.declared.op.News.{News}
use Rattle.history.specs.Redo.{to_redo}
use Rattle.history.specs.Anew.{begun}
use Rattle.history.specs.declared.Answered.{Answered}
use Rattle.transactions.specs.declared.Redoing.{Redoing}
use Rattle.transactions.specs.declared.Site.{Site}
use Rattle.tc_core.specs.Core.{Core}
use Rattle.tc_core.specs.declared.state.NewsFault.{NewsFault}
use Rattle.tc_core.specs.declared.state.NewsFault.TheVariants as fault
use Rattle.tc_core.specs.declared.state.Redo.{Redo}
use Rattle.tc_core.specs.declared.state.Redo.TheVariants as redo

abbrev pub with_site : Core → ℕ → Site → Core
with_site c d s = record c { sites = slice_set c.sites d s }

-- ---- a restart is told

-- the redo behind these news would begin before the log does
abbrev pub lost_fault : ℕ → News → Option NewsFault
lost_fault from news = if nat_lt news.mark from then Some fault.Forgotten else None

abbrev pub news_fault_by : ℕ → Option Site → News → Option NewsFault
news_fault_by from None news = Some fault.NoDc
news_fault_by from (Some s) news = if nat_lt s.incarnation news.incarnation then lost_fault from news else Some fault.OldNews

-- why news of this data component aren't taken
abbrev pub news_fault : Core → ℕ → News → Option NewsFault
news_fault c d news = news_fault_by (begun c.events) (slice_get c.sites d) news

-- the new incarnation is known, and down; its redo begins above the mark
abbrev pub down_by : News → Site
down_by news = record { incarnation = news.incarnation; redo = Some (record { mark = news.mark; redone = news.mark }) }

abbrev pub after_told : Core → ℕ → News → Core
after_told c d news = with_site c d (down_by news)

-- ---- the redo goes on

abbrev pub redo_wire : ℕ → ℕ → Answered → Wire
redo_wire incarnation mark a = record { number = a.number; low_water = mark; incarnation = incarnation; redo = true; op = a.op }

abbrev pub sends_again : ℕ → ℕ → Option Answered → Redo
sends_again incarnation mark None = redo.Finished
sends_again incarnation mark (Some a) = redo.Send (redo_wire incarnation mark a)

abbrev pub redo_by : Core → ℕ → ℕ → Option Redoing → Redo
redo_by c d incarnation None = redo.NotDown
redo_by c d incarnation (Some r) = sends_again incarnation r.mark (to_redo c.events d r.redone)

abbrev pub redo_at : Core → ℕ → Option Site → Redo
redo_at c d None = redo.NoDc
redo_at c d (Some s) = redo_by c d s.incarnation s.redo

-- what `redo_next` answers
abbrev pub redo_reply : Core → ℕ → Redo
redo_reply c d = redo_at c d (slice_get c.sites d)

-- ---- and behind a number

abbrev pub behind_by : Core → ℕ → ℕ → ℕ → Option Redoing → Redo
behind_by c d n incarnation None = redo.NotDown
behind_by c d n incarnation (Some r) = sends_again incarnation r.mark (to_redo c.events d (max r.redone n))

abbrev pub behind_at : Core → ℕ → ℕ → Option Site → Redo
behind_at c d n None = redo.NoDc
behind_at c d n (Some s) = behind_by c d n s.incarnation s.redo

-- what `redo_next` will answer once all up to this number is redone
abbrev pub redo_behind : Core → ℕ → ℕ → Redo
redo_behind c d n = behind_at c d n (slice_get c.sites d)

abbrev pub up_again : Core → ℕ → Option Site → Core
up_again c d None = c
up_again c d (Some s) = with_site c d (record s { redo = None })

-- the state after `redo_next` gave this answer
abbrev pub after_redo : Core → ℕ → Redo → Core
after_redo c d (redo.Send x) = c
after_redo c d redo.Finished = up_again c d (slice_get c.sites d)
after_redo c d redo.NotDown = c
after_redo c d redo.NoDc = c

-- ---- an operation is redone

-- the reply is what was said to the operation under redo, from the incarnation that is known
pub record IsRedone (c : Core) (d : ℕ) (x : Reply) : Type 0 where
  pub site : Site
  pub there : slice_get c.sites d ≡ Some site
  pub r : Redoing
  pub down : site.redo ≡ Some r
  pub a : Answered
  pub next : to_redo c.events d r.redone ≡ Some a
  pub same_number : x.number ≡ a.number
  pub same_incarnation : x.incarnation ≡ site.incarnation
  pub same_answer : x.said ≡ a.said

abbrev pub redone_to : ℕ → Option Redoing → Option Redoing
redone_to n None = None
redone_to n (Some r) = Some (record r { redone = n })

abbrev pub redone_at : Core → ℕ → ℕ → Option Site → Core
redone_at c d n None = c
redone_at c d n (Some s) = with_site c d (record s { redo = redone_to n s.redo })

-- the state once this number is redone
abbrev pub after_redone : Core → ℕ → ℕ → Core
after_redone c d n = redone_at c d n (slice_get c.sites d)
