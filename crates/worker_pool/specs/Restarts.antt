-- What is known of a data component that restarts (Lomet, Fekete, Weikum, Zwilling, CIDR 2009): its incarnation, and how far its redo is.
use Rattle.std.specs.Prelude.{◌≡◌, ◌⊎◌, ◌<◌, ◌≤◌, ℕ, Option, None, Some}
use Rattle.access_slots.specs.declared.op.News.{News}
use Rattle.access_slots.specs.declared.op.Reply.{Reply}
use Rattle.transactions.specs.declared.Redoing.{Redoing}
use Rattle.transactions.specs.declared.Site.{Site}
use Rattle.transactions.specs.InFlight.{site_at}
use Rattle.tc_core.specs.Core.{Core}
use Rattle.tc_core.specs.Redo.{news_fault, IsRedone}

-- up to this number all is redone; of one that is up, all is
abbrev pub IsRedoneTo : ℕ → Option Redoing → Type 0
IsRedoneTo n None = Unit {0}
IsRedoneTo n (Some r) = n ≤ r.redone

-- this incarnation is known, with all redone up to this number, or a later one is
abbrev pub HasCome : Site → ℕ → ℕ → Type 0
HasCome s incarnation n = (incarnation < s.incarnation) ⊎ ((incarnation ≡ s.incarnation) × IsRedoneTo n s.redo)

-- what was known of data components stays known
abbrev pub StaysKnown : Core → Core → Type 0
StaysKnown old new = (d incarnation n : ℕ) → HasCome (site_at old.sites d) incarnation n → HasCome (site_at new.sites d) incarnation n

-- the later state knows these news of the data component, if the earlier one took them
abbrev pub AreKnown : Core → Core → ℕ → News → Type 0
AreKnown old new d news = news_fault old d news ≡ None → HasCome (site_at new.sites d) news.incarnation news.mark

-- the later state knows that this was redone, if the earlier one took it in
abbrev pub IsKnownRedone : Core → Core → ℕ → Reply → Type 0
IsKnownRedone old new d x = IsRedone old d x → HasCome (site_at new.sites d) x.incarnation x.number
