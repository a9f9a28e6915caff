-- A request that is made again, and a log's first events.
use Rattle.std.proofs.Common.{◌≡◌, ℕ, ◌-◌, true, false, List, [], ◌∷◌, ◌++◌, length, drop, map, length-append, ◌==◌}
use Rattle.std.proofs.Common.{arith, Option, Some, None, refl, sym, ◌∙◌, ap, subst}
use Rattle.std.proofs.Math.Seq.{drop-append_seam}
use Rattle.std.specs.Prelude.{IfSome}
use Rattle.tc_log.specs.declared.event.Event.{Event}
use Rattle.history.specs.Places.{Begins}
use Rattle.verifier.specs.Checked.{Checked}
use Rattle.transactions.specs.declared.Sent.{Sent}
use Rattle.transactions.specs.Standing.{Standing, standing}
use Rattle.transactions.specs.Legal.{Legal, Allowed}
use Rattle.transactions.proofs.StandingLemmas.{eq-false}
use Rattle.tc_core.specs.Core.{Core}
use Rattle.tc_core.specs.Kept.{core_of}
use Rattle.tc_core.specs.Loaded.{Loaded}
use Rattle.tc_core.specs.Checking.{IsFirstIllegal}
use Rattle.tc_core.specs.GivingUp.{IsOpenHere}
use Rattle.tc_core.specs.Recovery.{first_events, asking_by, asking_in, open_request, recovered, site_noted}
use Rattle.tc_core.specs.declared.book.Book.{Book}
use Rattle.tc_core.specs.declared.recovery.SiteNote.{SiteNote}

open_by : (c : Core) (t : ℕ) (s : Standing) → standing c.events t ≡ Some s → (sent : Option Sent) → s.sent ≡ sent → IfSome (asking_by t sent) (IsOpenHere c)
open_by c t s is None waits = record {}
open_by c t s is (Some r) waits = record { s = s; is = is; sent = r; waits = waits; same_number = refl; same_op = refl }

open_in : (c : Core) (t : ℕ) (at : Option Standing) → standing c.events t ≡ at → IfSome (asking_in t at) (IsOpenHere c)
open_in c t None is = record {}
open_in c t (Some s) is = open_by c t s is s.sent refl

-- what is made again is open here
pub request_is_open : (c : Core) (t : ℕ) → IfSome (open_request c t) (IsOpenHere c)
request_is_open c t = open_in c t (standing c.events t) refl

pub none_there : (h : List Event) → (length h == 0) ≡ true → h ≡ []
none_there [] e = refl
none_there (x ∷ h) e = absurd (let bad : true ≡ false = sym e ∙ eq-false (length (x ∷ h)) 0 (λ same. omega (arith, same)) in cc)

-- ---- a log's first events

pub first_is : (whole first : List Event) (n : ℕ) → Begins first whole → length first ≡ n → first ≡ first_events n whole
first_is whole first n begins count =
    let many : length (begins.later ++ first) - n ≡ length begins.later = omega (arith, length-append begins.later first, count) in
    subst (λ (h : List Event). first ≡ drop (length h - n) h) (sym begins.is)
    (sym (ap (λ (k : ℕ). drop k (begins.later ++ first)) many ∙ drop-append_seam begins.later first))

allowed_at : (ps : List Checked) (later earlier : List Event) (e : Event) → Legal ps (later ++ e ∷ earlier) → Allowed ps earlier e
allowed_at ps [] earlier e legal = legal.0
allowed_at ps (x ∷ later) earlier e legal = allowed_at ps later earlier e legal.1

-- a legal log has no first event that isn't allowed
pub none_illegal : (ps : List Checked) (h : List Event) (place : ℕ) → Legal ps h → IsFirstIllegal ps h place → ⊥
none_illegal ps h place legal bad =
    bad.illegal (allowed_at ps bad.stands.later bad.stands.earlier bad.e (subst (Legal ps) bad.stands.is legal))

-- all of a log are its first events
pub all-first : (n : ℕ) (h : List Event) → n ≡ length h → first_events n h ≡ h
all-first n h all = grind (arith, all)

-- a book of the whole log with what was noted is the state that came back
pub recovered-core : (l : Loaded) (b b' : Book) (c : Core) (h : List Event) (notes : List SiteNote) (n : ℕ) → core_of l b ≡ c → n ≡ length h
    → b'.log.events ≡ first_events n h → b'.given_up.numbers ≡ [] → b'.sites.items ≡ map site_noted notes → core_of l b' ≡ recovered c h notes
recovered-core l b b' c h notes n same all events none sites =
    let whole : b'.log.events ≡ h = events ∙ all-first n h all in
    subst (λ (x : Core). core_of l b' ≡ recovered x h notes) same (rw (whole, none, sites) refl)
