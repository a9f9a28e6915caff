-- Worlds to which nothing has happened.
use Rattle.std.proofs.Common.{◌≡◌, ℕ, zero, suc, [], ◌∷◌, Some, None, replicate, map, ◌≤◌, refl, ap, subst, arith}
use Rattle.std.specs.Prelude.{slice_get}
use Rattle.std.specs.List.{All}
use Rattle.std.proofs.lemmas.List.Elements.{All-cons, All-nil}
use Rattle.data_component.specs.Performed.{Performed}
use Rattle.data_component.specs.Store.{Store, empty}
use Rattle.history.specs.Flight.{given, low_water}
use Rattle.access_slots.specs.declared.op.Reply.{Reply}
use Rattle.access_slots.specs.declared.op.News.{News}
use Rattle.transactions.specs.declared.Site.{Site}
use Rattle.transactions.specs.InFlight.{site_at, untold}
use Rattle.transactions.proofs.StandingLemmas.{some_same, none_some}
use Rattle.tc_core.specs.Recovery.{site_noted}
use Rattle.tc_core.specs.declared.recovery.SiteNote.{SiteNote}
use Rattle.tc_core.specs.declared.recovery.SiteNote.TheVariants.{Restarted}
use Rattle.tc_world.specs.Marks.{AtFirst, IsLow, IsFresh}
use Rattle.tc_world.specs.OneAtATime.{IsKnown, EachIsKnown}
use Rattle.tc_world.specs.Recovery.{IsWrittenFor, IsWrittenAt, IsNoted, Noted, NotYetUp, IsWritten}
use Rattle.tc_world.specs.Lives.{HasLived}
use Rattle.tc_world.specs.Examples.{empty_world, upped_world}
use Rattle.tc_world.proofs.LivingLemmas.{fresh_lived}

all_same : {X : Type 0} (P : X → Type 0) (n : ℕ) (x : X) → P x → All P (replicate n x)
all_same P zero x is = All-nil P
all_same P (suc n) x is = All-cons P x (replicate n x) is (all_same P n x is)

is_same : {X : Type 0} (n : ℕ) (x y : X) (k : ℕ) → slice_get (replicate n x) k ≡ Some y → x ≡ y
is_same zero x y k at = absurd (none_some _ y refl at)
is_same (suc n) x y zero at = some_same x y at
is_same (suc n) x y (suc k) at = is_same n x y k at

pub empty_fresh : (n rows ops : ℕ) → IsFresh (empty_world n rows ops)
empty_fresh n rows ops = record {
  events = AtFirst refl;
  copies = refl;
  replies = refl;
  news = refl;
  lists = all_same (λ (d : Store). (d.list ≡ []) × (d.saved ≡ [])) n (empty rows ops) (refl, refl);
  bases = all_same (λ (d : Store). d.base_mark ≡ 0) n (empty rows ops) refl;
  marks = all_same (λ (d : Store). (d.mark ≡ 0) × (d.saved_mark ≡ 0)) n (empty rows ops) (refl, refl);
  up = all_same (λ (s : Site). s.redo ≡ None) n untold refl;
}

pub empty_lived : (n rows ops : ℕ) → HasLived (empty_world n rows ops)
empty_lived n rows ops = fresh_lived (empty_world n rows ops) (empty_fresh n rows ops) (λ p q at. absurd (none_some _ q refl at))

untold_at : (n d : ℕ) → site_at (replicate n untold) d ≡ untold
untold_at zero d = refl
untold_at (suc n) zero = refl
untold_at (suc n) (suc d) = untold_at n d

pub empty_known : (n rows ops : ℕ) → EachIsKnown (empty_world n rows ops)
empty_known n rows ops d s at = subst (λ (x : Store). IsKnown (empty_world n rows ops) d x) (is_same n (empty rows ops) s d at) (record {
  up = ap (λ (t : Site). t.redo) (untold_at n d);
  now = ap (λ (t : Site). t.incarnation) (untold_at n d);
})

-- it was up before that was noted
pub upped_written : (rows ops : ℕ) → IsWritten [] ((let x : SiteNote = Restarted (record { incarnation = 1; mark = 0 }) in x) ∷ []) (upped_world rows ops)
upped_written rows ops = record {
  begins = record { later = []; is = refl };
  sites = sites;
  copies = All-nil (IsWrittenFor []);
  replies = All-nil (λ (x : Reply). x.number ≤ given []);
  stores = All-cons (IsWrittenAt []) s []
      (record { list = All-nil few; saved = All-nil few; mark = omega arith; saved_mark = omega arith })
      (All-nil (IsWrittenAt []));
  news = All-nil (λ (x : ℕ × News). x.1.mark ≤ low_water []);
  redo = All-cons (λ (t : Site). IsLow (low_water []) t.redo) up [] tt (All-nil (λ (t : Site). IsLow (low_water []) t.redo));
}
  where
    s : Store
    s = record { base = []; base_mark = 0; list = []; mark = 0; saved = []; saved_mark = 0; incarnation = 1; rows = rows; ops = ops }

    up : Site
    up = record { incarnation = 1; redo = None }

    few : Performed → Type 0
    few e = e.0 ≤ given []

    sites : (d : ℕ) → IsNoted (low_water []) (upped_world rows ops) d (site_at (up ∷ []) d)
        (site_at (map site_noted (Restarted (record { incarnation = 1; mark = 0 }) ∷ [])) d)
    sites zero = NotYetUp (record {
      up = refl;
      mark = 0;
      noted = refl;
      low = omega arith;
      there = (s, refl);
      again = λ k x inside. absurd (omega (arith, inside));
    })
    sites (suc d) = Noted refl
