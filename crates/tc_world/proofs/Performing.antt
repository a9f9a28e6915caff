-- A wire that is there, and the data component that it goes to.
use Rattle.std.proofs.Common.{◌≡◌, ℕ, ◌<◌, ◌≤◌, Bool, true, false, List, [], ◌∷◌, length, Option, Some, None, arith, refl, sym, ◌∙◌, ap, zero, suc}
use Rattle.std.specs.Prelude.{◌^◌, nat_le, slice_get, slice_set}
use Rattle.std.proofs.lemmas.Bool.Decides.{nat_tests}
use Rattle.access_slots.specs.declared.op.Wire.{Wire}
use Rattle.access_slots.specs.declared.op.Reply.{Reply}
use Rattle.access_slots.specs.declared.op.News.{News}
use Rattle.data_component.specs.Store.{Store, replied, performed, restarted, news_of}
use Rattle.tc_world.specs.Whole.{Whole}
use Rattle.tc_world.specs.declared.step.Outcome.TheVariants as outcome
use Rattle.tc_world.specs.Steps.{Goes, restarts_as, restarts_at, restarts, with_news, MayGo, dc_of, with_dcs, gets_reply, performs_at, performs_copy, performs}

record IsInside {X : Type 0} (xs : List X) (k : ℕ) : Type 0 where
  x : X
  at : slice_get xs k ≡ Some x

inside : {X : Type 0} (xs : List X) (k : ℕ) → k < length xs → IsInside xs k
inside [] k few = absurd (omega (arith, few))
inside (x ∷ xs) zero few = record { x = x; at = refl }
inside (x ∷ xs) (suc k) few = (let ih = inside xs k (omega (arith, few)) in record { x = ih.x; at = ih.at })

pub performs_found : (w : Whole) (i dc : ℕ) (x : Wire) (ds : List Store) (r : Option Reply)
    → slice_get w.copies i ≡ Some x → dc ≡ dc_of x → dc < length w.dcs
    → ((d : Store) → slice_get w.dcs dc ≡ Some d → r ≡ replied d x) → ((d : Store) → slice_get w.dcs dc ≡ Some d → ds ≡ slice_set w.dcs dc (performed d x))
    → performs w i ≡ gets_reply (with_dcs w ds) r
performs_found w i dc x ds r sent is few told kept =
    let d = inside w.dcs dc few in
    let at : slice_get w.dcs (dc_of x) ≡ Some d.x = ap (slice_get w.dcs) (sym is) ∙ d.at in
    let one : performs w i ≡ performs_at w x (Some d.x) = ap (performs_copy w) sent ∙ ap (performs_at w x) at in
    let set : ds ≡ slice_set w.dcs (dc_of x) (performed d.x x) = kept d.x d.at ∙ ap (λ (k : ℕ). slice_set w.dcs k (performed d.x x)) is in
    one ∙ (ap (λ (ys : List Store). gets_reply (with_dcs w ys) (replied d.x x)) (sym set) ∙ ap (gets_reply (with_dcs w ds)) (sym (told d.x d.at)))

goes : (w : Whole) (r : Option Reply) → MayGo (gets_reply w r)
goes w None = (_, _, refl)
goes w (Some x) = (_, _, refl)

pub may_perform : (w : Whole) (i dc : ℕ) (x : Wire) → slice_get w.copies i ≡ Some x → dc ≡ dc_of x → dc < length w.dcs → MayGo (performs w i)
may_perform w i dc x sent is few =
    let d = inside w.dcs dc few in
    let at : slice_get w.dcs (dc_of x) ≡ Some d.x = ap (slice_get w.dcs) (sym is) ∙ d.at in
    let v = with_dcs w (slice_set w.dcs (dc_of x) (performed d.x x)) in
    let it = goes v (replied d.x x) in
    (it.0, it.1, ap (performs_copy w) sent ∙ (ap (performs_at w x) at ∙ it.2))

-- ---- a restart

pub not_le : (a b : ℕ) → a ≤ b → nat_le a b ≡ false → ⊥
not_le a b le fails = (let yes : nat_le a b ≡ true = grind (arith, nat_tests) in let bad : true ≡ false = sym yes ∙ fails in cc)

restarts_one : (w : Whole) (d : ℕ) (b : Bool) (s : Store) → slice_get w.dcs d ≡ Some s → b ≡ nat_le (2 ^ 62) s.incarnation → b ≡ false
    → restarts w d ≡ Goes (outcome.Restarted d) (with_news (with_dcs w (slice_set w.dcs d (restarted s))) d (news_of (restarted s)))
restarts_one w d b s at is fails = ap (restarts_at w d) at ∙ ap (restarts_as w d s) (sym is ∙ fails)

pub may_restart : (w : Whole) (d : ℕ) (b : Bool) → d < length w.dcs
    → ((s : Store) → slice_get w.dcs d ≡ Some s → b ≡ nat_le (2 ^ 62) s.incarnation) → b ≡ false → MayGo (restarts w d)
may_restart w d b few same fails = (let s = inside w.dcs d few in (_, _, restarts_one w d b s.x s.at (same s.x s.at) fails))

pub restarts_found : (w : Whole) (d : ℕ) (b : Bool) (ds : List Store) (n : News) → d < length w.dcs
    → ((s : Store) → slice_get w.dcs d ≡ Some s → b ≡ nat_le (2 ^ 62) s.incarnation) → b ≡ false
    → ((s : Store) → slice_get w.dcs d ≡ Some s → n ≡ news_of (restarted s))
    → ((s : Store) → slice_get w.dcs d ≡ Some s → ds ≡ slice_set w.dcs d (restarted s))
    → restarts w d ≡ Goes (outcome.Restarted d) (with_news (with_dcs w ds) d n)
restarts_found w d b ds n few same fails news kept =
    let s = inside w.dcs d few in
    restarts_one w d b s.x s.at (same s.x s.at) fails
    ∙ (ap (λ (xs : List Store). Goes (outcome.Restarted d) (with_news (with_dcs w xs) d (news_of (restarted s.x)))) (sym (kept s.x s.at))
    ∙ ap (λ (m : News). Goes (outcome.Restarted d) (with_news (with_dcs w ds) d m)) (sym (news s.x s.at)))
