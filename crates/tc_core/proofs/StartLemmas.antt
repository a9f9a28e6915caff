-- The places of the log before which the redo of a data component needs not look.
use Rattle.std.proofs.Common.{◌≡◌, ◌≢◌, ℕ, zero, suc, ◌≤◌, List, [], ◌∷◌, length, take, drop, Option}
use Rattle.std.proofs.Common.{Some, None, arith, refl, sym, ◌∙◌, ap, subst, inl, inr}
use Rattle.std.specs.Prelude.{max, reverse, replicate, slice_get, slice_set}
use Rattle.std.proofs.lemmas.Bool.{cases_eq}
use Rattle.std.proofs.lemmas.List.{length-replicate, length-reverse, length-set, take-append-le}
use Rattle.tc_log.specs.declared.event.Event.{Event}
use Rattle.tc_log.specs.declared.event.Event.TheVariants.{Ask, Undo}
use Rattle.transactions.specs.declared.Redoing.{Redoing}
use Rattle.transactions.specs.declared.Site.{Site}
use Rattle.transactions.specs.InFlight.{untold}
use Rattle.transactions.proofs.StandingLemmas.{some_same}
use Rattle.verifier.specs.Checked.{Checked}
use Rattle.history.specs.Redo.{to_redo}
use Rattle.transactions.specs.Legal.{Legal}
use Rattle.access_slots.specs.declared.op.Reply.{Reply}
use Rattle.history.specs.declared.Answered.{Answered}
use Rattle.tc_core.specs.Core.{Core}
use Rattle.tc_core.specs.Redo.{with_site, sends_again, redo_by, redo_at, redo_reply, behind_by, behind_at, redo_behind, redone_to, redone_at, after_redone, IsRedone}
use Rattle.tc_core.specs.Kept.{AreSentUpTo, MayBegin, AreStarts}
use Rattle.tc_core.specs.Joining.Scanning.{scan}
use Rattle.tc_core.proofs.ScanLemmas.{reversed, scan_is, scan_from}

-- ---- one element changed

pub get_set_other : {X : Type 0} (xs : List X) (i j : ℕ) (x : X) → i ≢ j → slice_get (slice_set xs i x) j ≡ slice_get xs j
get_set_other [] i j x differ = refl
get_set_other (y ∷ xs) zero zero x differ = absurd (differ refl)
get_set_other (y ∷ xs) zero (suc j) x differ = refl
get_set_other (y ∷ xs) (suc i) zero x differ = refl
get_set_other (y ∷ xs) (suc i) (suc j) x differ = get_set_other xs i j x (λ same. differ (ap suc same))

pub get_set_same : {X : Type 0} (xs : List X) (i : ℕ) (x y : X) → slice_get (slice_set xs i x) i ≡ Some y → y ≡ x
get_set_same [] i x y is = absurd cc
get_set_same (z ∷ xs) zero x y is = cc
get_set_same (z ∷ xs) (suc i) x y is = get_set_same xs i x y is

-- ---- a new log

got : {X : Type 0} (n i : ℕ) (x y : X) → slice_get (replicate n x) i ≡ Some y → y ≡ x
got zero i x y is = absurd cc
got (suc n) zero x y is = cc
got (suc n) (suc i) x y is = got n i x y is

same_many : {X Y : Type 0} (n : ℕ) (x : X) (y : Y) → length (replicate n x) ≡ length (replicate n y)
same_many zero x y = refl
same_many (suc n) x y = ap suc (same_many n x y)

pub starts_none : (n : ℕ) → AreStarts (replicate n untold) (replicate n 0) []
starts_none n = record {
  count = same_many n 0 untold;
  inside = λ d place at. (let none = got n d 0 place at in omega (arith, none));
  begin = λ d place s at is. subst (λ (x : Site). MayBegin [] place x.redo) (sym (got n d untold s is)) tt;
}

-- ---- a log that is looked through from its first event on

begin_first : (h : List Event) (r : Option Redoing) → MayBegin h 0 r
begin_first h None = tt
begin_first h (Some r) = tt

pub starts_first : (n : ℕ) (sites : List Site) (h : List Event) → length sites ≡ n → AreStarts sites (replicate n 0) h
starts_first n sites h many = record {
  count = length-replicate n 0 ∙ sym many;
  inside = λ d place at. (let none = got n d 0 place at in omega (arith, none));
  begin = λ d place s at is. subst (λ (p : ℕ). MayBegin h p s.redo) (sym (got n d 0 place at)) (begin_first h s.redo);
}

-- ---- one more event

begin_longer : (e : Event) (h : List Event) (place : ℕ) (r : Option Redoing) → place ≤ length h → MayBegin h place r → MayBegin (e ∷ h) place r
begin_longer e h place None inside may = tt
begin_longer e h place (Some r) inside may =
    let same : take place (reverse (e ∷ h)) ≡ take place (reverse h)
    = ap (take place) (reversed e h) ∙ take-append-le place (reverse h) (e ∷ []) (omega (arith, inside, length-reverse h)) in
    subst (AreSentUpTo r.redone) (sym same) may

pub starts_longer : (sites : List Site) (starts : List ℕ) (e : Event) (h : List Event) → AreStarts sites starts h → AreStarts sites starts (e ∷ h)
starts_longer sites starts e h are = record {
  count = are.count;
  inside = λ d place at. (let inside = are.inside d place at in omega (arith, inside));
  begin = λ d place s at is. begin_longer e h place s.redo (are.inside d place at) (are.begin d place s at is);
}

pub starts_event : (sites : List Site) (starts : List ℕ) (e : Event) (h h' : List Event) → h' ≡ e ∷ h → AreStarts sites starts h → AreStarts sites starts h'
starts_event sites starts e h h' more are = subst (AreStarts sites starts) (sym more) (starts_longer sites starts e h are)

-- ---- another site

-- with another place
pub starts_set : (sites : List Site) (starts : List ℕ) (h : List Event) (d place : ℕ) (s : Site) → AreStarts sites starts h
    → place ≤ length h → MayBegin h place s.redo → AreStarts (slice_set sites d s) (slice_set starts d place) h
starts_set sites starts h d place s are inside may = record {
  count = length-set starts d place ∙ are.count ∙ sym (length-set sites d s);
  inside = λ i at is. elim (cases_eq d i) [
    | inl same ↦ (let it = get_set_same starts d place at (ap (slice_get (slice_set starts d place)) same ∙ is) in omega (arith, it, inside))
    | inr differ ↦ are.inside i at (sym (get_set_other starts d i place differ) ∙ is)
  ];
  begin = λ i at x is there. elim (cases_eq d i) [
    | inl same ↦
        let it = get_set_same starts d place at (ap (slice_get (slice_set starts d place)) same ∙ is) in
        let site = get_set_same sites d s x (ap (slice_get (slice_set sites d s)) same ∙ there) in
        subst (λ (p : ℕ). MayBegin h p x.redo) (sym it) (subst (λ (y : Site). MayBegin h place y.redo) (sym site) may)
    | inr differ ↦ are.begin i at x (sym (get_set_other starts d i place differ) ∙ is) (sym (get_set_other sites d i s differ) ∙ there)
  ];
}

-- that is up
pub starts_up : (sites : List Site) (starts : List ℕ) (h : List Event) (d : ℕ) (s : Site) → AreStarts sites starts h
    → s.redo ≡ None → AreStarts (slice_set sites d s) starts h
starts_up sites starts h d s are up = record {
  count = are.count ∙ sym (length-set sites d s);
  inside = are.inside;
  begin = λ i at x is there. elim (cases_eq d i) [
    | inl same ↦
        let site = get_set_same sites d s x (ap (slice_get (slice_set sites d s)) same ∙ there) in
        subst (MayBegin h at) (sym (ap (λ (y : Site). y.redo) site ∙ up)) tt
    | inr differ ↦ are.begin i at x is (sym (get_set_other sites d i s differ) ∙ there)
  ];
}

-- ---- what a look from such a place finds

pub looks : (ps : List Checked) (sites : List Site) (starts : List ℕ) (h : List Event) → Legal ps h → AreStarts sites starts h
    → (d place : ℕ) (s : Site) (r : Redoing) → slice_get starts d ≡ Some place → slice_get sites d ≡ Some s → s.redo ≡ Some r
    → scan d r.redone (drop place (reverse h)) ≡ to_redo h d r.redone
looks ps sites starts h legal are d place s r at there down =
    scan_from d r.redone place (reverse h) (subst (MayBegin h place) down (are.begin d place s at there)) ∙ scan_is ps h legal d r.redone

-- ---- what the calls answer where a data component is down

pub redo_is : (c : Core) (d : ℕ) (s : Site) (r : Redoing) (o : Option Answered) → slice_get c.sites d ≡ Some s → s.redo ≡ Some r
    → to_redo c.events d r.redone ≡ o → redo_reply c d ≡ sends_again s.incarnation r.mark o
redo_is c d s r o there down next = ap (redo_at c d) there ∙ (ap (redo_by c d s.incarnation) down ∙ ap (sends_again s.incarnation r.mark) next)

pub redone_is : (c : Core) (d n : ℕ) (s : Site) (r : Redoing) → slice_get c.sites d ≡ Some s → s.redo ≡ Some r
    → after_redone c d n ≡ with_site c d (record { incarnation = s.incarnation; redo = Some (record { mark = r.mark; redone = n }) })
redone_is c d n s r there down =
    ap (redone_at c d n) there
    ∙ ap (λ (o : Option Redoing). with_site c d (record { incarnation = s.incarnation; redo = redone_to n o })) down

-- what a reply to the operation under redo says
pub record IsSaidOf (x : Reply) (s : Site) (o : Option Answered) : Type 0 where
  pub a : Answered
  pub is : o ≡ Some a
  pub number : x.number ≡ a.number
  pub incarnation : x.incarnation ≡ s.incarnation
  pub said : x.said ≡ a.said

pub redone_said : (c : Core) (d : ℕ) (x : Reply) (s : Site) (r : Redoing) (o : Option Answered) → slice_get c.sites d ≡ Some s → s.redo ≡ Some r
    → to_redo c.events d r.redone ≡ o → IsRedone c d x → IsSaidOf x s o
redone_said c d x s r o there down next is =
    let site : is.site ≡ s = some_same is.site s (sym is.there ∙ there) in
    let same : is.r ≡ r = some_same is.r r (sym is.down ∙ (ap (λ (y : Site). y.redo) site ∙ down)) in
    record {
      a = is.a;
      is = sym next ∙ (ap (λ (y : Redoing). to_redo c.events d y.redone) (sym same) ∙ is.next);
      number = is.same_number;
      incarnation = is.same_incarnation ∙ ap (λ (y : Site). y.incarnation) site;
      said = is.same_answer;
    }

-- ---- and behind a number

sent_up_to_more : (m n : ℕ) (es : List Event) → m ≤ n → AreSentUpTo m es → AreSentUpTo n es
sent_up_to_more m n [] few are = tt
sent_up_to_more m n (Ask t k o ∷ es) few are = (omega (arith, few, are.0), sent_up_to_more m n es few are.1)
sent_up_to_more m n (Undo t k o ∷ es) few are = (omega (arith, few, are.0), sent_up_to_more m n es few are.1)
sent_up_to_more m n (_ ∷ es) few are = sent_up_to_more m n es few are

pub looks_behind : (ps : List Checked) (sites : List Site) (starts : List ℕ) (h : List Event) → Legal ps h → AreStarts sites starts h
    → (d place : ℕ) (s : Site) (r : Redoing) → slice_get starts d ≡ Some place → slice_get sites d ≡ Some s → s.redo ≡ Some r
    → (n : ℕ) → scan d (max r.redone n) (drop place (reverse h)) ≡ to_redo h d (max r.redone n)
looks_behind ps sites starts h legal are d place s r at there down n =
    let begun : AreSentUpTo r.redone (take place (reverse h)) = subst (MayBegin h place) down (are.begin d place s at there) in
    scan_from d (max r.redone n) place (reverse h) (sent_up_to_more r.redone (max r.redone n) (take place (reverse h)) (omega arith) begun)
    ∙ scan_is ps h legal d (max r.redone n)

pub behind_is : (c : Core) (d n : ℕ) (s : Site) (r : Redoing) (o : Option Answered) → slice_get c.sites d ≡ Some s → s.redo ≡ Some r
    → to_redo c.events d (max r.redone n) ≡ o → redo_behind c d n ≡ sends_again s.incarnation r.mark o
behind_is c d n s r o there down next = ap (behind_at c d n) there ∙ (ap (behind_by c d n s.incarnation) down ∙ ap (sends_again s.incarnation r.mark) next)
