-- Each step at a seat keeps its rule.
use Rattle.std.proofs.Common.{
  ◌≡◌,
  ◌≢◌,
  ℕ,
  zero,
  suc,
  List,
  [],
  ◌∷◌,
  ◌++◌,
  length,
  get_or,
  set,
  slice_index,
  slice_set,
  Option,
  None,
  Some,
  sym,
  refl,
  ap,
  ◌∙◌,
  subst,
  ◌⊎◌,
  inl,
  inr,
  ⊎_elim,
  arith,
}
use Rattle.std.proofs.lemmas.Option.{none-some, same_Some}
use mathlib.Core.Option as maybe
use mathlib.Core.Option.{none, some, some-injective, some-ne-none}
use lib.ListN.{get_elem?}
use Rattle.atomic_table.proofs.Lists.{at_set}
use Rattle.atomic_table.specs.Table.{State, Step, step, Act, keeps, takes, gives, Valid, homes_after, carried_after, rest, stepped, Allows, Arrives, opening}
use Rattle.dc_links.specs.declared.served.Served.{Served}
use Rattle.dc_links.specs.declared.served.Began.{Began}
use Rattle.dc_links.specs.declared.served.Part.{Part}
use Rattle.dc_links.specs.declared.served.Part.TheVariants.{Away, Sits, Holds}
use Rattle.dc_links.specs.Joining.Seated.{IsOf, GoesOn, owned, word_of, Lies, Knows, IsSeat, Standing, sitting, holding, IsHolding, taken, risen, put_back, sat_down}
use Rattle.dc_links.proofs.Serving.{not_yet, then_served}

abbrev Owner : Type 0
Owner = Option (ℕ × Began)

abbrev Views : Owner → Option ℕ → List Part → Type 0
Views owner holder views = (pass : ℕ) (part : Part) → get_elem? views pass ≡ some part → Knows owner holder pass part

-- ---- views

last_or_before : (views : List Part) (new part : Part) (pass : ℕ) → get_elem? (views ++ new ∷ []) pass ≡ some part
    → (get_elem? views pass ≡ some part) ⊎ ((length views ≡ pass) × (new ≡ part))
last_or_before [] new part zero at = inr (refl, some-injective new part at)
last_or_before [] new part (suc pass) at = absurd (some-ne-none part (sym at))
last_or_before (view ∷ views) new part zero at = inl at
last_or_before (view ∷ views) new part (suc pass) at =
    ⊎_elim inl (λ last. inr (ap suc last.0, last.1)) (last_or_before views new part pass at)

-- one more thread
with_new : (owner : Owner) (holder : Option ℕ) (views : List Part) (new : Part) → Knows owner holder (length views) new
    → Views owner holder views → Views owner holder (views ++ new ∷ [])
with_new owner holder views new its others pass part at =
    ⊎_elim (others pass part)
    (λ (last : (length views ≡ pass) × (new ≡ part)). subst (λ (p : ℕ × Part). Knows owner holder p.0 p.1) (λ i. (last.0 i, last.1 i)) its)
    (last_or_before views new part pass at)

-- another part of one thread
with_part : (owner : Owner) (holder : Option ℕ) (views : List Part) (own : ℕ) (new : Part) → Knows owner holder own new
    → ((pass : ℕ) (part : Part) → pass ≢ own → get_elem? views pass ≡ some part → Knows owner holder pass part)
    → Views owner holder (set views own new)
with_part owner holder views own new its others pass part at =
    ⊎_elim (λ (here : (pass ≡ own) × (new ≡ part)). subst (λ (p : ℕ × Part). Knows owner holder p.0 p.1) (λ i. (sym here.0 i, here.1 i)) its)
    (λ (there : (pass ≢ own) × (get_elem? views pass ≡ some part)). others pass part there.0 there.1)
    (at_set views own pass new part at)

-- who has the seat in hands is one thread
one_holder : (j k : ℕ) → Some j ≡ Some k → j ≡ k
one_holder j k e = same_Some j k e

one_owner : (j k : ℕ) (a b : Began) → ◌≡◌ {A = Owner} (Some (j, a)) (Some (k, b)) → (j ≡ k) × (a ≡ b)
one_owner j k a b e = let p = same_Some {A = ℕ × Began} (j, a) (k, b) e in (ap (λ q. q.0) p, ap (λ q. q.1) p)

-- nobody had it in hands, and somebody takes it
when_taken : (owner : Owner) (holder pass : ℕ) (part : Part) → Knows owner None pass part → Knows owner (Some holder) pass part
when_taken owner holder pass Away k = tt
when_taken owner holder pass (Sits began) k = k
when_taken owner holder pass (Holds began) k = absurd (none-some pass k.0)

-- the same by the owner, who is it no longer
when_risen : (owner : Owner) (own : ℕ) (began : Began) → owner ≡ Some (own, began) → (pass : ℕ) (part : Part) → pass ≢ own
    → Knows owner None pass part → Knows None (Some own) pass part
when_risen owner own began is pass Away other k = tt
when_risen owner own began is pass (Sits b) other k = absurd (other (sym (one_owner own pass began b (sym is ∙ k)).0))
when_risen owner own began is pass (Holds b) other k = absurd (none-some pass k.0)

-- one thread had it in hands, and puts it back
when_put_back : (owner : Owner) (holder : Option ℕ) (own : ℕ) → holder ≡ Some own → (pass : ℕ) (part : Part) → pass ≢ own
    → Knows owner holder pass part → Knows owner None pass part
when_put_back owner holder own is pass Away other k = tt
when_put_back owner holder own is pass (Sits b) other k = k
when_put_back owner holder own is pass (Holds b) other k = absurd (other (sym (one_holder own pass (sym is ∙ k.0))))

-- the same where it becomes the owner
when_sat_down : (owner new : Owner) (holder : Option ℕ) (own : ℕ) → owner ≡ None → holder ≡ Some own → (pass : ℕ) (part : Part) → pass ≢ own
    → Knows owner holder pass part → Knows new None pass part
when_sat_down owner new holder own alone is pass Away other k = tt
when_sat_down owner new holder own alone is pass (Sits b) other k = absurd (none-some (pass, b) (sym alone ∙ k))
when_sat_down owner new holder own alone is pass (Holds b) other k = absurd (other (sym (one_holder own pass (sym is ∙ k.0))))

-- ---- steps

pub starts : IsSeat (opening (0 ∷ []) (None ∷ []) Away)
starts = record {
  owner = None;
  holder = None;
  word = refl;
  lies = (None, refl, refl);
  knows = with_new None None [] Away tt (λ pass part at. absurd (some-ne-none part (sym at)));
}

-- who comes has it in hands, where it was free
come : (st : Step (Option Served)) (before : Standing) (s : State (Option Served) Part) (owner : Owner) (holder : Option ℕ) → s.words ≡ word_of holder ∷ []
    → Lies (owned owner) holder s.homes → Views owner holder s.views
    → (new : Part) × (act : Act (Option Served)) × Valid s.homes [] act
    × IsSeat record { words = slice_set s.words 0 1; homes = homes_after s.homes [] act; views = s.views ++ new ∷ [] }
    × taken st before (slice_index s.words 0) (new, carried_after [] act)
come st before s owner None word lies knows =
    let lying : Option Served = lies.0 in
    let own = length s.views in (
      Holds (owned owner),
      takes 0 lying,
      ap (λ homes. get_elem? homes 0) lies.1,
      record {
        owner = owner;
        holder = Some own;
        word = ap (λ words. slice_set words 0 1) word;
        lies = ap (λ homes. slice_set homes 0 none) lies.1;
        knows = with_new owner (Some own) s.views (Holds (owned owner)) (refl, refl)
            (λ pass part at. when_taken owner own pass part (knows pass part at));
      },
      λ free. (owned owner, lying, refl, lies.2),
    )
come st before s owner (Some holder) word lies knows = (
  Away,
  keeps,
  tt,
  record {
    owner = owner;
    holder = Some holder;
    word = ap (λ words. slice_set words 0 1) word;
    lies = lies;
    knows = with_new owner (Some holder) s.views Away tt knows;
  },
  λ free. absurd (omega (arith, free, ap (λ words. slice_index words 0) word)),
)

pub comes : (slots : ℕ) → Arrives IsSeat slots 0 (λ _. 1) (taken (step slots 0 1 0 none) (Away, []))
comes slots s is wide within = come (step slots 0 1 0 none) (Away, []) s is.owner is.holder is.word is.lies is.knows

-- the owner rises, where it was free
rise : (st : Step (Option Served)) (s : State (Option Served) Part) (own : ℕ) (began : Began) (owner : Owner)
    (holder : Option ℕ) → s.words ≡ word_of holder ∷ []
    → Lies (owned owner) holder s.homes → Views owner holder s.views → owner ≡ Some (own, began)
    → (new : Part) × (act : Act (Option Served)) × Valid s.homes [] act × IsSeat (stepped s 0 1 own [] new act)
    × risen st (sitting began) (slice_index s.words 0) (new, carried_after [] act)
rise st s own began owner None word lies knows its =
    let lying : Option Served = lies.0 in (
      Holds None,
      takes 0 lying,
      ap (λ homes. get_elem? homes 0) lies.1,
      record {
        owner = None;
        holder = Some own;
        word = ap (λ words. slice_set words 0 1) word;
        lies = ap (λ homes. slice_set homes 0 none) lies.1;
        knows = with_part None (Some own) s.views own (Holds None) (refl, refl)
            (λ pass part other at. when_risen owner own began its pass part other (knows pass part at));
      },
      (
        (λ free. (began, lying, refl, refl, subst (λ (o : Owner). IsOf (owned o) lying) its lies.2)),
        λ held. absurd (held (ap (λ words. slice_index words 0) word)),
      ),
    )
rise st s own began owner (Some holder) word lies knows its = (
  Sits began,
  keeps,
  tt,
  record {
    owner = owner;
    holder = Some holder;
    word = ap (λ words. slice_set words 0 1) word;
    lies = lies;
    knows = with_part owner (Some holder) s.views own (Sits began) its (λ pass part other at. knows pass part at);
  },
  ((λ free. absurd (omega (arith, free, ap (λ words. slice_index words 0) word))), λ held. refl),
)

rises-as : (slots own : ℕ) (began : Began) → Allows IsSeat slots own (sitting began) 0 (λ _. 1) (risen (step slots 0 1 0 none) (sitting began))
rises-as slots own began s is wide at within =
    rise (step slots 0 1 0 none) s own began is.owner is.holder is.word is.lies is.knows (is.knows own (Sits began) at)

pub rises : (slots own : ℕ) (me : Standing) (began : Began) → me ≡ sitting began → Allows IsSeat slots own me 0 (λ _. 1) (risen (step slots 0 1 0 none) me)
rises slots own me began its =
    subst (λ (m : Standing). Allows IsSeat slots own m 0 (λ _. 1) (risen (step slots 0 1 0 none) m)) (sym its) (rises-as slots own began)

-- nothing lies there while somebody has it in hands
out : (began : Option Began) (holder : Option ℕ) (own : ℕ) (homes : List (maybe.Option (Option Served)))
    → holder ≡ Some own → Lies began holder homes → homes ≡ none ∷ []
out began holder own homes its lies = subst (λ (h : Option ℕ). Lies began h homes) its lies

puts_back-as : (slots own : ℕ) (began : Option Began) (lying : Option Served) → IsOf began lying
    → Allows IsSeat slots own (holding began lying) 0 (λ _. 0) (λ _. put_back (step slots 0 0 0 none) (holding began lying) 0)
puts_back-as slots own began lying of s is wide at within =
    let its = is.knows own (Holds began) at in (
      Away,
      gives,
      tt,
      record {
        owner = is.owner;
        holder = None;
        word = ap (λ words. slice_set words 0 0) is.word;
        lies = (
          lying,
          ap (λ homes. slice_set homes 0 (some lying)) (out (owned is.owner) is.holder own s.homes its.0 is.lies),
          subst (λ (b : Option Began). IsOf b lying) (sym its.1) of,
        );
        knows = with_part is.owner None s.views own Away tt
            (λ pass part other at. when_put_back is.owner is.holder own its.0 pass part other (is.knows pass part at));
      },
      refl,
    )

pub puts_back : (slots own : ℕ) (me : Standing) → IsHolding me
    → Allows IsSeat slots own me 0 (λ _. 0) (λ _. put_back (step slots 0 0 0 none) me 0)
puts_back slots own me held =
    subst (λ (m : Standing). Allows IsSeat slots own m 0 (λ _. 0) (λ _. put_back (step slots 0 0 0 none) m 0)) (sym held.2)
    (puts_back-as slots own held.0 held.1 held.3)

no_owner : (owner : Owner) → owned owner ≡ None → owner ≡ None
no_owner None is = refl
no_owner (Some owner) is = absurd (none-some owner.1 (sym is))

sits_down-as : (slots own : ℕ) (served : Served) → Allows IsSeat slots own (holding None (Some served)) 0 (λ _. 0)
    (λ _. sat_down (step slots 0 0 0 none) (holding None (Some served)) 0)
sits_down-as slots own served s is wide at within =
    let its = is.knows own (Holds None) at in
    let began : Began = record { number = served.number; first = served.dc } in
    let owner : Owner = Some (own, began) in (
      Sits began,
      gives,
      tt,
      record {
        owner = owner;
        holder = None;
        word = ap (λ words. slice_set words 0 0) is.word;
        lies = (
          Some served,
          ap (λ homes. slice_set homes 0 (some (Some served))) (out (owned is.owner) is.holder own s.homes its.0 is.lies),
          (served.dc, refl, not_yet served.number served.dc),
        );
        knows = with_part owner None s.views own (Sits began) refl
            (λ pass part other at. when_sat_down is.owner owner is.holder own (no_owner is.owner its.1) its.0 pass part other (is.knows pass part at));
      },
      (served, refl, refl),
    )

pub sits_down : (slots own : ℕ) (me : Standing) (served : Served) → me ≡ holding None (Some served)
    → Allows IsSeat slots own me 0 (λ _. 0) (λ _. sat_down (step slots 0 0 0 none) me 0)
sits_down slots own me served its =
    subst (λ (m : Standing). Allows IsSeat slots own m 0 (λ _. 0) (λ _. sat_down (step slots 0 0 0 none) m 0)) (sym its) (sits_down-as slots own served)

-- ---- what is in hands

abbrev Hands : Type 0
Hands = List (ℕ × Option Served)

pub in_hands : (hands : Hands) (lying : Option Served) → hands ≡ (0, lying) ∷ [] → (x : Option Served) × (hands ≡ (0, x) ∷ rest hands)
in_hands hands lying is = (lying, is ∙ ap (λ h. (0, lying) ∷ rest h) (sym is))

-- what is found there is what lay there
found_there : (hands : Hands) (lying found : Option Served) → hands ≡ (0, lying) ∷ [] → hands ≡ (0, found) ∷ rest hands → found ≡ lying
found_there hands lying found is has = ap (λ (h : Hands). (get_or h 0 (0, found)).1) (sym has ∙ is)

-- it is the owner's still, behind wires that it performed
goes_on : (began : Option Began) (before after : Option Served) → IsOf began before → GoesOn before after → IsOf began after
goes_on None before after of goes = subst (λ (b : Option Served). GoesOn b after) of goes
goes_on (Some began) before after of goes =
    let now = subst (λ (b : Option Served). GoesOn b after) of.1 goes in
    (now.0, now.1, then_served began.number began.first of.0 now.0 of.2 now.2)

pub still_held : (me : Standing) (there new : Option Served) → IsHolding me → me.1 ≡ (0, there) ∷ rest me.1 → GoesOn there new
    → IsHolding (me.0, (0, new) ∷ rest me.1)
still_held me there new held has goes =
    let same : there ≡ held.1 = found_there me.1 held.1 there (ap (λ (m : Standing). m.1) held.2) has in (
      held.0,
      new,
      ap (λ (m : Standing). (m.0, (0, new) ∷ rest m.1)) held.2,
      goes_on held.0 held.1 new held.3 (subst (λ (b : Option Served). GoesOn b new) same goes),
    )

-- where nothing lies there, nobody is the owner
nobody : (began : Option Began) (lying : Option Served) → IsOf began lying → lying ≡ None → began ≡ None
nobody None lying of is = refl
nobody (Some began) lying of is = absurd (none-some (record { number = began.number; dc = of.0 }) (sym is ∙ of.1))

-- who found nothing there and put a component there may become its owner
pub chosen : (me : Standing) (there new : Option Served) (served : Served) → IsHolding me → me.1 ≡ (0, there) ∷ rest me.1 → there ≡ None → new ≡ Some served
    → ◌≡◌ {A = Standing} (me.0, (0, new) ∷ rest me.1) (holding None (Some served))
chosen me there new served held has empty is =
    let nothing : held.1 ≡ None = sym (found_there me.1 held.1 there (ap (λ (m : Standing). m.1) held.2) has) ∙ empty in
    let none_began : held.0 ≡ None = nobody held.0 held.1 held.3 nothing in
    ap (λ (m : Standing). (m.0, (0, new) ∷ rest m.1)) held.2 ∙ (λ i. holding (none_began i) (is i))
