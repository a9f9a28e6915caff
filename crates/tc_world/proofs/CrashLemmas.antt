-- A look at a world tells exactly whether its transaction component may crash.
use Rattle.std.proofs.Common.{◌≡◌, ℕ, ◌+◌, ◌-◌, ◌≤◌, Bool, true, false, not, ◌&&◌, List, ◌++◌, length, take, drop, arith, refl, sym, ◌∙◌, ap, subst}
use Rattle.std.specs.Prelude.{reverse, nat_le, IsTrue, ◌↔◌}
use Rattle.std.specs.List.{All, list_all}
use Rattle.std.proofs.lemmas.Bool.{leb-true, le-leb, and_parts, and_from}
use Rattle.std.proofs.lemmas.List.{take-append-drop, length-drop}
use Rattle.std.proofs.lemmas.List.Sums.{AllPass-from_list_all, list_all-from_AllPass}
use Rattle.access_slots.specs.declared.op.Wire.{Wire}
use Rattle.access_slots.specs.declared.op.Reply.{Reply}
use Rattle.access_slots.specs.declared.op.News.{News}
use Rattle.tc_log.specs.declared.event.Event.{Event}
use Rattle.verifier.specs.Checked.{Checked}
use Rattle.history.specs.Calls.{admitted}
use Rattle.history.specs.Flight.{given, low_water}
use Rattle.data_component.specs.Performed.{Performed}
use Rattle.data_component.specs.Store.{Store}
use Rattle.transactions.specs.declared.Site.{Site}
use Rattle.transactions.specs.Legal.{Legal}
use Rattle.serial.proofs.BackLemmas.{legal_first}
use Rattle.tc_core.specs.Core.{Asking}
use Rattle.tc_core.specs.Recovery.{first_events}
use Rattle.tc_world.specs.Whole.{Whole}
use Rattle.tc_world.specs.Marks.{IsLow}
use Rattle.tc_world.specs.Waiting.{AreWaiting}
use Rattle.tc_world.specs.Recovery.{IsWrittenFor, IsWrittenAt, Noted, MayCrash}
use Rattle.tc_world.specs.Joining.Written.{given_of, is_left, low_left, is_wire_told, are_told, is_store_told}
use Rattle.tc_world.proofs.ComingBack.{noted_at}
use Rattle.tc_world.specs.Beginning.{admitted_before}
use Rattle.tc_world.proofs.BeginningLemmas.{fewer_since}
use Rattle.history.specs.Anew.{begun as log_begun}
use Rattle.tc_world.proofs.LookingLemmas.{all_reverse, front, back, given_first, left_is, low_is}

-- ---- the log in two

pub later_events : ℕ → List Event → List Event
later_events n h = take (length h - n) h

pub cut_is : (n : ℕ) (h : List Event) → later_events n h ++ first_events n h ≡ h
unfolding later_events
cut_is n h = take-append-drop (length h - n) h

pub first_many : (n : ℕ) (h : List Event) → n ≤ length h → length (first_events n h) ≡ n
first_many n h inside = (let less = length-drop (length h - n) h in omega (arith, less, inside))

-- ---- wires

redo_closed : (redo left : Bool) → not (redo && left) ≡ true → redo ≡ true → left ≡ false
redo_closed true true is redone = absurd (let bad : false ≡ true = is in cc)
redo_closed true false is redone = refl
redo_closed false left is redone = absurd (let bad : false ≡ true = redone in cc)

closed_redo : (redo left : Bool) → (redo ≡ true → left ≡ false) → not (redo && left) ≡ true
closed_redo true left closed = ap not (closed refl)
closed_redo false left closed = refl

module _ (ps : List Checked) (h : List Event) (rs : List Asking) (n : ℕ) (legal : Legal ps h) (w : AreWaiting rs h) where
  abbrev first : List Event
  first = first_events n h

  abbrev later : List Event
  later = later_events n h

  whole : Legal ps (later ++ first)
  whole = subst (Legal ps) (sym (cut_is n h)) legal

  waits : AreWaiting rs (later ++ first)
  waits = subst (AreWaiting rs) (sym (cut_is n h)) w

  pub low_told : low_left (given first) (reverse later) rs ≡ low_water first
  low_told = low_is ps later first rs (legal_first ps later first whole) whole waits

  wire_told : (x : Wire) → is_wire_told (given first) (low_water first) (reverse later) rs x ≡ true → IsWrittenFor first x
  wire_told x is =
      let a = and_parts _ _ is in
      let b = and_parts _ _ a.1 in
      let low : x.number ≤ given first = leb-true x.number (given first) a.0 in
      record {
        number = low;
        mark = leb-true x.low_water (low_water first) b.0;
        redone = λ redone. sym (left_is ps later first rs x.number whole waits low) ∙ redo_closed x.redo (is_left (reverse later) rs x.number) b.1 redone;
      }

  told_wire : (x : Wire) → IsWrittenFor first x → is_wire_told (given first) (low_water first) (reverse later) rs x ≡ true
  told_wire x is =
      and_from _ _ (le-leb x.number (given first) is.number)
      (and_from _ _ (le-leb x.low_water (low_water first) is.mark)
      (closed_redo x.redo (is_left (reverse later) rs x.number) (λ redone. left_is ps later first rs x.number whole waits is.number ∙ is.redone redone)))

  pub wires_told : (xs : List Wire) → list_all (is_wire_told (given first) (low_water first) (reverse later) rs) xs ≡ true → All (IsWrittenFor first) xs
  wires_told xs is k x inside = wire_told _ (AllPass-from_list_all (is_wire_told (given first) (low_water first) (reverse later) rs) xs is k x inside)

  pub told_wires : (xs : List Wire) → All (IsWrittenFor first) xs → list_all (is_wire_told (given first) (low_water first) (reverse later) rs) xs ≡ true
  told_wires xs all = list_all-from_AllPass (is_wire_told (given first) (low_water first) (reverse later) rs) xs (λ k x inside. told_wire _ (all k x inside))

-- ---- data components

list_told : (top : ℕ) (list : List Performed) → are_told top (reverse list) ≡ true → All (λ (e : Performed). e.0 ≤ top) list
list_told top list is k e inside =
    leb-true _ top (AllPass-from_list_all (λ (x : Performed). nat_le x.0 top) list (sym (all_reverse (λ (x : Performed). nat_le x.0 top) list) ∙ is) k e inside)

told_list : (top : ℕ) (list : List Performed) → All (λ (e : Performed). e.0 ≤ top) list → are_told top (reverse list) ≡ true
told_list top list all =
    all_reverse (λ (x : Performed). nat_le x.0 top) list
    ∙ list_all-from_AllPass (λ (x : Performed). nat_le x.0 top) list (λ k e inside. le-leb _ top (all k e inside))

store_told : (first : List Event) (s : Store) → is_store_told (given first) (low_water first) s ≡ true → IsWrittenAt first s
store_told first s is =
    let a = and_parts _ _ is in
    let b = and_parts _ _ a.1 in
    let c = and_parts _ _ b.1 in
    record {
      list = list_told (given first) s.list c.0;
      saved = list_told (given first) s.saved c.1;
      mark = leb-true s.mark (low_water first) a.0;
      saved_mark = leb-true s.saved_mark (low_water first) b.0;
    }

told_store : (first : List Event) (s : Store) → IsWrittenAt first s → is_store_told (given first) (low_water first) s ≡ true
told_store first s is =
    and_from _ _ (le-leb s.mark (low_water first) is.mark)
    (and_from _ _ (le-leb s.saved_mark (low_water first) is.saved_mark)
    (and_from _ _ (told_list (given first) s.list is.list) (told_list (given first) s.saved is.saved)))

pub stores_told : (first : List Event) (dcs : List Store) → list_all (is_store_told (given first) (low_water first)) dcs ≡ true → All (IsWrittenAt first) dcs
stores_told first dcs is k s inside = store_told first _ (AllPass-from_list_all (is_store_told (given first) (low_water first)) dcs is k s inside)

pub told_stores : (first : List Event) (dcs : List Store) → All (IsWrittenAt first) dcs → list_all (is_store_told (given first) (low_water first)) dcs ≡ true
told_stores first dcs all = list_all-from_AllPass (is_store_told (given first) (low_water first)) dcs (λ k s inside. told_store first _ (all k s inside))

-- ---- all of it

pub may_crash : (w : Whole) (n : ℕ) → n ≤ length w.core.events → All (IsWrittenFor (first_events n w.core.events)) w.copies
    → All (λ (x : Reply). x.number ≤ given (first_events n w.core.events)) w.replies → All (IsWrittenAt (first_events n w.core.events)) w.dcs
    → All (λ (x : ℕ × News). x.1.mark ≤ low_water (first_events n w.core.events)) w.news
    → All (λ (t : Site). IsLow (low_water (first_events n w.core.events)) t.redo) w.core.sites → MayCrash n w
may_crash w n inside copies replies stores news redo = record {
  inside = inside;
  written = record {
    begins = record { later = later_events n w.core.events; is = sym (cut_is n w.core.events) };
    sites = λ d. Noted (noted_at w.core.sites d);
    copies = copies;
    replies = replies;
    stores = stores;
    news = news;
    redo = redo;
  };
}

-- ---- one test after another

pub both_so : (v b : Bool) (A B : Type 0) → v ≡ b → A → (IsTrue b ↔ B) → IsTrue v ↔ (A × B)
both_so v b A B is a tells = (λ all. (a, tells.0 (sym is ∙ all)), λ all. is ∙ tells.1 all.1)

pub not_so : (v : Bool) (A B : Type 0) → v ≡ false → (A → ⊥) → IsTrue v ↔ (A × B)
not_so v A B is lacks = (λ all. absurd (let bad : false ≡ true = sym is ∙ all in cc), λ all. absurd (lacks all.0))

pub lacking : (b : Bool) (A : Type 0) → (IsTrue b ↔ A) → b ≡ false → A → ⊥
lacking b A tells is a = (let bad : false ≡ true = sym is ∙ tells.1 a in cc)

-- what a look compares with, as the log's first events have it
pub record Looks (w : Whole) (n : ℕ) (rs : List Asking) (given' low' : ℕ) (es : List Event) : Type 0 where
  pub legal : Legal w.core.procs w.core.events
  pub waits : AreWaiting rs w.core.events
  pub inside : n ≤ length w.core.events
  pub given : given' ≡ given (first_events n w.core.events)
  pub low : low' ≡ low_water (first_events n w.core.events)
  pub later : es ≡ reverse (later_events n w.core.events)

pub looks : (w : Whole) (n : ℕ) (rs : List Asking) (given' low : ℕ) (first' es : List Event) → Legal w.core.procs w.core.events → AreWaiting rs w.core.events
    → n ≤ length w.core.events → first' ≡ take n (reverse w.core.events) → es ≡ drop n (reverse w.core.events)
    → given' ≡ given_of (log_begun w.core.events) first'
    → low ≡ low_left given' es rs → Looks w n rs given' low es
looks w n rs given' low first' es legal waits inside front_is back_is given_by low_by = record {
  legal = legal;
  waits = waits;
  inside = inside;
  given = given_now;
  low = low_by ∙ (ap (λ (k : ℕ). low_left k es rs) given_now
      ∙ (ap (λ (xs : List Event). low_left (given (first_events n h)) xs rs) later_now
      ∙ low_told w.core.procs h rs n legal waits));
  later = later_now;
}
  where
    h : List Event
    h = w.core.events

    given_now : given' ≡ given (first_events n h)
    given_now =
        given_by
        ∙ (ap (given_of (log_begun h)) (front_is ∙ (ap (λ (x : List Event). take n (reverse x)) (sym (cut_is n h))
        ∙ front (later_events n h) (first_events n h) n (first_many n h inside)))
        ∙ (ap (λ (x : List Event). given_of (log_begun x) (reverse (first_events n h))) (sym (cut_is n h))
        ∙ given_first w.core.procs (later_events n h) (first_events n h)
        (subst (Legal w.core.procs) (sym (cut_is n h)) legal)))

    later_now : es ≡ reverse (later_events n h)
    later_now = back_is ∙ (ap (λ (x : List Event). drop n (reverse x)) (sym (cut_is n h))
        ∙ back (later_events n h) (first_events n h) n (first_many n h inside))

module _ (w : Whole) (n : ℕ) (rs : List Asking) (given' low : ℕ) (es : List Event) (x : Looks w n rs given' low es) where
  abbrev begun : List Event
  begun = first_events n w.core.events

  pub copies_so : (b : Bool) → b ≡ list_all (is_wire_told given' low es rs) w.copies → IsTrue b ↔ All (IsWrittenFor begun) w.copies
  copies_so b is = (
    λ all. wires_told w.core.procs w.core.events rs n x.legal x.waits w.copies (sym now ∙ all),
    λ all. now ∙ told_wires w.core.procs w.core.events rs n x.legal x.waits w.copies all,
  )
    where
      now : b ≡ list_all (is_wire_told (given begun) (low_water begun) (reverse (later_events n w.core.events)) rs) w.copies
      now =
          is
          ∙ (ap (λ (k : ℕ). list_all (is_wire_told k low es rs) w.copies) x.given
          ∙ (ap (λ (k : ℕ). list_all (is_wire_told (given begun) k es rs) w.copies) x.low
          ∙ ap (λ (xs : List Event). list_all (is_wire_told (given begun) (low_water begun) xs rs) w.copies) x.later))

  pub replies_so : (b : Bool) → (IsTrue b ↔ All (λ (y : Reply). y.number ≤ given') w.replies) → IsTrue b ↔ All (λ (y : Reply). y.number ≤ given begun) w.replies
  replies_so b is = subst (λ (k : ℕ). IsTrue b ↔ All (λ (y : Reply). y.number ≤ k) w.replies) x.given is

  pub stores_so : (b : Bool) → b ≡ list_all (is_store_told given' low) w.dcs → IsTrue b ↔ All (IsWrittenAt begun) w.dcs
  stores_so b is = (λ all. stores_told begun w.dcs (sym now ∙ all), λ all. now ∙ told_stores begun w.dcs all)
    where
      now : b ≡ list_all (is_store_told (given begun) (low_water begun)) w.dcs
      now = is ∙ (ap (λ (k : ℕ). list_all (is_store_told k low) w.dcs) x.given ∙ ap (λ (k : ℕ). list_all (is_store_told (given begun) k) w.dcs) x.low)

  pub news_so : (b : Bool) → (IsTrue b ↔ All (λ (y : ℕ × News). y.1.mark ≤ low) w.news) → IsTrue b ↔ All (λ (y : ℕ × News). y.1.mark ≤ low_water begun) w.news
  news_so b is = subst (λ (k : ℕ). IsTrue b ↔ All (λ (y : ℕ × News). y.1.mark ≤ k) w.news) x.low is

  pub sites_so : (b : Bool) → (IsTrue b ↔ All (λ (t : Site). IsLow low t.redo) w.core.sites)
      → IsTrue b ↔ All (λ (t : Site). IsLow (low_water begun) t.redo) w.core.sites
  sites_so b is = subst (λ (k : ℕ). IsTrue b ↔ All (λ (t : Site). IsLow k t.redo) w.core.sites) x.low is

-- ---- requests made again

-- the log's first events admitted no more since it began
pub fewer_admitted : (ps : List Checked) (n : ℕ) (h : List Event) → Legal ps h
    → admitted (first_events n h) + admitted_before h ≤ admitted h + admitted_before (first_events n h)
fewer_admitted ps n h legal =
    subst (λ (x : List Event). admitted (first_events n h) + admitted_before x ≤ admitted x + admitted_before (first_events n h)) (cut_is n h)
    (fewer_since ps (later_events n h) (first_events n h) (subst (Legal ps) (sym (cut_is n h)) legal))
