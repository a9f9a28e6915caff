-- A world whose transaction component comes back from what was written: its marks are low, and its lists stand beside the log.
use Rattle.std.proofs.Common.{◌≡◌, ◌⊎◌, ℕ, zero, suc, ◌≤◌, ◌<◌, true, false, List, [], ◌∷◌, ◌++◌, ◌+◌, length, take}
use Rattle.std.proofs.Common.{map, Option, Some, None, arith, refl, sym, ◌∙◌, ap, subst, inl, inr, ◌==◌, if◌then◌else◌}
use Rattle.std.specs.Prelude.{slice_get, slice_index_or}
use Rattle.std.specs.List.{All}
use Rattle.std.proofs.lemmas.Bool.{cases_eq, cases_lt, cond-true, cond-false}
use Rattle.std.proofs.lemmas.List.{take_more, map-append}
use Rattle.access_slots.specs.declared.op.Wire.{Wire}
use Rattle.access_slots.specs.declared.op.Reply.{Reply}
use Rattle.tc_log.specs.declared.event.Event.{Event}
use Rattle.history.specs.Flight.{Flight, open_op, is_flight, given, low_water}
use Rattle.data_component.specs.Performed.{Performed}
use Rattle.history.specs.Anew.{begun}
use Rattle.tc_world.proofs.Bases.{begun_first, begun_either}
use Rattle.data_component.specs.Store.{Store}
use Rattle.transactions.specs.declared.Redoing.{Redoing}
use Rattle.transactions.specs.declared.Site.{Site}
use Rattle.transactions.specs.InFlight.{site_at, site_by, untold}
use Rattle.transactions.specs.Reached.{AllGood}
use Rattle.transactions.specs.Legal.{Legal}
use Rattle.transactions.proofs.StandingLemmas.{some_same, none_some, eq-true, eq-false}
use Rattle.serial.specs.Serial.{done, HonestFrom}
use Rattle.serial.specs.Lists.{logged, dc_of}
use Rattle.serial.specs.Joining.Site.{Over}
use Rattle.serial.proofs.RedoneLemmas.{over_low}
use Rattle.serial.proofs.BackLemmas.{Earlier, earlier, legal_first, honest_first}
use Rattle.serial.proofs.BackSites.{IsBegun, IsNotedOf, RestsOn, IsUpTo, ok_back}
use Rattle.tc_core.specs.declared.recovery.SiteNote.{SiteNote}
use Rattle.tc_core.specs.declared.recovery.SiteNote.TheVariants.{Untold, Up}
use Rattle.tc_core.specs.Recovery.{site_noted}
use Rattle.tc_core.proofs.KeptLemmas.{slice_get-index, slice_get-short}
use Rattle.tc_world.specs.Whole.{Whole}
use Rattle.tc_world.specs.Marks.{IsLow, AreMarksLow}
use Rattle.tc_world.specs.Recovery.{IsWrittenFor, IsWrittenAt, IsNotYetUp, IsNoted, Noted, NotYetUp}
use Rattle.tc_world.specs.Recovery.{IsWritten, begun_anew, anew, come_back, note_by, note_of, notes_of}
use Rattle.tc_world.specs.Joining.Listed.{BeginsBehind, EachBeginsBehind, ArePast, above, wires_since, replies_since, IsListed}
use Rattle.serial.specs.Joining.Sites.{CopyOk, ReplyOk, AreOk}
use Rattle.tc_world.proofs.Passing.{above_in, above_from}

pub all_at : {X : Type 0} (P : X → Type 0) (xs : List X) (k : ℕ) (x : X) → slice_get xs k ≡ Some x → All P xs → P x
all_at P xs k x at all = subst P (slice_get-index xs k x x at) (all k x (slice_get-short xs k x at))

-- ---- what was noted of data components

pub read_in : {X : Type 0} (xs : List X) (k : ℕ) (x : X) → k < length xs → slice_get xs k ≡ Some (slice_index_or xs k x)
read_in [] k x inside = absurd (omega (arith, inside))
read_in (y ∷ xs) zero x inside = refl
read_in (y ∷ xs) (suc k) x inside = read_in xs k x (omega (arith, inside))

-- what holds of all holds of those with later numbers
pub all_above : {X : Type 0} (number : X → ℕ) (n : ℕ) (P : X → Type 0) (xs : List X) → All P xs → All P (above number n xs)
all_above number n P xs all k x inside =
    let is = above_from number n xs k _ (read_in (above number n xs) k x inside) in
    all_at P xs is.place _ is.at all

-- what holds of those with numbers above a holds of those with numbers above b, where none lies between
fewer : {X : Type 0} (number : X → ℕ) (a b : ℕ) (P : X → Type 0) (xs : List X)
    → ((k : ℕ) (x : X) → slice_get xs k ≡ Some x → number x ≤ a → number x ≤ b) → All P (above number a xs) → All P (above number b xs)
fewer number a b P xs none all k x inside =
    let is = above_from number b xs k _ (read_in (above number b xs) k x inside) in
    let over = is.above in
    let up : a < number (slice_index_or (above number b xs) k x) = elim (cases_lt a (number (slice_index_or (above number b xs) k x))) [
      | inl more ↦ more
      | inr old ↦ (let low = none is.place _ is.at old in absurd (omega (arith, low, over)))
    ] in
    let here = above_in number a xs is.place _ is.at up in
    all_at P (above number a xs) here.0 _ here.1 all

begun_none : (r : Option Redoing) → begun_anew r ≡ None → r ≡ None
begun_none None is = refl
begun_none (Some r) is = absurd (none_some _ (let x : Redoing = record { mark = r.mark; redone = r.mark } in x) is refl)

-- its redo begins anew, above its mark
begun_at : (low d : ℕ) (dcs : List Store) (t : Site) (o : Option Redoing) (r' : Redoing) → t.redo ≡ o → IsLow low o
    → begun_anew o ≡ Some r' → IsBegun low d dcs t r'
begun_at low d dcs t None r' here is_low is = absurd (none_some _ r' refl is)
begun_at low d dcs t (Some r) r' here is_low is =
    let at : Redoing = record { mark = r.mark; redone = r.mark } in
    subst (IsBegun low d dcs t) (some_same at r' is) (record {
      anew = refl;
      low = is_low;
      stands = λ q down. ap (λ (z : Redoing). z.mark) (some_same r q (sym here ∙ down));
      there = λ up. absurd (none_some _ r up here);
    })

anew_is : (low d : ℕ) (w : Whole) (t : Site) → IsLow low t.redo → IsNotedOf low d w.dcs w.copies t (anew t)
anew_is low d w t is_low = record {
  same = refl;
  up = λ is. begun_none t.redo is;
  down = λ r' is. begun_at low d w.dcs t t.redo r' refl is_low is;
  ordinary = λ k x inside dc now ordinary up. ap begun_anew up;
}

-- that its redo is over wasn't noted yet
not_yet : (low d : ℕ) (w : Whole) (t t' : Site) → IsNotYetUp low w d t t' → IsNotedOf low d w.dcs w.copies t t'
not_yet low d w t t' x = record {
  same = ap (λ (z : Site). z.incarnation) x.noted;
  up = λ is. absurd (none_some _ at is redo);
  down = λ r' is. subst (IsBegun low d w.dcs t) (some_same at r' (sym redo ∙ is)) (record {
    anew = refl;
    low = x.low;
    stands = λ r down. absurd (none_some _ r x.up down);
    there = λ up. x.there;
  });
  ordinary = λ k y inside dc now ordinary up. absurd (let again = x.again k y inside dc now in let bad : true ≡ false = sym again ∙ ordinary in cc);
}
  where
    at : Redoing
    at = record { mark = x.mark; redone = x.mark }

    redo : t'.redo ≡ Some at
    redo = ap (λ (z : Site). z.redo) x.noted

noted_of : (low d : ℕ) (w : Whole) (t t' : Site) → IsLow low t.redo → IsNoted low w d t t' → IsNotedOf low d w.dcs w.copies t t'
noted_of low d w t t' is_low (Noted is) = subst (IsNotedOf low d w.dcs w.copies t) (sym is) (anew_is low d w t is_low)
noted_of low d w t t' is_low (NotYetUp x) = not_yet low d w t t' x

pub low_by : (low : ℕ) (sites : List Site) (d : ℕ) (o : Option Site) → slice_get sites d ≡ o
    → All (λ (t : Site). IsLow low t.redo) sites → IsLow low (site_by o).redo
low_by low sites d None at all = tt
low_by low sites d (Some t) at all = all_at (λ (x : Site). IsLow low x.redo) sites d t at all

low_begun : (low : ℕ) (o : Option Redoing) → IsLow low o → IsLow low (begun_anew o)
low_begun low None is = tt
low_begun low (Some r) is = is

-- ---- what was written

not_flying : (o : Option Flight) → is_flight o ≡ false → o ≡ None
not_flying None is = refl
not_flying (Some f) is = absurd (let bad : true ≡ false = is in cc)

rests : (first : List Event) (x : Wire) → IsWrittenFor first x → RestsOn (open_op first) (given first) (low_water first) x
rests first x is = (is.number, is.mark, λ again. not_flying (open_op first x.number) (is.redone again))

up_to_it : (first : List Event) (s : Store) → IsWrittenAt first s → IsUpTo (given first) (low_water first) s
up_to_it first s is = record { list = λ k e at. all_at (λ (x : Performed). x.0 ≤ given first) s.list k e at is.list; mark = is.mark; saved = is.saved_mark }

-- ---- it comes back

pub come_back_legal : (w : Whole) (first : List Event) (notes : List SiteNote) → Legal w.core.procs w.core.events
    → IsWritten first notes w → Legal w.core.procs first
come_back_legal w first notes legal written = legal_first w.core.procs written.begins.later first (subst (Legal w.core.procs) written.begins.is legal)

-- the marks of redo that was noted are low
noted_low : (low d : ℕ) (w : Whole) (t t' : Site) → IsLow low t.redo → IsNoted low w d t t' → IsLow low t'.redo
noted_low low d w t t' is_low (Noted is) = subst (λ (z : Site). IsLow low z.redo) (sym is) (low_begun low t.redo is_low)
noted_low low d w t t' is_low (NotYetUp x) = subst (λ (z : Site). IsLow low z.redo) (sym x.noted) x.low

pub all_sites : (P : Site → Type 0) (sites : List Site) → ((d : ℕ) → P (site_at sites d)) → All P sites
all_sites P sites each k x inside = subst P (ap site_by (read_in sites k x inside)) (each k)

pub sites_low : (w : Whole) (first : List Event) (notes : List SiteNote) → IsWritten first notes w
    → All (λ (t : Site). IsLow (low_water first) t.redo) (map site_noted notes)
sites_low w first notes written =
    all_sites (λ (t : Site). IsLow (low_water first) t.redo) (map site_noted notes) (λ d.
    noted_low (low_water first) d w (site_at w.core.sites d) (site_at (map site_noted notes) d)
    (low_by (low_water first) w.core.sites d (slice_get w.core.sites d) refl written.redo) (written.sites d))

pub come_back_low : (w : Whole) (first : List Event) (notes : List SiteNote) → IsWritten first notes w → AreMarksLow (come_back first notes w)
come_back_low w first notes written = record {
  copies = λ k x inside. (written.copies k x inside).mark;
  dcs = λ k s inside. (written.stores k s inside).mark;
  saved = λ k s inside. (written.stores k s inside).saved_mark;
  news = written.news;
  redo = sites_low w first notes written;
}

pub come_back_listed : (w : Whole) (first : List Event) (notes : List SiteNote) → AllGood w.core.procs → Legal w.core.procs w.core.events
    → IsWritten first notes w → IsListed w → IsListed (come_back first notes w)
come_back_listed w first notes good legal written s =
    record {
      base = s.base;
      based = s.based;
      behind = behind;
      past = past_back;
      honest = honest_first s.base written.begins.later first (subst (HonestFrom s.base) written.begins.is s.honest);
      ok = since_back (ok_back s.base (logged w.core.events) (open_op w.core.events) (done w.core.events)
          (given w.core.events) (logged first) (open_op first) (done first) (given first) (low_water first)
          w.core.sites (map site_noted notes) w.dcs (wires_since w) (replies_since w) w.news before over (λ d. noted_since d (noted d))
          (λ d y at. up_to_it first y (all_at (IsWrittenAt first) w.dcs d y at written.stores))
          (λ k x inside. rests first _ (all_above (λ (y : Wire). y.number) (begun w.core.events) (IsWrittenFor first) w.copies written.copies k x inside))
          (all_above (λ (y : Reply). y.number) (begun w.core.events) (λ (y : Reply). y.number ≤ given first) w.replies written.replies)
          written.news s.ok);
    }
  where
    either : (begun w.core.events ≡ begun first) ⊎ (first ≡ [])
    either = elim (begun_either w.core.procs written.begins.later first (subst (Legal w.core.procs) written.begins.is legal)) [
      | inl same ↦ inl (ap begun written.begins.is ∙ same)
      | inr none ↦ inr none
    ]

    -- what was written, and is from before the whole log began, is from before this one did
    older : (n : ℕ) → n ≤ given first → n ≤ begun w.core.events → n ≤ begun first
    older n few old = elim either [
      | inl same ↦ omega (arith, old, same)
      | inr none ↦ (let zero : given first ≡ 0 = ap given none in omega (arith, few, zero))
    ]

    past_back : ArePast (begun first) w.copies
    past_back k x at old = elim either [
      | inl same ↦ (let few = s.past k x at (omega (arith, old, same)) in omega (arith, few, same))
      | inr none ↦
          let few = (all_at (IsWrittenFor first) w.copies k x at written.copies).mark in
          let zero : low_water first ≡ 0 = ap low_water none in
          omega (arith, few, zero)
    ]

    since_back : AreOk s.base (logged first) (open_op first) (done first) (given first) (map site_noted notes) w.dcs (wires_since w) (replies_since w) w.news
        → AreOk s.base (logged first) (open_op first) (done first) (given first) (map site_noted notes) w.dcs
        (wires_since (come_back first notes w)) (replies_since (come_back first notes w)) w.news
    since_back k = record {
      v = k.v;
      copies = fewer (λ (x : Wire). x.number) (begun w.core.events) (begun first)
          (CopyOk s.base (logged first) (open_op first) (done first) (given first) (map site_noted notes) w.dcs k.v) w.copies
          (λ i x at old. older x.number (all_at (IsWrittenFor first) w.copies i x at written.copies).number old) k.copies;
      replies = fewer (λ (x : Reply). x.number) (begun w.core.events) (begun first)
          (ReplyOk (logged first) (map site_noted notes) w.dcs k.v) w.replies
          (λ i x at old. older x.number (all_at (λ (y : Reply). y.number ≤ given first) w.replies i x at written.replies) old) k.replies;
      news = k.news;
      stores = k.stores;
      said = k.said;
      there = k.there;
    }

    noted_since : (d : ℕ) → IsNotedOf (low_water first) d w.dcs w.copies (site_at w.core.sites d) (site_at (map site_noted notes) d)
        → IsNotedOf (low_water first) d w.dcs (wires_since w) (site_at w.core.sites d) (site_at (map site_noted notes) d)
    noted_since d is = record {
      same = is.same;
      up = is.up;
      down = is.down;
      ordinary = all_above (λ (y : Wire). y.number) (begun w.core.events)
          (λ (x : Wire). dc_of x.op ≡ d → x.incarnation ≡ (site_at w.core.sites d).incarnation → x.redo ≡ false → (site_at w.core.sites d).redo ≡ None
          → (site_at (map site_noted notes) d).redo ≡ None) w.copies is.ordinary;
    }

    -- each mark is at or under that of what was written, so that this has the Checkpoint, if there is one
    behind : EachBeginsBehind (begun first) w.dcs
    behind d x at =
        let is = s.behind d x at in
        let there : x.mark ≤ low_water first = (all_at (IsWrittenAt first) w.dcs d x at written.stores).mark in
        let above : begun w.core.events ≤ x.mark = is.mark in
        let whole : begun w.core.events ≡ begun (written.begins.later ++ first) = ap begun written.begins.is in
        let same : begun (written.begins.later ++ first) ≡ begun first =
        begun_first w.core.procs written.begins.later first (subst (Legal w.core.procs) written.begins.is legal) (omega (arith, there, above, whole)) in
        subst (λ (n : ℕ). BeginsBehind n x) (whole ∙ same) is

    before : Earlier s.base (logged w.core.events) (open_op w.core.events) (done w.core.events) (given w.core.events)
        (logged first) (open_op first) (done first) (given first)
    before =
        subst (λ (h : List Event). Earlier s.base (logged h) (open_op h) (done h) (given h) (logged first)
        (open_op first) (done first) (given first)) (sym written.begins.is)
        (earlier w.core.procs s.base written.begins.later first good
        (subst (Legal w.core.procs) written.begins.is legal) (subst (HonestFrom s.base) written.begins.is s.honest))

    over : Over (open_op first) (given first) (low_water first)
    over = over_low w.core.procs first (come_back_legal w first notes legal written)

    noted : (d : ℕ) → IsNotedOf (low_water first) d w.dcs w.copies (site_at w.core.sites d) (site_at (map site_noted notes) d)
    noted d = noted_of (low_water first) d w _ _ (low_by (low_water first) w.core.sites d (slice_get w.core.sites d) refl written.redo) (written.sites d)

-- ---- notes of all that is known

noted_up : (n : ℕ) → site_noted (if n == 0 then Untold else Up n) ≡ record { incarnation = n; redo = None }
noted_up n = elim (cases_eq n 0) [
  | inl same ↦
      ap site_noted (cond-true _ Untold (Up n) (eq-true n 0 same))
      ∙ ap (λ (k : ℕ). let t : Site = record { incarnation = k; redo = None } in t) (sym same)
  | inr other ↦ ap site_noted (cond-false _ Untold (Up n) (eq-false n 0 other))
]

noted_by : (n : ℕ) (r : Option Redoing) → site_noted (note_by n r) ≡ record { incarnation = n; redo = begun_anew r }
noted_by n None = noted_up n
noted_by n (Some r) = refl

pub noted_at : (sites : List Site) (d : ℕ) → site_at (map site_noted (map note_of sites)) d ≡ anew (site_at sites d)
noted_at [] d = refl
noted_at (t ∷ sites) zero = noted_by t.incarnation t.redo
noted_at (t ∷ sites) (suc d) = noted_at sites d

pub noted_more : (sites : List Site) (d : ℕ) → d < length sites
    → map note_of (take (d + 1) sites) ≡ map note_of (take d sites) ++ note_of (site_at sites d) ∷ []
noted_more sites d inside =
    ap (map note_of) (take_more sites d untold inside)
    ∙ (map-append note_of (take d sites) (slice_index_or sites d untold ∷ [])
    ∙ ap (λ (t : Site). map note_of (take d sites) ++ note_of t ∷ []) (sym (ap site_by (read_in sites d untold inside))))

-- they have low marks where what is known has
pub notes_low : (low : ℕ) (w : Whole) → All (λ (t : Site). IsLow low t.redo) w.core.sites → All (λ (t : Site). IsLow low t.redo) (map site_noted (notes_of w))
notes_low low w all =
    all_sites (λ (t : Site). IsLow low t.redo) (map site_noted (notes_of w)) (λ d.
    subst (λ (t : Site). IsLow low t.redo) (sym (noted_at w.core.sites d))
    (low_begun low (site_at w.core.sites d).redo (low_by low w.core.sites d (slice_get w.core.sites d) refl all)))
