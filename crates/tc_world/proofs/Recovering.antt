-- A world whose messages are lost, or whose data components die with its transaction component, is a world again.
use Rattle.std.proofs.Common.{◌≡◌, ℕ, zero, suc, ◌≤◌, List, [], ◌∷◌, map, Option, Some, None, arith, refl, sym, ◌∙◌, ap, subst}
use Rattle.std.specs.Prelude.{slice_get}
use Rattle.std.specs.List.{All}
use Rattle.access_slots.specs.declared.op.Wire.{Wire}
use Rattle.access_slots.specs.declared.op.Reply.{Reply}
use Rattle.access_slots.specs.declared.op.News.{News}
use Rattle.tc_log.specs.declared.event.Event.{Event}
use Rattle.history.specs.Flight.{open_op, given, low_water}
use Rattle.history.specs.Anew.{begun}
use Rattle.access_slots.specs.declared.slot.Record.{Record}
use Rattle.access_slots.specs.declared.op.Op.{Op}
use Rattle.access_slots.specs.declared.op.Said.{Said}
use Rattle.data_component.specs.Performed.{said_under}
use Rattle.data_component.specs.Sorted.{row_of}
use Rattle.serial.specs.Values.{Table}
use Rattle.tc_world.proofs.Bases.{begun_low}
use Rattle.data_component.specs.Store.{Store, news_of}
use Rattle.transactions.specs.declared.Redoing.{Redoing}
use Rattle.transactions.specs.declared.Site.{Site}
use Rattle.transactions.specs.InFlight.{site_at}
use Rattle.transactions.specs.Reached.{AllGood}
use Rattle.transactions.specs.Legal.{Legal}
use Rattle.transactions.proofs.StandingLemmas.{some_same, none_some}
use Rattle.serial.specs.Serial.{done, HonestFrom}
use Rattle.serial.specs.Audit.{base_in, base_of}
use Rattle.history.specs.Places.{Begins}
use Rattle.serial.specs.Lists.{logged, dc_of}
use Rattle.serial.specs.Joining.Site.{Over, SiteOk}
use Rattle.serial.specs.Joining.Sites.{ReplyOk, NewsOk}
use Rattle.serial.proofs.RedoneLemmas.{over_low}
use Rattle.serial.proofs.BackLemmas.{Earlier, earlier, legal_first, honest_first, logged_above}
use Rattle.serial.proofs.BackSites.{over_less, site_new}
use Rattle.tc_core.specs.declared.recovery.SiteNote.TheVariants.{Restarted}
use Rattle.tc_core.specs.Recovery.{site_noted}
use Rattle.tc_world.specs.Whole.{Whole}
use Rattle.tc_world.specs.Marks.{IsLow, AreMarksLow}
use Rattle.tc_world.specs.Recovery.{IsNew, StandFor, start_over}
use Rattle.tc_world.specs.Lives.{AreAmong, left_with}
use Rattle.tc_world.specs.Joining.Listed.{IsListed, above, wires_since, replies_since}
use Rattle.tc_world.proofs.Passing.{above_in, above_from}
use Rattle.tc_world.proofs.Listed.{IsCopy}
use Rattle.tc_world.proofs.ComingBack.{all_at, read_in, all_sites}
use Rattle.tc_world.proofs.CutLemmas.{as_many}

-- ---- messages that are lost

pub among_all : {X : Type 0} (P : X → Type 0) (xs ys : List X) → AreAmong xs ys → All P ys → All P xs
among_all P xs ys are all k x inside = (let j = are k _ (read_in xs k x inside) in all_at P ys j.0 _ j.1 all)

-- those with later numbers are among the others' with later numbers
above_among : {X : Type 0} (number : X → ℕ) (n : ℕ) (xs ys : List X) → AreAmong xs ys → AreAmong (above number n xs) (above number n ys)
above_among number n xs ys are k x at =
    let is = above_from number n xs k x at in
    let j = are is.place x is.at in
    above_in number n ys j.0 x j.1 is.above

pub lost_low : (w : Whole) (xs : List Wire) (rs : List Reply) (ns : List (ℕ × News)) → AreAmong xs w.copies
    → AreAmong ns w.news → AreMarksLow w → AreMarksLow (left_with xs rs ns w)
lost_low w xs rs ns wires news low = record {
  copies = among_all (λ (x : Wire). x.low_water ≤ low_water w.core.events) xs w.copies wires low.copies;
  dcs = low.dcs;
  saved = low.saved;
  news = among_all (λ (x : ℕ × News). x.1.mark ≤ low_water w.core.events) ns w.news news low.news;
  redo = low.redo;
}

pub lost_listed : (w : Whole) (xs : List Wire) (rs : List Reply) (ns : List (ℕ × News)) → AreAmong xs w.copies
    → AreAmong rs w.replies → AreAmong ns w.news → IsListed w → IsListed (left_with xs rs ns w)
lost_listed w xs rs ns wires replies news s = record {
  honest = s.honest;
  base = s.base;
  based = s.based;
  behind = s.behind;
  past = λ k x at. (let is = wires k x at in s.past is.0 x is.1);
  ok = record {
    v = s.ok.v;
    copies = among_all (IsCopy s.base w s.ok.v) (wires_since (left_with xs rs ns w)) (wires_since w)
        (above_among (λ (x : Wire). x.number) (begun w.core.events) xs w.copies wires) s.ok.copies;
    replies = among_all (ReplyOk (logged w.core.events) w.core.sites w.dcs s.ok.v) (replies_since (left_with xs rs ns w)) (replies_since w)
        (above_among (λ (x : Reply). x.number) (begun w.core.events) rs w.replies replies) s.ok.replies;
    news = among_all (NewsOk s.base (logged w.core.events) (open_op w.core.events) (done w.core.events)
        (given w.core.events) w.core.sites w.dcs) ns w.news news s.ok.news;
    stores = s.ok.stores;
    said = s.ok.said;
    there = s.ok.there;
  };
}

-- ---- new data components in place of those that died

abbrev new_site : Store → Site
new_site s = record { incarnation = s.incarnation; redo = Some (record { mark = s.mark; redone = s.mark }) }

-- what is known of each is that it has restarted
new_at : (dcs : List Store) (d : ℕ) (s : Store) → slice_get dcs d ≡ Some s
    → site_at (map site_noted (map (λ (x : Store). Restarted (news_of x)) dcs)) d ≡ new_site s
new_at [] d s at = absurd (none_some _ s refl at)
new_at (x ∷ dcs) zero s at = ap new_site (some_same x s at)
new_at (x ∷ dcs) (suc d) s at = new_at dcs d s at

none_at : (dcs : List Store) (d : ℕ) → slice_get dcs d ≡ None → (site_at (map site_noted (map (λ (x : Store). Restarted (news_of x)) dcs)) d).redo ≡ None
none_at [] d at = refl
none_at (x ∷ dcs) zero at = absurd (none_some _ x at refl)
none_at (x ∷ dcs) (suc d) at = none_at dcs d at

pub start_over_low : (w : Whole) (first : List Event) (dcs : List Store) → Legal w.core.procs first
    → All (IsNew first) dcs → AreMarksLow (start_over first dcs w)
start_over_low w first dcs legal new = record {
  copies = λ k x inside. absurd (omega (arith, inside));
  dcs = λ k s inside. (let is = (new k s inside).mark in omega (arith, is, low));
  saved = λ k s inside. (let is = (new k s inside).saved_mark in omega (arith, is, low));
  news = λ k x inside. absurd (omega (arith, inside));
  redo = all_sites (λ (t : Site). IsLow (low_water first) t.redo)
      (map site_noted (map (λ (x : Store). Restarted (news_of x)) dcs)) (λ d. by d (slice_get dcs d) refl);
}
  where
    low : begun first ≤ low_water first
    low = begun_low w.core.procs first legal

    by : (d : ℕ) (o : Option Store) → slice_get dcs d ≡ o
        → IsLow (low_water first) (site_at (map site_noted (map (λ (x : Store). Restarted (news_of x)) dcs)) d).redo
    by d None at = subst (IsLow (low_water first)) (sym (none_at dcs d at)) tt
    by d (Some s) at =
        let is = (all_at (IsNew first) dcs d s at new).mark in
        let few : s.mark ≤ low_water first = omega (arith, is, low) in
        subst (λ (t : Site). IsLow (low_water first) t.redo) (sym (new_at dcs d s at)) few

-- what was answered was said by a data component that is there
abbrev pub IsThere : List Event → List Store → Type 0
IsThere h dcs = (n : ℕ) (o : Op) (said : Said) → logged h n ≡ Some o → said_under (done h) n ≡ Some said → (s : Store) × (slice_get dcs (dc_of o) ≡ Some s)

-- a legal and honest log, and data components that are new
pub new_listed : (w : Whole) (base : Table) (first : List Event) (dcs : List Store) → Legal w.core.procs first → HonestFrom base first
    → ((r : Record) → base r ≡ base_of dcs r) → IsThere first dcs → All (IsNew first) dcs → IsListed (start_over first dcs w)
new_listed w base first dcs legal honest based answered new =
    record {
      base = base;
      based = based;
      behind = λ d x at.
          let is = all_at (IsNew first) dcs d x at new in
          let mark = is.mark in
          let saved = is.saved_mark in
          record { base_mark = is.base_mark; mark = omega (arith, mark); saved_mark = omega (arith, saved) };
      past = λ k x at. absurd (none_some _ x refl at);
      honest = honest;
      ok = record {
        v = λ d. [];
        copies = λ k x inside. absurd (omega (arith, inside));
        replies = λ k x inside. absurd (omega (arith, inside));
        news = λ k x inside. absurd (omega (arith, inside));
        stores = λ d x at.
            let is = all_at (IsNew first) dcs d x at new in
            subst (λ (t : Site). SiteOk base (logged first) (open_op first) (done first) (given first) d x t []) (sym (new_at dcs d x at))
            (site_new base (logged first) (open_op first) (done first) (given first) d x (begun first) (logged_above w.core.procs first legal) over
            (λ r here. own d x r at here) is.list is.saved is.mark is.saved_mark is.restarted);
        said = answered;
        there = λ d r down. there d r down (slice_get dcs d) refl;
      };
    }
  where
    over : Over (open_op first) (given first) (begun first)
    over = over_less (open_op first) (given first) (low_water first) (begun first) (over_low w.core.procs first legal) (begun_low w.core.procs first legal)

    own : (d : ℕ) (x : Store) (r : Record) → slice_get dcs d ≡ Some x → r.dc ≡ d → row_of x.base r ≡ base r
    own d x r at here =
        ap (λ (u : Option Store). row_of (base_in u) r) (sym (subst (λ (k : ℕ). slice_get dcs k ≡ Some x) (sym here) at)) ∙ sym (based r)

    there : (d : ℕ) (r : Redoing) → (site_at (map site_noted (map (λ (x : Store). Restarted (news_of x)) dcs)) d).redo
        ≡ Some r → (o : Option Store) → slice_get dcs d ≡ o
        → (x : Store) × (slice_get dcs d ≡ Some x)
    there d r down None at = absurd (none_some _ r (none_at dcs d at) down)
    there d r down (Some x) at = (x, at)

pub start_over_listed : (w : Whole) (first : List Event) (dcs : List Store) → AllGood w.core.procs → Legal w.core.procs w.core.events
    → Begins first w.core.events → All (IsNew first) dcs → StandFor dcs w.dcs → IsListed w → IsListed (start_over first dcs w)
start_over_listed w first dcs good legal begins new olds s =
    new_listed w s.base first dcs (legal_first w.core.procs begins.later first (subst (Legal w.core.procs) begins.is legal))
    (honest_first s.base begins.later first (subst (HonestFrom s.base) begins.is s.honest)) (λ r. s.based r ∙ sym (olds.rows r))
    (λ n o said logs was.
    let there = s.ok.said n o said (before.logs_on n o logs) (before.says_on n said was) in
    as_many dcs w.dcs (dc_of o) there.0 olds.count there.1) new
  where
    before : Earlier s.base (logged w.core.events) (open_op w.core.events) (done w.core.events) (given w.core.events)
        (logged first) (open_op first) (done first) (given first)
    before =
        subst (λ (h : List Event). Earlier s.base (logged h) (open_op h) (done h) (given h) (logged first)
        (open_op first) (done first) (given first)) (sym begins.is)
        (earlier w.core.procs s.base begins.later first good (subst (Legal w.core.procs) begins.is legal) (subst (HonestFrom s.base) begins.is s.honest))
