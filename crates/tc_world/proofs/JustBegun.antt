-- A world in which nothing was logged since its log began.
use Rattle.std.proofs.Common.{◌≡◌, ℕ, ◌≤◌, List, [], Option, Some, None, arith, refl, sym, ◌∙◌, ap, subst}
use Rattle.std.specs.Prelude.{slice_get}
use Rattle.access_slots.specs.declared.slot.Record.{Record}
use Rattle.access_slots.specs.declared.op.Wire.{Wire}
use Rattle.access_slots.specs.declared.op.Reply.{Reply}
use Rattle.access_slots.specs.declared.op.News.{News}
use Rattle.tc_log.specs.declared.event.Event.{Event}
use Rattle.history.specs.Anew.{begun}
use Rattle.history.specs.Flight.{open_op, given}
use Rattle.data_component.specs.Performed.{Performed}
use Rattle.data_component.specs.Sorted.{row_of}
use Rattle.data_component.specs.Store.{Store}
use Rattle.transactions.specs.declared.Site.{Site}
use Rattle.transactions.specs.InFlight.{site_at, site_by}
use Rattle.std.specs.List.{All}
use Rattle.tc_core.specs.Core.{Core}
use Rattle.transactions.proofs.StandingLemmas.{none_some}
use Rattle.serial.specs.Values.{Table}
use Rattle.serial.specs.Serial.{done, HonestFrom}
use Rattle.serial.specs.Lists.{logged}
use Rattle.serial.specs.Audit.{base_in, base_of}
use Rattle.serial.specs.Joining.Behind.{IsEnd}
use Rattle.serial.specs.Joining.Site.{SiteOk}
use Rattle.serial.specs.Joining.Sites.{AreOk}
use Rattle.serial.proofs.ListLemmas.{beside_none}
use Rattle.serial.proofs.RedoLemmas.{beside_behind}
use Rattle.tc_world.specs.Whole.{Whole}
use Rattle.tc_world.specs.Marks.{HasJustBegun, AtFirst, AtCheckpoint, HasRowsAlone, IsUp, IsFresh}
use Rattle.tc_world.specs.Joining.Listed.{IsListed, ArePast, wires_since, replies_since}
use Rattle.tc_world.proofs.Passing.{none_above}
use Rattle.tc_world.proofs.ComingBack.{all_at, read_in}

-- news of a restart of a data component that is there, and of no later number
pub record AreEarlier (top : ℕ) (dcs : List Store) (x : ℕ × News) : Type 0 where
  pub s : Store
  pub at : slice_get dcs x.0 ≡ Some s
  pub mark : x.1.mark ≤ top
  pub made : x.1.incarnation ≤ s.incarnation

pub record HasNothing (w : Whole) (top : ℕ) : Type 0 where
  pub wires : (k : ℕ) (x : Wire) → slice_get (wires_since w) k ≡ Some x → ⊥
  pub replies : (k : ℕ) (x : Reply) → slice_get (replies_since w) k ≡ Some x → ⊥
  pub news : (k : ℕ) (x : ℕ × News) → slice_get w.news k ≡ Some x → AreEarlier top w.dcs x
  pub stores : (d : ℕ) (s : Store) → slice_get w.dcs d ≡ Some s → HasRowsAlone top s
  pub up : (d : ℕ) → (site_at w.core.sites d).redo ≡ None

site_alone : (base : Table) (top d : ℕ) (s : Store) (t : Site) → ((r : Record) → r.dc ≡ d → row_of s.base r ≡ base r) → HasRowsAlone top s
    → t.redo ≡ None → SiteOk base (λ n. None) (λ n. None) [] top d s t []
site_alone base top d s t based alone up =
    let list = alone.list in
    let saved = alone.saved in
    let mark = alone.mark in
    let saved_mark = alone.saved_mark in
    record {
      based = based;
      up = λ e. beside_none base d;
      behind = beside_behind base (λ n. None) (λ n. None) [] d [] (beside_none base d);
      down = λ r e. absurd (none_some _ r up e);
      ahead = λ less. record { known = refl; now = list; kept = saved };
      same = λ e. list;
      idle = λ less. list ∙ sym saved;
      cut = list;
      saved_cut = subst (λ (l : List Performed). IsEnd l s.saved) (sym list) saved;
      mark_to = λ n o said logs dc was did low. absurd (none_some _ o refl logs);
      mark_over = record { given_out = omega (arith, mark); answered = λ m low. refl };
      whole = λ never n o said logs dc was. absurd (none_some _ o refl logs);
      saved_to = λ n o said logs dc was did low. absurd (none_some _ o refl logs);
      saved_over = record { given_out = omega (arith, saved_mark); answered = λ m low. refl };
    }

-- the rows of a data component are those of its records
pub own_rows : (dcs : List Store) (d : ℕ) (s : Store) (r : Record) → slice_get dcs d ≡ Some s → r.dc ≡ d → row_of s.base r ≡ base_of dcs r
own_rows dcs d s r at here =
    ap (λ (u : Option Store). row_of (base_in u) r) (sym (subst (λ (k : ℕ). slice_get dcs k ≡ Some s) (sym here) at))

nothing_listed : (w : Whole) (top : ℕ) → HasNothing w top
    → AreOk (base_of w.dcs) (λ n. None) (λ n. None) [] top w.core.sites w.dcs (wires_since w) (replies_since w) w.news
nothing_listed w top none = record {
  v = λ d. [];
  copies = λ k x inside. absurd (none.wires k _ (read_in (wires_since w) k x inside));
  replies = λ k x inside. absurd (none.replies k _ (read_in (replies_since w) k x inside));
  news = λ k x inside.
      let early = none.news k _ (read_in w.news k x inside) in
      record {
        s = early.s;
        at = early.at;
        over = record { given_out = early.mark; answered = λ m low. refl };
        made = early.made;
        later = λ less n o said logs dc was did low. absurd (none_some _ o refl logs);
      };
  stores = λ d s at. site_alone (base_of w.dcs) top d s (site_at w.core.sites d) (λ r here. own_rows w.dcs d s r at here) (none.stores d s at) (none.up d);
  said = λ n o said logs was. absurd (none_some _ o refl logs);
  there = λ d r down. absurd (none_some _ r (none.up d) down);
}

abbrev Began : Whole → List Event → Type 0
Began w h =
    HonestFrom (base_of w.dcs) h × AreOk (base_of w.dcs) (logged h) (open_op h) (done h) (given h) w.core.sites w.dcs (wires_since w) (replies_since w) w.news

just_begun : (w : Whole) (top : ℕ) → HasNothing w top → (h : List Event) → begun h ≡ top → HasJustBegun h → Began w h
just_begun w top none h from (AtFirst is) =
    subst (Began w) (sym is) (tt, nothing_listed w 0 (subst (HasNothing w) (sym from ∙ ap begun is) none))
just_begun w top none h from (AtCheckpoint before numbers few_admitted few_given is) =
    subst (Began w) (sym is) ((tt, tt), nothing_listed w numbers (subst (HasNothing w) (sym from ∙ ap begun is) none))

pub begun_listed : (w : Whole) (top : ℕ) → HasNothing w top → begun w.core.events ≡ top → HasJustBegun w.core.events → ArePast (begun w.core.events) w.copies
    → IsListed w
begun_listed w top none from just past =
    let began = just_begun w top none w.core.events from just in
    record {
      base = base_of w.dcs;
      based = λ r. refl;
      behind = λ d s at.
          let alone = none.stores d s at in
          let base_mark = alone.base_mark in
          let mark = alone.mark in
          let saved = alone.saved_mark in
          record { base_mark = base_mark ∙ sym from; mark = omega (arith, mark, from); saved_mark = omega (arith, saved, from) };
      past = past;
      honest = began.0;
      ok = began.1;
    }

-- ---- a fresh world

fresh_up : (w : Whole) (d : ℕ) (t : Option Site) → IsFresh w → slice_get w.core.sites d ≡ t → (site_by t).redo ≡ None
fresh_up w d None fresh at = refl
fresh_up w d (Some t) fresh at = all_at (λ (s : Site). s.redo ≡ None) w.core.sites d t at fresh.up

nothing_in : {X : Type 0} (xs : List X) (k : ℕ) (x : X) → xs ≡ [] → slice_get xs k ≡ Some x → ⊥
nothing_in xs k x none at = none_some _ x refl (ap (λ l. slice_get l k) (sym none) ∙ at)

-- a state and data components since whose beginning nothing has happened, as a world in which nothing was sent
pub fresh_new : (c : Core) (dcs : List Store) → HasJustBegun c.events → All IsUp c.sites → All (HasRowsAlone (begun c.events)) dcs
    → IsFresh (record { core = c; dcs = dcs; copies = []; replies = []; news = [] })
fresh_new c dcs just up alone = record {
  events = just;
  copies = refl;
  replies = refl;
  news = refl;
  lists = λ k s inside. (let is = alone k s inside in (is.list, is.saved));
  bases = λ k s inside. (alone k s inside).base_mark;
  marks = λ k s inside. (let is = alone k s inside in (is.mark, is.saved_mark));
  up = up;
}

pub fresh_listed : (w : Whole) → IsFresh w → IsListed w
fresh_listed w fresh = begun_listed w (begun w.core.events) (record {
  wires = λ k x at. nothing_in (wires_since w) k x (none_above (λ (y : Wire). y.number) (begun w.core.events) w.copies fresh.copies) at;
  replies = λ k x at. nothing_in (replies_since w) k x (none_above (λ (y : Reply). y.number) (begun w.core.events) w.replies fresh.replies) at;
  news = λ k x at. absurd (nothing_in w.news k x fresh.news at);
  stores = λ d s at.
      let lists = all_at (λ (x : Store). (x.list ≡ []) × (x.saved ≡ [])) w.dcs d s at fresh.lists in
      let marks = all_at (λ (x : Store). (x.mark ≡ begun w.core.events) × (x.saved_mark ≡ begun w.core.events)) w.dcs d s at fresh.marks in
      record {
        base_mark = all_at (λ (x : Store). x.base_mark ≡ begun w.core.events) w.dcs d s at fresh.bases;
        list = lists.0;
        saved = lists.1;
        mark = marks.0;
        saved_mark = marks.1;
      };
  up = λ d. fresh_up w d (slice_get w.core.sites d) fresh refl;
}) refl fresh.events (λ k x at. absurd (nothing_in w.copies k x fresh.copies at))
