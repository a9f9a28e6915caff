-- The rows with which data components begin, and the number behind which they and the log do.
use Rattle.std.proofs.Common.{◌≡◌, ◌⊎◌, ℕ, ◌≤◌, ◌<◌, Bool, true, false, List, [], ◌∷◌, ◌++◌, Option, Some}
use Rattle.std.proofs.Common.{None, arith, refl, sym, ◌∙◌, ap, subst, inl, inr, ◌==◌, if◌then◌else◌}
use Rattle.std.specs.Prelude.{slice_get, slice_set, nat_le}
use Rattle.std.proofs.lemmas.Bool.{cases_eq, leb-true}
use Rattle.access_slots.specs.declared.slot.Record.{Record}
use Rattle.access_slots.specs.declared.op.Op.{Op}
use Rattle.access_slots.specs.declared.op.Said.{Said}
use Rattle.access_slots.specs.declared.op.Wire.{Wire}
use Rattle.access_slots.specs.Locks.{target}
use Rattle.tc_log.specs.declared.event.Event.{Event}
use Rattle.tc_log.specs.declared.event.Event.TheVariants.{Answer, Checkpoint}
use Rattle.verifier.specs.Checked.{Checked}
use Rattle.history.specs.Flight.{Flight, open_op, is_flight, low_water}
use Rattle.history.specs.Anew.{begun}
use Rattle.history.proofs.Laws.{computed_is}
use Rattle.data_component.specs.Performed.{Performed, RecordValue, value_over}
use Rattle.data_component.specs.Sorted.{Rows, row_of}
use Rattle.data_component.specs.Store.{Store, Fate, IsOld, Again, Silent, New, raised, marked, fate_of, store_by, performed, checkpointed, restarted}
use Rattle.transactions.specs.Legal.{Legal}
use Rattle.transactions.proofs.StandingLemmas.{some_same}
use Rattle.serial.specs.Values.{Table, said_freely}
use Rattle.serial.specs.Serial.{done, now_from, HonestTo, HonestFrom}
use Rattle.serial.specs.Audit.{base_in, base_of}
use Rattle.serial.specs.Joining.Beside.{Beside}
use Rattle.serial.proofs.BackLemmas.{begun_given, logged_above}
use Rattle.serial.proofs.ListLemmas.{over_same}
use Rattle.serial.proofs.NumberLemmas.{flight_logged}
use Rattle.serial.proofs.SitesLemmas.{set_same, set_other}
use Rattle.tc_world.specs.Marks.{HasJustBegun, AtFirst, AtCheckpoint}
use Rattle.tc_world.specs.Joining.Listed.{BeginsBehind, EachBeginsBehind}

-- ---- data components keep their base

base_set : (dcs : List Store) (d : ℕ) (s s' : Store) → slice_get dcs d ≡ Some s → s'.base ≡ s.base → (r : Record)
    → base_of dcs r ≡ base_of (slice_set dcs d s') r
base_set dcs d s s' at same r = elim (cases_eq d r.dc) [
  | inl here ↦
      let was : slice_get dcs r.dc ≡ Some s = subst (λ (k : ℕ). slice_get dcs k ≡ Some s) here at in
      let is : slice_get (slice_set dcs d s') r.dc ≡ Some s' =
      subst (λ (k : ℕ). slice_get (slice_set dcs d s') k ≡ Some s') here (set_same dcs d s s' at) in
      ap (λ (u : Option Store). row_of (base_in u) r) was
      ∙ (ap (λ (rows : Rows). row_of rows r) (sym same) ∙ ap (λ (u : Option Store). row_of (base_in u) r) (sym is))
  | inr other ↦ ap (λ (u : Option Store). row_of (base_in u) r) (sym (set_other dcs d r.dc s' other))
]

pub based_set : (base : Table) (dcs : List Store) (d : ℕ) (s s' : Store) → slice_get dcs d ≡ Some s → s'.base ≡ s.base
    → ((r : Record) → base r ≡ base_of dcs r) → (r : Record) → base r ≡ base_of (slice_set dcs d s') r
based_set base dcs d s s' at same based r = based r ∙ base_set dcs d s s' at same r

pub behind_set : (n : ℕ) (dcs : List Store) (d : ℕ) (s s' : Store) → slice_get dcs d ≡ Some s
    → (BeginsBehind n s → BeginsBehind n s') → EachBeginsBehind n dcs → EachBeginsBehind n (slice_set dcs d s')
behind_set n dcs d s s' at keeps each i x is = elim (cases_eq d i) [
  | inl here ↦
      let there : slice_get (slice_set dcs d s') i ≡ Some s' =
      subst (λ (k : ℕ). slice_get (slice_set dcs d s') k ≡ Some s') here (set_same dcs d s s' at) in
      let one : s' ≡ x = some_same s' x (sym there ∙ is) in
      subst (BeginsBehind n) one (keeps (each d s at))
  | inr other ↦ each i x (sym (set_other dcs d i s' other) ∙ is)
]

store_base : (s : Store) (n : ℕ) (o : Op) (f : Fate) → (store_by s n o f).base ≡ s.base
store_base s n o IsOld = refl
store_base s n o (Again said) = refl
store_base s n o Silent = refl
store_base s n o (New said) = refl

store_behind : (b : ℕ) (s : Store) (n : ℕ) (o : Op) (f : Fate) → BeginsBehind b s → BeginsBehind b (store_by s n o f)
store_behind b s n o IsOld is = is
store_behind b s n o (Again said) is = is
store_behind b s n o Silent is = is
store_behind b s n o (New said) is = record { base_mark = is.base_mark; mark = is.mark; saved_mark = is.saved_mark }

raised_behind : (b a m : ℕ) → b ≤ a → b ≤ raised a m
raised_behind b a m low = by (nat_le a m) refl
  where
    by : (t : Bool) → nat_le a m ≡ t → b ≤ (if t then m else a)
    by true is = (let up = leb-true a m is in omega (arith, low, up))
    by false is = low

marked_behind : (b : ℕ) (s : Store) (m : ℕ) → BeginsBehind b s → BeginsBehind b (marked s m)
marked_behind b s m is = record { base_mark = is.base_mark; mark = raised_behind b s.mark m is.mark; saved_mark = is.saved_mark }

pub performed_base : (s : Store) (x : Wire) → (performed s x).base ≡ s.base
performed_base s x = by (s.incarnation == x.incarnation)
  where
    by : (b : Bool) → (if b then store_by (marked s x.low_water) x.number x.op (fate_of s x) else s).base ≡ s.base
    by true = store_base (marked s x.low_water) x.number x.op (fate_of s x)
    by false = refl

pub performed_behind : (n : ℕ) (s : Store) (x : Wire) → BeginsBehind n s → BeginsBehind n (performed s x)
performed_behind n s x is = by (s.incarnation == x.incarnation)
  where
    by : (b : Bool) → BeginsBehind n (if b then store_by (marked s x.low_water) x.number x.op (fate_of s x) else s)
    by true = store_behind n (marked s x.low_water) x.number x.op (fate_of s x) (marked_behind n s x.low_water is)
    by false = is

pub checkpointed_behind : (n : ℕ) (s : Store) → BeginsBehind n s → BeginsBehind n (checkpointed s)
checkpointed_behind n s is = record { base_mark = is.base_mark; mark = is.mark; saved_mark = is.mark }

pub restarted_behind : (n : ℕ) (s : Store) → BeginsBehind n s → BeginsBehind n (restarted s)
restarted_behind n s is = record { base_mark = is.base_mark; mark = is.saved_mark; saved_mark = is.saved_mark }

-- ---- the number behind which a log begins

closed_by : (o : Option Flight) (P : Type 0) → ((f : Flight) → o ≡ Some f → P) → (P → ⊥) → is_flight o ≡ false
closed_by None P flies none = refl
closed_by (Some f) P flies none = absurd (none (flies f refl))

-- all up to it are answered
pub begun_low : (ps : List Checked) (h : List Event) → Legal ps h → begun h ≤ low_water h
begun_low ps h legal = (computed_is h).greatest (begun h) (record {
  given_out = begun_given ps h legal;
  answered = λ m some low.
      closed_by (open_op h m) (begun h < m) (λ f flies. logged_above ps h legal m f.op (flight_logged h m f flies))
      (λ above. omega (arith, above, low));
})

pub none_behind : (later first : List Event) → later ++ first ≡ [] → first ≡ []
none_behind [] first is = is
none_behind (e ∷ later) first is = absurd cc

-- a log's first events begin behind the same number, or there are none
pub begun_either : (ps : List Checked) (later first : List Event) → Legal ps (later ++ first) → (begun (later ++ first) ≡ begun first) ⊎ (first ≡ [])
begun_either ps [] first legal = inl refl
begun_either ps (Checkpoint before numbers ∷ later) first legal = inr (none_behind later first legal.0.oldest)
begun_either ps (_ ∷ later) first legal = begun_either ps later first legal.1

-- a log's first events begin behind the same number, where their mark isn't below it: they have the Checkpoint, or
-- there is none
pub begun_first : (ps : List Checked) (later first : List Event) → Legal ps (later ++ first)
    → begun (later ++ first) ≤ low_water first → begun (later ++ first) ≡ begun first
begun_first ps [] first legal low = refl
begun_first ps (Checkpoint before numbers ∷ later) first legal low =
    let none : first ≡ [] = none_behind later first legal.0.oldest in
    let few : numbers ≤ 0 = subst (λ (x : List Event). numbers ≤ low_water x) none low in
    let zero : begun first ≡ 0 = ap begun none in
    omega (arith, few, zero)
begun_first ps (_ ∷ later) first legal low = begun_first ps later first legal.1 low

-- ---- a log that has just begun

pub just_legal : (ps : List Checked) (h : List Event) → HasJustBegun h → Legal ps h
just_legal ps h (AtFirst is) = subst (Legal ps) (sym is) tt
just_legal ps h (AtCheckpoint before numbers few_admitted few_given is) =
    subst (Legal ps) (sym is) (record { oldest = refl; few_admitted = few_admitted; few_given = few_given }, tt)

-- ---- the same over a table that has the same values

to_same : (o : Option Flight) (said : Said) (m w : Table) → ((r : Record) → m r ≡ w r) → HonestTo o said m → HonestTo o said w
to_same None said m w same honest = tt
to_same (Some f) said m w same honest = elim honest [
  | inl is ↦ inl (is ∙ ap (λ (v : RecordValue). said_freely v f.op) (same (target f.op)))
  | inr room ↦ inr room
]

module _ (base other : Table) (same : (r : Record) → base r ≡ other r) where
  over : (list : List Performed) (r : Record) → value_over base list r ≡ value_over other list r
  over list r = over_same base other list r (same r)

  pub honest_same : (h : List Event) → HonestFrom base h → HonestFrom other h
  honest_same [] honest = tt
  honest_same (Answer t n said ∷ h) honest = (to_same (open_op h n) said (now_from base h) (now_from other h) (over (done h)) honest.0, honest_same h honest.1)
  honest_same (_ ∷ h) honest = (tt, honest_same h honest.1)

  pub beside_same : (lg : ℕ → Option Op) (fl : ℕ → Option Flight) (dn : List Performed) (d : ℕ) (list : List Performed)
      → Beside base lg fl dn d list → Beside other lg fl dn d list
  beside_same lg fl dn d list b = record {
    entries = b.entries;
    once = b.once;
    answers = b.answers;
    agrees = b.agrees;
    honest = λ n f said is under. to_same (Some f) said (value_over base dn) (value_over other dn) (over dn) (b.honest n f said is under);
    idle = b.idle;
    ahead = b.ahead;
  }
