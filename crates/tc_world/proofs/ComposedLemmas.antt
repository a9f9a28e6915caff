-- What a cut leaves is what the calls before it left, run one after another.
use Rattle.std.proofs.Common.{◌≡◌, ℕ, zero, suc, Bool, true, false, List, [], ◌∷◌, ◌++◌, ◌+◌, Option}
use Rattle.std.proofs.Common.{Some, None, arith, refl, sym, ◌∙◌, ap, subst, ◌==◌, if◌then◌else◌}
use Rattle.std.specs.Prelude.{slice_get}
use Rattle.access_slots.specs.Locks.{record_eq, target}
use Rattle.access_slots.specs.declared.slot.Record.{Record}
use Rattle.access_slots.specs.declared.op.Op.{Op}
use Rattle.access_slots.specs.declared.op.Said.{Said}
use Rattle.access_slots.proofs.Records.{eq_is}
use Rattle.verifier.specs.Checked.{Checked}
use Rattle.tc_log.specs.declared.event.Event.{Event}
use Rattle.tc_log.specs.declared.event.Event.TheVariants.{End}
use Rattle.tc_log.specs.declared.event.Outcome.{Outcome as Ending}
use Rattle.tc_log.specs.declared.event.Outcome.TheVariants as ending
use Rattle.history.specs.Calls.{Call, open_call, held}
use Rattle.history.specs.Flight.{open_op, given, low_water}
use Rattle.history.specs.Anew.{anew}
use Rattle.data_component.specs.Performed.{Performed, RecordValue, value_in, value_over, said_under}
use Rattle.data_component.specs.Sorted.{row_of}
use Rattle.data_component.specs.Store.{Store, marked}
use Rattle.transactions.specs.InFlight.{site_at}
use Rattle.transactions.specs.Reached.{Reached, Asks, Ends, Nowhere, reached_of, stop_at, calls_in, decls}
use Rattle.transactions.specs.Legal.{Legal}
use Rattle.transactions.specs.Alike.{IsAtRest}
use Rattle.transactions.proofs.Alike.{begins_alike, held_alike}
use Rattle.transactions.proofs.StandingLemmas.{some_same, none_some, eq-true}
use Rattle.serial.specs.Values.{Table, told, applied, said_freely}
use Rattle.serial.specs.Serial.{Ran, on_reached, run, run_by, run_open, left_by, serial_from, EndsAs, EndsSoFrom, EndsAsSerialFrom, done, is_write, IsUnwritten}
use Rattle.serial.specs.Audit.{base_in, base_of}
use Rattle.serial.specs.Lists.{logged, dc_of}
use Rattle.serial.specs.Joining.Beside.{Beside}
use Rattle.serial.specs.Joining.Site.{SiteOk}
use Rattle.serial.proofs.RunLemmas.{applied_frame}
use Rattle.serial.proofs.ListLemmas.{over_same}
use Rattle.serial.proofs.NumberLemmas.{logged_below, done_logs}
use Rattle.serial.proofs.LogLemmas.{log_facts}
use Rattle.serial.proofs.RedoLemmas.{behind_beside}
use Rattle.serial.proofs.SiteLemmas.{behind_end}
use Rattle.serial.proofs.OrderLemmas.{list_serial}
use Rattle.serial.proofs.KeepLemmas.{values_serial_from}
use Rattle.serial.proofs.ComposedLemmas.{composed, long_ends}
use Rattle.serial.proofs.WireLemmas.{equal}
use Rattle.tc_world.specs.Whole.{Whole}
use Rattle.tc_world.specs.Cutting.{kept_by, kept_at}
use Rattle.tc_world.specs.Steps.{Cuts}
use Rattle.tc_world.specs.Lives.{HasLived}
use Rattle.tc_world.specs.declared.step.Outcome.{Outcome}
use Rattle.tc_world.specs.Joining.Listed.{IsListed}
use Rattle.tc_world.proofs.Bases.{beside_same, honest_same}
use Rattle.tc_world.proofs.CutLemmas.{was_kept, up_all}
use Rattle.tc_world.proofs.CutListed.{kept_mark}
use Rattle.tc_world.proofs.JustBegun.{own_rows}
use Rattle.tc_world.proofs.LivingLemmas.{living_known, living_listed, living_serial}
use Rattle.tc_world.proofs.Listed.{Known}

-- ---- the same over tables that have the same values

record SameRan (a b : Ran) : Type 0 where
  value : a.value ≡ b.value
  table : (r : Record) → a.table r ≡ b.table r

-- where the next turn does the same
turn_same : (x : Reached) (m w : Table) (next next' : Op → Ran) → ((r : Record) → m r ≡ w r) → ((o : Op) → SameRan (next o) (next' o))
    → SameRan (on_reached x m next) (on_reached x w next')
turn_same (Asks o) m w next next' same later = later o
turn_same (Ends v) m w next next' same later = record { value = refl; table = same }
turn_same Nowhere m w next next' same later = record { value = refl; table = same }

run_same : (q : Checked) (args : List ℕ) (k : ℕ) (answers : List Said) (m w : Table) → ((r : Record) → m r ≡ w r)
    → SameRan (run k q args answers m) (run k q args answers w)
run_same q args zero answers m w same = record { value = refl; table = same }
run_same q args (suc k) answers m w same =
    turn_same (reached_of (stop_at q args answers)) m w (λ o. run k q args (answers ++ told m o ∷ []) (applied o (told m o) m))
    (λ o. run k q args (answers ++ told w o ∷ []) (applied o (told w o) w)) same (λ o.
    let said : told m o ≡ told w o = ap (λ (v : RecordValue). said_freely v o) (same (target o)) in
    subst (λ (s : Said). SameRan (run k q args (answers ++ told m o ∷ []) (applied o (told m o) m)) (run k q args (answers ++ s ∷ []) (applied o s w))) said
    (run_same q args k (answers ++ told m o ∷ []) (applied o (told m o) m) (applied o (told m o) w) (λ r. applied_frame o (told m o) m w r (same r))))

module _ (ps : List Checked) (base other : Table) (same : (r : Record) → base r ≡ other r) where
  call_same : (c : Option Call) (m w : Table) → ((r : Record) → m r ≡ w r) → SameRan (run_open ps c m) (run_open ps c w)
  call_same None m w is = record { value = refl; table = is }
  call_same (Some call) m w is = by (slice_get ps call.proc)
    where
      by : (q : Option Checked) → SameRan (run_by q call.args m) (run_by q call.args w)
      by None = record { value = refl; table = is }
      by (Some q) = run_same q call.args (calls_in q + 1) [] m w is

  left_same : (how : Ending) (a b : Ran) (m w : Table) → SameRan a b → ((r : Record) → m r ≡ w r) → (r : Record) → left_by how a m r ≡ left_by how b w r
  left_same ending.Committed a b m w ran is r = ran.table r
  left_same (ending.Aborted v) a b m w ran is r = is r
  left_same ending.NoRoom a b m w ran is r = is r

  pub serial_same : (h : List Event) (r : Record) → serial_from ps base h r ≡ serial_from ps other h r
  serial_same [] r = same r
  serial_same (End t how ∷ h) r =
      left_same how _ _ (serial_from ps base h) (serial_from ps other h)
      (call_same (open_call h t) (serial_from ps base h) (serial_from ps other h) (serial_same h)) (serial_same h) r
  serial_same (_ ∷ h) r = serial_same h r

  end_by : (how : Ending) (a b : Ran) → SameRan a b → EndsAs how a → EndsAs how b
  end_by ending.Committed a b ran is = sym ran.value ∙ is
  end_by (ending.Aborted v) a b ran is = sym ran.value ∙ is
  end_by ending.NoRoom a b ran is = tt

  end_same : (h : List Event) (e : Event) → EndsSoFrom ps base h e → EndsSoFrom ps other h e
  end_same h (End t how) is = end_by how _ _ (call_same (open_call h t) (serial_from ps base h) (serial_from ps other h) (serial_same h)) is
  end_same h _ is = tt

  pub ends_same : (h : List Event) → EndsAsSerialFrom ps base h → EndsAsSerialFrom ps other h
  ends_same [] ends = tt
  ends_same (e ∷ h) ends = (end_same h e ends.0, ends_same h ends.1)

-- ---- a record on which nothing was done

off_by : (b : Bool) (x y : RecordValue) → b ≡ false → (if b then x else y) ≡ y
off_by true x y is = absurd (let bad : true ≡ false = is in cc)
off_by false x y is = refl

untouched : (base : Table) (list : List Performed) (r : Record) → ((k : ℕ) (e : Performed) → slice_get list k ≡ Some e → record_eq (target e.1) r ≡ false)
    → value_over base list r ≡ base r
untouched base [] r none = refl
untouched base (e ∷ list) r none = off_by (record_eq (target e.1) r) _ (value_over base list r) (none 0 e refl)
    ∙ untouched base list r (λ k x at. none (suc k) x at)

number_self : (x e : Performed) → x ≡ e → (x.0 == e.0) ≡ true
number_self x e same = eq-true x.0 e.0 (ap (λ (y : Performed). y.0) same)

said_next : (x : Performed) (list : List Performed) (k : ℕ) (e : Performed) → slice_get (x ∷ list) k ≡ Some e
    → ((j : ℕ) → slice_get list j ≡ Some e → (said : Said) × (said_under list e.0 ≡ Some said)) → (b : Bool) → (x.0 == e.0) ≡ b
    → (said : Said) × ((if b then Some x.2 else said_under list e.0) ≡ Some said)
said_next x list k e at rest true is = (x.2, refl)
said_next x list zero e at rest false is = absurd (let bad : true ≡ false = sym (number_self x e (some_same x e at)) ∙ is in cc)
said_next x list (suc k) e at rest false is = rest k at

said_of : (list : List Performed) (k : ℕ) (e : Performed) → slice_get list k ≡ Some e → (said : Said) × (said_under list e.0 ≡ Some said)
said_of [] k e at = absurd (none_some _ e refl at)
said_of (x ∷ list) k e at = said_next x list k e at (λ j there. said_of list j e there) (x.0 == e.0) refl

-- ---- at rest nobody may write

none_held : (ps : List Checked) (h : List Event) (t : ℕ) (r : Record) → is_write (held (decls ps) (anew h) t r) ≡ false
none_held ps [] t r = refl
none_held ps (e ∷ h) t r = refl

unwritten : (ps : List Checked) (h : List Event) → Legal ps h → IsAtRest h → (r : Record) → IsUnwritten ps h r
unwritten ps h legal rest r t = ap is_write (held_alike (decls ps) (given h) h (anew h) (begins_alike ps h legal rest) t r) ∙ none_held ps h t r

-- ---- what a cut leaves

module _ (w v : Whole) (o : Outcome) (known : Known w.core) (s : IsListed w) (cut : Cuts w o v) where
  abbrev h : List Event
  h = w.core.events

  based : (r : Record) → s.base r ≡ base_of w.dcs r
  based = s.based

  free : (r : Record) → IsUnwritten w.core.procs w.core.events r
  free r = unwritten w.core.procs h known.legal cut.may.rest r

  -- its list has all that was answered
  beside : (d : ℕ) (x : Store) → slice_get w.dcs d ≡ Some x → Beside s.base (logged w.core.events) (open_op w.core.events) (done w.core.events) d x.list
  beside d x at = by (x.incarnation == (site_at w.core.sites d).incarnation) refl
    where
      k : SiteOk s.base (logged w.core.events) (open_op w.core.events) (done w.core.events) (given w.core.events) d x (site_at w.core.sites d) (s.ok.v d)
      k = s.ok.stores d x at

      up : (site_at w.core.sites d).redo ≡ None
      up = up_all w.core.sites d cut.may.up

      by : (b : Bool) → (x.incarnation == (site_at w.core.sites d).incarnation) ≡ b
          → Beside s.base (logged w.core.events) (open_op w.core.events) (done w.core.events) d x.list
      by true is =
          let now : (site_at w.core.sites d).incarnation ≡ x.incarnation = sym (equal x.incarnation (site_at w.core.sites d).incarnation is) in
          subst (Beside s.base (logged h) (open_op h) (done h) d) (sym (k.same now)) (k.up up)
      by false is =
          let mark : x.mark ≡ given h = ap (λ (b : Bool). (if b then marked x (low_water h) else x).mark) (sym is)
          ∙ kept_mark w v.dcs known.legal cut.may cut.forgotten s d x at in
          behind_beside s.base (logged h) (open_op h) (done h) d x.list (log_facts w.core.procs s.base h known.good known.legal s.honest)
          (behind_end s.base (logged h) (open_op h) (done h) d (s.ok.v d) x.list k.cut k.behind)
          (λ n q said logs dc was did. k.mark_to n q said logs dc was did
          (let few = logged_below w.core.procs h known.legal n q logs in omega (arith, few, mark)))

  there : (r : Record) (x : Store) → slice_get w.dcs r.dc ≡ Some x → base_of v.dcs r ≡ serial_from w.core.procs (base_of w.dcs) w.core.events r
  there r x at =
      let is = cut.forgotten.each r.dc x at in
      let rows : base_of v.dcs r ≡ row_of is.t.base r = ap (λ (u : Option Store). row_of (base_in u) r) is.at in
      let kept : value_in (kept_at (low_water h) w.core.sites r.dc x).base (kept_at (low_water h) w.core.sites r.dc x).list r ≡ value_in x.base x.list r
      = heard_values x (site_at w.core.sites r.dc).incarnation (low_water h) r in
      let own : value_in x.base x.list r ≡ value_over (base_of w.dcs) x.list r = over_same (row_of x.base)
      (base_of w.dcs) x.list r (own_rows w.dcs r.dc x r at refl) in
      let now = beside_same s.base (base_of w.dcs) based (logged h) (open_op h) (done h) r.dc x.list (beside r.dc x at) in
      let honest = honest_same s.base (base_of w.dcs) based h s.honest in
      rows ∙ (is.forgotten.values r ∙ (kept ∙ (own ∙ list_serial w.core.procs (base_of w.dcs) h r.dc x.list known.good known.legal honest now r refl (free r))))
    where
      heard_values : (x : Store) (i low : ℕ) (r : Record) → value_in (kept_by low i x).base (kept_by low i x).list r ≡ value_in x.base x.list r
      heard_values x i low r = by (x.incarnation == i)
        where
          by : (b : Bool) → value_in (if b then marked x low else x).base (if b then marked x low else x).list r ≡ value_in x.base x.list r
          by true = refl
          by false = refl

  -- of a data component that isn't there nothing was ever done
  away : (r : Record) → slice_get w.dcs r.dc ≡ None → base_of v.dcs r ≡ serial_from w.core.procs (base_of w.dcs) w.core.events r
  away r none =
      let gone : base_of v.dcs r ≡ None = still (slice_get v.dcs r.dc) refl in
      let never : base_of w.dcs r ≡ None = ap (λ (u : Option Store). row_of (base_in u) r) none in
      let honest = honest_same s.base (base_of w.dcs) based h s.honest in
      gone ∙ (sym never ∙ (sym (untouched (base_of w.dcs) (done h) r off)
      ∙ values_serial_from w.core.procs (base_of w.dcs) h known.good known.legal honest r (free r)))
    where
      still : (u : Option Store) → slice_get v.dcs r.dc ≡ u → base_of v.dcs r ≡ None
      still None at = ap (λ (z : Option Store). row_of (base_in z) r) at
      still (Some t) at =
          let was = was_kept (low_water h) w.core.sites w.dcs v.dcs r.dc t cut.forgotten at in
          absurd (none_some _ was.s none was.at)

      off_as : (b : Bool) → (b ≡ true → ⊥) → b ≡ false
      off_as true never = absurd (never refl)
      off_as false never = refl

      off : (k : ℕ) (e : Performed) → slice_get (done h) k ≡ Some e → record_eq (target e.1) r ≡ false
      off k e at = off_as (record_eq (target e.1) r) (λ same.
          let said = said_of (done h) k e at in
          let there = s.ok.said e.0 e.1 said.0 (done_logs w.core.procs h known.legal k e at) said.1 in
          let here : dc_of e.1 ≡ r.dc = ap (λ (z : Record). z.dc) (eq_is (target e.1) r same) in
          none_some _ there.0 none (subst (λ (i : ℕ). slice_get w.dcs i ≡ Some there.0) here there.1))

  pub cut_leaves : (r : Record) → base_of v.dcs r ≡ serial_from w.core.procs (base_of w.dcs) w.core.events r
  cut_leaves r = by (slice_get w.dcs r.dc) refl
    where
      by : (u : Option Store) → slice_get w.dcs r.dc ≡ u → base_of v.dcs r ≡ serial_from w.core.procs (base_of w.dcs) w.core.events r
      by None at = away r at
      by (Some x) at = there r x at

  -- the log and the procedures behind it
  begins : (P : Whole → Type 0) → P (record w { core = record w.core { events = anew w.core.events; given_up = [] }; dcs = v.dcs }) → P v
  begins P is = subst P (sym cut.next) is

  pub cut_values : (later : List Event) (r : Record)
      → serial_from w.core.procs (base_of v.dcs) (later ++ anew h) r ≡ serial_from w.core.procs (base_of w.dcs) (later ++ h) r
  cut_values later r =
      serial_same w.core.procs (base_of v.dcs) (serial_from w.core.procs (base_of w.dcs) h) cut_leaves (later ++ anew h) r
      ∙ ap (λ (m : Table). m r) (sym (composed w.core.procs (base_of w.dcs) h known.legal cut.may.rest later))

  pub cut_ends : (later : List Event) → EndsAsSerialFrom w.core.procs (base_of w.dcs) h → EndsAsSerialFrom w.core.procs (base_of v.dcs) (later ++ anew h)
      → EndsAsSerialFrom w.core.procs (base_of w.dcs) (later ++ h)
  cut_ends later before ends =
      long_ends w.core.procs (base_of w.dcs) h known.legal cut.may.rest later before
      (ends_same w.core.procs (base_of v.dcs) (serial_from w.core.procs (base_of w.dcs) h) cut_leaves (later ++ anew h) ends)

pub living_leaves : (w v : Whole) (o : Outcome) → HasLived w → Cuts w o v → (r : Record)
    → base_of v.dcs r ≡ serial_from w.core.procs (base_of w.dcs) w.core.events r
living_leaves w v o l cut r = cut_leaves w v o (living_known w l) (living_listed w l) cut r

pub living_values : (w v : Whole) (o : Outcome) → HasLived w → Cuts w o v → (later : List Event) (r : Record)
    → serial_from v.core.procs (base_of v.dcs) (later ++ v.core.events) r ≡ serial_from w.core.procs (base_of w.dcs) (later ++ w.core.events) r
living_values w v o l cut later r =
    begins w v o (living_known w l) (living_listed w l) cut
    (λ (u : Whole). serial_from u.core.procs (base_of v.dcs) (later ++ u.core.events) r ≡ serial_from w.core.procs (base_of w.dcs) (later ++ w.core.events) r)
    (cut_values w v o (living_known w l) (living_listed w l) cut later r)

pub living_ends : (w v : Whole) (o : Outcome) → HasLived w → Cuts w o v → (later : List Event)
    → EndsAsSerialFrom v.core.procs (base_of v.dcs) (later ++ v.core.events) → EndsAsSerialFrom w.core.procs (base_of w.dcs) (later ++ w.core.events)
living_ends w v o l cut later ends =
    cut_ends w v o (living_known w l) (living_listed w l) cut later (living_serial w l).answers
    (subst (λ (u : Whole). EndsAsSerialFrom u.core.procs (base_of v.dcs) (later ++ u.core.events)) cut.next ends)
