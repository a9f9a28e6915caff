-- Where a log begins, and the rows with which data components begin.
use Rattle.std.proofs.Common.{◌≡◌, ◌≢◌, ℕ, ◌+◌, ◌<◌, ◌≤◌, Bool, true, false, ◌&&◌, ◌==◌, List, [], ◌∷◌, ◌++◌, length}
use Rattle.std.proofs.Common.{take, get_or, Option, Some, None, inl, inr, arith, refl, sym, ◌∙◌, ap, if◌then◌else◌}
use Rattle.std.specs.Prelude.{slice_get}
use Rattle.std.proofs.lemmas.List.{take_more}
use Rattle.std.proofs.lemmas.Bool.{cases_eq, cases_lt, cond-true, cond-false}
use Rattle.access_slots.specs.declared.slot.Record.{Record}
use Rattle.access_slots.specs.Locks.{record_eq}
use Rattle.access_slots.proofs.Records.{eq_is}
use Rattle.tc_log.specs.declared.event.Event.{Event}
use Rattle.tc_log.specs.declared.event.Event.TheVariants.{Checkpoint}
use Rattle.history.specs.Anew.{begun}
use Rattle.data_component.specs.Performed.{RecordValue}
use Rattle.data_component.specs.Sorted.{Rows, row_of}
use Rattle.data_component.specs.Store.{Store}
use Rattle.transactions.proofs.StandingLemmas.{eq-true, eq-false}
use Rattle.serial.specs.Audit.{base_of, base_in}
use Rattle.audit.specs.Joining.Based.{begun_by, or_value, row_here, rows_here}
use Rattle.audit.proofs.ListedLemmas.{within}

pub begun_next : (e : Event) (h : List Event) → begun_by e (begun h) ≡ begun (e ∷ h)
begun_next (Checkpoint before numbers) h = refl
begun_next _ h = refl

-- ---- values, the first that there is

pub or_none : (v : RecordValue) → or_value v None ≡ v
or_none None = refl
or_none (Some x) = refl

or_more : (u v w : RecordValue) → or_value (or_value u v) w ≡ or_value u (or_value v w)
or_more None v w = refl
or_more (Some x) v w = refl

-- ---- one row more

find_push : (xs : Rows) (x : Record × List ℕ) (r : Record) → row_of (xs ++ x ∷ []) r ≡ or_value (row_of xs r) (if record_eq x.0 r then Some x.1 else None)
find_push [] x r = refl
find_push (y ∷ xs) x r = by (record_eq y.0 r) (find_push xs x r)
  where
    by : (b : Bool) → row_of (xs ++ x ∷ []) r ≡ or_value (row_of xs r) (if record_eq x.0 r then Some x.1 else None)
        → (if b then Some y.1 else row_of (xs ++ x ∷ []) r) ≡ or_value (if b then Some y.1 else row_of xs r) (if record_eq x.0 r then Some x.1 else None)
    by true ih = refl
    by false ih = ih

-- a row of another data component says nothing of this one's records
here_by : (d : ℕ) (x : Record × List ℕ) (r : Record) → row_here d x r ≡ (if r.dc == d then (if record_eq x.0 r then Some x.1 else None) else None)
here_by d x r = by (record_eq x.0 r) refl
  where
    same : x.0 ≡ r → (if (x.0.dc == d) && true then Some x.1 else None) ≡ (if r.dc == d then Some x.1 else None)
    same is = and_true (x.0.dc == d) ∙ ap (λ (q : Record). if q.dc == d then Some x.1 else None) is
      where
        and_true : (a : Bool) → (if a && true then Some x.1 else None) ≡ (if a then Some x.1 else None)
        and_true true = refl
        and_true false = refl

    never : (a c : Bool) → (if a && false then Some x.1 else None) ≡ (if c then None else None)
    never true true = refl
    never true false = refl
    never false true = refl
    never false false = refl

    by : (b : Bool) → record_eq x.0 r ≡ b → (if (x.0.dc == d) && record_eq x.0 r then Some x.1 else None)
        ≡ (if r.dc == d then (if record_eq x.0 r then Some x.1 else None) else None)
    by true is =
        ap (λ (c : Bool). if (x.0.dc == d) && c then Some x.1 else None) is
        ∙ (same (eq_is x.0 r is) ∙ ap (λ (c : Bool). if r.dc == d then (if c then Some x.1 else None) else None) (sym is))
    by false is =
        ap (λ (c : Bool). if (x.0.dc == d) && c then Some x.1 else None) is
        ∙ (never (x.0.dc == d) (r.dc == d) ∙ ap (λ (c : Bool). if r.dc == d then (if c then Some x.1 else None) else None) (sym is))

rows_push : (d : ℕ) (xs : Rows) (x : Record × List ℕ) (r : Record) → or_value (rows_here d xs r) (row_here d x r) ≡ rows_here d (xs ++ x ∷ []) r
rows_push d xs x r = ap (or_value (rows_here d xs r)) (here_by d x r)
    ∙ (by (r.dc == d) ∙ ap (λ (v : RecordValue). if r.dc == d then v else None) (sym (find_push xs x r)))
  where
    by : (b : Bool) → or_value (if b then row_of xs r else None) (if b then (if record_eq x.0 r then Some x.1 else None) else None)
        ≡ (if b then or_value (row_of xs r) (if record_eq x.0 r then Some x.1 else None) else None)
    by true = refl
    by false = refl

pub rows_more : (d : ℕ) (rows : Rows) (k : ℕ) (e : Record × List ℕ) (old cur new : Record → RecordValue) → k < length rows
    → ((r : Record) → cur r ≡ or_value (old r) (rows_here d (take k rows) r)) → ((r : Record) → new r ≡ or_value (cur r) (row_here d (get_or rows k e) r))
    → (r : Record) → new r ≡ or_value (old r) (rows_here d (take (k + 1) rows) r)
rows_more d rows k e old cur new less before now r =
    let x = get_or rows k e in
    now r ∙ (ap (λ (v : RecordValue). or_value v (row_here d x r)) (before r)
    ∙ (or_more (old r) (rows_here d (take k rows) r) (row_here d x r)
    ∙ (ap (or_value (old r)) (rows_push d (take k rows) x r) ∙ ap (λ (l : Rows). or_value (old r) (rows_here d l r)) (sym (take_more rows k e less)))))

pub rows_none : (d : ℕ) (v : RecordValue) (r : Record) → v ≡ or_value v (rows_here d [] r)
rows_none d v r = by (r.dc == d)
  where
    by : (b : Bool) → v ≡ or_value v (if b then None else None)
    by true = sym (or_none v)
    by false = sym (or_none v)

-- ---- one row

pub elsewhere : (d : ℕ) (x : Record × List ℕ) (v : RecordValue) (r : Record) → x.0.dc ≢ d → v ≡ or_value v (row_here d x r)
elsewhere d x v r other = sym (or_none v) ∙ ap (or_value v) (sym (ap (λ (c : Bool). if c && record_eq x.0 r then Some x.1 else None) (eq-false x.0.dc d other)))

pub there_already : (d : ℕ) (x : Record × List ℕ) (m : Record → RecordValue) (v : List ℕ) (r : Record) → m x.0 ≡ Some v → m r ≡ or_value (m r) (row_here d x r)
there_already d x m v r is = by (record_eq x.0 r) refl
  where
    none_by : (a : Bool) → (if a && false then Some x.1 else None) ≡ None
    none_by true = refl
    none_by false = refl

    some_stays : (w : RecordValue) → m r ≡ Some v → m r ≡ or_value (m r) w
    some_stays w some = some ∙ sym (ap (λ (u : RecordValue). or_value u w) some)

    by : (b : Bool) → record_eq x.0 r ≡ b → m r ≡ or_value (m r) (row_here d x r)
    by true same = some_stays (row_here d x r) (sym (ap m (eq_is x.0 r same)) ∙ is)
    by false same = sym (or_none (m r)) ∙ ap (or_value (m r))
        (sym (ap (λ (c : Bool). if (x.0.dc == d) && c then Some x.1 else None) same ∙ none_by (x.0.dc == d)))

pub put_here : (d : ℕ) (x : Record × List ℕ) (m w : Record → RecordValue) (r : Record) → x.0.dc ≡ d → m x.0 ≡ None
    → w r ≡ (if record_eq x.0 r then Some x.1 else m r) → w r ≡ or_value (m r) (row_here d x r)
put_here d x m w r here none now = now ∙ by (record_eq x.0 r) refl
  where
    open_here : row_here d x r ≡ (if record_eq x.0 r then Some x.1 else None)
    open_here = ap (λ (c : Bool). if c && record_eq x.0 r then Some x.1 else None) (eq-true x.0.dc d here)

    by : (b : Bool) → record_eq x.0 r ≡ b → (if record_eq x.0 r then Some x.1 else m r) ≡ or_value (m r) (row_here d x r)
    by true same =
        cond-true _ (Some x.1) (m r) same
        ∙ (ap (λ (u : RecordValue). or_value u (Some x.1)) (sym (ap m (sym (eq_is x.0 r same)) ∙ none))
        ∙ ap (or_value (m r)) (sym (open_here ∙ cond-true _ (Some x.1) None same)))
    by false same =
        cond-false _ (Some x.1) (m r) same ∙ (sym (or_none (m r)) ∙ ap (or_value (m r)) (sym (open_here ∙ cond-false _ (Some x.1) None same)))

-- ---- one data component more

pub based_more : (dcs : List Store) (k : ℕ) (s : Store) (cur new : Record → RecordValue) → slice_get dcs k ≡ Some s
    → ((r : Record) → r.dc < k → cur r ≡ base_of dcs r) × ((r : Record) → k ≤ r.dc → cur r ≡ None)
    → ((r : Record) → new r ≡ or_value (cur r) (rows_here k s.base r))
    → ((r : Record) → r.dc < k + 1 → new r ≡ base_of dcs r) × ((r : Record) → k + 1 ≤ r.dc → new r ≡ None)
based_more dcs k s cur new at before now = (
  λ r below. elim (cases_eq r.dc k) [
    | inl same ↦
        now r ∙ (ap (λ (v : RecordValue). or_value v (rows_here k s.base r)) (before.1 r (omega (arith, same)))
        ∙ (cond-true _ (row_of s.base r) None (eq-true r.dc k same) ∙ ap (λ (u : Option Store). row_of (base_in u) r) (sym (ap (slice_get dcs) same ∙ at))))
    | inr other ↦ apart r other ∙ before.0 r (omega (arith, below, other))
  ],
  λ r above. apart r (λ same. absurd (omega (arith, same, above))) ∙ before.1 r (omega (arith, above)),
)
  where
    apart : (r : Record) → r.dc ≢ k → new r ≡ cur r
    apart r other = now r ∙ (ap (or_value (cur r)) (cond-false _ (row_of s.base r) None (eq-false r.dc k other)) ∙ or_none (cur r))

pub based_all : (dcs : List Store) (k : ℕ) (m : Record → RecordValue) → length dcs ≤ k
    → ((r : Record) → r.dc < k → m r ≡ base_of dcs r) × ((r : Record) → k ≤ r.dc → m r ≡ None) → (r : Record)
    → m r ≡ base_of dcs r
based_all dcs k m past so r = by (slice_get dcs r.dc) refl
  where
    by : (u : Option Store) → slice_get dcs r.dc ≡ u → m r ≡ base_of dcs r
    by (Some s) at = (let inside = within dcs r.dc s at in so.0 r (omega (arith, inside, past)))
    by None at = elim (cases_lt r.dc k) [
      | inl less ↦ so.0 r less
      | inr more ↦ so.1 r more ∙ ap (λ (u : Option Store). row_of (base_in u) r) (sym at)
    ]
