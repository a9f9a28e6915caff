-- Sets of locks that exclude each other, and who stands in the way.
use Rattle.std.proofs.Common.{◌≡◌, ℕ, Bool, true, false, not, ◌||◌, List, [], ◌∷◌, Option, Some, None, refl, sym, ◌∙◌, ap, inl, inr}
use Rattle.std.specs.Prelude.{◌==◌, nat_lt, if◌then◌else◌}
use Rattle.std.proofs.lemmas.Bool.{cond-true, cond-false}
use Rattle.access_slots.specs.declared.slot.Record.{Record}
use Rattle.access_slots.specs.declared.slot.Mode.{Mode}
use Rattle.access_slots.specs.declared.lock.Lock.{Lock}
use Rattle.access_slots.specs.declared.op.Op.{Op}
use Rattle.access_slots.specs.Held.{Wanted, excludes, in_the_way}
use Rattle.access_slots.specs.Locks.{mode_in, record_eq, Rising}
use Rattle.access_slots.proofs.Records.{eq_same, eq_is}
use Rattle.access_slots.proofs.Locking.{none_above, rising_rest}
use Rattle.lock_table.specs.Clashes.{clashes}
use Rattle.lock_table.specs.Facts.{Table, AreHeld, held_by}
use Rattle.request_numbers.specs.Given.{holds}
use Rattle.verifier.specs.Checked.{Checked}
use Rattle.tc_log.specs.declared.event.Event.{Event}
use Rattle.tc_log.specs.declared.event.Outcome.{Outcome}
use Rattle.history.specs.Calls.{Call, held, held_for, locks_of}
use Rattle.transactions.specs.declared.Sent.{Sent}
use Rattle.transactions.specs.declared.Next.TheVariants as next
use Rattle.transactions.specs.Legal.{first_undo}
use Rattle.transactions.specs.Next.{next_by, next_in, ends_or_undoes, runs_on, idles}
use Rattle.transactions.specs.Reached.{Reached, Asks, Ends, Nowhere, decls}
use Rattle.transactions.specs.Standing.{Standing, standing}
use Rattle.transactions.proofs.Headline.{no_call}
use Rattle.slab.specs.Slab.{Slab, get}
use Rattle.tc_core.specs.AtKey.{StandsAt}
use Rattle.tc_core.specs.Core.{Core}
use Rattle.tc_core.specs.Running.{as_reached}
use Rattle.tc_core.specs.Replies.{next_at}
use Rattle.tc_core.specs.Admission.{IsCalled, IsUncallable, Takes}
use Rattle.tc_core.specs.Blocked.{IsBlocked, stranded_by, is_stranded, stands_in_the_way}
use Rattle.tc_core.specs.Joining.Holders.{stuck_by, stands_still, IsStill, AllStandStill, HoldsUp}
use Rattle.tc_core.specs.Kept.{IsBook, core_of, is_doubted}
use Rattle.tc_core.specs.Loaded.{Loaded}
use Rattle.tc_core.specs.declared.book.Book.{Book}
use Rattle.tc_core.specs.declared.state.Refusal.{Refusal}
use Rattle.tc_core.specs.declared.state.Refusal.TheVariants as refusal
use Rattle.tc_core.specs.declared.transaction.Tx.{Tx}
use Rattle.tc_core.proofs.KeptLemmas.{Seen, seen, next_kept}

-- ---- two sets of locks

or_true : (b : Bool) → (b || true) ≡ true
or_true true = refl
or_true false = refl

or_none : (b : Bool) → (b || false) ≡ b
or_none true = refl
or_none false = refl

excludes_none : (m : Option Mode) → excludes m None ≡ false
excludes_none None = refl
excludes_none (Some m) = refl

-- where one lock excludes another, the sets clash
pub clash_from : (wanted : List Lock) (kept : Wanted) (r : Record) → excludes (mode_in wanted r) (kept r) ≡ true → clashes wanted kept ≡ true
clash_from [] kept r e = absurd (cc)
clash_from (l ∷ locks) kept r e = by (record_eq l.«record» r) refl (λ later. clash_from locks kept r later)
  where
    by : (b : Bool) → record_eq l.«record» r ≡ b
        → (excludes (mode_in locks r) (kept r) ≡ true → clashes locks kept ≡ true)
        → clashes (l ∷ locks) kept ≡ true
    by true is later =
        let same : l.«record» ≡ r = eq_is l.«record» r is in
        let mine : mode_in (l ∷ locks) r ≡ Some l.mode = cond-true _ (Some l.mode) (mode_in locks r) is in
        let here : excludes (Some l.mode) (kept l.«record») ≡ true =
        ap (λ (x : Record). excludes (Some l.mode) (kept x)) same ∙ (ap (λ (m : Option Mode). excludes m (kept r)) (sym mine) ∙ e) in
        ap (λ (b : Bool). b || clashes locks kept) here
    by false is later =
        let other : mode_in (l ∷ locks) r ≡ mode_in locks r = cond-false _ (Some l.mode) (mode_in locks r) is in
        let rest = later (ap (λ (m : Option Mode). excludes m (kept r)) (sym other) ∙ e) in
        ap (λ (b : Bool). excludes (Some l.mode) (kept l.«record») || b) rest ∙ or_true (excludes (Some l.mode) (kept l.«record»))

-- and where they clash, one lock excludes another
pub record Excluded (wanted : List Lock) (kept : Wanted) : Type 0 where
  pub name : Record
  pub excluded : excludes (mode_in wanted name) (kept name) ≡ true

-- a lock above all of these isn't among them
apart_above : (l : Lock) (locks : List Lock) (kept : Wanted) → Rising (l ∷ locks) → (later : Excluded locks kept) (b : Bool)
    → record_eq l.«record» later.name ≡ b → b ≡ false
apart_above l locks kept rising later false e = refl
apart_above l locks kept rising later true same =
    let it = eq_is l.«record» later.name same in
    let none : mode_in locks later.name ≡ None = ap (mode_in locks) (sym it) ∙ none_above l.«record» locks rising in
    absurd (let bad : false ≡ true = sym (ap (λ (m : Option Mode). excludes m (kept later.name)) none) ∙ later.excluded in cc)

pub clash_at : (wanted : List Lock) (kept : Wanted) → Rising wanted → clashes wanted kept ≡ true → Excluded wanted kept
clash_at [] kept rising e = absurd (cc)
clash_at (l ∷ locks) kept rising e = by (excludes (Some l.mode) (kept l.«record»)) refl (λ rest. clash_at locks kept (rising_rest l locks rising) rest)
  where
    by : (b : Bool) → excludes (Some l.mode) (kept l.«record») ≡ b
        → (clashes locks kept ≡ true → Excluded locks kept) → Excluded (l ∷ locks) kept
    by true is further = record {
      name = l.«record»;
      excluded = ap (λ (m : Option Mode). excludes m (kept l.«record»)) (cond-true _ (Some l.mode) (mode_in locks l.«record») (eq_same l.«record»)) ∙ is;
    }
    by false is further =
        let later = further (sym (ap (λ (b : Bool). b || clashes locks kept) is) ∙ e) in
        let differ : record_eq l.«record» later.name ≡ false = apart_above l locks kept rising later (record_eq l.«record» later.name) refl in
        record {
          name = later.name;
          excluded = ap (λ (m : Option Mode). excludes m (kept later.name))
              (cond-false _ (Some l.mode) (mode_in locks later.name) differ) ∙ later.excluded;
        }

-- ---- a transaction in doubt or stuck, as it is kept and by the log

stuck_ends : (ns : List ℕ) (left : Option Op) (tries last : ℕ) (o : Outcome)
    → stranded_by ns (Some (ends_or_undoes left tries last o)) ≡ stuck_by (Some (ends_or_undoes left tries last o))
stuck_ends ns None tries last o = refl
stuck_ends ns (Some w) tries last o =
    elim (nat_lt tries 4) as (λ b. stranded_by ns (Some (if b then next.Undoes w else next.Stuck last))
    ≡ stuck_by (Some (if b then next.Undoes w else next.Stuck last))) [
      | true ↦ refl
      | false ↦ refl
    ]

stuck_idle : (ns : List ℕ) (full : Bool) (left : Option Op) (tries last : ℕ) (at : Reached)
    → stranded_by ns (idles full left tries last at) ≡ stuck_by (idles full left tries last at)
stuck_idle ns true left tries last at = stuck_ends ns left tries last _
stuck_idle ns false left tries last (Asks o) = refl
stuck_idle ns false left tries last (Ends v) = by (v == 0) refl
  where
    by : (b : Bool) → (v == 0) ≡ b → stranded_by ns (runs_on left tries last (Ends v)) ≡ stuck_by (runs_on left tries last (Ends v))
    by true is = rw is refl
    by false is = rw is (stuck_ends ns left tries last _)
stuck_idle ns false left tries last Nowhere = refl

stranded_next : (ns : List ℕ) (sent : Option Sent) (full : Bool) (left : Option Op) (tries last : ℕ) (at : Reached)
    → stranded_by ns (next_by sent full left tries last at) ≡ (is_doubted ns sent || stuck_by (next_by sent full left tries last at))
stranded_next ns None full left tries last at = stuck_idle ns full left tries last at
stranded_next ns (Some r) full left tries last at = sym (or_none (holds r.number ns))

pub stranded_kept : (c : Core) (t : ℕ) (tx : Tx) (w : Seen c.procs c.events t tx)
    → tx.in_doubt ≡ is_doubted c.given_up tx.sent → is_stranded c t ≡ stands_still tx
unfolding next_at
stranded_kept c t tx w marked =
    let does : next_at c t ≡ next_by tx.sent tx.full (first_undo tx.undo.ops) tx.tries tx.last
    (as_reached tx.pause) = ap (next_in c.procs) w.is ∙ next_kept c.procs c.events t tx w in
    ap (stranded_by c.given_up) does
    ∙ (stranded_next c.given_up tx.sent tx.full (first_undo tx.undo.ops) tx.tries tx.last (as_reached tx.pause)
    ∙ ap (λ (b : Bool). b || stuck_by (next_by tx.sent tx.full (first_undo tx.undo.ops) tx.tries tx.last (as_reached tx.pause))) (sym marked))

-- ---- who holds what

-- a transaction in the way has a key
pub record Holder (ps : List Checked) (h : List Event) (txns : Slab Tx) (t : ℕ) : Type 0 where
  pub key : ℕ
  pub tx : Tx
  pub found : get txns key ≡ Some tx
  pub serial : tx.serial ≡ t
  pub sees : Seen ps h t tx

pub holder_at : (l : Loaded) (b : Book) (call : Call) (r : Record) (t : ℕ) → IsBook l.codes b
    → stands_in_the_way (core_of l b) call r t ≡ true → Holder l.codes b.log.events b.txns t
holder_at l b call r t k stands = by (standing b.log.events t) refl
  where
    by : (o : Option Standing) → standing b.log.events t ≡ o → Holder l.codes b.log.events b.txns t
    by None none =
        let nothing : held (decls l.codes) b.log.events t r ≡ None =
        ap (λ (c : Option Call). held_for (decls l.codes) c r) (no_call l.codes b.log.events t none) in
        let never : false ≡ true = sym (ap (excludes (locks_of (decls l.codes) call r)) nothing ∙ excludes_none (locks_of (decls l.codes) call r)) ∙ stands in
        absurd (cc)
    by (Some s) is =
        let has = k.kept.places.each t s is in
        record {
          key = has.key;
          tx = has.at.tx;
          found = has.at.found;
          serial = has.at.serial;
          sees =
              seen _ _ _ _ _ _ _ _ has.key t has.at.tx k.kept has.at.found has.at.serial;
        }

-- a call that can't be made isn't called
pub uncallable : (ps : List Checked) (call : Call) (q : Checked) (e : Refusal) → IsUncallable ps call e → IsCalled ps call q → ⊥
uncallable ps call q refusal.NoProcedure none is = absurd (let bad : None ≡ Some q = sym none ∙ is.loaded in cc)
uncallable ps call q refusal.ArgumentCount other is =
    let same : other.0 ≡ q = some_same' other.0 q (sym other.1 ∙ is.loaded) in
    other.2 (is.count ∙ sym (ap (λ (x : Checked). x.decl.args) same))
  where
    some_same' : (x y : Checked) → Some x ≡ Some y → x ≡ y
    some_same' x y e = cc
uncallable ps call q (refusal.Busy b) none is = none
uncallable ps call q refusal.NumbersSpent none is = none
uncallable ps call q refusal.Memory none is = none

-- one that stands in the way holds locks that clash
pub clash_of_holder : (ps : List Checked) (h : List Event) (t : ℕ) (locks : Table) (set : List Lock) (call : Call) (r : Record)
    → AreHeld locks (held (decls ps) h) → ((q : Record) → mode_in set q ≡ locks_of (decls ps) call q)
    → in_the_way (held (decls ps) h) (locks_of (decls ps) call) r t ≡ true → clashes set (held_by locks t) ≡ true
clash_of_holder ps h t locks set call r so are stands =
    clash_from set (held_by locks t) r
    (ap (λ (m : Option Mode). excludes m (held_by locks t r)) (are r) ∙ (ap (excludes (locks_of (decls ps) call r)) (so t r) ∙ stands))

-- and one whose locks clash stands in the way
pub record InTheWay (ps : List Checked) (h : List Event) (call : Call) (t : ℕ) : Type 0 where
  pub name : Record
  pub stands : in_the_way (held (decls ps) h) (locks_of (decls ps) call) name t ≡ true

pub holder_of_clash : (ps : List Checked) (h : List Event) (t : ℕ) (locks : Table) (set : List Lock) (call : Call)
    → AreHeld locks (held (decls ps) h) → ((q : Record) → mode_in set q ≡ locks_of (decls ps) call q) → Rising set
    → clashes set (held_by locks t) ≡ true → InTheWay ps h call t
holder_of_clash ps h t locks set call so are rising clash =
    let at = clash_at set (held_by locks t) rising clash in
    record {
      name = at.name;
      stands = ap (λ (m : Option Mode). excludes m (held (decls ps) h t at.name)) (sym (are at.name))
          ∙ (ap (excludes (mode_in set at.name)) (sym (so t at.name)) ∙ at.excluded);
    }

pub not_true : (b : Bool) → not b ≡ true → b ≡ false
not_true true e = sym e
not_true false e = refl

pub not_false : (b : Bool) → not b ≡ false → b ≡ true
not_false true e = refl
not_false false e = sym e

-- what stands at a key that was found has the number
pub serial_at : (txns : Slab Tx) (key t : ℕ) (tx : Tx) → StandsAt txns key t → get txns key ≡ Some tx → tx.serial ≡ t
serial_at txns key t tx stands found = ap (λ (x : Tx). x.serial) (some_is tx stands.tx (sym found ∙ stands.found)) ∙ stands.serial
  where
    some_is : (x y : Tx) → Some x ≡ Some y → x ≡ y
    some_is x y e = cc

-- one that stands still is in doubt or stuck, at the key that it has
still_at : (l : Loaded) (b : Book) (t : ℕ) → IsBook l.codes b → (at : Holder l.codes b.log.events b.txns t) → IsStill b.txns t → stands_still at.tx ≡ true
still_at l b t k at (inr none) = absurd (none at.key at.tx at.found at.serial)
still_at l b t k at (inl still) =
    let here = still.0 in
    let key : here.key ≡ at.key = k.kept.places.once here.key at.key here.tx at.tx here.found at.found (here.serial ∙ sym at.serial) in
    let same : here.tx ≡ at.tx = some_tx here.tx at.tx (sym here.found ∙ (ap (get b.txns) key ∙ at.found)) in
    ap stands_still (sym same) ∙ still.1
  where
    some_tx : (x y : Tx) → Some x ≡ Some y → x ≡ y
    some_tx x y e = cc

-- what the look at who stands in the way tells
pub blocked_if : (l : Loaded) (b : Book) (call : Call) (set : List Lock) (walk : Bool) → IsBook l.codes b
    → Takes (core_of l b) call → ((q : Record) → mode_in set q ≡ locks_of (decls l.codes) call q) → Rising set
    → (name : Record) (holder : ℕ) → stands_in_the_way (core_of l b) call name holder ≡ true
    → (walk ≡ true → AllStandStill b.locks b.txns set) → (walk ≡ false → HoldsUp b.locks b.txns set)
    → (walk ≡ true → IsBlocked (core_of l b) call) × (IsBlocked (core_of l b) call → walk ≡ true)
blocked_if l b call set walk k takes are rising name holder stands all some = (
  λ e. record {
    takes = takes;
    name = name;
    holder = holder;
    stands = stands;
    stranded = λ r t here.
        let at = holder_at l b call r t k here in
        let clash = clash_of_holder l.codes b.log.events t b.locks set call r k.kept.locks_are are here in
        stranded_kept (core_of l b) t at.tx at.sees (k.marked.marks at.key at.tx at.found) ∙ still_at l b t k at (all e t clash);
  },
  λ blocked. by walk refl blocked,
)
  where
    by : (w : Bool) → walk ≡ w → IsBlocked (core_of l b) call → w ≡ true
    by true e blocked = refl
    by false e blocked =
        let up = some e in
        let at = up.moves.at in
        let w = seen _ _ _ _ _ _ _ _ at.key up.txn at.tx k.kept at.found at.serial in
        let way = holder_of_clash l.codes b.log.events up.txn b.locks set call k.kept.locks_are are rising up.clash in
        let still : true ≡ false = sym (blocked.stranded way.name up.txn way.stands)
        ∙ (stranded_kept (core_of l b) up.txn at.tx w (k.marked.marks at.key at.tx at.found) ∙ up.moves.moves) in
        absurd (cc)
