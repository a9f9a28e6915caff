-- What an admission keeps.
use Rattle.std.proofs.Common.{◌≡◌, ◌≢◌, ℕ, ◌+◌, ◌*◌, ◌<◌, ◌≤◌, ◌^◌, Bool, true, false, List, [], ◌∷◌}
use Rattle.std.proofs.Common.{length, Option, Some, None, arith, sym, ◌∙◌, ap, subst, zero, suc, inl, inr}
use Rattle.std.specs.Prelude.{slice_get, slice_index_or, count_by, is_some}
use Rattle.std.proofs.lemmas.Bool.{cases_eq}
use Rattle.std.specs.Prelude.{nat_lt}
use Rattle.std.proofs.lemmas.Bool.Decides.{nat_tests}
use Rattle.access_slots.specs.Declaration.{Declaration}
use Rattle.access_slots.specs.declared.slot.Mode.{Mode}
use Rattle.access_slots.specs.declared.lock.Lock.{Lock}
use Rattle.access_slots.specs.Locks.{AreLocksOf, mode_in, mode_named}
use Rattle.access_slots.specs.Held.{Held, Wanted, Compatible, IsFirstInTheWay, excludes, in_the_way}
use Rattle.access_slots.specs.declared.slot.Record.{Record}
use Rattle.semantics.specs.Reach.{AreArguments}
use Rattle.verifier.specs.Checked.{Checked}
use Rattle.lock_table.specs.Facts.{Table, AreHeld, held_by, granted}
use Rattle.request_numbers.specs.Given.{Given}
use Rattle.tc_log.specs.declared.event.Event.{Event}
use Rattle.tc_log.specs.declared.event.Event.TheVariants.{Admit, Checkpoint}
use Rattle.tc_log.specs.History.{History}
use Rattle.history.specs.Calls.{Call, admitted, held, held_for, locks_by, locks_of}
use Rattle.transactions.proofs.Running.{get_decl}
use Rattle.transactions.proofs.Headline.{no_call}
use Rattle.history.specs.Flight.{given}
use Rattle.history.specs.Anew.{begun}
use Rattle.transactions.specs.Standing.{Standing, standing, fresh}
use Rattle.transactions.specs.Reached.{decls, calls, calls_in}
use Rattle.transactions.specs.Room.{numbers_left, events_left, places_left, each_one, weighed, total_to, total}
use Rattle.transactions.specs.Legal.{Legal}
use Rattle.transactions.proofs.StandingLemmas.{some_same, none_some, standing-same, standing-other, standing-above, total-admit}
use Rattle.slab.specs.Slab.{Slab, get, slab_len, Updates}
use Rattle.tc_core.specs.Running.{Runs}
use Rattle.tc_core.specs.declared.transaction.Tx.{Tx}
use Rattle.tc_core.specs.declared.book.Book.{Book}
use Rattle.tc_core.specs.Joining.Rooms.{OnlyRoom, HasRoom, MayEnter}
use Rattle.tc_core.specs.Loaded.{Loaded}
use Rattle.tc_core.specs.Admission.{IsCalled, needed, IsFree}
use Rattle.tc_core.specs.Joining.Writes.{Writes}
use Rattle.tc_core.proofs.MarkedLemmas.{marked-room}
use Rattle.tc_core.specs.Kept.{IsBook, core_of, Keeps, Matches, IsOpen, Places, Kept}
use Rattle.tc_core.proofs.KeptLemmas.{calls_kept, held-admitted}

pub book-room : (ps : List Checked) (b b' : Book) → IsBook ps b → OnlyRoom b b' → IsBook ps b'
book-room ps b b' is o =
    let k = is.kept in
    let txns = b.txns in
    let txns' = b'.txns in
    let same : (key : ℕ) → get txns' key ≡ get txns key = (λ key. ap (λ (xs : List (Option Tx)). slice_index_or xs key None) o.slots) in
    let same_len : slab_len txns' ≡ slab_len txns = ap (λ (xs : List (Option Tx)). count_by is_some xs) o.slots in
    let more = o.log_room in
    let wider = o.number_room in
    let owed = o.owed in
    let promised = o.promised in
    let doubts = is.doubts in
    let more_doubts = o.doubt_room in
    let fits = k.rooms.numbers_fit in
    let given_same : given b'.log.events ≡ given b.log.events = ap given o.events in
    let places : Places ps b.log.events txns' = record {
      stands = λ key tx at. k.places.stands key tx (sym (same key) ∙ at);
      each = λ t s is. (let has = k.places.each t s is in
          record {
            key = has.key;
            at = record {
              tx = has.at.tx;
              found = same has.key
                  ∙ has.at.found;
              serial = has.at.serial;
            };
          });
      once = λ key other tx ty at at' e. k.places.once key other tx ty (sym (same key) ∙ at) (sym (same other) ∙ at') e;
    } in
    record {
      kept = record {
        legal = rw (o.events) k.legal;
        good = k.good;
        places = rw (o.events) places;
        serials_are = rw (o.events) (o.serials ∙ k.serials_are);
        locks_are = rw (o.events) (λ t r. o.claims t r ∙ k.locks_are t r);
        last_is = rw (o.events) (o.last ∙ k.last_is);
        pending_is = rw (o.events) (o.pending ∙ k.pending_is);
        rooms = record {
          count = rw (o.events) (same_len ∙ k.rooms.count);
          owed_is = rw (o.events) (owed ∙ k.rooms.owed_is);
          promised_is = rw (o.events) (promised ∙ k.rooms.promised_is);
          places = rw (o.events) (omega (arith, k.rooms.places, wider));
          events = omega (arith, k.rooms.events, more, owed);
          numbers_fit = omega (arith, fits, given_same, promised);
        };
      };
      from = omega (arith, is.from, o.from, ap begun o.events);
      doubts = omega (arith, doubts, same_len, more_doubts);
      marked = marked-room _ _ _ _ _ _ is.marked o.given_up o.events o.slots;
      starts = rw (o.events, o.sites, o.starts) is.starts;
    }

total_to-few : (h : List Event) (n : ℕ) → total_to places_left h n ≤ total_to each_one h n
total_to-few h zero = omega arith
total_to-few h (suc n) = omega (arith, total_to-few h n, weighed_few (standing h (suc n)))
  where
    weighed_few : (o : Option Standing) → weighed places_left o ≤ weighed each_one o
    weighed_few None = omega arith
    weighed_few (Some s) = omega arith

pub total-few : (h : List Event) → total places_left h ≤ total each_one h
unfolding total
total-few h = total_to-few h (admitted h)

-- a new transaction
pub places-admitted : (ps : List Checked) (h : List Event) (txns txns' : Slab Tx) (key t p : ℕ) (args : List ℕ) (tx : Tx)
    → Places ps h txns → get txns key ≡ None → Updates txns txns' key (Some tx) → standing h t ≡ None → tx.serial ≡ t
    → Matches ps tx (fresh (record { proc = p; args = args }))
    → Places ps (Admit t p args ∷ h) txns'
places-admitted ps h txns txns' key t p args tx old vacant up none serial matches =
    let e : Event = Admit t p args in
    let new : Standing = fresh (record { proc = p; args = args }) in
    let now : standing (e ∷ h) tx.serial ≡ Some new = standing-same e h tx.serial (sym serial) in
    let before : (k : ℕ) (ty : Tx) → k ≢ key → get txns' k ≡ Some ty → get txns k ≡ Some ty = (λ k ty other at. sym (up.others k other) ∙ at) in
    let mine : (k : ℕ) (ty : Tx) → k ≡ key → get txns' k ≡ Some ty
    → tx ≡ ty = (λ k ty same at. sym (some_same ty tx (sym at ∙ (ap (get txns') same ∙ up.changed)))) in
    let apart : (k : ℕ) (ty : Tx) → get txns k ≡ Some ty
    → t ≢ ty.serial = (λ k ty at same. let o = old.stands k ty at in
    none_some _ o.s none (ap (standing h) same ∙ o.is)) in
    record {
      stands = λ k ty at. elim (cases_eq k key) [
        | inl same ↦ subst (λ (x : Tx). IsOpen ps (e ∷ h) x) (mine k ty same at) (record { s = new; is = now; matches = matches })
        | inr other ↦
            let was = before k ty other at in
            let o = old.stands k ty was in
            record { s = o.s; is = standing-other e h ty.serial (apart k ty was) ∙ o.is; matches = o.matches }
      ];
      each = λ u r at. elim (cases_eq t u) [
        | inl same ↦ record { key = key; at = record { tx = tx; found = up.changed; serial = serial ∙ same } }
        | inr other ↦
            let k = old.each u r (sym (standing-other e h u other) ∙ at) in
            let differ : k.key ≢ key = (λ same. none_some _ k.at.tx vacant (ap (get txns) (sym same) ∙ k.at.found)) in
            record { key = k.key; at = record { tx = k.at.tx; found = up.others k.key differ ∙ k.at.found; serial = k.at.serial } }
      ];
      once = λ k l ty tz at at' same.
          elim (cases_eq k key) [
            | inl is_key ↦ elim (cases_eq l key) [
              | inl is_key' ↦ is_key ∙ sym is_key'
              | inr not_key' ↦ absurd (apart l tz (before l tz not_key' at') (sym serial ∙ (ap (λ (x : Tx). x.serial) (mine k ty is_key at) ∙ same)))
            ]
            | inr not_key ↦ elim (cases_eq l key) [
              | inl is_key' ↦ absurd (apart k ty (before k ty not_key at) (sym serial ∙ (ap (λ (x : Tx). x.serial) (mine l tz is_key' at') ∙ sym same)))
              | inr not_key' ↦ old.once k l ty tz (before k ty not_key at) (before l tz not_key' at') same
            ]
          ];
    }

pub kept-admit : (ps : List Checked) (log log' : History) (table table' : Table) (numbers : Given)
    (txns txns' : Slab Tx) (serials owed promised key p : ℕ) (args : List ℕ) (wanted : Wanted) (q : Checked) (tx : Tx)
    → Kept ps log table numbers txns serials owed promised
    → slice_get ps p ≡ Some q → AreArguments q.decl args → Compatible (held (decls ps) log.events) (locks_of (decls ps) (record { proc = p; args = args }))
    → given log.events + 5 * calls_in q + promised ≤ 2 ^ 62 → owed + (2 * (5 * calls_in q) + 2) ≤ log.room → slab_len txns + 1 ≤ numbers.room
    → Keeps q tx (fresh (record { proc = p; args = args })) → tx.serial ≡ serials + 1
    → ((r : Record) → wanted r ≡ locks_of (decls ps) (record { proc = p; args = args }) r) → AreHeld table' (granted (held_by table) (serials + 1) wanted)
    → get txns key ≡ None → Updates txns txns' key (Some tx) → slab_len txns' ≡ slab_len txns + 1
    → log'.events ≡ Admit (serials + 1) p args ∷ log.events → log'.room + 1 ≡ log.room
    → Kept ps log' table' numbers txns' (serials + 1) (owed + (2 * (5 * calls_in q) + 1)) (promised + 5 * calls_in q)
kept-admit ps log log' table table' numbers txns txns' serials owed promised key p args wanted q tx k loaded takes free few room places_room keeps serial are claims vacant up len events log_room =
    let h = log.events in
    let t = serials + 1 in
    let next : t ≡ admitted h + 1 = ap (λ (n : ℕ). n + 1) k.serials_are in
    let none : standing h t ≡ None = standing-above ps h k.legal t (omega (arith, next)) in
    let legal : Legal ps (Admit t p args ∷ h) = (record { next = next; q = q; loaded = loaded; takes = takes; free = free }, k.legal) in
    let places : Places ps (Admit t p args ∷ h) txns' =
    places-admitted ps h txns txns' key t p args tx k.places vacant up none serial
    (record { q = q; loaded = loaded; keeps = keeps }) in
    let add = λ (w : Standing → ℕ). total-admit w h t p args next in
    let calls_are : calls ps p ≡ calls_in q = calls_kept ps p q loaded in
    record {
      legal = rw events legal;
      good = k.good;
      places = rw events places;
      serials_are = rw events next;
      locks_are = rw events (held-admitted ps h t p args wanted table table' k.locks_are are claims);
      last_is = rw events k.last_is;
      pending_is = rw events k.pending_is;
      rooms = record {
        count = rw events (omega (arith, len, k.rooms.count, add each_one));
        owed_is = rw events (omega (arith, k.rooms.owed_is, add (events_left ps), calls_are));
        promised_is = rw events (omega (arith, k.rooms.promised_is, add (numbers_left ps), calls_are));
        places = rw events (omega (arith, add places_left, places_room, k.rooms.count, total-few h));
        events = omega (arith, log_room, room);
        numbers_fit = rw events (omega (arith, few));
      };
    }

-- a transaction that begins is kept as a fresh one
pub keeps_fresh : (q : Checked) (tx : Tx) (p : ℕ) (args : List ℕ) → tx.proc ≡ p → tx.sent ≡ None → tx.full ≡ false
    → tx.undo.ops ≡ [] → tx.tries ≡ 0 → tx.last ≡ 0 → tx.left ≡ 5 * calls_in q → calls_in q ≤ tx.undo.room
    → Runs q tx args [] → Keeps q tx (fresh (record { proc = p; args = args }))
keeps_fresh q tx p args proc sent full undo tries last left room runs = record {
  proc = proc;
  sent = sent;
  full = full;
  undo = undo;
  tries = tries;
  last = last;
  left = omega (arith, left);
  room = omega (arith, room);
  runs = runs;
}

-- ---- the conditions

-- the locks that this declaration's slots name are those of the procedure that has it
pub named_locks : (q : Checked) (d : Declaration) (args : List ℕ) (set : List Lock) → d ≡ q.decl
    → AreLocksOf args d.slots set → AreLocksOf args q.decl.slots set
named_locks q d args set same are = subst (λ (x : Declaration). AreLocksOf args x.slots set) same are

way_same : (held held' : Held) (wanted wanted' : Wanted) → ((t : ℕ) (r : Record) → held t r ≡ held' t r)
    → ((r : Record) → wanted r ≡ wanted' r) → (r : Record) (t : ℕ)
    → in_the_way held wanted r t ≡ in_the_way held' wanted' r t
way_same held held' wanted wanted' h w r t = ap (λ (m : Option Mode). excludes m (held t r)) (w r) ∙ ap (excludes (wanted' r)) (h t r)

pub free_same : (held held' : Held) (wanted wanted' : Wanted) → ((t : ℕ) (r : Record) → held t r ≡ held' t r)
    → ((r : Record) → wanted r ≡ wanted' r) → Compatible held wanted → Compatible held' wanted'
free_same held held' wanted wanted' h w free = λ r t. sym (way_same held held' wanted wanted' h w r t) ∙ free r t

pub busy_same : (held held' : Held) (wanted wanted' : Wanted) (r : Record) (t : ℕ)
    → ((t : ℕ) (r : Record) → held t r ≡ held' t r) → ((r : Record) → wanted r ≡ wanted' r)
    → IsFirstInTheWay held wanted r t → IsFirstInTheWay held' wanted' r t
busy_same held held' wanted wanted' r t h w first = record {
  stands = sym (way_same held held' wanted wanted' h w r t) ∙ first.stands;
  least_record = λ q u less. sym (way_same held held' wanted wanted' h w q u) ∙ first.least_record q u less;
  least_holder = λ u less. sym (way_same held held' wanted wanted' h w r u) ∙ first.least_holder u less;
}

pub few-from : (n : ℕ) → nat_lt (2 ^ 62) n ≡ false → n ≤ 2 ^ 62
few-from n e = grind (arith, nat_tests)

pub many-from : (n : ℕ) → nat_lt (2 ^ 62) n ≡ true → 2 ^ 62 < n
many-from n e = grind (arith, nat_tests)

-- a number above the last has no lock
pub nothing_new : (ps : List Checked) (h : List Event) (t : ℕ) (claims claims' : Table) → Legal ps h
    → t ≡ admitted h + 1 → AreHeld claims (held (decls ps) h) → AreHeld claims' (held_by claims) → (r : Record)
    → held_by claims' t r ≡ None
nothing_new ps h t claims claims' legal next are same r =
    same t r ∙ (are t r ∙ ap (λ (c : Option Call). held_for (decls ps) c r) (no_call ps h t (standing-above ps h legal t (omega (arith, next)))))

pub admitted-length : (ps : List Checked) (h : List Event) → Legal ps h → admitted h ≤ 2 ^ 62 + length h
admitted-length ps [] legal = omega arith
admitted-length ps (Checkpoint before numbers ∷ h) legal = (let few = legal.0.few_admitted in omega (arith, few))
admitted-length ps (_ ∷ h) legal = omega (arith, admitted-length ps h legal.1)

pub within-from : (a b : ℕ) → true ≡ nat_lt a b → a < b
within-from a b e = grind (arith, nat_tests)

-- the locks that a call wants
pub wanted_locks : (ps : List Checked) (call : Call) (q : Checked) (args : List ℕ) (set : List Lock)
    → IsCalled ps call q → args ≡ call.args → ((r : Record) → mode_in set r ≡ mode_named args q.decl.slots r)
    → (r : Record) → mode_in set r ≡ locks_of (decls ps) call r
wanted_locks ps call q args set called same are r =
    are r ∙ (ap (λ (xs : List ℕ). mode_named xs q.decl.slots r) same
    ∙ ap (λ (d : Option Declaration). locks_by d call.args r) (sym (get_decl ps call.proc q called.loaded)))

pub free-call : (ps : List Checked) (b : Book) (call : Call) (q : Checked) (args : List ℕ) (set : List Lock)
    → IsBook ps b → IsCalled ps call q → args ≡ call.args
    → ((r : Record) → mode_in set r ≡ mode_named args q.decl.slots r) → Compatible (held_by b.locks) (mode_in set)
    → Compatible (held (decls ps) b.log.events) (locks_of (decls ps) call)
free-call ps b call q args set is called same are free =
    free_same (held_by b.locks) (held (decls ps) b.log.events) (mode_in set)
    (locks_of (decls ps) call) is.kept.locks_are (wanted_locks ps call q args set called same are) free

pub busy-call : (ps : List Checked) (b : Book) (call : Call) (q : Checked) (args : List ℕ) (set : List Lock) (r : Record) (t : ℕ)
    → IsBook ps b → IsCalled ps call q → args ≡ call.args
    → ((r : Record) → mode_in set r ≡ mode_named args q.decl.slots r)
    → IsFirstInTheWay (held_by b.locks) (mode_in set) r t
    → IsFirstInTheWay (held (decls ps) b.log.events) (locks_of (decls ps) call) r t
busy-call ps b call q args set r t is called same are first =
    busy_same (held_by b.locks) (held (decls ps) b.log.events) (mode_in set)
    (locks_of (decls ps) call) r t is.kept.locks_are (wanted_locks ps call q args set called same are) first

pub needs : (l : Loaded) (b : Book) (q : Checked) (last calls : ℕ) → IsBook l.codes b → last ≡ b.numbers.last
    → calls ≡ calls_in q → last + 5 * calls + b.promised ≡ needed (core_of l b) q
needs l b q last calls is same count = (let last_is = is.kept.last_is in
    let promised_is = is.kept.rooms.promised_is in omega (arith, same, count, last_is, promised_is))

pub few-needed : (l : Loaded) (b : Book) (q : Checked) (last calls : ℕ) (spent : Bool) → IsBook l.codes b
    → last ≡ b.numbers.last → calls ≡ calls_in q → spent ≡ nat_lt (2 ^ 62) (last + 5 * calls + b.promised)
    → spent ≡ false
    → needed (core_of l b) q ≤ 2 ^ 62
few-needed l b q last calls spent is same count e f =
    few-from (needed (core_of l b) q) (ap (nat_lt (2 ^ 62)) (sym (needs l b q last calls is same count)) ∙ (sym e ∙ f))

pub many-needed : (l : Loaded) (b : Book) (q : Checked) (last calls : ℕ) (spent : Bool) → IsBook l.codes b
    → last ≡ b.numbers.last → calls ≡ calls_in q → spent ≡ nat_lt (2 ^ 62) (last + 5 * calls + b.promised)
    → spent ≡ true
    → 2 ^ 62 < needed (core_of l b) q
many-needed l b q last calls spent is same count e f =
    many-from (needed (core_of l b) q) (ap (nat_lt (2 ^ 62)) (sym (needs l b q last calls is same count)) ∙ (sym e ∙ f))

-- a call that nothing stands in the way of, and that enough numbers are left for
pub admissible : (l : Loaded) (b : Book) (call : Call) (q : Checked) (args : List ℕ) (set : List Lock) (last calls : ℕ) (spent : Bool)
    → IsBook l.codes b → IsCalled l.codes call q → args ≡ call.args
    → ((r : Record) → mode_in set r ≡ mode_named args q.decl.slots r) → Compatible (held_by b.locks) (mode_in set)
    → last ≡ b.numbers.last → calls ≡ calls_in q → spent ≡ nat_lt (2 ^ 62) (last + 5 * calls + b.promised) → spent ≡ false
    → IsFree (core_of l b) call × (needed (core_of l b) q ≤ 2 ^ 62)
admissible l b call q args set last calls spent is called same are free count number e f = (
  free-call l.codes b call q args set is called same are free,
  few-needed l b q last calls spent is count number e f,
)

-- a call that is admissible has its room, and may be entered
pub may-enter : (l : Loaded) (b b' : Book) (call : Call) (q : Checked) (args args' : List ℕ) (undo : Writes) (set : List Lock) (calls : ℕ)
    → IsBook l.codes b → IsCalled l.codes call q → IsFree (core_of l b) call → needed (core_of l b) q ≤ 2 ^ 62 → args ≡ call.args
    → ((r : Record) → mode_in set r ≡ mode_named args q.decl.slots r) → args' ≡ call.args → undo.ops ≡ [] → calls ≤ undo.room → calls ≡ calls_in q
    → OnlyRoom b b' → HasRoom b' calls set → MayEnter l.codes b' q call.proc args' undo set
may-enter l b b' call q args args' undo set calls is called free few same are own_args ops room count o has =
    let promised = o.promised in
    let promised_is = is.kept.rooms.promised_is in
    let given_same : given b'.log.events ≡ given b.log.events = ap given o.events in
    let back : call.args ≡ args' = sym own_args in
    record {
      book = book-room l.codes b b' is o;
      called = record { loaded = called.loaded; count = ap (λ (xs : List ℕ). length xs) own_args ∙ called.count };
      free = subst (λ (xs : List ℕ). Compatible (held (decls l.codes) b'.log.events) (locks_of (decls l.codes) (record { proc = call.proc; args = xs }))) back
          (subst (λ (h : List Event). Compatible (held (decls l.codes) h) (locks_of (decls l.codes) call)) (sym o.events) free);
      few = omega (arith, few, given_same, promised, promised_is);
      room = subst (λ (n : ℕ). HasRoom b' n set) count has;
      locks = λ r. are r ∙ ap (λ (xs : List ℕ). mode_named xs q.decl.slots r) (same ∙ back);
      ops = ops;
      undo_room = omega (arith, room, count);
    }
