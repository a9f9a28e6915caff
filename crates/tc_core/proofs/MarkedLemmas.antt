-- Which transactions are in doubt, as events go on.
use Rattle.std.proofs.Common.{◌≡◌, ◌≢◌, ℕ, ◌<◌, ◌≤◌, Bool, true, false, List, [], ◌∷◌, ◌++◌, Option}
use Rattle.std.proofs.Common.{Some, None, arith, refl, sym, ◌∙◌, ap, subst, inl, inr}
use Rattle.std.specs.Prelude.{slice_index_or}
use Rattle.std.proofs.lemmas.Bool.{cases_eq}
use Rattle.request_numbers.specs.Given.{Given, holds, others}
use Rattle.lock_table.specs.Facts.{Table}
use Rattle.verifier.specs.Checked.{Checked}
use Rattle.tc_log.specs.declared.event.Event.{Event}
use Rattle.tc_log.specs.History.{History}
use Rattle.history.specs.Flight.{Flight, given, open_op, open_numbers}
use Rattle.transactions.specs.declared.Sent.{Sent}
use Rattle.transactions.specs.Legal.{Legal}
use Rattle.transactions.specs.Standing.{Standing, standing}
use Rattle.transactions.proofs.StandingLemmas.{some_same, none_some}
use Rattle.transactions.proofs.Flights.{standing_flight, flight}
use Rattle.slab.specs.Slab.{Slab, get, slab_len, Updates}
use Rattle.tc_core.specs.Kept.{Keeps, IsOpen, Places, Kept, Marked, is_doubted}
use Rattle.tc_core.specs.Doubts.{with_number, with_number_by}
use Rattle.tc_core.specs.declared.transaction.Tx.{Tx}
use Rattle.tc_core.proofs.DoubtLemmas.{holds_other, holds_same, holds_others, others_free, others_within, push_held, once_with, once_more, once_without}

-- ---- open numbers

-- what was open is open still
abbrev pub StayOpen : List Event → List Event → Type 0
StayOpen h h' = (n : ℕ) → holds n (open_numbers h) ≡ true → holds n (open_numbers h') ≡ true

pub stay_same : (h h' : List Event) → open_numbers h' ≡ open_numbers h → StayOpen h h'
stay_same h h' same n held = ap (holds n) same ∙ held

pub stay_push : (h h' : List Event) (m : ℕ) → open_numbers h' ≡ open_numbers h ++ m ∷ [] → StayOpen h h'
stay_push h h' m more n held = ap (holds n) more ∙ push_held (open_numbers h) m n held

-- ---- a step of a transaction

-- the transaction at a key goes on
pub marked-moved : (ns : List ℕ) (h h' : List Event) (txns txns' : Slab Tx) (key : ℕ) (tx' : Tx)
    → Marked ns h txns → given h ≤ given h' → StayOpen h h' → Updates txns txns' key (Some tx') → tx'.in_doubt ≡ is_doubted ns tx'.sent
    → Marked ns h' txns'
marked-moved ns h h' txns txns' key tx' m more still up here = record {
  marks = λ k ty at. elim (cases_eq k key) [
    | inl same ↦
        let it : tx' ≡ ty = some_same tx' ty (sym up.changed ∙ (ap (get txns') (sym same) ∙ at)) in
        subst (λ (x : Tx). x.in_doubt ≡ is_doubted ns x.sent) it here
    | inr other ↦ m.marks k ty (sym (up.others k other) ∙ at)
  ];
  early = λ n late. m.early n (omega (arith, late, more));
  once = once_more ns (given h) (given h') more m.early m.once;
  open_yet = λ n held. still n (m.open_yet n held);
}

-- it ends
pub marked-ended : (ns : List ℕ) (h h' : List Event) (txns txns' : Slab Tx) (key : ℕ)
    → Marked ns h txns → given h ≤ given h' → StayOpen h h' → Updates txns txns' key None → Marked ns h' txns'
marked-ended ns h h' txns txns' key m more still up = record {
  marks = λ k ty at. elim (cases_eq k key) [
    | inl same ↦ absurd (none_some _ ty up.changed (ap (get txns') (sym same) ∙ at))
    | inr other ↦ m.marks k ty (sym (up.others k other) ∙ at)
  ];
  early = λ n late. m.early n (omega (arith, late, more));
  once = once_more ns (given h) (given h') more m.early m.once;
  open_yet = λ n held. still n (m.open_yet n held);
}

-- nothing but room changes
pub marked-room : (ns ns' : List ℕ) (h h' : List Event) (txns txns' : Slab Tx) → Marked ns h txns → ns' ≡ ns → h' ≡ h
    → txns'.slots ≡ txns.slots → Marked ns' h' txns'
marked-room ns ns' h h' txns txns' m same_numbers same_events same_slots =
    let same : (key : ℕ) → get txns' key ≡ get txns key = (λ key. ap (λ (xs : List (Option Tx)). slice_index_or xs key None) same_slots) in
    let it : Marked ns h txns' = record { marks = λ k ty at. m.marks k ty (sym (same k) ∙ at); early = m.early; once = m.once; open_yet = m.open_yet } in
    subst (λ (x : List ℕ). Marked x h' txns') (sym same_numbers) (subst (λ (x : List Event). Marked ns x txns') (sym same_events) it)

-- ---- a number is given up

pub holds_with : (b : Bool) (n : ℕ) (ns : List ℕ) → holds n ns ≡ b → holds n (with_number_by b n ns) ≡ true
holds_with true n ns e = e
holds_with false n ns e = holds_same ns n

pub holds_beside : (b : Bool) (n m : ℕ) (ns : List ℕ) → n ≢ m → holds m (with_number_by b n ns) ≡ holds m ns
holds_beside true n m ns other = refl
holds_beside false n m ns other = holds_other ns n m other

-- two open transactions wait for two numbers
pub apart : (ps : List Checked) (h : List Event) → Legal ps h → (t u : ℕ) (s v : Standing) (r q : Sent)
    → standing h t ≡ Some s → standing h u ≡ Some v → s.sent ≡ Some r → v.sent ≡ Some q → r.number ≡ q.number → t ≡ u
apart ps h legal t u s v r q is is' waits waits' same =
    let f = standing_flight ps h legal t s r is waits in
    let g = standing_flight ps h legal u v q is' waits' in
    let e : flight t r.op ≡ flight u q.op = some_same _ _ (sym f.1 ∙ (ap (open_op h) same ∙ g.1)) in
    ap (λ (x : Flight). x.txn) e

-- the transactions at two keys wait for two numbers
other_number : (ps : List Checked) (h : List Event) (txns : Slab Tx) (key k n : ℕ) (tx ty : Tx) (r : Sent) → Legal ps h → Places ps h txns
    → get txns key ≡ Some tx → get txns k ≡ Some ty → tx.sent ≡ Some r → r.number ≡ n → k ≢ key → (q : Sent) → ty.sent ≡ Some q → n ≢ q.number
other_number ps h txns key k n tx ty r legal p found was waits number other q sent same =
    let o = p.stands k ty was in
    let mine = p.stands key tx found in
    other (p.once k key ty tx was found
    (apart ps h legal ty.serial tx.serial o.s mine.s q r o.is mine.is (sym o.matches.keeps.sent ∙ sent)
    (sym mine.matches.keeps.sent ∙ waits) (sym (number ∙ same))))

-- it waits for another number than this one
beside : (n : ℕ) (b : Bool) (ns : List ℕ) (sent : Option Sent) → ((r : Sent) → sent ≡ Some r → n ≢ r.number)
    → is_doubted (with_number_by b n ns) sent ≡ is_doubted ns sent
beside n b ns None other = refl
beside n b ns (Some r) other = holds_beside b n r.number ns (other r refl)

pub marked-doubt : (ps : List Checked) (ns : List ℕ) (h : List Event) (txns txns' : Slab Tx) (key n : ℕ) (tx : Tx) (r : Sent)
    → Legal ps h → Places ps h txns → Marked ns h txns → get txns key ≡ Some tx → tx.sent ≡ Some r → r.number ≡ n
    → 0 < n → n ≤ given h → holds n (open_numbers h) ≡ true
    → Updates txns txns' key (Some (record tx { in_doubt = true })) → Marked (with_number n ns) h txns'
marked-doubt ps ns h txns txns' key n tx r legal p m found waits number some few here up = record {
  marks = λ k ty at. elim (cases_eq k key) [
    | inl same ↦
        let it : record tx { in_doubt = true } ≡ ty = some_same _ ty (sym up.changed ∙ (ap (get txns') (sym same) ∙ at)) in
        let yes_it : true ≡ is_doubted (with_number n ns) tx.sent =
        sym (ap (is_doubted (with_number n ns)) waits ∙ (ap (λ (k : ℕ). holds k (with_number n ns)) number ∙ holds_with (holds n ns) n ns refl)) in
        subst (λ (x : Tx). x.in_doubt ≡ is_doubted (with_number n ns) x.sent) it yes_it
    | inr other ↦
        let was : get txns k ≡ Some ty = sym (up.others k other) ∙ at in
        m.marks k ty was
        ∙ sym (beside n (holds n ns) ns ty.sent (other_number ps h txns key k n tx ty r legal p found was waits number other))
  ];
  early = λ k late. holds_beside (holds n ns) n k ns (omega (arith, late, few)) ∙ m.early k late;
  once = once_with (holds n ns) ns n (given h) some few refl m.once;
  open_yet = λ k held. elim (cases_eq n k) [
    | inl same ↦ subst (λ (j : ℕ). holds j (open_numbers h) ≡ true) same here
    | inr other ↦ m.open_yet k (sym (holds_beside (holds n ns) n k ns other) ∙ held)
  ];
}

-- ---- a number is answered

-- it waits for another number than this one
without : (n : ℕ) (ns : List ℕ) (sent : Option Sent) → ((r : Sent) → sent ≡ Some r → n ≢ r.number)
    → is_doubted (others n ns) sent ≡ is_doubted ns sent
without n ns None other = refl
without n ns (Some r) other = holds_others ns n r.number (other r refl)

-- the transaction at a key waits for nothing any more
pub marked-answered : (ps : List Checked) (ns : List ℕ) (h h' : List Event) (txns txns' : Slab Tx) (key n : ℕ) (tx tx' : Tx) (r : Sent)
    → Legal ps h → Places ps h txns → Marked ns h txns → get txns key ≡ Some tx → tx.sent ≡ Some r → r.number ≡ n → given h ≤ given h'
    → open_numbers h' ≡ others n (open_numbers h)
    → Updates txns txns' key (Some tx') → tx'.in_doubt ≡ false → tx'.sent ≡ None → Marked (others n ns) h' txns'
marked-answered ps ns h h' txns txns' key n tx tx' r legal p m found waits number more rest up certain silent = record {
  marks = λ k ty at. elim (cases_eq k key) [
    | inl same ↦
        let it : tx' ≡ ty = some_same tx' ty (sym up.changed ∙ (ap (get txns') (sym same) ∙ at)) in
        subst (λ (x : Tx). x.in_doubt ≡ is_doubted (others n ns) x.sent) it (certain ∙ sym (ap (is_doubted (others n ns)) silent))
    | inr other ↦
        let was : get txns k ≡ Some ty = sym (up.others k other) ∙ at in
        m.marks k ty was ∙ sym (without n ns ty.sent (other_number ps h txns key k n tx ty r legal p found was waits number other))
  ];
  early = λ k late. others_free ns n k (m.early k (omega (arith, late, more)));
  once = once_without ns n (given h') (once_more ns (given h) (given h') more m.early m.once);
  open_yet = λ k held. ap (holds k) rest ∙ others_within ns (open_numbers h) n m.open_yet k held;
}

-- ---- where transactions stand

-- a transaction that is marked stands where it stood
pub kept-doubt : (ps : List Checked) (log : History) (table : Table) (numbers : Given) (txns txns' : Slab Tx) (serials owed promised key : ℕ) (tx : Tx)
    → Kept ps log table numbers txns serials owed promised → get txns key ≡ Some tx
    → Updates txns txns' key (Some (record tx { in_doubt = true })) → slab_len txns' ≡ slab_len txns
    → Kept ps log table numbers txns' serials owed promised
kept-doubt ps log table numbers txns txns' serials owed promised key tx k found up len =
    let p = k.places in
    let h = log.events in
    let marked : Tx = record tx { in_doubt = true } in
    let mine = p.stands key tx found in
    let keeps = mine.matches.keeps in
    let kept : Keeps mine.matches.q marked mine.s = record {
      proc = keeps.proc;
      sent = keeps.sent;
      full = keeps.full;
      undo = keeps.undo;
      tries = keeps.tries;
      last = keeps.last;
      left = keeps.left;
      room = keeps.room;
      runs = record { started = keeps.runs.started; call = keeps.runs.call; layout = keeps.runs.layout; pauses = keeps.runs.pauses };
    } in
    let here : (j : ℕ) (ty : Tx) → j ≡ key → get txns' j ≡ Some ty
    → marked ≡ ty = (λ j ty same at. some_same marked ty (sym up.changed ∙ (ap (get txns') (sym same) ∙ at))) in
    let before : (j : ℕ) (ty : Tx) → get txns' j ≡ Some ty → (tz : Tx) × (get txns j ≡ Some tz) × (tz.serial ≡ ty.serial) = (λ j ty at. elim (cases_eq j key) [
      | inl same ↦ (tx, ap (get txns) same ∙ found, ap (λ (x : Tx). x.serial) (here j ty same at))
      | inr other ↦ (ty, sym (up.others j other) ∙ at, refl)
    ]) in
    record {
      legal = k.legal;
      good = k.good;
      places = record {
        stands = λ j ty at. elim (cases_eq j key) [
          | inl same ↦ subst (λ (x : Tx). IsOpen ps h x) (here j ty same at)
              (record {
                s = mine.s;
                is = mine.is;
                matches = record {
                  q = mine.matches.q;
                  loaded =
                      mine.matches.loaded;
                  keeps = kept;
                };
              })
          | inr other ↦ p.stands j ty (sym (up.others j other) ∙ at)
        ];
        each = λ t s is.
            let has = p.each t s is in
            elim (cases_eq has.key key) [
              | inl same ↦
                  let it : tx ≡ has.at.tx = some_same tx has.at.tx (sym found ∙ (ap (get txns) (sym same) ∙ has.at.found)) in
                  record { key = key; at = record { tx = marked; found = up.changed; serial = ap (λ (x : Tx). x.serial) it ∙ has.at.serial } }
              | inr other ↦ record { key = has.key; at = record { tx = has.at.tx; found = up.others has.key other ∙ has.at.found; serial = has.at.serial } }
            ];
        once = λ i j ty tz at at' same.
            let one = before i ty at in
            let two = before j tz at' in
            p.once i j one.0 two.0 one.1 two.1 (one.2 ∙ (same ∙ sym two.2));
      };
      serials_are = k.serials_are;
      locks_are = k.locks_are;
      last_is = k.last_is;
      pending_is = k.pending_is;
      rooms = record {
        count = len ∙ k.rooms.count;
        owed_is = k.rooms.owed_is;
        promised_is = k.rooms.promised_is;
        places = k.rooms.places;
        events = k.rooms.events;
        numbers_fit = k.rooms.numbers_fit;
      };
    }
