-- What each event keeps.
use Rattle.std.proofs.Common.{◌≡◌, ◌≢◌, ℕ, ◌+◌, ◌-◌, ◌*◌, ◌<◌, ◌≤◌, ◌^◌, Bool, true, false, List, [], ◌∷◌, ◌++◌}
use Rattle.std.proofs.Common.{length, Option, Some, None, arith, refl, sym, ◌∙◌, ap, subst, zero, suc, inl, inr}
use Rattle.std.specs.Prelude.{slice_get, slice_index_or}
use Rattle.std.proofs.lemmas.Bool.{cases_eq, cond-true, cond-false}
use Rattle.access_slots.specs.Access.{fits}
use Rattle.access_slots.specs.Held.{Wanted}
use Rattle.access_slots.specs.declared.slot.Record.{Record}
use Rattle.access_slots.specs.declared.op.Op.{Op}
use Rattle.access_slots.specs.declared.op.Said.{Said}
use Rattle.verifier.specs.Checked.{Checked}
use Rattle.lock_table.specs.Facts.{Table, AreHeld, held_by, released, granted, nobody}
use Rattle.tc_log.specs.declared.event.Outcome.{Outcome}
use Rattle.request_numbers.specs.Given.{Given, others, holds}
use Rattle.tc_log.specs.declared.event.Event.{Event}
use Rattle.tc_log.specs.declared.event.Event.TheVariants.{Admit, Ask, Answer, Undo, End}
use Rattle.tc_log.specs.History.{History}
use Rattle.history.specs.Calls.{Call, txn_of, held, held_for, open_call, locks_of}
use Rattle.history.specs.Flight.{given}
use Rattle.transactions.specs.declared.Next.{Next}
use Rattle.transactions.specs.declared.Next.TheVariants as next
use Rattle.transactions.specs.Standing.{Standing, standing, moved, asked, undone, answered, sent_as}
use Rattle.transactions.specs.Reached.{Fitting, Asks, reached_by, reached, stop_at, calls, calls_by, calls_in, decls, AllGood}
use Rattle.transactions.specs.Room.{numbers_left, events_left, places_left, each_one, one_sent, one_own, one_unless, total}
use Rattle.transactions.specs.Legal.{Legal, first_undo, is_stopped}
use Rattle.transactions.specs.Next.{next_by, next_of}
use Rattle.transactions.proofs.StandingLemmas.{eq-true, eq-false, some_same, none_some, standing-same, standing-other}
use Rattle.transactions.proofs.StandingLemmas.{total-part, total-moved, total-none}
use Rattle.transactions.proofs.Sound.{Sound, standing_sound, ask_leaves, undo_leaves, reached_at}
use Rattle.transactions.proofs.Flights.{open_flight, flight_holds}
use Rattle.transactions.proofs.Nexts.{may_ask, may_undo, may_end}
use Rattle.slab.specs.Slab.{Slab, get, slab_len, Updates}
use Rattle.tc_core.specs.Running.{as_reached}
use Rattle.tc_core.specs.declared.transaction.Tx.{Tx}
use Rattle.tc_core.specs.Core.{Core, Asking}
use Rattle.tc_core.specs.Replies.{is_heard, IsAnswer, over_in}
use Rattle.access_slots.specs.declared.op.Reply.{Reply}
use Rattle.transactions.specs.InFlight.{site_of}
use Rattle.tc_core.specs.Joining.Hearing.{MayHear, Accepts, Heard}
use Rattle.tc_core.specs.AtKey.{StandsAt}
use Rattle.tc_core.specs.Kept.{Keeps, Matches, IsOpen, IsBook, Places, Kept}
use Rattle.tc_core.specs.declared.book.Book.{Book}
use Rattle.tc_core.proofs.KeyLemmas.{serial-at}
use Rattle.tc_core.proofs.Resuming.{paused_reached}

none_if : {X : Type 0} (o : Option X) → ((x : X) → o ≡ Some x → ⊥) → o ≡ None
none_if None h = refl
none_if (Some x) h = absurd (h x refl)

-- a number that no key has is of no open transaction
pub places-absent : (ps : List Checked) (h : List Event) (txns : Slab Tx) → Places ps h txns → (t : ℕ)
    → ((key : ℕ) (tx : Tx) → get txns key ≡ Some tx → tx.serial ≢ t) → standing h t ≡ None
places-absent ps h txns p t absent = none_if (standing h t) (λ s is. let k = p.each t s is in absent k.key k.at.tx k.at.found k.at.serial)

-- a key had a transaction with this one's number
record Was (txns : Slab Tx) (key : ℕ) (ty : Tx) : Type 0 where
  tx : Tx
  found : get txns key ≡ Some tx
  serial : tx.serial ≡ ty.serial

-- a transaction that goes on
pub places-moved : (ps : List Checked) (h : List Event) (txns txns' : Slab Tx) (key : ℕ) (tx tx' : Tx) (e : Event) (s s' : Standing)
    → Places ps h txns → get txns key ≡ Some tx → Updates txns txns' key (Some tx') → tx'.serial ≡ tx.serial → txn_of e ≡ tx.serial
    → standing h tx.serial ≡ Some s → moved e (Some s) ≡ Some s' → Matches ps tx' s' → Places ps (e ∷ h) txns'
places-moved ps h txns txns' key tx tx' e s s' p found up serial own is goes matches =
    let now : standing (e ∷ h) tx.serial ≡ Some s' = standing-same e h tx.serial own ∙ (ap (moved e) is ∙ goes) in
    record {
      stands = λ k ty at. elim (cases_eq k key) [
        | inl same ↦
            let here : Some ty ≡ Some tx' = sym at ∙ (ap (get txns') same ∙ up.changed) in
            let it : tx' ≡ ty = sym (some_same ty tx' here) in
            subst (λ (x : Tx). IsOpen ps (e ∷ h) x) it (record { s = s'; is = ap (standing (e ∷ h)) serial ∙ now; matches = matches })
        | inr other ↦
            let was : get txns k ≡ Some ty = sym (up.others k other) ∙ at in
            let o = p.stands k ty was in
            let apart : txn_of e ≢ ty.serial = (λ same. other (p.once k key ty tx was found (sym same ∙ own))) in
            record { s = o.s; is = standing-other e h ty.serial apart ∙ o.is; matches = o.matches }
      ];
      each = λ t r at. elim (cases_eq (txn_of e) t) [
        | inl same ↦ record { key = key; at = record { tx = tx'; found = up.changed; serial = serial ∙ (sym own ∙ same) } }
        | inr other ↦
            let k = p.each t r (sym (standing-other e h t other) ∙ at) in
            let apart : k.key ≢ key = (λ same. other (own ∙ (sym
            (ap (λ (x : Tx). x.serial) (some_same k.at.tx tx (sym k.at.found ∙ (ap (get txns) same ∙ found))))
            ∙ k.at.serial))) in
            record { key = k.key; at = record { tx = k.at.tx; found = up.others k.key apart ∙ k.at.found; serial = k.at.serial } }
      ];
      once = λ k l ty tz at at' same.
          let before : (j : ℕ) (tw : Tx) → get txns' j ≡ Some tw → Was txns j tw = (λ j tw here. elim (cases_eq j key) [
            | inl is_key ↦ (let it : tx' ≡ tw = sym (some_same tw tx' (sym here ∙ (ap (get txns') is_key ∙ up.changed))) in
                record { tx = tx; found = ap (get txns) is_key ∙ found; serial = sym serial ∙ ap (λ (x : Tx). x.serial) it })
            | inr not_key ↦ record { tx = tw; found = sym (up.others j not_key) ∙ here; serial = refl }
          ]) in
          let one = before k ty at in
          let two = before l tz at' in
          p.once k l one.tx two.tx one.found two.found (one.serial ∙ (same ∙ sym two.serial));
    }

-- what is known of a transaction that was found
pub record Seen (ps : List Checked) (h : List Event) (t : ℕ) (tx : Tx) : Type 0 where
  pub s : Standing
  pub is : standing h t ≡ Some s
  pub own : standing h tx.serial ≡ Some s
  pub matches : Matches ps tx s
  pub at : reached ps s ≡ as_reached tx.pause
  pub sound : Sound ps s

reached_kept : (ps : List Checked) (tx : Tx) (s : Standing) → (m : Matches ps tx s) → reached ps s ≡ as_reached tx.pause
reached_kept ps tx s m = ap (λ (x : Option Checked). reached_by x s.call.args s.answers) m.loaded
    ∙ paused_reached tx.pause tx.machine.config (stop_at m.q s.call.args s.answers) m.keeps.runs.pauses

pub seen : (ps : List Checked) (log : History) (table : Table) (numbers : Given) (txns : Slab Tx) (serials owed promised key t : ℕ) (tx : Tx)
    → Kept ps log table numbers txns serials owed promised → get txns key ≡ Some tx → tx.serial ≡ t → Seen ps log.events t tx
seen ps log table numbers txns serials owed promised key t tx k found own =
    let o = k.places.stands key tx found in
    record {
      s = o.s;
      is = ap (standing log.events) (sym own) ∙ o.is;
      own = o.is;
      matches = o.matches;
      at = reached_kept ps tx o.s o.matches;
      sound = standing_sound ps k.good log.events k.legal tx.serial o.s o.is;
    }

-- and what stands in a book at the key of this one
pub seen-at : (ps : List Checked) (b : Book) (key t : ℕ) (tx : Tx) → IsBook ps b → StandsAt b.txns key t → get b.txns key ≡ Some tx
    → Seen ps b.log.events t tx
seen-at ps b key t tx is stands at =
    seen ps b.log b.locks b.numbers b.txns b.serials b.owed b.promised key t tx is.kept at
    (serial-at b.txns key t tx stands at)

-- what it does next is what the log says
pub next_kept : (ps : List Checked) (h : List Event) (t : ℕ) (tx : Tx) → (w : Seen ps h t tx)
    → next_of ps w.s ≡ next_by tx.sent tx.full (first_undo tx.undo.ops) tx.tries tx.last (as_reached tx.pause)
next_kept ps h t tx w =
    let k = w.matches.keeps in
    rw (k.sent, k.full, k.undo, k.tries, k.last, ← w.at) refl

-- what is known of a transaction that may ask
pub record Ready (ps : List Checked) (h : List Event) (s : Standing) (owed promised : ℕ) : Type 0 where
  pub idle : s.sent ≡ None
  pub room : s.full ≡ false
  pub asks : (o : Op) → next_of ps s ≡ Some (next.Asks o) → reached ps s ≡ Asks o
  pub used : s.used < 5 * calls ps s.call.proc
  pub left : 0 < numbers_left ps s
  pub places' : 0 < total places_left h
  pub owed' : 0 < owed
  pub promised' : 0 < promised

pub ask-ready : (ps : List Checked) (log : History) (table : Table) (numbers : Given) (txns : Slab Tx) (serials owed promised t : ℕ) (s : Standing) (o : Op)
    → Kept ps log table numbers txns serials owed promised → standing log.events t ≡ Some s
    → next_of ps s ≡ Some (next.Asks o) → Ready ps log.events s owed promised
ask-ready ps log table numbers txns serials owed promised t s o k is does =
    let sound = standing_sound ps k.good log.events k.legal t s is in
    let may = may_ask s.sent s.full (first_undo s.undo) s.tries s.last (reached ps s) o does in
    let few = (ask_leaves ps s o k.good sound may.idle may.not_full may.asks).1 in
    let left : 0 < numbers_left ps s = omega (arith, few) in
    let one : places_left s ≡ 1 = rw (may.idle) refl in
    record {
      idle = may.idle;
      room = may.not_full;
      asks = λ p e. (may_ask s.sent s.full (first_undo s.undo) s.tries s.last (reached ps s) p e).asks;
      used = few;
      left = left;
      places' = omega (arith, total-part places_left ps log.events k.legal t s is, one);
      owed' = omega (arith, k.rooms.owed_is, total-part (events_left ps) ps log.events k.legal t s is);
      promised' = omega (arith, k.rooms.promised_is, total-part (numbers_left ps) ps log.events k.legal t s is, left);
    }

pub calls_kept : (ps : List Checked) (p : ℕ) (q : Checked) → slice_get ps p ≡ Some q → calls ps p ≡ calls_in q
calls_kept ps p q at = ap calls_by at

-- what a request may rely on
pub record MaySend (log : History) (numbers : Given) (tx : Tx) (owed promised : ℕ) : Type 0 where
  pub place : 0 < numbers.room
  pub few : numbers.last < 2 ^ 62
  pub room : 0 < log.room
  pub left : 1 ≤ tx.left
  pub owed_left : 1 ≤ owed
  pub promised_left : 1 ≤ promised

pub may-send : (ps : List Checked) (log : History) (table : Table) (numbers : Given) (txns : Slab Tx) (serials owed promised t : ℕ) (tx : Tx) (o : Op)
    → Kept ps log table numbers txns serials owed promised → (w : Seen ps log.events t tx)
    → next_by tx.sent tx.full (first_undo tx.undo.ops) tx.tries tx.last (as_reached tx.pause) ≡ Some (next.Asks o)
    → MaySend log numbers tx owed promised
may-send ps log table numbers txns serials owed promised t tx o k w does =
    let r = ask-ready ps log table numbers txns serials owed promised t w.s o k w.is (next_kept ps log.events t tx w ∙ does) in
    record {
      place = omega (arith, k.rooms.places, r.places');
      few = omega (arith, k.rooms.numbers_fit, k.last_is, r.promised');
      room = omega (arith, k.rooms.events, r.owed');
      left = omega (arith, w.matches.keeps.left, r.used, calls_kept ps w.s.call.proc w.matches.q w.matches.loaded);
      owed_left = omega (arith, r.owed');
      promised_left = omega (arith, r.promised');
    }

pub kept-ask : (ps : List Checked) (log log' : History) (table : Table) (numbers numbers' : Given)
    (txns txns' : Slab Tx) (serials owed promised key n : ℕ) (tx tx' : Tx) (o : Op)
    → Kept ps log table numbers txns serials owed promised
    → get txns key ≡ Some tx → (w : Seen ps log.events tx.serial tx)
    → next_by tx.sent tx.full (first_undo tx.undo.ops) tx.tries tx.last (as_reached tx.pause) ≡ Some (next.Asks o)
    → n ≡ numbers.last + 1 → log'.events ≡ Ask tx.serial n o ∷ log.events → log'.room + 1 ≡ log.room
    → numbers'.last ≡ n → numbers'.pending ≡ numbers.pending ++ n ∷ [] → numbers'.room + 1 ≡ numbers.room
    → Updates txns txns' key (Some tx') → slab_len txns' ≡ slab_len txns
    → tx' ≡ record tx { sent = sent_as n o false; last = n; left = tx.left - 1; in_doubt = false }
    → Kept ps log' table numbers' txns' serials (owed - 1) (promised - 1)
kept-ask ps log log' table numbers numbers' txns txns' serials owed promised key n tx tx' o k found w does num events room last pend places up len made =
    let s = w.s in
    let is = w.is in
    let m = w.matches in
    let does' : next_of ps s ≡ Some (next.Asks o) = next_kept ps log.events tx.serial tx w ∙ does in
    let ready = ask-ready ps log table numbers txns serials owed promised tx.serial s o k is does' in
    let h = log.events in
    let e : Event = Ask tx.serial n o in
    let s' : Standing = asked n o s in
    let one : places_left s ≡ 1 = rw (ready.idle) refl in
    let now_left : numbers_left ps s' + 1 ≡ numbers_left ps s = omega (arith, ready.used) in
    let unsent : one_sent s.sent ≡ 0 = rw (ready.idle) refl in
    let move = λ (f : Standing → ℕ). total-moved f ps h k.legal e s is refl in
    let places_now = move places_left in
    let count_now = move each_one in
    let owed_now = move (events_left ps) in
    let promised_now = move (numbers_left ps) in
    let calls_are = calls_kept ps s.call.proc m.q m.loaded in
    let keeps : Keeps m.q (record tx { sent = sent_as n o false; last = n; left = tx.left - 1; in_doubt = false }) s' = record {
      proc = m.keeps.proc;
      sent = refl;
      full = m.keeps.full;
      undo = m.keeps.undo;
      tries = m.keeps.tries;
      last = refl;
      left = omega (arith, m.keeps.left);
      room = m.keeps.room;
      runs = record { started = m.keeps.runs.started; call = m.keeps.runs.call; layout = m.keeps.runs.layout; pauses = m.keeps.runs.pauses };
    } in
    let matches : Matches ps tx' s' = rw made (record { q = m.q; loaded = m.loaded; keeps = keeps }) in
    let p : Places ps (e ∷ h) txns' = places-moved ps h txns txns' key tx tx' e s s' k.places found up (rw made refl) refl is refl matches in
    let legal : Legal ps (e ∷ h) = (
      record {
        s = s;
        is = is;
        idle = ready.idle;
        not_full = ready.room;
        asks =
            ready.asks o does';
        next = omega (arith, num, k.last_is);
      },
      k.legal,
    ) in
    record {
      legal = rw events legal;
      good = k.good;
      places = rw events p;
      serials_are = rw events k.serials_are;
      locks_are = rw events k.locks_are;
      last_is = rw events (omega (arith, last, num, k.last_is));
      pending_is = rw (events, ← k.pending_is) pend;
      rooms = record {
        count = rw events (omega (arith, len, count_now, k.rooms.count));
        owed_is = rw events (omega (arith, owed_now, k.rooms.owed_is, now_left, unsent));
        promised_is = rw events (omega (arith, promised_now, k.rooms.promised_is, now_left));
        places = rw events (omega (arith, places, k.rooms.places, places_now, one));
        events = omega (arith, room, k.rooms.events);
        numbers_fit = rw events (omega (arith, k.rooms.numbers_fit, ready.promised'));
      };
    }

-- ---- an undo

-- what is known of a transaction that may undo
pub record UndoReady (ps : List Checked) (h : List Event) (s : Standing) (o : Op) (owed promised : ℕ) : Type 0 where
  pub idle : s.sent ≡ None
  pub stopped : is_stopped s.full (reached ps s) ≡ true
  pub top : first_undo s.undo ≡ Some o
  pub few : s.tries < 4
  pub used : s.used < 5 * calls ps s.call.proc
  pub left : 0 < numbers_left ps s
  pub places' : 0 < total places_left h
  pub owed' : 0 < owed
  pub promised' : 0 < promised

pub undo-ready : (ps : List Checked) (log : History) (table : Table) (numbers : Given) (txns : Slab Tx) (serials owed promised t : ℕ) (s : Standing) (o : Op)
    → Kept ps log table numbers txns serials owed promised → standing log.events t ≡ Some s
    → next_of ps s ≡ Some (next.Undoes o) → UndoReady ps log.events s o owed promised
undo-ready ps log table numbers txns serials owed promised t s o k is does =
    let sound = standing_sound ps k.good log.events k.legal t s is in
    let may = may_undo s.sent s.full (first_undo s.undo) s.tries s.last (reached ps s) o does in
    let few = undo_leaves ps s o sound may.idle may.top may.few in
    let left : 0 < numbers_left ps s = omega (arith, few) in
    let one : places_left s ≡ 1 = rw (may.idle) refl in
    record {
      idle = may.idle;
      stopped = may.stopped;
      top = may.top;
      few = may.few;
      used = few;
      left = left;
      places' = omega (arith, total-part places_left ps log.events k.legal t s is, one);
      owed' = omega (arith, k.rooms.owed_is, total-part (events_left ps) ps log.events k.legal t s is);
      promised' = omega (arith, k.rooms.promised_is, total-part (numbers_left ps) ps log.events k.legal t s is, left);
    }

-- what a request may rely on
pub record MaySendUndo (log : History) (numbers : Given) (tx : Tx) (owed promised : ℕ) : Type 0 where
  pub place : 0 < numbers.room
  pub few : numbers.last < 2 ^ 62
  pub room : 0 < log.room
  pub left : 1 ≤ tx.left
  pub owed_left : 1 ≤ owed
  pub promised_left : 1 ≤ promised
  pub tries : tx.tries < 4

pub may-send-undo : (ps : List Checked) (log : History) (table : Table) (numbers : Given) (txns : Slab Tx) (serials owed promised t : ℕ) (tx : Tx) (o : Op)
    → Kept ps log table numbers txns serials owed promised → (w : Seen ps log.events t tx)
    → next_by tx.sent tx.full (first_undo tx.undo.ops) tx.tries tx.last (as_reached tx.pause) ≡ Some (next.Undoes o)
    → MaySendUndo log numbers tx owed promised
may-send-undo ps log table numbers txns serials owed promised t tx o k w does =
    let r = undo-ready ps log table numbers txns serials owed promised t w.s o k w.is (next_kept ps log.events t tx w ∙ does) in
    record {
      place = omega (arith, k.rooms.places, r.places');
      few = omega (arith, k.rooms.numbers_fit, k.last_is, r.promised');
      room = omega (arith, k.rooms.events, r.owed');
      left = omega (arith, w.matches.keeps.left, r.used, calls_kept ps w.s.call.proc w.matches.q w.matches.loaded);
      owed_left = omega (arith, r.owed');
      promised_left = omega (arith, r.promised');
      tries = omega (arith, w.matches.keeps.tries, r.few);
    }

pub kept-undo : (ps : List Checked) (log log' : History) (table : Table) (numbers numbers' : Given)
    (txns txns' : Slab Tx) (serials owed promised key n : ℕ) (tx tx' : Tx) (o : Op)
    → Kept ps log table numbers txns serials owed promised
    → get txns key ≡ Some tx → (w : Seen ps log.events tx.serial tx)
    → next_by tx.sent tx.full (first_undo tx.undo.ops) tx.tries tx.last (as_reached tx.pause) ≡ Some (next.Undoes o)
    → n ≡ numbers.last + 1 → log'.events ≡ Undo tx.serial n o ∷ log.events → log'.room + 1 ≡ log.room
    → numbers'.last ≡ n → numbers'.pending ≡ numbers.pending ++ n ∷ [] → numbers'.room + 1 ≡ numbers.room
    → Updates txns txns' key (Some tx') → slab_len txns' ≡ slab_len txns
    → tx' ≡ record tx { sent = sent_as n o true; tries = tx.tries + 1; last = n; left = tx.left - 1; in_doubt = false }
    → Kept ps log' table numbers' txns' serials (owed - 1) (promised - 1)
kept-undo ps log log' table numbers numbers' txns txns' serials owed promised key n tx tx' o k found w does num events room last pend places up len made =
    let s = w.s in
    let is = w.is in
    let m = w.matches in
    let does' : next_of ps s ≡ Some (next.Undoes o) = next_kept ps log.events tx.serial tx w ∙ does in
    let ready = undo-ready ps log table numbers txns serials owed promised tx.serial s o k is does' in
    let h = log.events in
    let e : Event = Undo tx.serial n o in
    let s' : Standing = undone n o s in
    let one : places_left s ≡ 1 = rw (ready.idle) refl in
    let now_left : numbers_left ps s' + 1 ≡ numbers_left ps s = omega (arith, ready.used) in
    let unsent : one_sent s.sent ≡ 0 = rw (ready.idle) refl in
    let move = λ (f : Standing → ℕ). total-moved f ps h k.legal e s is refl in
    let places_now = move places_left in
    let count_now = move each_one in
    let owed_now = move (events_left ps) in
    let promised_now = move (numbers_left ps) in
    let keeps : Keeps m.q (record tx { sent = sent_as n o true; tries = tx.tries + 1; last = n; left = tx.left - 1; in_doubt = false }) s' = record {
      proc = m.keeps.proc;
      sent = refl;
      full = m.keeps.full;
      undo = m.keeps.undo;
      tries = ap (λ (x : ℕ). x + 1) m.keeps.tries;
      last = refl;
      left = omega (arith, m.keeps.left);
      room = m.keeps.room;
      runs = record { started = m.keeps.runs.started; call = m.keeps.runs.call; layout = m.keeps.runs.layout; pauses = m.keeps.runs.pauses };
    } in
    let matches : Matches ps tx' s' = rw made (record { q = m.q; loaded = m.loaded; keeps = keeps }) in
    let p : Places ps (e ∷ h) txns' = places-moved ps h txns txns' key tx tx' e s s' k.places found up (rw made refl) refl is refl matches in
    let legal : Legal ps (e ∷ h) = (
      record {
        s = s;
        is = is;
        idle = ready.idle;
        stopped = ready.stopped;
        top =
            ready.top;
        few = ready.few;
        next = omega (arith, num, k.last_is);
      },
      k.legal,
    ) in
    record {
      legal = rw events legal;
      good = k.good;
      places = rw events p;
      serials_are = rw events k.serials_are;
      locks_are = rw events k.locks_are;
      last_is = rw events (omega (arith, last, num, k.last_is));
      pending_is = rw (events, ← k.pending_is) pend;
      rooms = record {
        count = rw events (omega (arith, len, count_now, k.rooms.count));
        owed_is = rw events (omega (arith, owed_now, k.rooms.owed_is, now_left, unsent));
        promised_is = rw events (omega (arith, promised_now, k.rooms.promised_is, now_left));
        places = rw events (omega (arith, places, k.rooms.places, places_now, one));
        events = omega (arith, room, k.rooms.events);
        numbers_fit = rw events (omega (arith, k.rooms.numbers_fit, ready.promised'));
      };
    }

-- ---- an answer

pub slice_get-index : {X : Type 0} (xs : List X) (k : ℕ) (x d : X) → slice_get xs k ≡ Some x → slice_index_or xs k d ≡ x
slice_get-index [] k x d e = cc
slice_get-index (y ∷ xs) zero x d e = cc
slice_get-index (y ∷ xs) (suc k) x d e = slice_get-index xs k x d e

pub slice_get-short : {X : Type 0} (xs : List X) (k : ℕ) (x : X) → slice_get xs k ≡ Some x → k < length xs
slice_get-short [] k x e = cc
slice_get-short (y ∷ xs) zero x e = omega arith
slice_get-short (y ∷ xs) (suc k) x e = omega (arith, slice_get-short xs k x e)

unless_own : (b : Bool) → one_unless b ≤ 1
unless_own true = omega arith
unless_own false = omega arith

-- what an answer may rely on
pub record MayAnswer (ps : List Checked) (log : History) (numbers : Given) (tx : Tx) (s : Standing) (said : Said) (n owed : ℕ) : Type 0 where
  pub q : Checked
  pub loaded : slice_get ps tx.proc ≡ Some q
  pub hears : MayHear q tx s said
  pub holds' : holds n numbers.pending ≡ true
  pub room : 0 < log.room
  pub owed_left : 1 ≤ owed

pub may-answer : (ps : List Checked) (log : History) (table : Table) (numbers : Given) (txns : Slab Tx)
    (serials owed promised t : ℕ) (tx : Tx) (n replied : ℕ) (o : Op) (said : Said)
    → Kept ps log table numbers txns serials owed promised → (w : Seen ps log.events t tx)
    → (a : Accepts tx n o replied said) → MayAnswer ps log numbers tx w.s said n owed
may-answer ps log table numbers txns serials owed promised t tx n replied o said k w a =
    let s = w.s in
    let m = w.matches in
    let waits : s.sent ≡ Some a.r = sym m.keeps.sent ∙ a.waits in
    let sound = w.sound in
    let owed_is = total-part (events_left ps) ps log.events k.legal t s w.is in
    let calls_are = calls_kept ps s.call.proc m.q m.loaded in
    let writes = sound.writes in
    let few = sound.few in
    let room = m.keeps.room in
    let ops : length tx.undo.ops ≡ length s.undo = ap (λ (xs : List Op). length xs) m.keeps.undo in
    let same_q : sound.q ≡ m.q = some_same sound.q m.q (sym sound.loaded ∙ m.loaded) in
    record {
      q = m.q;
      loaded = ap (slice_get ps) m.keeps.proc ∙ m.loaded;
      hears = record {
        keeps = m.keeps;
        r = a.r;
        waits = waits;
        fit = ap (λ (x : Op). fits x said) a.same_op ∙ a.fit;
        fitting = subst (λ (x : Checked). Fitting x s.call.args s.answers) same_q sound.fit;
        asks = λ u. reached_at ps s m.q (Asks a.r.op) m.loaded (sound.own a.r waits u).1;
        room = λ u. (let own : one_own s.sent ≡ 1 = ap one_own waits ∙ ap one_unless u in omega (arith, own, writes, few, room, ops, calls_are));
      };
      holds' = rw k.pending_is (flight_holds log.events n (open_flight ps log.events k.legal t s a.r n w.is waits a.same_number));
      room = omega (arith, k.rooms.events, k.rooms.owed_is, owed_is);
      owed_left = omega (arith, k.rooms.owed_is, owed_is);
    }

pub kept-answer : (ps : List Checked) (log log' : History) (table : Table) (numbers numbers' : Given)
    (txns txns' : Slab Tx) (serials owed promised key n replied : ℕ) (tx : Tx) (o : Op) (q : Checked) (said : Said)
    → Kept ps log table numbers txns serials owed promised
    → get txns key ≡ Some tx → (w : Seen ps log.events tx.serial tx) → Accepts tx n o replied said
    → slice_get ps tx.proc ≡ Some q → MayHear q tx w.s said → Heard q txns txns' key tx said → slab_len txns' ≡ slab_len txns
    → log'.events ≡ Answer tx.serial n said ∷ log.events → log'.room + 1 ≡ log.room
    → numbers'.last ≡ numbers.last → numbers'.pending ≡ others n numbers.pending → numbers'.room ≡ numbers.room + 1
    → Kept ps log' table numbers' txns' serials (owed - 1) promised
kept-answer ps log log' table numbers numbers' txns txns' serials owed promised key n replied tx o q said k found w a loaded hears heard len events room last pend places =
    let s = w.s in
    let is = w.is in
    let m = w.matches in
    let h = log.events in
    let e : Event = Answer tx.serial n said in
    let s' : Standing = answered said s in
    let waits : s.sent ≡ Some a.r = sym m.keeps.sent ∙ a.waits in
    let one : places_left s ≡ 0 = rw waits refl in
    let was_sent : one_sent s.sent ≡ 1 = rw waits refl in
    let move = λ (f : Standing → ℕ). total-moved f ps h k.legal e s is refl in
    let places_now = move places_left in
    let count_now = move each_one in
    let owed_now = move (events_left ps) in
    let promised_now = move (numbers_left ps) in
    let owed_is = total-part (events_left ps) ps h k.legal tx.serial s is in
    let loaded' : slice_get ps s.call.proc ≡ Some q = ap (slice_get ps) (sym m.keeps.proc) ∙ loaded in
    let matches : Matches ps heard.after s' = record { q = q; loaded = loaded'; keeps = heard.keeps s hears } in
    let p : Places ps (e ∷ h) txns' = places-moved ps h txns txns' key tx heard.after e s s' k.places found heard.updates heard.serial refl is refl matches in
    let legal : Legal ps (e ∷ h) = (
      record {
        s = s;
        is = is;
        r = a.r;
        waits = waits;
        number = a.same_number;
        fit =
            ap (λ (x : Op). fits x said) a.same_op ∙ a.fit;
      },
      k.legal,
    ) in
    record {
      legal = rw events legal;
      good = k.good;
      places = rw events p;
      serials_are = rw events k.serials_are;
      locks_are = rw events k.locks_are;
      last_is = rw events (last ∙ k.last_is);
      pending_is = rw (events, ← k.pending_is) pend;
      rooms = record {
        count = rw events (omega (arith, len, count_now, k.rooms.count));
        owed_is = rw events (omega (arith, owed_now, k.rooms.owed_is, was_sent, owed_is));
        promised_is = rw events (omega (arith, promised_now, k.rooms.promised_is));
        places = rw events (omega (arith, places, k.rooms.places, places_now, one));
        events = omega (arith, room, k.rooms.events);
        numbers_fit = rw events k.rooms.numbers_fit;
      };
    }

-- a reply is one to the request where the transaction as it is kept waits for it
pub is-answer : (c : Core) (r : Asking) (x : Reply) (tx : Tx) (w : Seen c.procs c.events r.txn tx)
    → is_heard (site_of c.sites r.op) x ≡ true → Accepts tx r.number r.op x.number x.said → IsAnswer c r x
is-answer c r x tx w heard a =
    record {
      s = w.s;
      is = w.is;
      sent = a.r;
      waits = sym w.matches.keeps.sent
          ∙ a.waits;
      same_number = a.same_number;
      same_op = a.same_op;
      heard = heard;
      agree = a.agree;
      fit = a.fit;
    }

pub answer-accepts : (c : Core) (r : Asking) (x : Reply) (tx : Tx) (w : Seen c.procs c.events r.txn tx)
    → IsAnswer c r x → Accepts tx r.number r.op x.number x.said
answer-accepts c r x tx w a =
    let same : a.s ≡ w.s = some_same a.s w.s (sym a.is ∙ w.is) in
    record {
      r = a.sent;
      waits = w.matches.keeps.sent
          ∙ (sym (ap (λ (x : Standing). x.sent) same) ∙ a.waits);
      same_number = a.same_number;
      same_op =
          a.same_op;
      agree = a.agree;
      fit = a.fit;
    }

pub code-is : (ps : List Checked) (p q : ℕ) (d v : Checked) → p ≡ q → slice_get ps q ≡ Some v → d ≡ slice_index_or ps p d → d ≡ v
code-is ps p q d v same at e = e ∙ (ap (λ (k : ℕ). slice_index_or ps k d) same ∙ slice_get-index ps q v d at)

-- ---- an end

-- a transaction that ends
pub places-ended : (ps : List Checked) (h : List Event) (txns txns' : Slab Tx) (key : ℕ) (tx : Tx) (outcome : Outcome)
    → Places ps h txns → get txns key ≡ Some tx → Updates txns txns' key None → Places ps (End tx.serial outcome ∷ h) txns'
places-ended ps h txns txns' key tx outcome p found up =
    let before : (k : ℕ) (ty : Tx) → get txns' k ≡ Some ty → (k ≢ key) × (get txns k ≡ Some ty) = (λ k ty at.
    let apart : k ≢ key = (λ same. (let e : None ≡ Some ty = sym up.changed ∙ (ap (get txns') (sym same) ∙ at) in cc)) in
    (apart, sym (up.others k apart) ∙ at)) in
    record {
      stands = λ k ty at.
          let b = before k ty at in
          let o = p.stands k ty b.1 in
          let apart : tx.serial ≢ ty.serial = (λ same. b.0 (p.once k key ty tx b.1 found (sym same))) in
          record { s = o.s; is = standing-other (End tx.serial outcome) h ty.serial apart ∙ o.is; matches = o.matches };
      each = λ t r at. elim (cases_eq tx.serial t) [
        | inl same ↦ absurd (none_some _ r (standing-same (End tx.serial outcome) h t same) at)
        | inr other ↦
            let k = p.each t r (sym (standing-other (End tx.serial outcome) h t other) ∙ at) in
            let apart : k.key ≢ key = (λ same. other (sym (ap (λ (x : Tx). x.serial)
            (some_same k.at.tx tx (sym k.at.found ∙ (ap (get txns) same ∙ found)))) ∙ k.at.serial)) in
            record { key = k.key; at = record { tx = k.at.tx; found = up.others k.key apart ∙ k.at.found; serial = k.at.serial } }
      ];
      once = λ k l ty tz at at' same. p.once k l ty tz (before k ty at).1 (before l tz at').1 same;
    }

-- what an end may rely on
pub record MayEnd (log : History) (tx : Tx) (owed promised : ℕ) : Type 0 where
  pub room : 0 < log.room
  pub owed_left : 2 * tx.left + 1 ≤ owed
  pub promised_left : tx.left ≤ promised

pub may-end : (ps : List Checked) (log : History) (table : Table) (numbers : Given) (txns : Slab Tx) (serials owed promised t : ℕ) (tx : Tx)
    → Kept ps log table numbers txns serials owed promised → Seen ps log.events t tx → MayEnd log tx owed promised
may-end ps log table numbers txns serials owed promised t tx k w =
    let owed_is = total-part (events_left ps) ps log.events k.legal t w.s w.is in
    let promised_is = total-part (numbers_left ps) ps log.events k.legal t w.s w.is in
    let calls_are = calls_kept ps w.s.call.proc w.matches.q w.matches.loaded in
    let left = w.matches.keeps.left in
    record {
      room = omega (arith, k.rooms.events, k.rooms.owed_is, owed_is);
      owed_left = omega (arith, k.rooms.owed_is, owed_is, left, calls_are);
      promised_left = omega (arith, k.rooms.promised_is, promised_is, left, calls_are);
    }

over_next : (n : Option Next) (o : Outcome) → over_in n ≡ Some o → n ≡ Some (next.Over o)
over_next None o e = absurd cc
over_next (Some (next.Waits n)) o e = absurd cc
over_next (Some (next.Asks p)) o e = absurd cc
over_next (Some (next.Undoes p)) o e = absurd cc
over_next (Some (next.Stuck n)) o e = absurd cc
over_next (Some (next.Over p)) o e = (let same : p ≡ o = cc in ap (λ (x : Outcome). Some (next.Over x)) same)

-- who held what before, and all but this transaction now
held-ended : (ps : List Checked) (h : List Event) (t : ℕ) (outcome : Outcome) (claims claims' : Table)
    → AreHeld claims (held (decls ps) h) → AreHeld claims' (released (held_by claims) t) → AreHeld claims' (held (decls ps) (End t outcome ∷ h))
held-ended ps h t outcome claims claims' was now = λ u r.
    elim (cases_eq u t) [
      | inl same ↦
          let gone = cond-true _ None (held_by claims u r) (eq-true u t same) in
          let ended = cond-true _ None (open_call h u) (eq-true t u (sym same)) in
          now u r ∙ (gone ∙ sym (ap (λ (c : Option Call). held_for (decls ps) c r) ended))
      | inr other ↦
          let stays = cond-false _ None (held_by claims u r) (eq-false u t other) in
          let open_yet = cond-false _ None (open_call h u) (eq-false t u (λ e. other (sym e))) in
          now u r ∙ (stays ∙ (was u r ∙ sym (ap (λ (c : Option Call). held_for (decls ps) c r) open_yet)))
    ]

pub kept-end : (ps : List Checked) (log log' : History) (table table' : Table) (numbers : Given)
    (txns txns' : Slab Tx) (serials owed promised key : ℕ) (tx : Tx) (outcome : Outcome)
    → Kept ps log table numbers txns serials owed promised
    → get txns key ≡ Some tx → (w : Seen ps log.events tx.serial tx)
    → over_in (next_by tx.sent tx.full (first_undo tx.undo.ops) tx.tries tx.last (as_reached tx.pause)) ≡ Some outcome
    → log'.events ≡ End tx.serial outcome ∷ log.events → log'.room + 1 ≡ log.room
    → AreHeld table' (released (held_by table) tx.serial)
    → Updates txns txns' key None → slab_len txns' + 1 ≡ slab_len txns
    → Kept ps log' table' numbers txns' serials (owed - (2 * tx.left + 1)) (promised - tx.left)
kept-end ps log log' table table' numbers txns txns' serials owed promised key tx outcome k found w does events room claims up len =
    let h = log.events in
    let s = w.s in
    let e : Event = End tx.serial outcome in
    let does' : next_of ps s ≡ Some (next.Over outcome) = next_kept ps h tx.serial tx w ∙ over_next _ outcome does in
    let ends = may_end s.sent s.full (first_undo s.undo) s.tries s.last (reached ps s) outcome does' in
    let unsent : one_sent s.sent ≡ 0 = rw (ends.idle) refl in
    let move = λ (f : Standing → ℕ). total-moved f ps h k.legal e s w.is refl in
    let places_now = move places_left in
    let count_now = move each_one in
    let owed_now = move (events_left ps) in
    let promised_now = move (numbers_left ps) in
    let p : Places ps (e ∷ h) txns' = places-ended ps h txns txns' key tx outcome k.places found up in
    let legal : Legal ps (e ∷ h) = (record { s = s; is = w.is; idle = ends.idle; ends = ends.ends }, k.legal) in
    let may = may-end ps log table numbers txns serials owed promised tx.serial tx k w in
    let calls_are = calls_kept ps s.call.proc w.matches.q w.matches.loaded in
    let left = w.matches.keeps.left in
    record {
      legal = rw events legal;
      good = k.good;
      places = rw events p;
      serials_are = rw events k.serials_are;
      locks_are = rw events (held-ended ps h tx.serial outcome table table' k.locks_are claims);
      last_is = rw events k.last_is;
      pending_is = rw events k.pending_is;
      rooms = record {
        count = rw events (omega (arith, len, count_now, k.rooms.count));
        owed_is = rw events (omega (arith, owed_now, k.rooms.owed_is, left, calls_are, unsent, may.owed_left));
        promised_is = rw events (omega (arith, promised_now, k.rooms.promised_is, left, calls_are, may.promised_left));
        places = rw events (omega (arith, k.rooms.places, places_now));
        events = omega (arith, room, k.rooms.events, may.owed_left);
        numbers_fit = rw events (omega (arith, k.rooms.numbers_fit));
      };
    }

-- the empty log
pub kept-none : (ps : List Checked) (log : History) (table : Table) (numbers : Given) (txns : Slab Tx)
    → log.events ≡ [] → AreHeld table nobody → numbers.last ≡ 0 → numbers.pending ≡ [] → txns.slots ≡ [] → AllGood ps
    → Kept ps log table numbers txns 0 0 0
kept-none ps log table numbers txns e l n p s good =
    let total_none : (w : Standing → ℕ) → 0 ≡ total w log.events = (λ w. rw e (sym (total-none w))) in
    let none : (key : ℕ) → get txns key ≡ None = (λ key. rw s refl) in
    record {
      legal = rw e tt;
      good = good;
      places = record {
        stands = λ key tx at. absurd (none_some _ tx (none key) at);
        each = λ t r at. absurd (let f : None ≡ Some r = (let g : standing [] t ≡ Some r = subst (λ (h : List Event). standing h t ≡ Some r) e at in g) in cc);
        once = λ key other tx ty at at' same. absurd (none_some _ tx (none key) at);
      };
      serials_are = rw e refl;
      locks_are = λ t r. l t r ∙ rw e refl;
      last_is = rw e n;
      pending_is = rw e p;
      rooms = record {
        count = (let c : slab_len txns ≡ 0 = rw s refl in c ∙ total_none each_one);
        owed_is = total_none (events_left ps);
        promised_is = total_none (numbers_left ps);
        places = omega (arith, total_none places_left);
        events = omega arith;
        numbers_fit = (let g : given log.events ≡ 0 = rw e refl in omega (arith, g));
      };
    }

-- ---- an admission

-- who held what before, and this transaction its call's locks
pub held-admitted : (ps : List Checked) (h : List Event) (t p : ℕ) (args : List ℕ) (wanted : Wanted) (claims claims' : Table)
    → AreHeld claims (held (decls ps) h) → ((r : Record)
    → wanted r ≡ locks_of (decls ps) (record { proc = p; args = args }) r)
    → AreHeld claims' (granted (held_by claims) t wanted) → AreHeld claims' (held (decls ps) (Admit t p args ∷ h))
held-admitted ps h t p args wanted claims claims' was are now = λ u r.
    let call : Call = record { proc = p; args = args } in
    elim (cases_eq u t) [
      | inl same ↦
          let mine = cond-true _ (wanted r) (held_by claims u r) (eq-true u t same) in
          let opened = cond-true _ (Some call) (open_call h u) (eq-true t u (sym same)) in
          now u r ∙ (mine ∙ (are r ∙ sym (ap (λ (c : Option Call). held_for (decls ps) c r) opened)))
      | inr other ↦
          let stays = cond-false _ (wanted r) (held_by claims u r) (eq-false u t other) in
          let open_yet = cond-false _ (Some call) (open_call h u) (eq-false t u (λ e. other (sym e))) in
          now u r ∙ (stays ∙ (was u r ∙ sym (ap (λ (c : Option Call). held_for (decls ps) c r) open_yet)))
    ]
