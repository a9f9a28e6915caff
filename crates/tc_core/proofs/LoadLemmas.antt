-- Loading a procedure keeps what is kept.
use Rattle.std.proofs.Common.{◌≡◌, ℕ, ◌+◌, ◌-◌, ◌*◌, List, [], ◌∷◌, ◌++◌, Some, sym, ◌∙◌, ap, subst}
use Rattle.verifier.specs.Checked.{Checked}
use Rattle.lock_table.specs.Facts.{Table}
use Rattle.request_numbers.specs.Given.{Given}
use Rattle.tc_log.specs.History.{History}
use Rattle.transactions.specs.Standing.{Standing, standing}
use Rattle.transactions.specs.Reached.{IsGood}
use Rattle.transactions.specs.Room.{numbers_left, events_left, one_sent}
use Rattle.transactions.proofs.StandingLemmas.{total-same}
use Rattle.transactions.proofs.Grows.{get_grows, held_grows, calls_grow, legal_grows, good_grows}
use Rattle.slab.specs.Slab.{Slab}
use Rattle.tc_core.specs.declared.transaction.Tx.{Tx}
use Rattle.tc_core.specs.Kept.{Kept, IsBook}
use Rattle.tc_core.specs.declared.book.Book.{Book}

pub kept-load : (ps : List Checked) (q : Checked) (log : History) (table : Table) (numbers : Given) (txns : Slab Tx) (serials owed promised : ℕ)
    → Kept ps log table numbers txns serials owed promised → IsGood q → Kept (ps ++ q ∷ []) log table numbers txns serials owed promised
kept-load ps q log table numbers txns serials owed promised k one =
    let h = log.events in
    let left : (t : ℕ) (s : Standing) → standing h t ≡ Some s
    → numbers_left (ps ++ q ∷ []) s ≡ numbers_left ps s =
    (λ t s is. ap (λ (n : ℕ). 5 * n - s.used) (calls_grow ps q k.good h k.legal t s is)) in
    let room : (t : ℕ) (s : Standing) → standing h t ≡ Some s
    → events_left (ps ++ q ∷ []) s ≡ events_left ps s =
    (λ t s is. ap (λ (n : ℕ). 2 * n + one_sent s.sent + 1) (left t s is)) in
    record {
      legal = legal_grows ps q k.good h k.legal;
      good = good_grows ps q k.good one;
      places = record {
        stands = λ key tx at.
            let o = k.places.stands key tx at in
            let m = o.matches in
            record { s = o.s; is = o.is; matches = record { q = m.q; loaded = get_grows ps q m.q o.s.call.proc m.loaded; keeps = m.keeps } };
        each = k.places.each;
        once = k.places.once;
      };
      serials_are = k.serials_are;
      locks_are = λ t r. k.locks_are t r ∙ sym (held_grows ps q h k.legal t r);
      last_is = k.last_is;
      pending_is = k.pending_is;
      rooms = record {
        count = k.rooms.count;
        owed_is = k.rooms.owed_is ∙ sym (total-same (events_left (ps ++ q ∷ [])) (events_left ps) h room);
        promised_is = k.rooms.promised_is ∙ sym (total-same (numbers_left (ps ++ q ∷ [])) (numbers_left ps) h left);
        places = k.rooms.places;
        events = k.rooms.events;
        numbers_fit = k.rooms.numbers_fit;
      };
    }

pub book-load : (ps ps' : List Checked) (q : Checked) (b : Book) → IsBook ps b → IsGood q → ps' ≡ ps ++ q ∷ [] → IsBook ps' b
book-load ps ps' q b is good more = subst (λ (xs : List Checked). IsBook xs b) (sym more)
    (record {
      kept = kept-load ps q _ _ _ _ _ _ _ is.kept good;
      from = is.from;
      doubts = is.doubts;
      marked =
          is.marked;
      starts = is.starts;
    })
