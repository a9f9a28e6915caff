-- What is kept of a log that begins anew.
use Rattle.std.proofs.Common.{◌≡◌, ◌≢◌, ℕ, zero, suc, ◌≤◌, ◌^◌, Bool, true, false, List, [], ◌∷◌, length, replicate}
use Rattle.std.proofs.Common.{Option, Some, None, arith, refl, sym, ◌∙◌, ap}
use Rattle.std.specs.Prelude.{◌==◌}
use Rattle.verifier.specs.Checked.{Checked}
use Rattle.lock_table.specs.Facts.{AreHeld}
use Rattle.tc_log.specs.declared.event.Event.{Event}
use Rattle.tc_log.specs.declared.event.Event.TheVariants.{Checkpoint}
use Rattle.history.specs.Calls.{Call, admitted, held, held_for}
use Rattle.history.specs.Flight.{given, open_numbers}
use Rattle.history.specs.Anew.{begun, anew}
use Rattle.transactions.specs.Alike.{IsAtRest}
use Rattle.transactions.specs.Legal.{Legal}
use Rattle.transactions.specs.Reached.{decls}
use Rattle.transactions.specs.Room.{numbers_left, events_left, places_left, each_one, weighed, total_to, total}
use Rattle.transactions.specs.Standing.{Standing, standing}
use Rattle.transactions.proofs.StandingLemmas.{eq-false, none_some, standing-kept, total-part}
use Rattle.transactions.proofs.Headline.{no_call}
use Rattle.transactions.proofs.Alike.{begins_alike}
use Rattle.slab.specs.Slab.{get, slab_len}
use Rattle.tc_core.specs.declared.book.Book.{Book}
use Rattle.tc_core.specs.declared.transaction.Tx.{Tx}
use Rattle.tc_core.specs.Kept.{IsBook}
use Rattle.tc_core.proofs.StartLemmas.{starts_first}
use Rattle.tc_core.proofs.DoubtLemmas.{once_none}

-- where as many are open as none, each is none
pub at_rest : (ps : List Checked) (h : List Event) → Legal ps h → total each_one h ≡ 0 → IsAtRest h
at_rest ps h legal none t = by (standing h t) refl
  where
    by : (o : Option Standing) → standing h t ≡ o → o ≡ None
    by None is = refl
    by (Some s) is = absurd (let one = total-part each_one ps h legal t s is in omega (arith, one, none))

total_to_rest : (w : Standing → ℕ) (h : List Event) → IsAtRest h → (n : ℕ) → total_to w h n ≡ 0
total_to_rest w h rest zero = refl
total_to_rest w h rest (suc n) = (let none : weighed w (standing h (suc n)) ≡ 0 = ap (weighed w) (rest (suc n)) in
    omega (arith, total_to_rest w h rest n, none))

pub total_rest : (w : Standing → ℕ) (h : List Event) → IsAtRest h → total w h ≡ 0
unfolding total
total_rest w h rest = total_to_rest w h rest (admitted h)

-- a log that begins so
abbrev pub beginning : ℕ → ℕ → List Event
beginning before numbers = Checkpoint before numbers ∷ []

pub beginning_rests : (before numbers : ℕ) → IsAtRest (beginning before numbers)
beginning_rests before numbers t = standing-kept (Checkpoint before numbers) [] t (λ was. refl)

-- a book of no open transaction, whose log begins anew
pub book-anew : (ps : List Checked) (b b' : Book) (before numbers : ℕ) → IsBook ps b → slab_len b.txns ≡ 0 → before ≤ 2 ^ 62 → numbers ≤ 2 ^ 62
    → b'.log.events ≡ beginning before numbers → b'.txns ≡ b.txns → b'.locks ≡ b.locks → b'.numbers.last ≡ numbers → b'.numbers.pending ≡ []
    → b'.serials ≡ before → b'.owed ≡ b.owed → b'.promised ≡ b.promised → b'.given_up.numbers ≡ [] → b'.given_up.from ≡ numbers
    → b'.given_up.room ≡ b.given_up.room → b'.sites.items ≡ b.sites.items → b'.starts.items ≡ replicate (length b.starts.items) 0 → IsBook ps b'
book-anew ps b b' before numbers is none few_admitted few_given events txns locks last pending serials owed promised given_up from room sites starts =
    let k = is.kept in
    let h = b.log.events in
    let rest : IsAtRest h = at_rest ps h k.legal (sym k.rooms.count ∙ none) in
    let new = beginning before numbers in
    let rests : IsAtRest new = beginning_rests before numbers in
    let was = λ (w : Standing → ℕ). total_rest w h rest in
    let now = λ (w : Standing → ℕ). total_rest w new rests in
    let unowed : b'.owed ≡ 0 = owed ∙ k.rooms.owed_is ∙ was (events_left ps) in
    let unpromised : b'.promised ≡ 0 = promised ∙ k.rooms.promised_is ∙ was (numbers_left ps) in
    let open_ones = λ (key : ℕ) (tx : Tx) (at : get b.txns key ≡ Some tx).
    none_some _ (k.places.stands key tx at).s (rest tx.serial) (k.places.stands key tx at).is in
    let unlocked : AreHeld b.locks (held (decls ps) new) =
    (λ t r. k.locks_are t r ∙ ap (λ (c : Option Call). held_for (decls ps) c r) (no_call ps h t (rest t))) in
    let given_now : given b'.log.events ≡ numbers = ap given events in
    let begun_now : begun b'.log.events ≡ numbers = ap begun events in
    record {
      kept = record {
        legal = rw events (record { oldest = refl; few_admitted = few_admitted; few_given = few_given }, tt);
        good = k.good;
        places = rw (events, txns) (record {
          stands = λ key tx at. absurd (open_ones key tx at);
          each = λ t s at. absurd (none_some _ s (rests t) at);
          once = λ key other tx ty at at' same. k.places.once key other tx ty at at' same;
        });
        serials_are = rw events serials;
        locks_are = rw (events, locks) unlocked;
        last_is = rw events last;
        pending_is = rw events pending;
        rooms = record {
          count = rw (events, txns) (none ∙ sym (now each_one));
          owed_is = rw events (unowed ∙ sym (now (events_left ps)));
          promised_is = rw events (unpromised ∙ sym (now (numbers_left ps)));
          places = rw events (omega (arith, now places_left));
          events = omega (arith, unowed);
          numbers_fit = omega (arith, given_now, unpromised, few_given);
        };
      };
      from = omega (arith, from, begun_now);
      doubts = omega (arith, is.doubts, room, ap slab_len txns);
      marked = rw (events, txns, given_up) (record {
        marks = λ key tx at. absurd (open_ones key tx at);
        early = λ n late. refl;
        once = once_none numbers;
        open_yet = λ n held. absurd (let bad : false ≡ true = held in cc);
      });
      starts = rw (events, sites, starts) (starts_first (length b.starts.items) b.sites.items new (sym is.starts.count));
    }

-- a log in which something happened
pub anew_is : (h : List Event) → length h ≢ 0 → anew h ≡ beginning (admitted h) (given h)
anew_is [] some = absurd (some refl)
anew_is (e ∷ h) some = refl

-- where nobody is open, no number is
anew_pending : (h : List Event) → open_numbers (anew h) ≡ []
anew_pending [] = refl
anew_pending (e ∷ h) = refl

pub none_pending : (ps : List Checked) (h : List Event) → Legal ps h → total each_one h ≡ 0 → open_numbers h ≡ []
none_pending ps h legal none = (begins_alike ps h legal (at_rest ps h legal none)).pending ∙ anew_pending h

pub empty_is : (h : List Event) (b : Bool) → b ≡ (length h == 0) → b ≡ true → h ≡ []
empty_is [] b is holds_so = refl
empty_is (e ∷ h) b is holds_so = absurd (
    let differ : length (e ∷ h) ≢ 0 = omega arith in
    let bad : true ≡ false = sym holds_so ∙ is ∙ eq-false (length (e ∷ h)) 0 differ in
    cc)
