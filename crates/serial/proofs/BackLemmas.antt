-- What stands beside a log stands beside the same log without its last events, once it lacks the entries of numbers that these gave out.
use Rattle.std.proofs.Common.{◌≡◌, ◌≢◌, ◌⊎◌, ℕ, ◌+◌, ◌<◌, ◌≤◌, Bool, true, false, ◌&&◌, List, [], ◌∷◌, ◌++◌, Option}
use Rattle.std.proofs.Common.{Some, None, arith, refl, sym, ◌∙◌, ap, subst, inl, inr, ◌==◌, if◌then◌else◌}
use Rattle.std.specs.Prelude.{slice_get}
use Rattle.std.proofs.lemmas.Bool.{cases_eq, cond-false}
use Rattle.access_slots.specs.declared.slot.Record.{Record}
use Rattle.access_slots.specs.declared.op.Op.{Op}
use Rattle.access_slots.specs.declared.op.Said.{Said}
use Rattle.access_slots.specs.declared.op.Said.TheVariants.{NoRoom}
use Rattle.access_slots.specs.Access.{fits}
use Rattle.access_slots.specs.Locks.{record_eq, target, is_read, conflict}
use Rattle.access_slots.proofs.Records.{eq_is}
use Rattle.tc_log.specs.declared.event.Event.{Event}
use Rattle.tc_log.specs.declared.event.Event.TheVariants.{Ask, Answer, Undo, Checkpoint}
use Rattle.verifier.specs.Checked.{Checked}
use Rattle.history.specs.Flight.{Flight, open_op, given}
use Rattle.history.specs.Anew.{begun}
use Rattle.history.specs.Redo.{is_done}
use Rattle.data_component.specs.Performed.{Performed, RecordValue, said_under, value_over}
use Rattle.transactions.specs.Reached.{AllGood}
use Rattle.transactions.specs.Legal.{Legal, CanAnswer}
use Rattle.transactions.proofs.StandingLemmas.{some_same, none_some}
use Rattle.transactions.proofs.LowWater.{given_more}
use Rattle.transactions.proofs.Flights.{flight}
use Rattle.serial.specs.Values.{Table, applied, told, said_freely}
use Rattle.serial.specs.Serial.{done, now_from, HonestTo, HonestFrom}
use Rattle.serial.specs.Lists.{logged, dc_of, writes_on, AllBelow}
use Rattle.serial.specs.Joining.Beside.{Beside, added}
use Rattle.serial.specs.Joining.Behind.{Behind, IsEnd, NoneDone}
use Rattle.serial.proofs.LockLemmas.{by_test, both_left, both_right}
use Rattle.serial.proofs.KeepLemmas.{answered_flight}
use Rattle.serial.proofs.ListLemmas.{entry_of, under_other, under_same, if_none, if_some, writes_none, writes_added}
use Rattle.serial.proofs.ListLemmas.{clash_first, clash_last, applied_apart, same_added}
use Rattle.serial.proofs.NumberLemmas.{logged_below, flight_logged, flight_absent, done_answer, flights}
use Rattle.serial.proofs.OrderLemmas.{look, below_writes, done_below, not_read}
use Rattle.serial.proofs.RedoLemmas.{end_self, writes_absent, writes_stand, honest_write}
use Rattle.serial.proofs.RedoneLemmas.{none_by}
use Rattle.serial.proofs.CutLemmas.{up_to, under_cut, under_back, entry_back, once_cut, writes_cut, off_if, kept_if, kept, cut_all, cut_cut, all_below, end_cut}

-- ---- a number that isn't given out yet

module _ (base : Table) (lg : ℕ → Option Op) (fl : ℕ → Option Flight) (dn : List Performed) (d top : ℕ) (v : List Performed) (n : ℕ) (g : Flight) where
  abbrev Ungiven : Type 0
  Ungiven = (top < n) × ((m : ℕ) (q : Op) → lg m ≡ Some q → m ≤ top) × AllBelow (top + 1) dn

  apart_from : Ungiven → (m : ℕ) → m ≤ top → n ≢ m
  apart_from new m low same = (let above = new.0 in omega (arith, above, low, same))

  -- the log's own operations have no later numbers
  whole : Ungiven → (r : Record) → up_to top (writes_on r dn) ≡ writes_on r dn
  whole new r = cut_all top (writes_on r dn) (below_writes (top + 1) r dn new.2)

  -- the entries of other numbers stay
  stays : Ungiven → ((k : ℕ) (e : Performed) → slice_get v k ≡ Some e
      → ((if n == e.0 then Some g.op else lg e.0) ≡ Some e.1) × (dc_of e.1 ≡ d)) → (m : ℕ) (said : Said)
      → said_under v m ≡ Some said → n ≢ m → m ≤ top
  stays new entries m said under other =
      let w = entry_of v m said under in
      let l : (if n == m then Some g.op else lg m) ≡ Some w.entry.1 =
      subst (λ (k : ℕ). (if n == k then Some g.op else lg k) ≡ Some w.entry.1) w.number
      (entries w.place w.entry w.at).0 in
      new.1 m w.entry.1 (sym (if_none n m (Some g.op) (lg m) other) ∙ l)

  pub beside_unsent : Ungiven → Beside base (λ m. if n == m then Some g.op else lg m)
      (λ m. if n == m then Some g else fl m) dn d v → Beside base lg fl dn d (up_to top v)
  beside_unsent new b =
      record {
        entries = λ k e is.
            let w = entry_back top v k e is in
            let old = b.entries w.place e w.at in
            (sym (if_none n e.0 (Some g.op) (lg e.0) (apart_from new e.0 w.low)) ∙ old.0, old.1);
        once = once_cut top v b.once;
        answers = λ m o said is dc was did.
            let low = new.1 m o is in
            under_cut top m v low ∙ b.answers m o said (if_none n m _ _ (apart_from new m low) ∙ is) dc was did;
        agrees = λ m o s said is dc under was.
            let u = under_back top m v s under in
            b.agrees m o s said (if_none n m _ _ (apart_from new m u.0) ∙ is) dc u.1 was;
        honest = λ m f said is under.
            let u = under_back top m v said under in
            b.honest m f said (if_none n m _ _ (apart_from new m u.0) ∙ is) u.1;
        idle = λ r dc none. elim (look (λ m. if n == m then Some g else fl m) v r) [
          | inl a ↦ elim (cases_eq n a.number) [
            | inl eq ↦
                let above = new.0 in
                let later : top < a.number = omega (arith, above, eq) in
                writes_cut r top v
                ∙ (ap (up_to top) (b.ahead r a.number a.f a.said dc a.flies a.under a.same a.write)
                ∙ (off_if (is_done a.said) top (a.number, a.f.op, a.said) (writes_on r dn) later ∙ whole new r))
            | inr other ↦
                let low = stays new b.entries a.number a.said a.under other in
                absurd (none a.number a.f a.said (sym (if_none n a.number _ _ other) ∙ a.flies) (under_cut top a.number v low ∙ a.under) a.same a.write)
          ]
          | inr all ↦ writes_cut r top v ∙ (ap (up_to top) (b.idle r dc all) ∙ whole new r)
        ];
        ahead = λ r m f said dc is under same write.
            let u = under_back top m v said under in
            writes_cut r top v
            ∙ (ap (up_to top) (b.ahead r m f said dc (if_none n m _ _ (apart_from new m u.0) ∙ is) u.1 same write)
            ∙ (kept_if (is_done said) top (m, f.op, said) (writes_on r dn) u.0 ∙ ap (added (m, f.op, said)) (whole new r)));
      }

  pub behind_unsent : Ungiven → Behind base (λ m. if n == m then Some g.op else lg m)
      (λ m. if n == m then Some g else fl m) dn d v → Behind base lg fl dn d (up_to top v)
  behind_unsent new b =
      record {
        entries = λ k e is.
            let w = entry_back top v k e is in
            let old = b.entries w.place e w.at in
            (sym (if_none n e.0 (Some g.op) (lg e.0) (apart_from new e.0 w.low)) ∙ old.0, old.1);
        once = once_cut top v b.once;
        agrees = λ m o s said is dc under was.
            let u = under_back top m v s under in
            b.agrees m o s said (if_none n m _ _ (apart_from new m u.0) ∙ is) dc u.1 was;
        honest = λ m f said is under.
            let u = under_back top m v said under in
            b.honest m f said (if_none n m _ _ (apart_from new m u.0) ∙ is) u.1;
        oldest = λ r dc none. oldest r dc none (said_under v n) refl;
        ahead = λ r m f said dc is under same did.
            let u = under_back top m v said under in
            writes_cut r top v
            ∙ (ap (up_to top) (b.ahead r m f said dc (if_none n m _ _ (apart_from new m u.0) ∙ is) u.1 same did)
            ∙ (kept top (m, f.op, said) (writes_on r dn) u.0 ∙ ap (λ (l : List Performed). (m, f.op, said) ∷ l) (whole new r)));
      }
    where
      cut_end : (r : Record) → IsEnd (writes_on r dn) (writes_on r v) → IsEnd (writes_on r dn) (writes_on r (up_to top v))
      cut_end r e =
          subst (λ (l : List Performed). IsEnd l (writes_on r (up_to top v))) (whole new r)
          (subst (IsEnd (up_to top (writes_on r dn))) (sym (writes_cut r top v)) (end_cut top (writes_on r dn) (writes_on r v) e))

      others : (r : Record) → NoneDone fl (up_to top v) r
          → ((f : Flight) (said : Said) → g ≡ f → said_under v n ≡ Some said → record_eq (target f.op) r ≡ true
          → is_done said ≡ true → ⊥) → NoneDone (λ m. if n == m then Some g else fl m) v r
      others r none this m f said is under same did = elim (cases_eq n m) [
        | inl eq ↦ this f said (some_same g f (sym (if_some n m (Some g) (fl m) eq) ∙ is))
            (subst (λ (k : ℕ). said_under v k ≡ Some said) (sym eq) under) same did
        | inr other ↦
            let low = stays new b.entries m said under other in
            none m f said (sym (if_none n m _ _ other) ∙ is) (under_cut top m v low ∙ under) same did
      ]

      oldest : (r : Record) → r.dc ≡ d → NoneDone fl (up_to top v) r → (o : Option Said) → said_under v n ≡ o
          → IsEnd (writes_on r dn) (writes_on r (up_to top v))
      oldest r dc none None absent = cut_end r (b.oldest r dc (others r none (λ f said one under same did. none_some _ said absent under)))
      oldest r dc none (Some s) there =
          by_test (record_eq (target g.op) r && is_done s) (IsEnd (writes_on r dn) (writes_on r (up_to top v)))
          (λ both.
          let all = b.ahead r n g s dc (if_some n n (Some g) (fl n) refl) there
          (both_left (record_eq (target g.op) r) _ both) (both_right (record_eq (target g.op) r) _ both) in
          let gone : writes_on r (up_to top v) ≡ writes_on r dn =
          writes_cut r top v ∙ (ap (up_to top) all ∙ (off_if true top (n, g.op, s) (writes_on r dn) new.0 ∙ whole new r)) in
          subst (IsEnd (writes_on r dn)) (sym gone) (end_self (writes_on r dn)))
          (λ differ. cut_end r (b.oldest r dc (others r none (λ f said one under same did.
          let two : s ≡ said = some_same s said (sym there ∙ under) in
          let same' : record_eq (target g.op) r ≡ true = subst (λ (x : Flight). record_eq (target x.op) r ≡ true) (sym one) same in
          let did' : is_done s ≡ true = subst (λ (x : Said). is_done x ≡ true) (sym two) did in
          let bad : true ≡ false = sym (rw (same', did') refl) ∙ differ in
          cc))))

-- ---- a number that isn't answered yet

honest_back : (g f : Op) (s said : Said) (m : Table) → conflict g f ≡ false → (s ≡ told (applied f said m) g) ⊎ (s ≡ NoRoom) → (s ≡ told m g) ⊎ (s ≡ NoRoom)
honest_back g f s said m e (inl is) = inl (is ∙ ap (λ (x : RecordValue). said_freely x g) (applied_apart g f said m e))
honest_back g f s said m e (inr is) = inr is

tail_absent : (x : Performed) (list : List Performed) (n : ℕ) → said_under (x ∷ list) n ≡ None → said_under list n ≡ None
tail_absent x list n none = elim (cases_eq x.0 n) [
  | inl same ↦ absurd (none_some _ x.2 none (under_same x.0 n x.1 x.2 list same))
  | inr other ↦ sym (under_other x.0 n x.1 x.2 list other) ∙ none
]

end_absent : (big small : List Performed) (n : ℕ) → IsEnd big small → said_under big n ≡ None → said_under small n ≡ None
end_absent [] small n e none = ap (λ (l : List Performed). said_under l n) e
end_absent (x ∷ big) small n (inl e) none = ap (λ (l : List Performed). said_under l n) e ∙ none
end_absent (x ∷ big) small n (inr e) none = end_absent big small n e (tail_absent x big n none)

entry_same : (n m : ℕ) (o q : Op) (said s : Said) (list : List Performed) → n ≡ m → o ≡ q → said ≡ s → (n, o, said) ∷ list ≡ (m, q, s) ∷ list
entry_same n m o q said s list e f g = cc

-- it is open, and is answered so next
pub record IsNextAnswer (base : Table) (lg : ℕ → Option Op) (fl : ℕ → Option Flight) (dn : List Performed) (n : ℕ) (f : Flight) (said : Said) : Type 0 where
  pub flies : fl n ≡ Some f
  pub logs : lg n ≡ Some f.op
  pub fit : fits f.op said ≡ true
  pub apart : (m : ℕ) (g : Flight) → fl m ≡ Some g → n ≢ m → conflict g.op f.op ≡ false
  pub absent : said_under dn n ≡ None
  pub honest : HonestTo (Some f) said (value_over base dn)

module _ (base : Table) (lg : ℕ → Option Op) (fl : ℕ
    → Option Flight) (dn : List Performed) (d : ℕ) (v : List Performed) (n : ℕ) (f : Flight) (said : Said) where
  still : (m : ℕ) (g : Flight) → (if n == m then None else fl m) ≡ Some g → (n ≢ m) × (fl m ≡ Some g)
  still m g e = elim (cases_eq n m) [
    | inl same ↦ absurd (none_some _ g (if_some n m None (fl m) same) e)
    | inr other ↦ (other, sym (if_none n m None (fl m) other) ∙ e)
  ]

  differs : IsNextAnswer base lg fl dn n f said → (m : ℕ) (s : Said) → said_under dn m ≡ Some s → n ≢ m
  differs a m s under same = none_some _ s a.absent (ap (said_under dn) same ∙ under)

  one_op : IsNextAnswer base lg fl dn n f said → (m : ℕ) (g : Flight) → fl m ≡ Some g → n ≡ m → f ≡ g
  one_op a m g is eq = some_same f g (sym a.flies ∙ (ap fl eq ∙ is))

  here : (r : Record) → r.dc ≡ d → record_eq (target f.op) r ≡ true → dc_of f.op ≡ d
  here r dc same = ap (λ (x : Record). x.dc) (eq_is (target f.op) r same) ∙ dc

  -- of one data component
  one_dc : IsNextAnswer base lg fl dn n f said → ((k : ℕ) (e : Performed) → slice_get v k ≡ Some e
      → (lg e.0 ≡ Some e.1) × (dc_of e.1 ≡ d)) → (s : Said) → said_under v n ≡ Some s → dc_of f.op ≡ d
  one_dc a entries s under =
      let w = entry_of v n s under in
      let l = entries w.place w.entry w.at in
      let one : w.entry.1 ≡ f.op = some_same w.entry.1 f.op (sym l.0 ∙ (ap lg w.number ∙ a.logs)) in
      ap dc_of (sym one) ∙ l.1

  -- what is honest to the answers with this one is honest to those without
  honest_one : IsNextAnswer base lg fl dn n f said → ((s : Said) → said_under v n ≡ Some s → said ≡ s)
      → ((m : ℕ) (g : Flight) (s : Said) → (if n == m then None else fl m) ≡ Some g → said_under v m ≡ Some s
      → HonestTo (Some g) s (value_over base ((n, f.op, said) ∷ dn)))
      → (m : ℕ) (g : Flight) (s : Said) → fl m ≡ Some g → said_under v m ≡ Some s → HonestTo (Some g) s (value_over base dn)
  honest_one a so was m g s is under = elim (cases_eq n m) [
    | inl eq ↦
        subst (λ (x : Flight). HonestTo (Some x) s (value_over base dn)) (one_op a m g is eq)
        (subst (λ (x : Said). HonestTo (Some f) x (value_over base dn)) (so s (ap (said_under v) eq ∙ under)) a.honest)
    | inr other ↦ honest_back g.op f.op s said (value_over base dn) (a.apart m g is other) (was m g s (if_none n m None (fl m) other ∙ is) under)
  ]

  pub beside_unanswered : IsNextAnswer base lg fl dn n f said
      → Beside base lg (λ m. if n == m then None else fl m) ((n, f.op, said) ∷ dn) d v → Beside base lg fl dn d v
  beside_unanswered a b =
      let so : (s : Said) → said_under v n ≡ Some s → said ≡ s =
      (λ s under. sym (b.agrees n f.op s said a.logs (one_dc a b.entries s under) under
      (under_same n n f.op said dn refl))) in
      record {
        entries = b.entries;
        once = b.once;
        answers = λ m o s is dc was did. b.answers m o s is dc (under_other n m f.op said dn (differs a m s was) ∙ was) did;
        agrees = λ m o s t is dc under was. b.agrees m o s t is dc under (under_other n m f.op said dn (differs a m t was) ∙ was);
        honest = λ m g s is under. honest_one a so (λ k y t is' under'. b.honest k y t is' under') m g s is under;
        idle = λ r dc none.
            b.idle r dc (λ m g s is under same write. none m g s (still m g is).1 under same write)
            ∙ writes_none r (n, f.op, said) dn (λ same. by_test (is_done said) (is_done said ≡ false)
            (λ did. absurd (none n f said a.flies (b.answers n f.op said a.logs (here r dc same)
            (under_same n n f.op said dn refl) did) same (not_read f.op said a.fit did)))
            (λ undone. undone));
        ahead = λ r m g s dc is under same write. elim (cases_eq n m) [
          | inl eq ↦
              let one : f ≡ g = one_op a m g is eq in
              let mine : record_eq (target f.op) r ≡ true = subst (λ (x : Flight). record_eq (target x.op) r ≡ true) (sym one) same in
              let two : said ≡ s = so s (ap (said_under v) eq ∙ under) in
              b.idle r dc (λ m' g' s' is' under' same' write'. clash_first g'.op f.op r
              (a.apart m' g' (still m' g' is').1 (still m' g' is').0) same' mine write')
              ∙ (writes_added r (n, f.op, said) dn mine
              ∙ same_added n m f.op g.op said s (writes_on r dn) eq (ap (λ (x : Flight). x.op) one) two)
          | inr other ↦
              b.ahead r m g s dc (if_none n m None (fl m) other ∙ is) under same write
              ∙ ap (added (m, g.op, s)) (writes_none r (n, f.op, said) dn (λ x. absurd (clash_first g.op f.op r (a.apart m g is other) same x write)))
        ];
      }

  pub behind_unanswered : IsNextAnswer base lg fl dn n f said
      → Behind base lg (λ m. if n == m then None else fl m) ((n, f.op, said) ∷ dn) d v → Behind base lg fl dn d v
  behind_unanswered a b =
      record {
        entries = b.entries;
        once = b.once;
        agrees = λ m o s t is dc under was. b.agrees m o s t is dc under (under_other n m f.op said dn (differs a m t was) ∙ was);
        honest = honest;
        oldest = λ r dc none. oldest r dc none (b.oldest r dc (λ m g s is under same did. none m g s (still m g is).1 under same did));
        ahead = λ r m g s dc is under same did. elim (cases_eq n m) [
          | inl eq ↦
              let one : f ≡ g = one_op a m g is eq in
              let mine : record_eq (target f.op) r ≡ true = subst (λ (x : Flight). record_eq (target x.op) r ≡ true) (sym one) same in
              let two : said ≡ s = so s (ap (said_under v) eq ∙ under) in
              let did' : is_done said ≡ true = subst (λ (x : Said). is_done x ≡ true) (sym two) did in
              let there : said_under v n ≡ Some said = ap (said_under v) eq ∙ (under ∙ ap (λ (x : Said). Some x) (sym two)) in
              mine_first r dc mine did' there ∙ entry_same n m f.op g.op said s (writes_on r dn) eq (ap (λ (x : Flight). x.op) one) two
          | inr other ↦
              let write : is_read g.op ≡ false = honest_write g s (value_over base dn) (honest m g s is under) did in
              b.ahead r m g s dc (if_none n m None (fl m) other ∙ is) under same did
              ∙ ap (λ (l : List Performed). (m, g.op, s) ∷ l) (writes_none r (n, f.op, said) dn
              (λ x. absurd (clash_first g.op f.op r (a.apart m g is other) same x write)))
        ];
      }
    where
      so : (s : Said) → said_under v n ≡ Some s → said ≡ s
      so s under = sym (b.agrees n f.op s said a.logs (one_dc a b.entries s under) under (under_same n n f.op said dn refl))

      honest : (m : ℕ) (g : Flight) (s : Said) → fl m ≡ Some g → said_under v m ≡ Some s → HonestTo (Some g) s (value_over base dn)
      honest m g s is under = honest_one a so (λ k y t is' under'. b.honest k y t is' under') m g s is under

      done_here : (r : Record) → record_eq (target f.op) r ≡ true → is_done said ≡ true → writes_on r ((n, f.op, said) ∷ dn) ≡ (n, f.op, said) ∷ writes_on r dn
      done_here r same did = writes_added r (n, f.op, said) dn same ∙ ap (λ (b : Bool). if b then (n, f.op, said) ∷ writes_on r dn else writes_on r dn) did

      -- it was done, and stands: it is the last of the record
      mine_first : (r : Record) → r.dc ≡ d → record_eq (target f.op) r ≡ true → is_done said ≡ true
          → said_under v n ≡ Some said → writes_on r v ≡ (n, f.op, said) ∷ writes_on r dn
      mine_first r dc mine did there =
          let none : NoneDone (λ m. if n == m then None else fl m) v r =
          (λ m g s is under same did'. clash_last g.op f.op r
          (a.apart m g (still m g is).1 (still m g is).0) same mine (not_read f.op said a.fit did)) in
          by (subst (λ (l : List Performed). IsEnd l (writes_on r v)) (done_here r mine did) (b.oldest r dc none))
        where
          stands : said_under (writes_on r v) n ≡ Some said
          stands = writes_stand r v n f.op said (λ k e at eq. some_same e.1 f.op (sym (b.entries k e at).0 ∙ (ap lg eq ∙ a.logs))) there mine did

          by : (writes_on r v ≡ (n, f.op, said) ∷ writes_on r dn) ⊎ IsEnd (writes_on r dn) (writes_on r v) → writes_on r v ≡ (n, f.op, said) ∷ writes_on r dn
          by (inl e) = e
          by (inr e) = absurd (none_some _ said (end_absent (writes_on r dn) (writes_on r v) n e (writes_absent r dn n a.absent)) stands)

      -- where it was done and doesn't stand, the list ends before it
      shorter : (r : Record) → r.dc ≡ d → NoneDone fl v r → record_eq (target f.op) r ≡ true → is_done said ≡ true → (o : Option Said) → said_under v n ≡ o
          → (writes_on r v ≡ (n, f.op, said) ∷ writes_on r dn) ⊎ IsEnd (writes_on r dn) (writes_on r v) → IsEnd (writes_on r dn) (writes_on r v)
      shorter r dc none same did None absent e = elim e [
        | inl first ↦ absurd (none_some _ said (writes_absent r v n absent)
            (ap (λ (l : List Performed). said_under l n) first ∙ under_same n n f.op said (writes_on r dn) refl))
        | inr rest ↦ rest
      ]
      shorter r dc none same did (Some s) there e = elim e [
        | inl first ↦ absurd (none n f s a.flies there same (subst (λ (x : Said). is_done x ≡ true) (so s there) did))
        | inr rest ↦ rest
      ]

      oldest : (r : Record) → r.dc ≡ d → NoneDone fl v r → IsEnd (writes_on r ((n, f.op, said) ∷ dn)) (writes_on r v) → IsEnd (writes_on r dn) (writes_on r v)
      oldest r dc none old =
          by_test (record_eq (target f.op) r && is_done said) (IsEnd (writes_on r dn) (writes_on r v))
          (λ both.
          let same = both_left (record_eq (target f.op) r) _ both in
          let did = both_right (record_eq (target f.op) r) _ both in
          shorter r dc none same did (said_under v n) refl (subst (λ (l : List Performed). IsEnd l (writes_on r v)) (done_here r same did) old))
          (λ differ. subst (λ (l : List Performed). IsEnd l (writes_on r v))
          (cond-false (record_eq (target f.op) r && is_done said) ((n, f.op, said) ∷ writes_on r dn)
          (writes_on r dn) differ) old)

-- ---- a log, and the same without its last events

pub record Earlier (base : Table) (lg : ℕ → Option Op) (fl : ℕ
    → Option Flight) (dn : List Performed) (top : ℕ) (lg' : ℕ → Option Op) (fl' : ℕ
    → Option Flight) (dn' : List Performed) (top' : ℕ) : Type 0 where
  pub fewer : top' ≤ top
  pub below : (n : ℕ) (o : Op) → lg' n ≡ Some o → n ≤ top'
  pub logs_on : (n : ℕ) (o : Op) → lg' n ≡ Some o → lg n ≡ Some o
  pub logs_back : (n : ℕ) (o : Op) → lg n ≡ Some o → n ≤ top' → lg' n ≡ Some o
  pub flies_back : (n : ℕ) (f : Flight) → fl n ≡ Some f → n ≤ top' → fl' n ≡ Some f
  pub says_on : (n : ℕ) (said : Said) → said_under dn' n ≡ Some said → said_under dn n ≡ Some said
  pub says_back : (n : ℕ) (said : Said) → said_under dn n ≡ Some said → n ≤ top' → fl' n ≡ None → said_under dn' n ≡ Some said
  pub beside : (d : ℕ) (v : List Performed) → Beside base lg fl dn d v → Beside base lg' fl' dn' d (up_to top' v)
  pub behind : (d : ℕ) (v : List Performed) → Behind base lg fl dn d v → Behind base lg' fl' dn' d (up_to top' v)

earlier_same : (base : Table) (lg : ℕ → Option Op) (fl : ℕ → Option Flight) (dn : List Performed) (top : ℕ)
    → ((n : ℕ) (o : Op) → lg n ≡ Some o → n ≤ top) → Earlier base lg fl dn top lg fl dn top
earlier_same base lg fl dn top below = record {
  fewer = omega arith;
  below = below;
  logs_on = λ n o is. is;
  logs_back = λ n o is low. is;
  flies_back = λ n f is low. is;
  says_on = λ n said is. is;
  says_back = λ n said is low none. is;
  beside = λ d v b. subst (Beside base lg fl dn d) (sym (cut_all top v (all_below top v (λ k e is. below e.0 e.1 (b.entries k e is).0)))) b;
  behind = λ d v b. subst (Behind base lg fl dn d) (sym (cut_all top v (all_below top v (λ k e is. below e.0 e.1 (b.entries k e is).0)))) b;
}

earlier_still : (base : Table) (lg lg' lg'' : ℕ → Option Op) (fl fl' fl'' : ℕ → Option Flight) (dn dn' dn'' : List Performed) (top top' top'' : ℕ)
    → Earlier base lg fl dn top lg' fl' dn' top' → Earlier base lg' fl' dn' top' lg'' fl'' dn'' top'' → Earlier base lg fl dn top lg'' fl'' dn'' top''
earlier_still base lg lg' lg'' fl fl' fl'' dn dn' dn'' top top' top'' x y =
    let fewer = x.fewer in
    let fewer' = y.fewer in
    record {
      fewer = omega (arith, fewer, fewer');
      below = y.below;
      logs_on = λ n o is. x.logs_on n o (y.logs_on n o is);
      logs_back = λ n o is low. y.logs_back n o (x.logs_back n o is (omega (arith, low, fewer'))) low;
      flies_back = λ n f is low. y.flies_back n f (x.flies_back n f is (omega (arith, low, fewer'))) low;
      says_on = λ n said is. x.says_on n said (y.says_on n said is);
      says_back = λ n said is low none. y.says_back n said
          (x.says_back n said is (omega (arith, low, fewer'))
          (none_by (fl' n) (λ f flies. none_some _ f none (y.flies_back n f flies low)))) low none;
      beside = λ d v b. subst (Beside base lg'' fl'' dn'' d) (cut_cut top' top'' v fewer') (y.beside d (up_to top' v) (x.beside d v b));
      behind = λ d v b. subst (Behind base lg'' fl'' dn'' d) (cut_cut top' top'' v fewer') (y.behind d (up_to top' v) (x.behind d v b));
    }

before_sent : (base : Table) (lg : ℕ → Option Op) (fl : ℕ
    → Option Flight) (dn : List Performed) (top more n : ℕ) (g : Flight) → n ≡ top + 1 → top ≤ more
    → ((m : ℕ) (q : Op) → lg m ≡ Some q → m ≤ top) → AllBelow (top + 1) dn
    → Earlier base (λ m. if n == m then Some g.op else lg m) (λ m. if n == m then Some g else fl m) dn more lg fl dn top
before_sent base lg fl dn top more n g next fewer below few =
    let above : top < n = omega (arith, next) in
    let apart : (m : ℕ) → m ≤ top → n ≢ m = (λ m low same. omega (arith, above, low, same)) in
    record {
      fewer = fewer;
      below = below;
      logs_on = λ m o is. if_none n m _ _ (apart m (below m o is)) ∙ is;
      logs_back = λ m o is low. sym (if_none n m (Some g.op) (lg m) (apart m low)) ∙ is;
      flies_back = λ m f is low. sym (if_none n m (Some g) (fl m) (apart m low)) ∙ is;
      says_on = λ m said is. is;
      says_back = λ m said is low none. is;
      beside = λ d v b. beside_unsent base lg fl dn d top v n g (above, below, few) b;
      behind = λ d v b. behind_unsent base lg fl dn d top v n g (above, below, few) b;
    }

before_answered : (base : Table) (lg : ℕ → Option Op) (fl : ℕ
    → Option Flight) (dn : List Performed) (top n : ℕ) (f : Flight) (said : Said)
    → ((m : ℕ) (q : Op) → lg m ≡ Some q → m ≤ top) → IsNextAnswer base lg fl dn n f said
    → Earlier base lg (λ m. if n == m then None else fl m) ((n, f.op, said) ∷ dn) top lg fl dn top
before_answered base lg fl dn top n f said below a =
    let same : (v : List Performed) → ((k : ℕ) (e : Performed) → slice_get v k ≡ Some e → lg e.0 ≡ Some e.1)
    → v ≡ up_to top v = (λ v logs. sym (cut_all top v (all_below top v (λ k e is. below e.0 e.1 (logs k e is))))) in
    record {
      fewer = omega arith;
      below = below;
      logs_on = λ m o is. is;
      logs_back = λ m o is low. is;
      flies_back = λ m g is low. elim (cases_eq n m) [
        | inl eq ↦ absurd (none_some _ g (if_some n m None (fl m) eq) is)
        | inr other ↦ sym (if_none n m None (fl m) other) ∙ is
      ];
      says_on = λ m s is. under_other n m f.op said dn (λ eq. none_some _ s a.absent (ap (said_under dn) eq ∙ is)) ∙ is;
      says_back = λ m s is low none. sym (under_other n m f.op said dn (λ eq. none_some _ f none (ap fl (sym eq) ∙ a.flies))) ∙ is;
      beside = λ d v b. subst (Beside base lg fl dn d) (same v (λ k e is. (b.entries k e is).0)) (beside_unanswered base lg fl dn d v n f said a b);
      behind = λ d v b. subst (Behind base lg fl dn d) (same v (λ k e is. (b.entries k e is).0)) (behind_unanswered base lg fl dn d v n f said a b);
    }

abbrev pub Before : Table → List Event → List Event → Type 0
Before base h first = Earlier base (logged h) (open_op h) (done h) (given h) (logged first) (open_op first) (done first) (given first)

answer_back : (ps : List Checked) (base : Table) (h first : List Event) (t n : ℕ) (said : Said) → AllGood ps
    → Legal ps h → CanAnswer ps h t n said → HonestTo (open_op h n) said (now_from base h) → Before base h first
    → Before base (Answer t n said ∷ h) first
answer_back ps base h first t n said good legal can honest before =
    let f : Flight = flight t can.r.op in
    let flies : open_op h n ≡ Some f = answered_flight ps h t n said legal can in
    let becomes : done (Answer t n said ∷ h) ≡ (n, f.op, said) ∷ done h = done_answer h t n f said flies in
    let a : IsNextAnswer base (logged h) (open_op h) (done h) n f said = record {
      flies = flies;
      logs = flight_logged h n f flies;
      fit = can.fit;
      apart = flights ps h good legal n f flies;
      absent = flight_absent ps h legal n f flies;
      honest = subst (λ (y : Option Flight). HonestTo y said (now_from base h)) flies honest;
    } in
    earlier_still base _ _ _ _ _ _ _ _ _ _ _ _
    (subst (λ (z : List Performed). Earlier base (logged h) (λ m. if n == m then None else open_op h m) z (given h)
    (logged h) (open_op h) (done h) (given h)) (sym becomes)
    (before_answered base (logged h) (open_op h) (done h) (given h) n f said (logged_below ps h legal) a))
    before

sent_back : (ps : List Checked) (base : Table) (h first : List Event) (t n : ℕ) (o : Op) → Legal ps h → n ≡ given h + 1 → Before base h first
    → Earlier base (λ m. if n == m then Some o else logged h m)
    (λ m. if n == m then Some (flight t o) else open_op h m) (done h) (given h + 1) (logged first)
    (open_op first) (done first) (given first)
sent_back ps base h first t n o legal next before =
    earlier_still base _ _ _ _ _ _ _ _ _ _ _ _
    (before_sent base (logged h) (open_op h) (done h) (given h) (given h + 1) n (flight t o) next (omega arith)
    (logged_below ps h legal) (done_below ps h legal))
    before

pub earlier : (ps : List Checked) (base : Table) (later first : List Event) → AllGood ps → Legal ps (later ++ first)
    → HonestFrom base (later ++ first) → Before base (later ++ first) first
earlier ps base [] first good legal honest = earlier_same base (logged first) (open_op first) (done first) (given first) (logged_below ps first legal)
earlier ps base (Ask t n o ∷ later) first good legal honest =
    sent_back ps base (later ++ first) first t n o legal.1 legal.0.next (earlier ps base later first good legal.1 honest.1)
earlier ps base (Answer t n said ∷ later) first good legal honest =
    answer_back ps base (later ++ first) first t n said good legal.1 legal.0 honest.0
    (earlier ps base later first good legal.1 honest.1)
earlier ps base (Undo t n o ∷ later) first good legal honest =
    sent_back ps base (later ++ first) first t n o legal.1 legal.0.next (earlier ps base later first good legal.1 honest.1)
earlier ps base (Checkpoint before numbers ∷ later) first good legal honest =
    let x = earlier ps base later first good legal.1 honest.1 in
    record {
      fewer = given_more ps (Checkpoint before numbers ∷ later) first legal;
      below = x.below;
      logs_on = x.logs_on;
      logs_back = x.logs_back;
      flies_back = x.flies_back;
      says_on = x.says_on;
      says_back = x.says_back;
      beside = x.beside;
      behind = x.behind;
    }
earlier ps base (_ ∷ later) first good legal honest = earlier ps base later first good legal.1 honest.1

-- what is allowed behind each event, and each honest answer, is so behind the first ones
pub legal_first : (ps : List Checked) (later first : List Event) → Legal ps (later ++ first) → Legal ps first
legal_first ps [] first legal = legal
legal_first ps (e ∷ later) first legal = legal_first ps later first legal.1

pub honest_first : (base : Table) (later first : List Event) → HonestFrom base (later ++ first) → HonestFrom base first
honest_first base [] first honest = honest
honest_first base (e ∷ later) first honest = honest_first base later first honest.1

-- ---- the number behind which a log begins

pub begun_given : (ps : List Checked) (h : List Event) → Legal ps h → begun h ≤ given h
begun_given ps [] legal = omega arith
begun_given ps (Ask t m q ∷ h) legal = (let few = begun_given ps h legal.1 in omega (arith, few))
begun_given ps (Undo t m q ∷ h) legal = (let few = begun_given ps h legal.1 in omega (arith, few))
begun_given ps (Checkpoint before numbers ∷ h) legal = omega arith
begun_given ps (_ ∷ h) legal = begun_given ps h legal.1

logged_new : (ps : List Checked) (h : List Event) (m n : ℕ) (q o : Op) → Legal ps h → m ≡ given h + 1 → (logged h n ≡ Some o → begun h < n)
    → (if m == n then Some q else logged h n) ≡ Some o → begun h < n
logged_new ps h m n q o legal next old e = elim (cases_eq m n) [
  | inl same ↦ (let few = begun_given ps h legal in omega (arith, same, next, few))
  | inr other ↦ old (sym (if_none m n (Some q) (logged h n) other) ∙ e)
]

-- the log's numbers are above it
pub logged_above : (ps : List Checked) (h : List Event) → Legal ps h → (n : ℕ) (o : Op) → logged h n ≡ Some o → begun h < n
logged_above ps [] legal n o e = absurd (none_some _ o refl e)
logged_above ps (Ask t m q ∷ h) legal n o e = logged_new ps h m n q o legal.1 legal.0.next (logged_above ps h legal.1 n o) e
logged_above ps (Undo t m q ∷ h) legal n o e = logged_new ps h m n q o legal.1 legal.0.next (logged_above ps h legal.1 n o) e
logged_above ps (Checkpoint before numbers ∷ h) legal n o e =
    absurd (none_some _ o (ap (λ (x : List Event). logged x n) legal.0.oldest) e)
logged_above ps (_ ∷ h) legal n o e = logged_above ps h legal.1 n o e
