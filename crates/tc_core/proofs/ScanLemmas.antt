-- A look through the log, oldest event first, finds what is to be redone.
use Rattle.std.proofs.Common.{◌≡◌, ◌≢◌, ℕ, zero, suc, ◌+◌, ◌≤◌, ◌<◌, nat_lt, Bool, true, false, ◌&&◌, cond, List, [], ◌∷◌, ◌++◌, length, take, drop, Option}
use Rattle.std.proofs.Common.{Some, None, arith, refl, sym, ◌∙◌, ap, subst, inl, inr, ◌==◌}
use Rattle.std.specs.Prelude.{reverse, if◌then◌else◌}
use Rattle.std.proofs.lemmas.Bool.{cases_eq, cases_lt, cond-true, cond-false}
use Rattle.std.proofs.lemmas.Bool.Decides.{nat_tests}
use Rattle.std.proofs.lemmas.List.{reverse-append}
use Rattle.access_slots.specs.Locks.{target}
use Rattle.access_slots.specs.declared.op.Op.{Op}
use Rattle.access_slots.specs.declared.op.Said.{Said}
use Rattle.verifier.specs.Checked.{Checked}
use Rattle.tc_log.specs.declared.event.Event.{Event}
use Rattle.tc_log.specs.declared.event.Event.TheVariants.{Ask, Answer, Undo, Checkpoint}
use Rattle.history.specs.declared.Answered.{Answered}
use Rattle.history.specs.Flight.{Flight, given, open_op}
use Rattle.history.specs.Redo.{answered, with_answer, is_done, is_done_at, if_done_at, done_at, or_else, to_redo, IsToRedo}
use Rattle.transactions.specs.Legal.{Legal, Allowed}
use Rattle.transactions.proofs.StandingLemmas.{eq-true, eq-false, some_same, none_some}
use Rattle.transactions.proofs.LowWater.{given_grows}
use Rattle.transactions.proofs.Flights.{standing_flight}
use Rattle.transactions.proofs.Restarts.{done_number, to_redo_is, to_redo_only}
use Rattle.tc_core.specs.Kept.{AreSentUpTo}
use Rattle.tc_core.specs.Joining.Scanning.{said_in, is_sought, if_done, done_behind, first_in, scan}
use Rattle.tc_core.specs.Joining.Numbered.{AreNumbered, sent_by, sent_in, with_said, done_in}

pub reversed : (e : Event) (h : List Event) → reverse (e ∷ h) ≡ reverse h ++ e ∷ []
reversed e h = reverse-append (e ∷ []) h

-- ---- one more event at the end

abbrev orelse : {A : Type 0} → Option A → Option A → Option A
orelse None other = other
orelse (Some x) other = Some x

or_none : {A : Type 0} (o : Option A) → orelse o None ≡ o
or_none None = refl
or_none (Some x) = refl

pick_more : {A : Type 0} (b : Bool) (x : A) (o p : Option A) → cond b (Some x) (orelse o p) ≡ orelse (cond b (Some x) o) p
pick_more true x o p = refl
pick_more false x o p = refl

said_more : (es : List Event) (e : Event) (n : ℕ) → said_in (es ++ e ∷ []) n ≡ orelse (said_in es n) (said_in (e ∷ []) n)
said_more [] e n = refl
said_more (Answer t m said ∷ es) e n = ap (cond (m == n) (Some said)) (said_more es e n) ∙ pick_more (m == n) said (said_in es n) (said_in (e ∷ []) n)
said_more (_ ∷ es) e n = said_more es e n

abbrev flight : ℕ → Op → Flight
flight t o = record { txn = t; op = o }

sent_more : (es : List Event) (e : Event) (n : ℕ) → sent_in (es ++ e ∷ []) n ≡ orelse (sent_in es n) (sent_in (e ∷ []) n)
sent_more [] e n = refl
sent_more (Ask t m o ∷ es) e n = ap (cond (m == n) (Some (flight t o))) (sent_more es e n) ∙ pick_more (m == n) (flight t o) (sent_in es n) (sent_in (e ∷ []) n)
sent_more (Undo t m o ∷ es) e n = ap (cond (m == n) (Some (flight t o))) (sent_more es e n)
    ∙ pick_more (m == n) (flight t o) (sent_in es n) (sent_in (e ∷ []) n)
sent_more (_ ∷ es) e n = sent_more es e n

sent_by_more : (k : ℕ) (es : List Event) (e : Event) → sent_by k (es ++ e ∷ []) ≡ sent_by (sent_by k es) (e ∷ [])
sent_by_more k [] e = refl
sent_by_more k (Ask t n o ∷ es) e = sent_by_more (k + 1) es e
sent_by_more k (Undo t n o ∷ es) e = sent_by_more (k + 1) es e
sent_by_more k (Checkpoint before numbers ∷ es) e = sent_by_more numbers es e
sent_by_more k (_ ∷ es) e = sent_by_more k es e

numbered_more : (k : ℕ) (es : List Event) (e : Event) → AreNumbered k es → AreNumbered (sent_by k es) (e ∷ []) → AreNumbered k (es ++ e ∷ [])
numbered_more k [] e are is = is
numbered_more k (Ask t n o ∷ es) e are is = (are.0, numbered_more (k + 1) es e are.1 is)
numbered_more k (Answer t n said ∷ es) e are is = (are.0, numbered_more k es e are.1 is)
numbered_more k (Undo t n o ∷ es) e are is = (are.0, numbered_more (k + 1) es e are.1 is)
numbered_more k (Checkpoint before numbers ∷ es) e are is = (are.0, numbered_more numbers es e are.1 is)
numbered_more k (_ ∷ es) e are is = numbered_more k es e are is

-- ---- the numbers of a legal log

record IsNumbered (h : List Event) (es : List Event) : Type 0 where
  numbered : AreNumbered 0 es
  count : sent_by 0 es ≡ given h

answered_few : (ps : List Checked) (h : List Event) (t n : ℕ) (said : Said) → Legal ps h → Allowed ps h (Answer t n said) → n ≤ given h
answered_few ps h t n said legal a =
    let few = (standing_flight ps h legal t a.s a.r a.is a.waits).0 in
    omega (arith, few, a.number)

last_fits : (ps : List Checked) (h : List Event) (e : Event) → Legal ps h → Allowed ps h e
    → AreNumbered (given h) (e ∷ []) × (sent_by (given h) (e ∷ []) ≡ given (e ∷ h))
last_fits ps h (Ask t n o) legal a = ((a.next, tt), refl)
last_fits ps h (Answer t n said) legal a = ((answered_few ps h t n said legal a, tt), refl)
last_fits ps h (Undo t n o) legal a = ((a.next, tt), refl)
last_fits ps h (Checkpoint before numbers) legal a = (let none : given h ≡ 0 = ap given a.oldest in ((omega (arith, none), tt), refl))
last_fits ps h _ legal a = (tt, refl)

is_numbered : (ps : List Checked) (h : List Event) → Legal ps h → IsNumbered h (reverse h)
is_numbered ps [] legal = record { numbered = tt; count = refl }
is_numbered ps (e ∷ h) legal =
    let was = is_numbered ps h legal.1 in
    let fits = last_fits ps h e legal.1 legal.0 in
    let last : AreNumbered (sent_by 0 (reverse h)) (e ∷ []) = subst (λ (k : ℕ). AreNumbered k (e ∷ [])) (sym was.count) fits.0 in
    subst (IsNumbered (e ∷ h)) (sym (reversed e h))
    (record {
      numbered = numbered_more 0 (reverse h) e was.numbered last;
      count = sent_by_more 0 (reverse h) e ∙ ap (λ (k : ℕ). sent_by k (e ∷ [])) was.count ∙ fits.1;
    })

pub numbered : (ps : List Checked) (h : List Event) → Legal ps h → AreNumbered 0 (reverse h)
numbered ps h legal = (is_numbered ps h legal).numbered

-- ---- both orders say the same of a number

record Agrees (h : List Event) (es : List Event) (n : ℕ) : Type 0 where
  open_sent : (f : Flight) → open_op h n ≡ Some f → sent_in es n ≡ Some f
  open_unsaid : (f : Flight) → open_op h n ≡ Some f → said_in es n ≡ None
  same : answered h n ≡ with_said n (sent_in es n) (said_in es n)
  late_unsent : given h < n → sent_in es n ≡ None
  late_unsaid : given h < n → said_in es n ≡ None

-- an event that neither sends nor answers the number
still : (h es : List Event) (e : Event) (n : ℕ) → Agrees h es n → sent_in (e ∷ []) n ≡ None → said_in (e ∷ []) n ≡ None
    → open_op (e ∷ h) n ≡ open_op h n → answered (e ∷ h) n ≡ answered h n → given h ≤ given (e ∷ h) → Agrees (e ∷ h) (es ++ e ∷ []) n
still h es e n a sends says flight_same answer_same more =
    let sent : sent_in (es ++ e ∷ []) n ≡ sent_in es n = sent_more es e n ∙ ap (orelse (sent_in es n)) sends ∙ or_none (sent_in es n) in
    let said : said_in (es ++ e ∷ []) n ≡ said_in es n = said_more es e n ∙ ap (orelse (said_in es n)) says ∙ or_none (said_in es n) in
    record {
      open_sent = λ f is. sent ∙ a.open_sent f (sym flight_same ∙ is);
      open_unsaid = λ f is. said ∙ a.open_unsaid f (sym flight_same ∙ is);
      same = answer_same ∙ a.same ∙ sym (ap (λ (o : Option Flight). with_said n o (said_in (es ++ e ∷ []) n)) sent ∙ ap (with_said n (sent_in es n)) said);
      late_unsent = λ late. sent ∙ a.late_unsent (omega (arith, late, more));
      late_unsaid = λ late. said ∙ a.late_unsaid (omega (arith, late, more));
    }

-- an event that sends the number
sends_it : (h es : List Event) (e : Event) (n : ℕ) (f : Flight) → Agrees h es n → given h < n → sent_in (e ∷ []) n ≡ Some f → said_in (e ∷ []) n ≡ None
    → open_op (e ∷ h) n ≡ Some f → answered (e ∷ h) n ≡ answered h n → n ≤ given (e ∷ h) → Agrees (e ∷ h) (es ++ e ∷ []) n
sends_it h es e n f a late sends says flight_is answer_same given_now =
    let sent : sent_in (es ++ e ∷ []) n ≡ Some f = sent_more es e n ∙ ap (λ (o : Option Flight). orelse o (sent_in (e ∷ []) n)) (a.late_unsent late) ∙ sends in
    let said : said_in (es ++ e ∷ []) n ≡ None = said_more es e n ∙ ap (λ (o : Option Said). orelse o (said_in (e ∷ []) n)) (a.late_unsaid late) ∙ says in
    record {
      open_sent = λ g is. sent ∙ sym flight_is ∙ is;
      open_unsaid = λ g is. said;
      same = answer_same ∙ a.same ∙ ap (with_said n (sent_in es n)) (a.late_unsaid late) ∙ sym (ap (with_said n (sent_in (es ++ e ∷ []) n)) said);
      late_unsent = λ later. absurd (omega (arith, later, given_now));
      late_unsaid = λ later. absurd (omega (arith, later, given_now));
    }

-- an event that answers it
answers_it : (h es : List Event) (e : Event) (n : ℕ) (f : Flight) (said : Said) → Agrees h es n → open_op h n ≡ Some f → n ≤ given (e ∷ h)
    → sent_in (e ∷ []) n ≡ None → said_in (e ∷ []) n ≡ Some said
    → open_op (e ∷ h) n ≡ None → answered (e ∷ h) n ≡ with_answer n said (open_op h n) → Agrees (e ∷ h) (es ++ e ∷ []) n
answers_it h es e n f said a is few sends says flight_is answer_is =
    let sent : sent_in (es ++ e ∷ []) n ≡ open_op h n = sent_more es e n ∙ ap (orelse (sent_in es n)) sends
    ∙ or_none (sent_in es n) ∙ a.open_sent f is ∙ sym is in
    let now : said_in (es ++ e ∷ []) n ≡ Some said = said_more es e n ∙ ap (λ (o : Option Said). orelse o (said_in (e ∷ []) n)) (a.open_unsaid f is) ∙ says in
    record {
      open_sent = λ g bad. absurd (none_some _ g flight_is bad);
      open_unsaid = λ g bad. absurd (none_some _ g flight_is bad);
      same = answer_is ∙ sym (ap (λ (o : Option Flight). with_said n o (said_in (es ++ e ∷ []) n)) sent ∙ ap (with_said n (open_op h n)) now);
      late_unsent = λ later. absurd (omega (arith, later, few));
      late_unsaid = λ later. absurd (omega (arith, later, few));
    }

agrees_more : (ps : List Checked) (h es : List Event) (e : Event) (n : ℕ) → Legal ps h → Allowed ps h e → Agrees h es n → Agrees (e ∷ h) (es ++ e ∷ []) n
agrees_more ps h es (Ask t m o) n legal allowed a =
    let next = allowed.next in
    elim (cases_eq m n) [
      | inl same ↦
          let e = eq-true m n same in
          sends_it h es (Ask t m o) n (flight t o) a (omega (arith, next, same)) (cond-true _ _ _ e) refl (cond-true _ _ _ e) refl (omega (arith, next, same))
      | inr differ ↦
          let e = eq-false m n differ in
          still h es (Ask t m o) n a (cond-false _ _ _ e) refl (cond-false _ _ _ e) refl (omega arith)
    ]
agrees_more ps h es (Answer t m said) n legal allowed a = elim (cases_eq m n) [
  | inl same ↦
      let e = eq-true m n same in
      let waits = standing_flight ps h legal t allowed.s allowed.r allowed.is allowed.waits in
      let number : allowed.r.number ≡ n = allowed.number ∙ same in
      let is : open_op h n ≡ Some (flight t allowed.r.op) = ap (open_op h) (sym number) ∙ waits.1 in
      let few = waits.0 in
      answers_it h es (Answer t m said) n (flight t allowed.r.op) said a is (omega (arith, few, number)) refl
      (cond-true _ _ _ e) (cond-true _ _ _ e) (cond-true _ _ _ e)
  | inr differ ↦
      let e = eq-false m n differ in
      still h es (Answer t m said) n a refl (cond-false _ _ _ e) (cond-false _ _ _ e) (cond-false _ _ _ e) (omega arith)
]
agrees_more ps h es (Undo t m o) n legal allowed a =
    let next = allowed.next in
    elim (cases_eq m n) [
      | inl same ↦
          let e = eq-true m n same in
          sends_it h es (Undo t m o) n (flight t o) a (omega (arith, next, same)) (cond-true _ _ _ e) refl (cond-true _ _ _ e) refl (omega (arith, next, same))
      | inr differ ↦
          let e = eq-false m n differ in
          still h es (Undo t m o) n a (cond-false _ _ _ e) refl (cond-false _ _ _ e) refl (omega arith)
    ]
agrees_more ps h es e n legal allowed a = still h es e n a refl refl refl refl (given_grows ps h e allowed)

agrees : (ps : List Checked) (h : List Event) → Legal ps h → (n : ℕ) → Agrees h (reverse h) n
agrees ps [] legal n = record { open_sent = λ f is. absurd cc; open_unsaid = λ f is. refl; same = refl; late_unsent = λ late. refl; late_unsaid = λ late. refl }
agrees ps (e ∷ h) legal n = subst (λ (es : List Event). Agrees (e ∷ h) es n) (sym (reversed e h))
    (agrees_more ps h (reverse h) e n legal.1 legal.0 (agrees ps h legal.1 n))

done_same : (ps : List Checked) (h : List Event) → Legal ps h → (d n : ℕ) → done_at h d n ≡ done_in (reverse h) d n
done_same ps h legal d n = ap (if_done_at d) (agrees ps h legal n).same

-- ---- what a look finds is the least

-- of these, it is the least above the number
abbrev IsLeast : (ℕ → Option Answered) → ℕ → Option Answered → Type 0
IsLeast f after None = (m : ℕ) → after < m → f m ≡ None
IsLeast f after (Some a) = (after < a.number) × (f a.number ≡ Some a) × ((m : ℕ) → after < m → m < a.number → f m ≡ None)

least_same : (f g : ℕ → Option Answered) (after : ℕ) (o : Option Answered) → ((m : ℕ) → f m ≡ g m) → IsLeast g after o → IsLeast f after o
least_same f g after None same is = λ m above. same m ∙ is m above
least_same f g after (Some a) same is = (is.0, same a.number ∙ is.1, λ m above below. same m ∙ is.2 m above below)

unsent_done : (es : List Event) (d n : ℕ) → sent_in es n ≡ None → done_in es d n ≡ None
unsent_done es d n is = ap (λ (f : Option Flight). if_done_at d (with_said n f (said_in es n))) is ∙ none (said_in es n)
  where
    none : (s : Option Said) → if_done_at d (with_said n None s) ≡ None
    none None = refl
    none (Some said) = refl

-- numbers up to the first ones aren't sent again
unsent_below : (k : ℕ) (es : List Event) → AreNumbered k es → (n : ℕ) → n ≤ k → sent_in es n ≡ None
unsent_below k [] are n few = refl
unsent_below k (Ask t m o ∷ es) are n few =
    let next = are.0 in
    cond-false _ _ _ (eq-false m n (omega (arith, next, few))) ∙ unsent_below (k + 1) es are.1 n (omega (arith, few))
unsent_below k (Answer t m said ∷ es) are n few = unsent_below k es are.1 n few
unsent_below k (Undo t m o ∷ es) are n few =
    let next = are.0 in
    cond-false _ _ _ (eq-false m n (omega (arith, next, few))) ∙ unsent_below (k + 1) es are.1 n (omega (arith, few))
unsent_below k (Checkpoint before numbers ∷ es) are n few = unsent_below numbers es are.1 n (omega (arith, are.0, few))
unsent_below k (_ ∷ es) are n few = unsent_below k es are n few

-- the one that is sent first, and those behind it
and_parts : (x y : Bool) → (x && y) ≡ true → (x ≡ true) × (y ≡ true)
and_parts true true e = (refl, refl)
and_parts true false e = absurd cc
and_parts false y e = absurd cc

record IsDoneHere (d after t n : ℕ) (o : Op) (said : Option Said) (a : Answered) : Type 0 where
  above : after < n
  number : a.number ≡ n
  is : if_done_at d (with_said n (Some (flight t o)) said) ≡ Some a

lt_true : (a b : ℕ) → nat_lt a b ≡ true → a < b
lt_true a b e = grind (arith, nat_tests)

lt_is : (a b : ℕ) → a < b → nat_lt a b ≡ true
lt_is a b e = grind (arith, nat_tests)

lt_not : (a b : ℕ) → b ≤ a → nat_lt a b ≡ false
lt_not a b e = grind (arith, nat_tests)

-- sought, by the two tests
here_by : (x y z : Bool) (a : Answered) → cond (x && y) (cond z (Some a) None) None ≡ cond x (cond (z && y) (Some a) None) None
here_by true true true a = refl
here_by true true false a = refl
here_by true false true a = refl
here_by true false false a = refl
here_by false y z a = refl

abbrev here : ℕ → ℕ → Op → Said → Answered
here t n o said = record { txn = t; number = n; op = o; said = said }

behind_is : (d after t n : ℕ) (o : Op) (es : List Event) → after < n
    → done_behind d after t n o es ≡ if_done_at d (with_said n (Some (flight t o)) (said_in es n))
behind_is d after t n o es above = by (said_in es n)
  where
    none_by : (b : Bool) (o : Option Answered) → cond b o o ≡ o
    none_by true o = refl
    none_by false o = refl

    by : (s : Option Said) → (if is_sought d after n o then if_done t n o s else None) ≡ if_done_at d (with_said n (Some (flight t o)) s)
    by None = none_by (is_sought d after n o) None
    by (Some said) =
        here_by (nat_lt after n) ((target o).dc == d) (is_done said) (here t n o said)
        ∙ cond-true _ (if_done_at d (Some (here t n o said))) None (lt_is after n above)

behind_low : (d after t n : ℕ) (o : Op) (es : List Event) → n ≤ after → done_behind d after t n o es ≡ None
behind_low d after t n o es low = ap (λ (b : Bool). cond (b && ((target o).dc == d)) (if_done t n o (said_in es n)) None) (lt_not after n low)

done_sent : (es : List Event) (d n : ℕ) (a : Answered) → done_in es d n ≡ Some a → sent_in es n ≢ None
done_sent es d n a is none = none_some _ a (unsent_done es d n none) is

number_here : (d n : ℕ) (f : Flight) (s : Option Said) (a : Answered) → if_done_at d (with_said n (Some f) s) ≡ Some a → a.number ≡ n
number_here d n f None a is = absurd cc
number_here d n f (Some said) a is = by (is_done_at d (here f.txn n f.op said)) is
  where
    by : (b : Bool) → cond b (Some (here f.txn n f.op said)) None ≡ Some a → a.number ≡ n
    by true e = sym (ap (λ (x : Answered). x.number) (some_same _ a e))
    by false e = absurd cc

-- an operation that is sent under the next number, before all others
module _ (d after k t n : ℕ) (o : Op) (es : List Event) (next : n ≡ k + 1) (are : AreNumbered (k + 1) es) where
  abbrev done_now : ℕ → Option Answered
  done_now m = if_done_at d (with_said m (if n == m then Some (flight t o) else sent_in es m) (said_in es m))

  done_other : (m : ℕ) → n ≢ m → done_now m ≡ done_in es d m
  done_other m differ = ap (λ (f : Option Flight). if_done_at d (with_said m f (said_in es m))) (cond-false _ _ _ (eq-false n m differ))

  done_own : (m : ℕ) → n ≡ m → done_now m ≡ if_done_at d (with_said n (Some (flight t o)) (said_in es n))
  done_own m same =
      ap (λ (f : Option Flight). if_done_at d (with_said m f (said_in es m))) (cond-true _ (Some (flight t o)) (sent_in es m) (eq-true n m same))
      ∙ ap (λ (i : ℕ). if_done_at d (with_said i (Some (flight t o)) (said_in es i))) (sym same)

  done_early : (m : ℕ) → m < n → done_now m ≡ None
  done_early m below = done_other m (omega (arith, below)) ∙ unsent_done es d m (unsent_below (k + 1) es are m (omega (arith, below, next)))

  least_behind : done_behind d after t n o es ≡ None → (rest : Option Answered) → IsLeast (λ m. done_in es d m) after rest → IsLeast done_now after rest
  least_behind none None is = λ m above. elim (cases_eq n m) [
    | inl same ↦ done_own m same ∙ sym (behind_is d after t n o es (omega (arith, above, same))) ∙ none
    | inr differ ↦ done_other m differ ∙ is m above
  ]
  least_behind none (Some a) is =
      let apart : n ≢ a.number = (λ same. done_sent es d a.number a is.1 (unsent_below (k + 1) es are a.number (omega (arith, same, next)))) in (
        is.0,
        done_other a.number apart ∙ is.1,
        λ m above below. elim (cases_eq n m) [
          | inl same ↦ done_own m same ∙ sym (behind_is d after t n o es (omega (arith, above, same))) ∙ none
          | inr differ ↦ done_other m differ ∙ is.2 m above below
        ],
      )

  least_here : (first : Option Answered) → done_behind d after t n o es ≡ first → (rest : Option Answered) → IsLeast (λ m. done_in es d m) after rest
      → IsLeast done_now after (or_else first rest)
  least_here None none rest is = least_behind none rest is
  least_here (Some a) some rest is = elim (cases_lt after n) [
    | inl above ↦
        let own = sym (behind_is d after t n o es above) ∙ some in
        let number = number_here d n (flight t o) (said_in es n) a own in
        (omega (arith, above, number), done_own a.number (sym number) ∙ own, λ m over below. done_early m (omega (arith, below, number)))
    | inr low ↦ absurd (none_some _ a (behind_low d after t n o es (omega (arith, low))) some)
  ]

-- an answer to a number that isn't sent again
said_apart : (k d m : ℕ) (said : Said) (es : List Event) → m ≤ k → AreNumbered k es → (n : ℕ)
    → if_done_at d (with_said n (sent_in es n) (if m == n then Some said else said_in es n)) ≡ done_in es d n
said_apart k d m said es few are n = elim (cases_eq m n) [
  | inl same ↦
      let none = unsent_below k es are n (omega (arith, few, same)) in
      let first : if_done_at d (with_said n (sent_in es n) (if m == n then Some said else said_in es n)) ≡ None
      = ap (λ (s : Option Said). if_done_at d (with_said n (sent_in es n) s)) (cond-true _ (Some said) (said_in es n) (eq-true m n same))
      ∙ ap (λ (f : Option Flight). if_done_at d (with_said n f (Some said))) none in
      first ∙ sym (unsent_done es d n none)
  | inr differ ↦ ap (λ (s : Option Said). if_done_at d (with_said n (sent_in es n) s)) (cond-false _ (Some said) (said_in es n) (eq-false m n differ))
]

scan_least : (d after k : ℕ) (es : List Event) → AreNumbered k es → IsLeast (λ n. done_in es d n) after (scan d after es)
scan_least d after k [] are = λ m above. refl
scan_least d after k (Ask t n o ∷ es) are = least_here d after k t n o es are.0 are.1
    (done_behind d after t n o es) refl (scan d after es) (scan_least d after (k + 1) es are.1)
scan_least d after k (Answer t n said ∷ es) are =
    least_same _ (λ m. done_in es d m) after (scan d after es) (said_apart k d n said es are.0 are.1)
    (scan_least d after k es are.1)
scan_least d after k (Undo t n o ∷ es) are = least_here d after k t n o es are.0 are.1
    (done_behind d after t n o es) refl (scan d after es) (scan_least d after (k + 1) es are.1)
scan_least d after k (Checkpoint before numbers ∷ es) are = scan_least d after numbers es are.1
scan_least d after k (_ ∷ es) are = scan_least d after k es are

-- a look through the whole log finds what is to be redone
pub scan_is : (ps : List Checked) (h : List Event) → Legal ps h → (d redone : ℕ) → scan d redone (reverse h) ≡ to_redo h d redone
scan_is ps h legal d redone =
    let found = least_same (λ n. done_at h d n) (λ n. done_in (reverse h) d n) redone (scan d redone (reverse h))
    (done_same ps h legal d) (scan_least d redone 0 (reverse h) (numbered ps h legal)) in
    to_redo_only h d redone (scan d redone (reverse h)) (to_redo h d redone) (done_number h d)
    (as_redo (scan d redone (reverse h)) found) (to_redo_is ps h legal d redone)
  where
    as_redo : (o : Option Answered) → IsLeast (λ n. done_at h d n) redone o → IsToRedo h d redone o
    as_redo None is = is
    as_redo (Some a) is = is

-- ---- from a place on

-- what was sent before, up to the number, isn't sought
pub scan_from : (d after place : ℕ) (es : List Event) → AreSentUpTo after (take place es) → scan d after (drop place es) ≡ scan d after es
scan_from d after zero es are = refl
scan_from d after (suc place) [] are = refl
scan_from d after (suc place) (Ask t n o ∷ es) are =
    scan_from d after place es are.1 ∙ ap (λ (x : Option Answered). or_else x (scan d after es)) (sym (behind_low d after t n o es are.0))
scan_from d after (suc place) (Undo t n o ∷ es) are =
    scan_from d after place es are.1 ∙ ap (λ (x : Option Answered). or_else x (scan d after es)) (sym (behind_low d after t n o es are.0))
scan_from d after (suc place) (_ ∷ es) are = scan_from d after place es are

behind_number : (d after t n : ℕ) (o : Op) (es : List Event) (a : Answered) → done_behind d after t n o es ≡ Some a → a.number ≡ n
behind_number d after t n o es a is = elim (cases_lt after n) [
  | inl above ↦ number_here d n (flight t o) (said_in es n) a (sym (behind_is d after t n o es above) ∙ is)
  | inr low ↦ absurd (none_some _ a (behind_low d after t n o es (omega (arith, low))) is)
]

-- all that was sent up to the place of what was found is up to its number
record AreUpTo (k place : ℕ) (es : List Event) (n : ℕ) : Type 0 where
  below : k < n
  sent : AreSentUpTo n (take (suc place) es)

up_to : (d after k place : ℕ) (es : List Event) (a : Answered) → AreNumbered k es → first_in d after (drop place es) ≡ Some a → AreUpTo k place es a.number
up_to d after k zero [] a are is = absurd cc
up_to d after k zero (Ask t n o ∷ es) a are is =
    let number = behind_number d after t n o es a is in
    let next = are.0 in
    record { below = omega (arith, next, number); sent = (omega (arith, number), tt) }
up_to d after k zero (Undo t n o ∷ es) a are is =
    let number = behind_number d after t n o es a is in
    let next = are.0 in
    record { below = omega (arith, next, number); sent = (omega (arith, number), tt) }
up_to d after k zero (_ ∷ es) a are is = absurd cc
up_to d after k (suc place) [] a are is = absurd cc
up_to d after k (suc place) (Ask t n o ∷ es) a are is =
    let rest = up_to d after (k + 1) place es a are.1 is in
    let next = are.0 in
    let low = rest.below in
    record { below = omega (arith, low); sent = (omega (arith, low, next), rest.sent) }
up_to d after k (suc place) (Answer t n said ∷ es) a are is =
    (let rest = up_to d after k place es a are.1 is in record { below = rest.below; sent = rest.sent })
up_to d after k (suc place) (Undo t n o ∷ es) a are is =
    let rest = up_to d after (k + 1) place es a are.1 is in
    let next = are.0 in
    let low = rest.below in
    record { below = omega (arith, low); sent = (omega (arith, low, next), rest.sent) }
up_to d after k (suc place) (Checkpoint before numbers ∷ es) a are is =
    let rest = up_to d after numbers place es a are.1 is in
    let low = rest.below in
    record { below = omega (arith, are.0, low); sent = rest.sent }
up_to d after k (suc place) (_ ∷ es) a are is = (let rest = up_to d after k place es a are is in record { below = rest.below; sent = rest.sent })

pub begin_behind : (ps : List Checked) (h : List Event) → Legal ps h → (d after place : ℕ) (a : Answered)
    → first_in d after (drop place (reverse h)) ≡ Some a → AreSentUpTo a.number (take (place + 1) (reverse h))
begin_behind ps h legal d after place a is =
    subst (λ (i : ℕ). AreSentUpTo a.number (take i (reverse h))) (one_more place) (up_to d after 0 place (reverse h) a (numbered ps h legal) is).sent
  where
    one_more : (i : ℕ) → suc i ≡ i + 1
    one_more i = omega arith

-- where the event at a place isn't sought, the look goes on behind it
scan_behind : (d after place : ℕ) (es : List Event) → place < length es → first_in d after (drop place es) ≡ None
    → scan d after (drop (suc place) es) ≡ scan d after (drop place es)
scan_behind d after place [] inside none = absurd (omega (arith, inside))
scan_behind d after zero (e ∷ es) inside none = sym (ap (λ (o : Option Answered). or_else o (scan d after es)) none)
scan_behind d after (suc place) (e ∷ es) inside none = scan_behind d after place es (omega (arith, inside)) none

pub scan_next : (d after place : ℕ) (es : List Event) → place < length es → first_in d after (drop place es) ≡ None
    → scan d after (drop (place + 1) es) ≡ scan d after (drop place es)
scan_next d after place es inside none =
    ap (λ (i : ℕ). scan d after (drop i es)) (more place) ∙ scan_behind d after place es inside none
  where
    more : (i : ℕ) → i + 1 ≡ suc i
    more i = omega arith
