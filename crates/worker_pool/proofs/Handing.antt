-- Batches that are handed over: they are counted, and they stand in the log.
use Rattle.std.proofs.Common.{◌≡◌, ℕ, ◌+◌, ◌<◌, ◌≤◌, ◌==◌, Bool, true, false, List, [], ◌∷◌, ◌++◌, length, reverse, drop}
use Rattle.std.proofs.Common.{refl, ap, sym, ◌∙◌, subst, arith, inl, length-append, append_assoc, append-nil, Option, None, Some}
use Rattle.std.specs.Prelude.{is_some}
use Rattle.std.proofs.lemmas.List.{reverse-append, reverse-reverse, length-reverse}
use Rattle.std.proofs.lemmas.Bool.Decides.{nat_tests}
use mathlib.Core.List.{IsPrefix}
use prog.Atomic.{either}
use Rattle.logbook.specs.Pages.{Cell, cell, keeps, no_nib, step, Moves, Goes}
use Rattle.tc_log.specs.declared.event.Event.{Event}
use Rattle.history.specs.Places.{Begins}
use Rattle.worker_pool.specs.Acknowledged.{IsKept}
use Rattle.worker_pool.specs.Joining.Handing.{events_of, IsCounted, Adds, IsHanded, HasAll, IsKeptIn}

-- ---- beginnings of one list

-- a beginning as long as the whole is the whole
pub prefix_whole : {A : Type 0} (xs ys : List A) → IsPrefix xs ys → length ys ≤ length xs → xs ≡ ys
prefix_whole [] [] p le = refl
prefix_whole [] (y ∷ ys) p le = absurd (omega arith)
prefix_whole (x ∷ xs) [] p le = absurd (cc (p.1))
prefix_whole (x ∷ xs) (y ∷ ys) p le =
    let rest = prefix_whole xs ys (p.0, cc (p.1)) (omega arith) in cc (p.1, rest)

-- two beginnings of the same length are the same
pub prefix_same : {A : Type 0} (xs ys zs : List A) → IsPrefix xs zs → IsPrefix ys zs → length xs ≡ length ys → xs ≡ ys
prefix_same [] [] zs p q same = refl
prefix_same [] (y ∷ ys) zs p q same = absurd (omega arith)
prefix_same (x ∷ xs) [] zs p q same = absurd (omega arith)
prefix_same (x ∷ xs) (y ∷ ys) [] p q same = absurd (cc (p.1))
prefix_same (x ∷ xs) (y ∷ ys) (z ∷ zs) p q same =
    let heads : x ≡ y = cc (p.1, q.1) in
    let rest = prefix_same xs ys zs (p.0, cc (p.1)) (q.0, cc (q.1)) (omega arith) in
    cc (heads, rest)

-- ---- the exchange that adds a batch keeps the rule

abbrev pub shown : List (List Event) → List (List Event)
shown log = []

abbrev pub moved : List (List Event) → List (List Event) → ℕ → Type 0
moved xs ys n = Unit {0}

adds_goes : (log v : List (List Event)) (e : List Event) (old : ℕ) → length v ≡ old → IsPrefix v log
    → (b : Bool) → (length log == old) ≡ b
    → Goes IsCounted shown moved 0 (v, (no_nib, None)) (λ n. either (n == old) (old + 1) n)
    (Adds (step 0 old (old + 1) e) (v, (no_nib, None))) ((length log, true) ∷ (0, true) ∷ []) log
adds_goes log v e old len pre true is =
    let here : length log ≡ old = grind (arith, nat_tests) in
    let same : v ≡ log = prefix_whole v log pre (omega arith) in
    let n : either (length log == old) (old + 1) (length log) ≡ length (log ++ e ∷ []) = rw is (omega (arith, length-append log (e ∷ []))) in (
      keeps,
      e ∷ [],
      None,
      tt,
      record { words = ap (λ (k : ℕ). (k, true) ∷ (0, true) ∷ []) n },
      inl (refl, refl),
      rw is (ap (λ w. w ++ e ∷ []) (sym same)),
    )
adds_goes log v e old len pre false is =
    let all : log ++ [] ≡ log = append-nil log in
    let n : either (length log == old) (old + 1) (length log) ≡ length (log ++ []) = rw is (ap length (sym all)) in (
      keeps,
      [],
      None,
      tt,
      record { words = ap (λ (k : ℕ). (k, true) ∷ (0, true) ∷ []) n },
      inl (refl, refl),
      rw is (ap length all),
    )

-- whatever the history is, the exchange adds the batch to all that was seen, or finds that there is more
pub adds_moves : (v : List (List Event)) (e : List Event) (old : ℕ) → length v ≡ old
    → Moves IsCounted shown moved 0 (v, (no_nib, None)) (λ n. either (n == old) (old + 1) n) (Adds (step 0 old (old + 1) e) (v, (no_nib, None)))
adds_moves v e old len cs log kept pre away =
    let P : List Cell → Type 0 = λ c. (0 < length c) × ((cell c 0).1 ≡ true)
    × Goes IsCounted shown moved 0 (v, (no_nib, None)) (λ n. either (n == old) (old + 1) n)
    (Adds (step 0 old (old + 1) e) (v, (no_nib, None))) c log in
    subst P (sym kept.words) (omega arith, refl, adds_goes log v e old len pre (length log == old) refl)

-- ---- the events of batches

pub events_of_more : (bs : List (List Event)) (b : List Event) → events_of (bs ++ b ∷ []) ≡ events_of bs ++ b
events_of_more [] b = append-nil b
events_of_more (c ∷ bs) b = ap (λ (l : List Event). c ++ l) (events_of_more bs b) ∙ sym (append_assoc c (events_of bs) b)

module _ {K : Type 0} (has : K → List Event → Type 0) (before : List Event → Type 0) where
  -- what is kept where a batch is kept behind what was kept before
  pub kept_more : (was now : K) (batch : List Event) (bs after : List (List Event)) → HasAll has before was bs
      → ((events : List Event) → has was events → has now (events ++ batch)) → after ≡ bs ++ batch ∷ [] → HasAll has before now after
  kept_more was now batch bs after all more is events earlier =
      let at : (events ++ events_of bs) ++ batch ≡ events ++ events_of after =
      append_assoc events (events_of bs) batch ∙ ap (λ (l : List Event). events ++ l) (sym (ap events_of is ∙ events_of_more bs batch)) in
      subst (has now) at (more (events ++ events_of bs) (all events earlier))

  -- before anything is kept
  pub kept_first : (journal : K) (bs : List (List Event)) → ((events : List Event) → before events → has journal events) → bs ≡ []
      → HasAll has before journal bs
  kept_first journal bs all none events earlier =
      subst (has journal) (sym (append-nil events) ∙ ap (λ (l : List (List Event)). events ++ events_of l) (sym none)) (all events earlier)

-- ---- in the log

pub begins_self : (h : List Event) → Begins h h
begins_self h = record { later = []; is = refl }

pub begins_then : (a b c : List Event) → Begins a b → Begins b c → Begins a c
begins_then a b c p q = record {
  later = q.later ++ p.later;
  is = q.is ∙ (ap (λ (l : List Event). q.later ++ l) p.is ∙ sym (append_assoc q.later p.later a));
}

-- nothing is handed over
pub handed_first : (first h : List Event) (n : ℕ) → h ≡ first → n ≡ length h → IsHanded first [] n h
handed_first first h n same count = record {
  begins = record { later = []; is = same };
  count_is = (let l : length h ≡ length first = ap length same in omega (arith, count, l));
}

-- the log grows
pub handed_on : (first h h' : List Event) (bs : List (List Event)) (n : ℕ) → Begins h h' → IsHanded first bs n h → IsHanded first bs n h'
handed_on first h h' bs n more x =
    record { begins = begins_then (reverse (events_of bs) ++ first) h h' x.begins more; count_is = x.count_is }

unrolled : (first later es h : List Event) → h ≡ later ++ (reverse es ++ first) → reverse h ≡ (reverse first ++ es) ++ reverse later
unrolled first later es h is =
    ap reverse is ∙ (reverse-append later (reverse es ++ first)
    ∙ ap (λ (l : List Event). l ++ reverse later) (reverse-append (reverse es) first ∙ ap (λ (l : List Event). reverse first ++ l) (reverse-reverse es)))

drop_front : (xs ys : List Event) → drop (length xs) (xs ++ ys) ≡ ys
drop_front [] ys = refl
drop_front (x ∷ xs) ys = drop_front xs ys

pub handed_within : (first h : List Event) (bs : List (List Event)) (n : ℕ) → IsHanded first bs n h → n ≤ length (reverse h)
handed_within first h bs n x =
    let es = events_of bs in
    let l : length h ≡ length (x.begins.later ++ (reverse es ++ first)) = ap length x.begins.is in
    omega (arith, x.count_is, l, length-reverse h, length-append x.begins.later (reverse es ++ first), length-append (reverse es) first, length-reverse es)

-- what is behind all that was handed over is handed over too: then that is all
pub handed_all : (first h : List Event) (bs : List (List Event)) (n : ℕ) → IsHanded first bs n h
    → h ≡ reverse (events_of (bs ++ drop n (reverse h) ∷ [])) ++ first
handed_all first h bs n x =
    let es = events_of bs in
    let later = x.begins.later in
    let all : reverse h ≡ (reverse first ++ es) ++ reverse later = unrolled first later es h x.begins.is in
    let count : n ≡ length (reverse first ++ es) = omega (arith, x.count_is, length-append (reverse first) es, length-reverse first) in
    let behind : drop n (reverse h) ≡ reverse later =
    ap (λ (l : List Event). drop n l) all
    ∙ (ap (λ (k : ℕ). drop k ((reverse first ++ es) ++ reverse later)) count ∙ drop_front (reverse first ++ es) (reverse later)) in
    let more : events_of (bs ++ drop n (reverse h) ∷ []) ≡ es ++ reverse later =
    events_of_more bs (drop n (reverse h)) ∙ ap (λ (l : List Event). es ++ l) behind in
    let turned : reverse (es ++ reverse later) ≡ later ++ reverse es =
    reverse-append es (reverse later) ∙ ap (λ (l : List Event). l ++ reverse es) (reverse-reverse later) in
    x.begins.is ∙ (sym (append_assoc later (reverse es) first) ∙ ap (λ (l : List Event). l ++ first) (sym (ap reverse more ∙ turned)))

-- how many events that is
pub handed_count : (first h : List Event) (bs : List (List Event)) → h ≡ reverse (events_of bs) ++ first
    → length (reverse h) ≡ length first + length (events_of bs)
handed_count first h bs is =
    let es = events_of bs in
    let l : length h ≡ length (reverse es ++ first) = ap length is in
    omega (arith, l, length-reverse h, length-append (reverse es) first, length-reverse es)

-- then it stands in the log
pub handed_again : (first h : List Event) (bs : List (List Event)) → h ≡ reverse (events_of bs) ++ first → IsHanded first bs (length (reverse h)) h
handed_again first h bs is = record { begins = record { later = []; is = is }; count_is = handed_count first h bs is }

-- the same of what the pool's state copies from its log
pub handed_over : (first h evs behind : List Event) (bs known after : List (List Event)) (n : ℕ) → IsHanded first bs n h → bs ≡ known
    → evs ≡ reverse h → behind ≡ drop n evs → after ≡ known ++ behind ∷ [] → h ≡ reverse (events_of after) ++ first
handed_over first h evs behind bs known after n x same evs_is behind_is after_is =
    let copied : behind ≡ drop n (reverse h) = behind_is ∙ ap (λ (l : List Event). drop n l) evs_is in
    let is : after ≡ bs ++ drop n (reverse h) ∷ [] =
    after_is ∙ (ap (λ (l : List (List Event)). l ++ behind ∷ []) (sym same) ∙ ap (λ (b : List Event). bs ++ b ∷ []) copied) in
    subst (λ (l : List (List Event)). h ≡ reverse (events_of l) ++ first) (sym is) (handed_all first h bs n x)

-- it stands in the log then, which has so many events
pub handed_stands : (first h evs : List Event) (after : List (List Event)) (m : ℕ) → h ≡ reverse (events_of after) ++ first
    → evs ≡ reverse h → m ≡ length evs → IsHanded first after m h
handed_stands first h evs after m all evs_is m_is =
    record { begins = record { later = []; is = all }; count_is = m_is ∙ (ap length evs_is ∙ handed_count first h after all) }

pub count_first : (first : List Event) (n : ℕ) (bs : List (List Event)) → n ≡ length first → bs ≡ [] → n ≡ length first + length (events_of bs)
count_first first n bs a b = (let none : length (events_of bs) ≡ 0 = ap (λ (l : List (List Event)). length (events_of l)) b in omega (arith, a, none))

-- ---- what an acknowledgement says

pub not_some : {A : Type 0} (o : Option A) → false ≡ is_some o → o ≡ None
not_some None is = refl
not_some (Some x) is = absurd (let bad : false ≡ true = is in cc)

-- the journal has kept what was handed over, which are enough events
pub kept_in : {K : Type 0} (has : K → List Event → Type 0) (kept before : List Event → Type 0) (first : List Event) (journal : K)
    (batches : List (List Event)) (logged events : ℕ) → HasAll has before journal batches
    → ((later : K) (es : List Event) → has later es → kept es) → events ≡ length first + length (events_of batches) → logged ≤ events
    → IsKeptIn kept before first logged batches
kept_in has kept before first journal batches logged events all since count enough = record {
  enough = omega (arith, count, enough);
  has = λ es was. since journal (es ++ events_of batches) (all es was);
}

pub kept_behind : (kept before : List Event → Type 0) (first : List Event) (logged : ℕ) (batches : List (List Event))
    → IsKeptIn kept before first logged batches → IsKept kept before first logged
kept_behind kept before first logged batches it = record { behind = events_of batches; enough = it.enough; has = it.has }
