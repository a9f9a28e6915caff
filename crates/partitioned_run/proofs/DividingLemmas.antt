-- Procedures and calls of partitions.
use Rattle.std.proofs.Common.{arith, inl, inr, ◌≡◌, ◌∙◌, ◌<◌, ◌≤◌, ◌+◌, ◌==◌, ℕ, zero, suc, Bool, true, false, not}
use Rattle.std.proofs.Common.{max, List, [], ◌∷◌, ◌++◌, length, map, take, get_or, refl, sym, ap, ap₂, subst}
use Rattle.std.specs.Prelude.{◌||◌, is_some, cond, nat_lt, Option, Some, None, slice_get, unwrap_or, All, Result, Ok, Err, IfOk, IsOkAnd}
use Rattle.std.specs.List.{list_any, position_from}
use Rattle.std.proofs.lemmas.List.{map_more, map-append, length-take-le, take_more}
use Rattle.std.proofs.lemmas.List.Elements.{All-map, All-take}
use Rattle.std.proofs.lemmas.Option.{get_or_from_slice_get, slice_get-get_or, slice_get_within, unwrap_or-slice_get}
use Rattle.std.proofs.lemmas.Bool.{or_parts}
use Rattle.std.proofs.lemmas.Iterator.Adapters.{position_from-zero}
use Rattle.access_slots.specs.declared.slot.Slot.{Slot}
use Rattle.access_slots.specs.Declaration.{Declaration}
use Rattle.partitions.specs.Partitions.{AllReach, ArePartitions, Reaches, partition_at, partition_of}
use Rattle.partitions.specs.Picking.{own_item, picked}
use Rattle.partitions.proofs.Picks.{picked_none, picked_push}
use Rattle.scripts.specs.declared.script.Call.{Call}
use Rattle.run_calls.specs.Answered.{AreCallsOf, said_call, AreAnswered, AreServed}
use Rattle.tc_core.specs.Admission.{call_of}
use Rattle.tc_core.specs.declared.state.Call.{Call as Made}
use Rattle.tc_core.specs.Loaded.{Loaded, AllReach as CodesReach}
use Rattle.verifier.specs.Checked.{Checked}
use Rattle.data_component.specs.Store.{Store}
use Rattle.scripts.specs.Reading.{Contents, contents_of}
use Rattle.scripts.specs.declared.script.Script.{Script}
use Rattle.script_loading.specs.Loading.{first_unverified, begun, empty_stores}
use Rattle.tc_core.specs.Core.{Core, loaded_in}
use Rattle.run_ground.specs.declared.ground.Ground.{Ground}
use Rattle.run_calls.specs.declared.answering.Answers.{Answers}
use Rattle.run_ground.specs.declared.stop.Stop.{Stop}
use Rattle.partitioned_run.specs.declared.answering.PartitionOutcome.{PartitionOutcome}
use Rattle.partitioned_run.specs.declared.dividing.Division.{Division}
use Rattle.partitioned_run.specs.Partitioned.{decl_of, partition_of_call, partition_of_code}
use Rattle.worker_pool.specs.declared.answer.Answer.{Answer}
use Rattle.run_ground.specs.Kept.{KeepsLog}
use Rattle.partitioned_run.specs.Partitioned.{IsAnsweredBy, IsAnsweredPart}
use Rattle.partitioned_run.specs.Logged.{IsKeptBy, IsRunFrom}
use Rattle.partitioned_run.specs.Joining.Dividing.{AreNumbered, IsAnsweredOn, IsDivided, IsGroundRun, IsKeptIf, IsRunOf}

-- ---- slots of procedures that are loaded

by_first : (b : Bool) (i : ℕ) (rest : Option ℕ) → cond b (Some i) rest ≡ None → (b ≡ false) × (rest ≡ None)
by_first true i rest is = absurd (cc)
by_first false i rest is = (refl, is)

none_passes : {X : Type 0} (test : X → Bool) (i : ℕ) (xs : List X) → position_from test i xs ≡ None → (k : ℕ) (d : X) → k < length xs
    → test (get_or xs k d) ≡ false
none_passes test i [] none k d lt = absurd (omega (arith, lt))
none_passes test i (x ∷ xs) none zero d lt = (by_first (test x) i (position_from test (i + 1) xs) none).0
none_passes test i (x ∷ xs) none (suc k) d lt =
    none_passes test (i + 1) xs (by_first (test x) i (position_from test (i + 1) xs) none).1 k d (omega (arith, lt))

below : (n dcs : ℕ) → not (nat_lt n dcs) ≡ false → n < dcs
below n dcs is = grind (arith, is)

-- each names a data component that is there
pub code_reaches : (dcs : ℕ) (codes : List Checked) (n : ℕ) (q : Checked) → CodesReach dcs codes → slice_get codes n ≡ Some q → Reaches dcs q.decl.slots
code_reaches dcs codes n q reach is = λ k d lt.
    let past = λ (s : Slot). not (nat_lt s.dc dcs) in
    below (get_or q.decl.slots k d).dc dcs
    (none_passes past 0 q.decl.slots (sym (position_from-zero past q.decl.slots) ∙ reach n q is) k d lt)

pub first_reach : (dcs : ℕ) (codes : List Checked) (n : ℕ) → CodesReach dcs codes → AllReach dcs (map decl_of (take n codes))
first_reach dcs codes n reach =
    let each : All (λ (q : Checked). Reaches dcs q.decl.slots) codes = λ k d lt. code_reaches dcs codes k (get_or codes k d) reach (slice_get-get_or codes k d lt) in
    All-map (λ (decl : Declaration). Reaches dcs decl.slots) decl_of (take n codes) (All-take (λ (q : Checked). Reaches dcs q.decl.slots) n codes each)

-- one procedure more is taken in
pub one_more : (codes : List Checked) (n : ℕ) (q : Checked) (decl : Declaration) → slice_get codes n ≡ Some q → decl ≡ q.decl
    → map decl_of (take (n + 1) codes) ≡ map decl_of (take n codes) ++ decl ∷ []
one_more codes n q decl is same =
    map_more decl_of codes n q (slice_get_within codes n q is)
    ∙ ap (λ (x : Declaration). map decl_of (take n codes) ++ x ∷ []) (ap decl_of (get_or_from_slice_get codes n q q is) ∙ sym same)

pub added : (dcs : ℕ) (codes : List Checked) (n : ℕ) (q : Checked) (decl : Declaration) (old new : List ℕ) → CodesReach dcs codes
    → slice_get codes n ≡ Some q → decl ≡ q.decl
    → ((m : ℕ) (decls : List Declaration) → AllReach m decls → Reaches m decl.slots → ArePartitions m decls old → ArePartitions m (decls ++ decl ∷ []) new)
    → ArePartitions dcs (map decl_of (take n codes)) old → ArePartitions dcs (map decl_of (take (n + 1) codes)) new
added dcs codes n q decl old new reach is same adds are =
    subst (λ (l : List Declaration). ArePartitions dcs l new) (sym (one_more codes n q decl is same))
    (adds dcs (map decl_of (take n codes)) (first_reach dcs codes n reach)
    (subst (λ (d : Declaration). Reaches dcs d.slots) (sym same) (code_reaches dcs codes n q reach is)) are)

-- ---- the partition of a call is among those that there are

at_low : (dcs dc : ℕ) (numbers : List ℕ) (found : Option ℕ) → slice_get numbers dc ≡ found → length numbers ≡ dcs
    → ((n : ℕ) → n < dcs → partition_at numbers n ≤ n) → partition_at numbers dc < max dcs 1
at_low dcs dc numbers None is long low =
    let zero_is : partition_at numbers dc ≡ 0 = sym (unwrap_or-slice_get numbers dc 0) ∙ ap (λ (o : Option ℕ). unwrap_or o 0) is in
    omega (arith, zero_is)
at_low dcs dc numbers (Some n) is long low =
    let within : dc < dcs = omega (arith, slice_get_within numbers dc n is, long) in
    omega (arith, low dc within, within)

of_low : (dcs : ℕ) (decls : List Declaration) (numbers : List ℕ) (slots : List Slot) → ArePartitions dcs decls numbers
    → partition_of numbers slots < max dcs 1
of_low dcs decls numbers [] are = omega arith
of_low dcs decls numbers (s ∷ slots) are = at_low dcs s.dc numbers (slice_get numbers s.dc) refl are.each (λ n lt. (are.first n lt).0)

code_low : (dcs : ℕ) (decls : List Declaration) (numbers : List ℕ) (found : Option Checked) → ArePartitions dcs decls numbers
    → partition_of_code numbers found < max dcs 1
code_low dcs decls numbers None are = omega arith
code_low dcs decls numbers (Some q) are = of_low dcs decls numbers q.decl.slots are

pub calls_low : (dcs : ℕ) (decls : List Declaration) (numbers : List ℕ) (codes : List Checked) (calls : List Call) → ArePartitions dcs decls numbers
    → All (λ (n : ℕ). n < max dcs 1) (map (partition_of_call numbers codes) calls)
calls_low dcs decls numbers codes calls are =
    All-map (λ (n : ℕ). n < max dcs 1) (partition_of_call numbers codes) calls
    (λ k d lt. code_low dcs decls numbers (slice_get codes (get_or calls k d).procedure) are)

-- ---- one line of a call more

pub calls_more : (p : ℕ) (numbers : List ℕ) (lines : List Call) (other : Call) (k : ℕ) (own new : List Made) → length numbers ≡ length lines
    → k < length lines → AreCallsOf (picked p (take k numbers) (take k lines)) own → other ≡ get_or lines k other
    → map call_of new ≡ map call_of own ++ map said_call (own_item (get_or numbers k 0 == p) other)
    → AreCallsOf (picked p (take (k + 1) numbers) (take (k + 1) lines)) new
calls_more p numbers lines other k own new long lt are here_is is =
    let here : k < length numbers = omega (arith, long, lt) in
    let few = length-take-le k numbers (omega (arith, here)) in
    let as_few = length-take-le k lines (omega (arith, lt)) in
    let before = picked p (take k numbers) (take k lines) in
    let one = own_item (get_or numbers k 0 == p) other in
    let more : picked p (take (k + 1) numbers) (take (k + 1) lines) ≡ before ++ one =
    ap₂ (λ (ns : List ℕ) (ls : List Call). picked p ns ls) (take_more numbers k 0 here) (take_more lines k other lt)
    ∙ (picked_push p (take k numbers) (take k lines) (get_or numbers k 0) (get_or lines k other) (omega (arith, few, as_few))
    ∙ ap (λ (line : Call). before ++ own_item (get_or numbers k 0 == p) line) (sym here_is)) in
    is ∙ (ap (λ (l : List _). l ++ map said_call one) are ∙ (sym (map-append said_call before one) ∙ ap (map said_call) (sym more)))

-- ---- the calls of one partition are answered

pub own_run : (c : Contents) (d : Division) (number : ℕ) (ground : Ground) (first others : List Made) (answered : Result (Ground × Answers) Stop)
    (ran : PartitionOutcome) → AreCallsOf (picked number d.first.items c.first) first → AreCallsOf (picked number d.calls.items c.calls) others
    → IfOk answered (λ r. AreAnswered ground.state first others r.1.first.items r.1.calls.items r.0.state)
    → IfOk answered (λ r. AreServed ground.dcs.items r.0.dcs.items)
    → IsOkAnd answered (λ r. (ran.ground ≡ Some r.0) × (ran.answers ≡ r.1)) → IsGroundRun c d number ground ran
own_run c d number ground first others (Ok r) ran first_are others_are told served is =
    rw (is.0, is.1) (record {
      first_calls = first;
      first_are = first_are;
      other_calls = others;
      others_are = others_are;
      answered = told;
      served = served;
    })
own_run c d number ground first others (Err stop) ran first_are others_are told served is = absurd is

-- and kept
pub own_kept : (ground : Ground) (answered : Result (Ground × Answers) Stop) (ran : PartitionOutcome)
    → (KeepsLog ground.journal ground.state.events → IfOk answered (λ r. KeepsLog r.0.journal r.0.state.events))
    → IfOk answered (λ r. is_some r.0.journal ≡ is_some ground.journal)
    → IsOkAnd answered (λ r. (ran.ground ≡ Some r.0) × (ran.answers ≡ r.1)) → IsKeptBy ground → IsKeptIf ran.ground
own_kept ground (Ok r) ran kept same is by = rw is.0 (same ∙ by.0, kept by.1)
own_kept ground (Err stop) ran kept same is by = absurd is

-- on a ground that is new
pub answered_anew : (start : Core) (dcs : List Store) (g : Ground) (first calls : List Call) (first_answers other_answers : List Answer)
    (behind : Option Ground) → g.state ≡ start → g.dcs.items ≡ dcs → IsAnsweredOn g first calls first_answers other_answers behind
    → IsAnsweredBy start dcs first calls first_answers other_answers behind
answered_anew start dcs g first calls first_answers other_answers None state_is dcs_is on = absurd on
answered_anew start dcs g first calls first_answers other_answers (Some b) state_is dcs_is on =
    subst (λ (s : Core). IsAnsweredPart s dcs first calls first_answers other_answers b) state_is
    (subst (λ (l : List Store). IsAnsweredPart g.state l first calls first_answers other_answers b) dcs_is on)

-- on what came back
pub answered_behind : (start : Core) (dcs : List Store) (g : Ground) (first calls : List Call) (first_answers other_answers : List Answer)
    (behind : Option Ground) → IsAnsweredOn g first calls first_answers other_answers behind → IsKeptIf behind
    → IsRunFrom start dcs (Some g) first calls first_answers other_answers behind
answered_behind start dcs g first calls first_answers other_answers None on kept = absurd on
answered_behind start dcs g first calls first_answers other_answers (Some b) on kept = record { run = inl on; kept = kept }

pub run_behind : {E : Type 0} (c : Contents) (d : Division) (number : ℕ) (g : Ground) (result : Result PartitionOutcome E)
    → IfOk result (IsGroundRun c d number g) → IfOk result (λ ran. IsKeptIf ran.ground) → IfOk result (IsRunOf c d number (Some g))
run_behind c d number g (Ok ran) run kept =
    answered_behind (begun c) (empty_stores c) g (picked number d.first.items c.first) (picked number d.calls.items c.calls)
    ran.answers.first.items ran.answers.calls.items ran.ground run kept
run_behind c d number g (Err e) run kept = tt

-- ---- a partition without calls

pub none_run : (c : Contents) (d : Division) (p : ℕ) (answers : Answers)
    → (list_any (λ (n : ℕ). n == p) d.first.items || list_any (λ (n : ℕ). n == p) d.calls.items) ≡ false
    → (answers.first.items ≡ []) × (answers.calls.items ≡ [])
    → (picked p d.first.items c.first ≡ []) × (picked p d.calls.items c.calls ≡ []) × (answers.first.items ≡ []) × (answers.calls.items ≡ [])
none_run c d p answers off none =
    let both = or_parts (list_any (λ (n : ℕ). n == p) d.first.items) (list_any (λ (n : ℕ). n == p) d.calls.items) off in
    (picked_none p d.first.items c.first both.0, picked_none p d.calls.items c.calls both.1, none.0, none.1)

pub idle_run : (start : Core) (dcs : List Store) (g : Ground) (first calls : List Call) (first_answers other_answers : List Answer)
    → (first ≡ []) × (calls ≡ []) × (first_answers ≡ []) × (other_answers ≡ []) → IsKeptBy g
    → IsRunFrom start dcs (Some g) first calls first_answers other_answers (Some g)
idle_run start dcs g first calls first_answers other_answers none kept = record { run = inr (none.0, none.1, none.2, none.3, refl); kept = kept }

-- ---- a script whose calls are divided by the state that its procedures are loaded in

pub divided_by : (object : Option (List ℕ)) (s : Script) (state : Core) (procs : Loaded) (first calls : List Call) (d : Division)
    → first_unverified object s.procedures.items ≡ None → state ≡ begun (contents_of s) → procs ≡ loaded_in state → first ≡ s.first.items
    → calls ≡ s.calls.items → AreNumbered procs.dcs procs.codes first calls d → IsDivided object s d
divided_by object s state procs first calls d accepted is loaded first_is calls_is are = record {
  accepted = accepted;
  numbered = subst (λ (l : Loaded). AreNumbered l.dcs l.codes s.first.items s.calls.items d) (loaded ∙ ap loaded_in is)
      (subst (λ (l : List Call). AreNumbered procs.dcs procs.codes s.first.items l d) calls_is
      (subst (λ (l : List Call). AreNumbered procs.dcs procs.codes l calls d) first_is are));
}
