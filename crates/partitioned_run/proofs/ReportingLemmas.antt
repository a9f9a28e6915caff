-- The answers and the data components of all partitions together.
use Rattle.std.proofs.Common.{add-zero, arith, inl, inr, ◌≡◌, ◌∙◌, ◌<◌, ◌+◌, ℕ, Bool, true, false, max, List, [], ◌∷◌, ◌++◌, length, map, take, get_or, refl, sym, ap, subst}
use Rattle.std.specs.Prelude.{◌&&◌, if◌then◌else◌, suc, Option, Some, None, option_map, slice_get, Result, Ok, Err, IfOk, All, codes, string_bytes}
use Rattle.std.specs.List.{list_any}
use Rattle.std.specs.Global.{Vec}
use Rattle.std.proofs.lemmas.List.{length-map, length-take-le, map-append, take_more}
use Rattle.std.proofs.lemmas.Option.{get_or_from_slice_get, slice_get-map, slice_get_within}
use Rattle.data_component.specs.Store.{Store}
use Rattle.data_component.specs.Sorted.{Rows}
use Rattle.data_component.specs.Keeping.{AreRowsOf}
use Rattle.partitions.specs.Partitions.{ArePartitions}
use Rattle.partitions.specs.Picking.{picked, FitsParts, IsMerged}
use Rattle.partitions.proofs.Picks.{picked_long}
use Rattle.scripts.specs.Reading.{Contents, contents_of}
use Rattle.scripts.specs.declared.script.Dc.{Dc}
use Rattle.scripts.specs.declared.script.Procedure.{Procedure}
use Rattle.scripts.specs.declared.script.Step.{Step}
use Rattle.scripts.specs.declared.script.Call as said
use Rattle.script_loading.specs.Loading.{Beginning, empty_store, first_unverified, IsAccepted, IsAcceptanceOf, begun, empty_stores}
use Rattle.script_loading.specs.declared.loading.Acceptance.{Acceptance}
use Rattle.script_loading.specs.declared.loading.Acceptance.TheVariants as accepted
use Rattle.scripts.specs.declared.script.Script.{Script}
use Rattle.script_loading.specs.declared.loading.Accepted.{Accepted as AcceptedScript}
use Rattle.report_texts.specs.declared.output.Output.{Output}
use Rattle.state_lines.specs.RowLines.{row_lines, AddsRowLines}
use Rattle.state_lines.proofs.RowLemmas.{one_added}
use Rattle.tc_core.specs.Admission.{call_of}
use Rattle.tc_core.specs.Core.{Core}
use Rattle.tc_core.specs.declared.state.Call.{Call}
use Rattle.worker_pool.specs.declared.answer.Answer.{Answer}
use Rattle.run_calls.specs.Figures.{full_line, full_lines}
use Rattle.run_calls.proofs.FullLemmas.{lines_push}
use Rattle.run_ground.specs.declared.ground.Ground.{Ground}
use Rattle.run_calls.specs.Answered.{AreCallsOf, said_call, is_want_of_memory, run_status}
use Rattle.run_calls.specs.AnswerLines.{answer_lines, fault_line}
use Rattle.run_calls.specs.Stops.{Stops}
use Rattle.run_ground.specs.declared.stop.Stop.{Stop}
use Rattle.worker_pool.specs.Faults.{InRange}
use Rattle.partitioned_run.specs.declared.answering.PartitionOutcome.{PartitionOutcome}
use Rattle.partitioned_run.specs.declared.dividing.Division.{Division}
use Rattle.partitioned_run.specs.declared.reporting.Outcomes.{Outcomes}
use Rattle.partitioned_run.specs.Partitioned.{decl_of, partition_of_call, IsAnsweredBy, AddsAuditOf, AddsAudits, AddsAuditsFrom, kept_dc, kept_dcs, kept_from}
use Rattle.partitioned_run.specs.Partitioned.{AreRunApart, Ran as Begun, Stopped}
use Rattle.partitioned_run.specs.Logged.{front_lines, AreRunFrom, Behind, IsContentsRun, IsPartitionedBy, IsPartitionedRun, IsRunFrom, Refused}
use Rattle.partitioned_run.specs.declared.grounds.Start.{Start}
use Rattle.partitioned_run.specs.Joining.Dividing.{AreDivided, AreRun, IsRunOf, IsStartRun}
use Rattle.partitioned_run.specs.Joining.Recovering.{IsRefusedAt}
use Rattle.partitioned_run.specs.Joining.Reporting.{AreAllOf, AreAllRun, HaveRun, IsRunSo, MayBeRun}
use Rattle.partitioned_run.proofs.DividingLemmas.{calls_low}
use Rattle.partitioned_run.proofs.RecoveringLemmas.{found_at, no_fronts, no_start}

-- ---- as many answers as calls

as_many : (lines : List said.Call) (calls : List Call) → AreCallsOf lines calls → length calls ≡ length lines
as_many lines calls are = sym (length-map calls call_of) ∙ (ap length are ∙ length-map lines said_call)

answered_long : (start : Core) (dcs : List Store) (first calls : List said.Call) (first_answers other_answers : List Answer) (behind : Option Ground)
    → IsAnsweredBy start dcs first calls first_answers other_answers behind
    → (length first_answers ≡ length first) × (length other_answers ≡ length calls)
answered_long start dcs first calls first_answers other_answers None h = (ap length h.2 ∙ sym (ap length h.0), ap length h.3 ∙ sym (ap length h.1))
answered_long start dcs first calls first_answers other_answers (Some g) h = (
  h.answered.first_run.tells.one_each ∙ as_many first h.first_calls h.first_are,
  h.answered.calls_run.tells.one_each ∙ as_many calls h.other_calls h.others_are,
)

from_long : (start : Core) (dcs : List Store) (ground : Option Ground) (first calls : List said.Call) (first_answers other_answers : List Answer)
    (behind : Option Ground) → IsRunFrom start dcs ground first calls first_answers other_answers behind
    → (length first_answers ≡ length first) × (length other_answers ≡ length calls)
from_long start dcs None first calls first_answers other_answers behind h = answered_long start dcs first calls first_answers other_answers behind h
from_long start dcs (Some g) first calls first_answers other_answers None h = absurd h
from_long start dcs (Some g) first calls first_answers other_answers (Some b) h =
    elim h.run [
      | inl part ↦ answered_long g.state g.dcs.items first calls first_answers other_answers (Some b) part
      | inr idle ↦ answered_long g.state g.dcs.items first calls first_answers other_answers None (idle.0, idle.1, idle.2, idle.3)
    ]

-- ---- the calls of all partitions

pub one_run_more : (before : List (Result PartitionOutcome Stop)) (ran : PartitionOutcome) (old new : Outcomes) → new.grounds.items ≡ old.grounds.items ++ ran.ground ∷ []
    → new.first.items ≡ old.first.items ++ ran.answers.first ∷ [] → new.calls.items ≡ old.calls.items ++ ran.answers.calls ∷ []
    → AreAllOf before old → AreAllOf (before ++ Ok ran ∷ []) new
one_run_more before ran old new grounds firsts others all = record {
  runs = all.runs ++ ran ∷ [];
  oks = ap (λ (l : List (Result PartitionOutcome Stop)). l ++ Ok ran ∷ []) all.oks ∙ sym (map-append Ok all.runs (ran ∷ []));
  together = (
    grounds ∙ (ap (λ (l : List (Option Ground)). l ++ ran.ground ∷ []) all.together.0 ∙ sym (map-append (λ (r : PartitionOutcome). r.ground) all.runs (ran ∷ []))),
    firsts ∙ (ap (λ (l : List (Vec Answer)). l ++ ran.answers.first ∷ []) all.together.1
        ∙ sym (map-append (λ (r : PartitionOutcome). r.answers.first) all.runs (ran ∷ []))),
    others ∙ (ap (λ (l : List (Vec Answer)). l ++ ran.answers.calls ∷ []) all.together.2
        ∙ sym (map-append (λ (r : PartitionOutcome). r.answers.calls) all.runs (ran ∷ []))),
  );
}

run_at : (c : Contents) (d : Division) (starts : List Start) (ran : List (Result PartitionOutcome Stop)) (runs : List PartitionOutcome) (p : ℕ)
    (s : Start) (found : Option PartitionOutcome) (behind : Option Ground) (first_answers other_answers : Vec Answer) → slice_get runs p ≡ found
    → slice_get starts p ≡ Some s → s.number ≡ p → AreRun c d starts ran → ran ≡ map Ok runs
    → Some behind ≡ option_map (λ (r : PartitionOutcome). r.ground) found
    → Some first_answers ≡ option_map (λ (r : PartitionOutcome). r.answers.first) found
    → Some other_answers ≡ option_map (λ (r : PartitionOutcome). r.answers.calls) found
    → IsRunFrom (begun c) (empty_stores c) s.ground (picked p d.first.items c.first) (picked p d.calls.items c.calls)
    first_answers.items other_answers.items behind
run_at c d starts ran runs p s None behind first_answers other_answers is s_is named are all ground first calls = absurd (cc)
run_at c d starts ran runs p s (Some r) behind first_answers other_answers is s_is named are all ground first calls =
    let found : slice_get ran p ≡ Some (Ok r) =
    ap (λ (l : List (Result PartitionOutcome Stop)). slice_get l p) all ∙ (slice_get-map Ok runs p ∙ ap (option_map Ok) is) in
    let one : IsStartRun c d s r =
    subst (λ (x : Result PartitionOutcome Stop). IfOk x (IsStartRun c d s)) (get_or_from_slice_get ran p (Ok r) (Ok r) found) (are.1 p s (Ok r) s_is) in
    let at : IsRunOf c d p s.ground r = subst (λ (n : ℕ). IsRunOf c d n s.ground r) named one in
    let grounds : behind ≡ r.ground = cc in
    let firsts : first_answers ≡ r.answers.first = cc in
    let others : other_answers ≡ r.answers.calls = cc in
    rw (grounds, firsts, others) at

pub all_run : (c : Contents) (d : Division) (starts : List Start) (ran : List (Result PartitionOutcome Stop)) (all : Outcomes)
    → length starts ≡ max (length (empty_stores c)) 1 → ((p : ℕ) (s : Start) → slice_get starts p ≡ Some s → s.number ≡ p)
    → AreRun c d starts ran → AreAllOf ran all → AreAllRun c d starts all
all_run c d starts ran all is named are of =
    let runs = of.runs in
    let oks = of.oks in
    let together = of.together in
    let long : length runs ≡ length starts = sym (length-map runs (λ (r : PartitionOutcome). Ok r)) ∙ (ap length (sym oks) ∙ are.0) in
    let grounds : length all.grounds.items ≡ length runs = ap length together.0 ∙ length-map runs (λ (r : PartitionOutcome). r.ground) in
    let firsts : length all.first.items ≡ length runs = ap length together.1 ∙ length-map runs (λ (r : PartitionOutcome). r.answers.first) in
    let others : length all.calls.items ≡ length runs = ap length together.2 ∙ length-map runs (λ (r : PartitionOutcome). r.answers.calls) in
    record {
      count = is;
      grounds = grounds ∙ long;
      first = firsts ∙ sym grounds;
      calls = others ∙ sym grounds;
      each = λ p behind first_answers other_answers is_ground is_first is_calls s s_is.
          run_at c d starts ran runs p s (slice_get runs p) behind first_answers other_answers refl s_is (named p s s_is) are oks
          (sym is_ground ∙ (ap (λ (l : List (Option Ground)). slice_get l p) together.0 ∙ slice_get-map (λ (r : PartitionOutcome). r.ground) runs p))
          (sym is_first ∙ (ap (λ (l : List (Vec Answer)). slice_get l p) together.1 ∙ slice_get-map (λ (r : PartitionOutcome). r.answers.first) runs p))
          (sym is_calls ∙ (ap (λ (l : List (Vec Answer)). slice_get l p) together.2 ∙ slice_get-map (λ (r : PartitionOutcome). r.answers.calls) runs p));
    }

-- ---- their answers go back to the calls' places

-- the partitions are those of the data components that were empty
partitions_are : (c : Contents) (d : Division) → AreDivided c d → ArePartitions (length (empty_stores c)) (map decl_of (begun c).procs) d.partitions
partitions_are c d numbered =
    subst (λ (n : ℕ). ArePartitions n (map decl_of (begun c).procs) d.partitions) (sym (length-map c.dcs empty_store)) numbered.partitions

module _ (c : Contents) (d : Division) (starts : List Start) (all : Outcomes) (numbered : AreDivided c d) (run : AreAllRun c d starts all) where
  dcs_long : length (empty_stores c) ≡ length c.dcs
  dcs_long = length-map c.dcs empty_store

  pub first_long : length d.first.items ≡ length c.first
  first_long = ap length numbered.first_are ∙ length-map c.first (partition_of_call d.partitions (begun c).procs)

  pub calls_long : length d.calls.items ≡ length c.calls
  calls_long = ap length numbered.calls_are ∙ length-map c.calls (partition_of_call d.partitions (begun c).procs)

  pub first_fits : FitsParts d.first.items all.first.items
  first_fits = record {
    within = subst (All (λ (n : ℕ). n < length all.first.items)) (sym numbered.first_are)
        (subst (λ (most : ℕ). All (λ (n : ℕ). n < most) (map (partition_of_call d.partitions (begun c).procs) c.first))
        (ap (λ (n : ℕ). max n 1) (sym dcs_long) ∙ sym (run.first ∙ (run.grounds ∙ run.count)))
        (calls_low (length c.dcs) (map decl_of (begun c).procs) d.partitions (begun c).procs c.first
        numbered.partitions));
    as_many = λ p part is.
        let lt : p < length all.grounds.items = omega (arith, slice_get_within all.first.items p part is, run.first) in
        let ground = found_at all.grounds.items p lt in
        let other = found_at all.calls.items p (omega (arith, run.calls, lt)) in
        let s = found_at starts p (omega (arith, run.grounds, lt)) in
        let each = run.each p ground.0 part other.0 ground.1 is other.1 s.0 s.1 in
        (from_long _ _ s.0.ground _ _ _ _ ground.0 each).0 ∙ picked_long p d.first.items c.first (sym first_long);
  }

  pub calls_fit : FitsParts d.calls.items all.calls.items
  calls_fit = record {
    within = subst (All (λ (n : ℕ). n < length all.calls.items)) (sym numbered.calls_are)
        (subst (λ (most : ℕ). All (λ (n : ℕ). n < most) (map (partition_of_call d.partitions (begun c).procs) c.calls))
        (ap (λ (n : ℕ). max n 1) (sym dcs_long) ∙ sym (run.calls ∙ (run.grounds ∙ run.count)))
        (calls_low (length c.dcs) (map decl_of (begun c).procs) d.partitions (begun c).procs c.calls
        numbered.partitions));
    as_many = λ p part is.
        let lt : p < length all.grounds.items = omega (arith, slice_get_within all.calls.items p part is, run.calls) in
        let ground = found_at all.grounds.items p lt in
        let other = found_at all.first.items p (omega (arith, run.first, lt)) in
        let s = found_at starts p (omega (arith, run.grounds, lt)) in
        let each = run.each p ground.0 other.0 part ground.1 other.1 is s.0 s.1 in
        (from_long _ _ s.0.ground _ _ _ _ ground.0 each).1 ∙ picked_long p d.calls.items c.calls (sym calls_long);
  }

  pub answered_apart : (first_answers other_answers : List Answer) → IsMerged d.first.items all.first.items first_answers
      → IsMerged d.calls.items all.calls.items other_answers → (p : ℕ) (behind : Option Ground) → slice_get all.grounds.items p ≡ Some behind
      → AreRunFrom (begun c) (empty_stores c) starts p
      (picked p (map (partition_of_call d.partitions (begun c).procs) c.first) c.first)
      (picked p (map (partition_of_call d.partitions (begun c).procs) c.calls) c.calls)
      (picked p (map (partition_of_call d.partitions (begun c).procs) c.first) first_answers)
      (picked p (map (partition_of_call d.partitions (begun c).procs) c.calls) other_answers) behind
  answered_apart first_answers other_answers firsts others p behind is =
      let lt : p < length all.grounds.items = slice_get_within all.grounds.items p behind is in
      let first = found_at all.first.items p (omega (arith, run.first, lt)) in
      let other = found_at all.calls.items p (omega (arith, run.calls, lt)) in
      let each = run.each p behind first.0 other.0 is first.1 other.1 in
      rw (
        ← numbered.first_are,
        ← numbered.calls_are,
        firsts.own p first.0 first.1,
        others.own p other.0 other.1,
      ) each

  -- what is printed of them
  pub run_apart : (IsAnswered : ℕ → (first calls : List said.Call) → (first_answers other_answers : List Answer) → Option Ground → Type 0)
      (front : List ℕ) (first_answers other_answers : List Answer) (audit strict : Bool) (answered kept lines : List ℕ) (sound : Bool) (status : ℕ)
      (empty : List Store)
      → ((p : ℕ) (behind : Option Ground) → slice_get all.grounds.items p ≡ Some behind
      → AreRunFrom (begun c) (empty_stores c) starts p
      (picked p (map (partition_of_call d.partitions (begun c).procs) c.first) c.first)
      (picked p (map (partition_of_call d.partitions (begun c).procs) c.calls) c.calls)
      (picked p (map (partition_of_call d.partitions (begun c).procs) c.first) first_answers)
      (picked p (map (partition_of_call d.partitions (begun c).procs) c.calls) other_answers) behind
      → IsAnswered p (picked p (map (partition_of_call d.partitions (begun c).procs) c.first) c.first)
      (picked p (map (partition_of_call d.partitions (begun c).procs) c.calls) c.calls)
      (picked p (map (partition_of_call d.partitions (begun c).procs) c.first) first_answers)
      (picked p (map (partition_of_call d.partitions (begun c).procs) c.calls) other_answers) behind)
      → IsMerged d.first.items all.first.items first_answers → IsMerged d.calls.items all.calls.items other_answers
      → (list_any is_want_of_memory first_answers ≡ false) × (list_any is_want_of_memory other_answers ≡ false)
      → answered ≡ front ++ (answer_lines (codes "first") first_answers ++ answer_lines (codes "call") other_answers) → empty ≡ empty_stores c
      → AddsRowLines (kept_dcs d.partitions all.grounds.items empty) answered kept → AddsAudits audit all.grounds.items kept lines sound
      → status ≡ run_status strict other_answers sound
      → AreRunApart IsAnswered front (begun c).procs (empty_stores c) c.first c.calls audit strict status lines
  run_apart IsAnswered front first_answers other_answers audit strict answered kept lines sound status empty so firsts others ample told empty_is rows found status_is = record {
    numbers = d.partitions;
    partitions = partitions_are c d numbered;
    first_answers = first_answers;
    first_each = firsts.each ∙ first_long;
    other_answers = other_answers;
    others_each = others.each ∙ calls_long;
    grounds = all.grounds.items;
    each = run.grounds ∙ run.count;
    apart = λ p behind is. so p behind is (answered_apart first_answers other_answers firsts others p behind is);
    ample = ample;
    kept = kept;
    rows = subst (λ (dcs : List Store). AddsRowLines (kept_dcs d.partitions all.grounds.items dcs)
        (front ++ (answer_lines (codes "first") first_answers ++ answer_lines (codes "call") other_answers)) kept) empty_is
        (subst (λ (l : List ℕ). AddsRowLines (kept_dcs d.partitions all.grounds.items empty) l kept) told rows);
    sound = sound;
    found = found;
    status_is = status_is;
  }

-- a partition without a file
plain_from : (start : Core) (dcs : List Store) (ground : Option Ground) (first calls : List said.Call) (first_answers other_answers : List Answer)
    (behind : Option Ground) → ground ≡ None → IsRunFrom start dcs ground first calls first_answers other_answers behind
    → IsAnsweredBy start dcs first calls first_answers other_answers behind
plain_from start dcs ground first calls first_answers other_answers behind none from =
    subst (λ (g : Option Ground). IsRunFrom start dcs g first calls first_answers other_answers behind) none from

-- with files or without any
pub run_so : (keeps : Bool) (c : Contents) (d : Division) (front : List ℕ) (all : Outcomes) (first_answers other_answers : List Answer) (audit strict : Bool)
    (answered kept lines : List ℕ) (sound : Bool) (status : ℕ) (empty : List Store) → AreDivided c d → HaveRun keeps c d front all
    → IsMerged d.first.items all.first.items first_answers → IsMerged d.calls.items all.calls.items other_answers
    → (list_any is_want_of_memory first_answers ≡ false) × (list_any is_want_of_memory other_answers ≡ false)
    → answered ≡ front ++ (answer_lines (codes "first") first_answers ++ answer_lines (codes "call") other_answers) → empty ≡ empty_stores c
    → AddsRowLines (kept_dcs d.partitions all.grounds.items empty) answered kept → AddsAudits audit all.grounds.items kept lines sound
    → status ≡ run_status strict other_answers sound → IsRunSo keeps c audit strict status lines
unfolding run_apart
run_so true c d front all first_answers other_answers audit strict answered kept lines sound status empty numbered h firsts others ample told empty_is rows found status_is =
    let said = answer_lines (codes "first") first_answers ++ answer_lines (codes "call") other_answers in
    record {
      starts = h.starts;
      run = run_apart c d h.starts all numbered h.run (AreRunFrom (begun c) (empty_stores c) h.starts) (front_lines h.starts) first_answers other_answers
          audit strict answered kept lines sound status empty (λ p behind is from. from) firsts others ample
          (told ∙ ap (λ (f : List ℕ). f ++ said) h.told) empty_is rows found status_is;
      each = sym h.run.grounds;
      back = h.are;
    }
run_so false c d front all first_answers other_answers audit strict answered kept lines sound status empty numbered h firsts others ample told empty_is rows found status_is =
    let said = answer_lines (codes "first") first_answers ++ answer_lines (codes "call") other_answers in
    run_apart c d h.starts all numbered h.run (λ _. IsAnsweredBy (begun c) (empty_stores c)) [] first_answers other_answers
    audit strict answered kept lines sound status empty
    (λ p behind is from.
    let s = found_at h.starts p (omega (arith, slice_get_within all.grounds.items p behind is, h.run.grounds)) in
    plain_from _ _ s.0.ground _ _ _ _ behind (no_start (begun c) (empty_stores c) d.partitions p s.0.ground s.0.lines (h.are p s.0 s.1).1).0 (from s.0 s.1))
    firsts others ample
    (told ∙ ap (λ (f : List ℕ). f ++ said) (h.told ∙ no_fronts (begun c) (empty_stores c) d.partitions h.starts h.are)) empty_is rows found status_is

-- ---- the report of calls none of which is begun

pub stopped_so : (keeps : Bool) (c : Contents) (workers tries : ℕ) (audit strict : Bool) (stop : Stop) (status : ℕ) (lines : List ℕ) → Stops false workers tries stop
    → fault_line stop ≡ Some lines → status ≡ 1 → IsContentsRun keeps c workers tries audit strict status lines
stopped_so false c workers tries audit strict stop status lines stops line is = Stopped stop stops is line
stopped_so true c workers tries audit strict stop status lines stops line is = Behind (Stopped stop stops is line)

ran_so : (keeps : Bool) (c : Contents) (workers tries : ℕ) (audit strict : Bool) (status : ℕ) (lines : List ℕ) → InRange workers tries
    → IsRunSo keeps c audit strict status lines → IsContentsRun keeps c workers tries audit strict status lines
ran_so false c workers tries audit strict status lines range run = Begun range run
ran_so true c workers tries audit strict status lines range run = Behind (Begun range run)

pub ran_apart : {E : Type 0} (keeps : Bool) (c : Contents) (workers tries : ℕ) (audit strict : Bool) (report : Result Output E) → InRange workers tries
    → IfOk report (λ r. IsRunSo keeps c audit strict r.status (string_bytes r.lines))
    → IfOk report (λ r. IsContentsRun keeps c workers tries audit strict r.status (string_bytes r.lines))
ran_apart keeps c workers tries audit strict (Ok r) range run = ran_so keeps c workers tries audit strict r.status (string_bytes r.lines) range run
ran_apart keeps c workers tries audit strict (Err e) range run = tt

-- the file of a partition is refused
pub refused_apart : (keeps : Bool) (c : Contents) (d : Division) (workers tries : ℕ) (audit strict : Bool) (report : Output) → AreDivided c d
    → (keeps ≡ true) × ((p : ℕ) × IsRefusedAt (begun c) (empty_stores c) d.partitions p report)
    → IsContentsRun keeps c workers tries audit strict report.status (string_bytes report.lines)
refused_apart true c d workers tries audit strict report numbered h =
    let at = h.1.1 in
    Refused d.partitions (partitions_are c d numbered) h.1.0 at.1.0 at.1.1 at.0 at.1.2
refused_apart false c d workers tries audit strict report numbered h = absurd (cc)

-- ---- what was read is what the script says

made : List Dc → List Procedure → List Step → (first calls : List said.Call) → Contents
made dcs procedures steps first calls = record { dcs = dcs; procedures = procedures; steps = steps; first = first; calls = calls }

contents_are : (object : Option (List ℕ)) (c : Contents) (a : AcceptedScript) → IsAccepted object c a → contents_of a.script ≡ c
unfolding made
contents_are object c a is =
    let s = a.script in
    ap (λ (l : List Dc). made l s.procedures.items s.steps.items s.first.items s.calls.items) is.dcs
    ∙ (ap (λ (l : List Procedure). made c.dcs l s.steps.items s.first.items s.calls.items) is.procedures
    ∙ (ap (λ (l : List Step). made c.dcs c.procedures l s.first.items s.calls.items) is.steps
    ∙ (ap (λ (l : List said.Call). made c.dcs c.procedures c.steps l s.calls.items) is.first
    ∙ ap (λ (l : List said.Call). made c.dcs c.procedures c.steps c.first l) is.calls)))

pub may_be_run : (object : Option (List ℕ)) (b : Beginning) (a : Acceptance) → IsAcceptanceOf object b a → MayBeRun object b a
may_be_run object b (accepted.Accepted a) is = (
  ap (first_unverified object) is.1.procedures ∙ is.1.verified,
  is.1.state ∙ ap begun (sym (contents_are object b.contents a is.1)),
  is.0,
  contents_are object b.contents a is.1,
)
may_be_run object b (accepted.Refused report) is = is

pub accepted_run : (keeps : Bool) (b : Beginning) (s : Script) (workers tries : ℕ) (audit strict : Bool) (status : ℕ) (lines : List ℕ) → b.refusal ≡ None
    → contents_of s ≡ b.contents → IsContentsRun keeps (contents_of s) workers tries audit strict status lines
    → IsPartitionedRun keeps workers tries audit strict b status lines
accepted_run keeps b s workers tries audit strict status lines none is run =
    subst (λ (refusal : Option (List ℕ)). IsPartitionedBy keeps refusal b.contents workers tries audit strict status lines) (sym none)
    (subst (λ (c : Contents). IsContentsRun keeps c workers tries audit strict status lines) is run)

-- ---- one data component more, and one audit more

pub kept_push : (numbers : List ℕ) (grounds : List (Option Ground)) (dc : ℕ) (dcs : List Store) (empty : Store)
    → kept_from numbers grounds dc (dcs ++ empty ∷ []) ≡ kept_from numbers grounds dc dcs ++ kept_dc numbers grounds (dc + length dcs) empty ∷ []
kept_push numbers grounds dc [] empty = ap (λ (n : ℕ). kept_dc numbers grounds n empty ∷ []) (omega arith)
kept_push numbers grounds dc (other ∷ dcs) empty =
    let place : dc + 1 + length dcs ≡ dc + length (other ∷ dcs) = omega arith in
    ap (λ (l : List Store). kept_dc numbers grounds dc other ∷ l)
    (kept_push numbers grounds (dc + 1) dcs empty ∙ ap (λ (n : ℕ). kept_from numbers grounds (dc + 1) dcs ++ kept_dc numbers grounds n empty ∷ []) place)

pub kept_more : (numbers : List ℕ) (grounds : List (Option Ground)) (dcs : List Store) (i : ℕ) (d kept : Store) (rows : Rows) (old lines new : List ℕ)
    → i < length dcs → AddsRowLines (kept_dcs numbers grounds (take i dcs)) old lines → d ≡ get_or dcs i d → kept ≡ kept_dc numbers grounds i d
    → AreRowsOf rows kept.base kept.list → new ≡ lines ++ row_lines rows → AddsRowLines (kept_dcs numbers grounds (take (i + 1) dcs)) old new
kept_more numbers grounds dcs i d kept rows old lines new lt done here is are more =
    let place : 0 + length (take i dcs) ≡ i = omega (arith, length-take-le i dcs (omega (arith, lt))) in
    let added = one_added (kept_dcs numbers grounds (take i dcs)) kept rows old lines new done are more in
    let next : kept_from numbers grounds 0 (take (i + 1) dcs) ≡ kept_from numbers grounds 0 (take i dcs) ++ kept ∷ [] =
    ap (kept_from numbers grounds 0) (take_more dcs i d lt)
    ∙ (kept_push numbers grounds 0 (take i dcs) (get_or dcs i d)
    ∙ ap (λ (k : Store). kept_from numbers grounds 0 (take i dcs) ++ k ∷ []) (ap (λ (n : ℕ). kept_dc numbers grounds n (get_or dcs i d)) place
    ∙ (ap (λ (empty : Store). kept_dc numbers grounds i empty) (sym here) ∙ sym is))) in
    subst (λ (ds : List Store). AddsRowLines ds old new) (sym next) added

kept_length : (numbers : List ℕ) (grounds : List (Option Ground)) (dc : ℕ) (dcs : List Store) → length (kept_from numbers grounds dc dcs) ≡ length dcs
kept_length numbers grounds dc [] = refl
kept_length numbers grounds dc (empty ∷ dcs) = ap suc (kept_length numbers grounds (dc + 1) dcs)

-- behind the lines of those that are full comes that of the next
pub full_more : (numbers : List ℕ) (grounds : List (Option Ground)) (dcs : List Store) (i : ℕ) (d kept : Store) (text new : List ℕ) → i < length dcs
    → text ≡ full_lines (kept_dcs numbers grounds (take i dcs)) → d ≡ get_or dcs i d → kept ≡ kept_dc numbers grounds i d
    → new ≡ text ++ full_line i kept → new ≡ full_lines (kept_dcs numbers grounds (take (i + 1) dcs))
full_more numbers grounds dcs i d kept text new lt so_far here is more =
    let before = kept_from numbers grounds 0 (take i dcs) in
    let place : 0 + length (take i dcs) ≡ i = omega (arith, length-take-le i dcs (omega (arith, lt))) in
    let count : 0 + length before ≡ i = ap (λ (n : ℕ). 0 + n) (kept_length numbers grounds 0 (take i dcs)) ∙ place in
    let next : kept_from numbers grounds 0 (take (i + 1) dcs) ≡ before ++ kept ∷ [] =
    ap (kept_from numbers grounds 0) (take_more dcs i d lt)
    ∙ (kept_push numbers grounds 0 (take i dcs) (get_or dcs i d)
    ∙ ap (λ (k : Store). before ++ k ∷ []) (ap (λ (n : ℕ). kept_dc numbers grounds n (get_or dcs i d)) place
    ∙ (ap (λ (empty : Store). kept_dc numbers grounds i empty) (sym here) ∙ sym is))) in
    more ∙ (ap (λ (l : List ℕ). l ++ full_line i kept) so_far
    ∙ sym (ap full_lines next ∙ (lines_push 0 before kept ∙ ap (λ (n : ℕ). full_lines before ++ full_line n kept) count)))

and_assoc : (a b c : Bool) → (a && (b && c)) ≡ ((a && b) && c)
and_assoc true b c = refl
and_assoc false b c = refl

and_true : (a : Bool) → (a && true) ≡ a
and_true true = refl
and_true false = refl

audits_push : (audit : Bool) (p : ℕ) (grounds : List (Option Ground)) (ground : Option Ground) (old middle new : List ℕ) (sound one : Bool)
    → AddsAuditsFrom audit p grounds old middle sound → AddsAuditOf audit (p + length grounds) ground middle new one
    → AddsAuditsFrom audit p (grounds ++ ground ∷ []) old new (sound && one)
audits_push audit p [] ground old middle new sound one none adds = (
  new,
  one,
  true,
  subst (λ (l : List ℕ). AddsAuditOf audit p ground l new one) none.0 (subst (λ (n : ℕ). AddsAuditOf audit n ground middle new one) (add-zero p) adds),
  (refl, refl),
  rw none.1 (sym (and_true one)),
)
audits_push audit p (g ∷ grounds) ground old middle new sound one h adds =
    let place : p + length (g ∷ grounds) ≡ p + 1 + length grounds = omega arith in (
      h.0,
      h.1,
      h.2 && one,
      h.3,
      audits_push audit (p + 1) grounds ground h.0 middle new h.2 one h.4
          (subst (λ (n : ℕ). AddsAuditOf audit n ground middle new one) place adds),
      ap (λ (s : Bool). s && one) h.5 ∙ sym (and_assoc h.1 h.2 one),
    )

pub audits_more : (audit : Bool) (grounds : List (Option Ground)) (i : ℕ) (d : Option Ground) (old middle new : List ℕ) (sound one both : Bool)
    → i < length grounds → AddsAudits audit (take i grounds) old middle sound → d ≡ get_or grounds i d → AddsAuditOf audit i d middle new one
    → both ≡ (sound && one)
    → AddsAudits audit (take (i + 1) grounds) old new both
audits_more audit grounds i d old middle new sound one both lt done here adds is =
    let place : i ≡ 0 + length (take i grounds) = omega (arith, length-take-le i grounds (omega (arith, lt))) in
    subst (λ (b : Bool). AddsAudits audit (take (i + 1) grounds) old new b) (sym is)
    (subst (λ (gs : List (Option Ground)). AddsAudits audit gs old new (sound && one)) (sym (take_more grounds i d lt))
    (audits_push audit 0 (take i grounds) (get_or grounds i d) old middle new sound one done
    (subst (λ (n : ℕ). AddsAuditOf audit n (get_or grounds i d) middle new one) place
    (subst (λ (ground : Option Ground). AddsAuditOf audit i ground middle new one) here adds))))
