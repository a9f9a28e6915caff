-- Calls that are answered in parts.
use Rattle.std.proofs.Common.{arith, ◌≡◌, ◌∙◌, ◌++◌, ◌+◌, ◌<◌, ℕ, length, List, [], ◌∷◌, Option, None, refl, sym, ap, subst}
use Rattle.std.specs.Prelude.{Bool, false, Result, Ok, Err, IfOk, IsOkAnd, codes, string_bytes}
use Rattle.std.proofs.lemmas.List.{append-nil, append_assoc}
use Rattle.data_component.specs.Store.{Store}
use Rattle.scripts.specs.declared.script.Call.{Call}
use Rattle.tc_core.specs.Core.{Core}
use Rattle.tc_core.specs.declared.state.Call.{Call as Called}
use Rattle.worker_pool.specs.declared.answer.Answer.{Answer}
use Rattle.run_ground.specs.declared.ground.Ground.{Ground}
use Rattle.run_ground.specs.declared.ground.Checkpoints.{Checkpoints}
use Rattle.run_log.specs.declared.anew.Renewal.{Renewal}
use Rattle.run_log.specs.declared.anew.Renewal.TheVariants.{Unwanted}
use Rattle.run_calls.specs.declared.answering.Answers.{Answers}
use Rattle.run_ground.specs.declared.stop.Stop.{Stop}
use Rattle.run_command.specs.declared.parts.RunOutcome.{RunOutcome}
use Rattle.run_log.specs.Anew.{IsRenewal, IsHeeded}
use Rattle.run_ground.specs.Kept.{over_at_end, KeepsLog}
use Rattle.run_calls.specs.AnswerLines.{answer_line, lines_from, call_lines}
use Rattle.run_calls.specs.Answered.{AreCallsOf, AreAnswered, AreServed}
use Rattle.run_command.specs.Parts.{Stage, Part, Anew, IsPart, HaveLed, AreOne, in_all, first_in, calls_in, first_told, calls_told, lines_of}
use Rattle.run_command.specs.Fitting.{IsMeasuredIf}
use Rattle.run_command.specs.Joining.Parts.{IsStep, HasCome, AreSoFar, HasEnded}

-- what more calls were answered, and told of it, is one part more
pub stepped : (results : Bool) (was : RunOutcome) (first calls : List Call) (first_calls other_calls : List Called) (now : RunOutcome)
    (answered : Result (Ground × Answers) Stop) → AreCallsOf first first_calls → AreCallsOf calls other_calls
    → IfOk answered (λ r. AreAnswered was.ground.state first_calls other_calls r.1.first.items r.1.calls.items r.0.state)
    → IfOk answered (λ r. AreServed was.ground.dcs.items r.0.dcs.items)
    → IsOkAnd answered (λ a. (now.ground ≡ a.0) × (now.answers.first.items ≡ was.answers.first.items ++ a.1.first.items)
    × (now.answers.calls.items ≡ was.answers.calls.items ++ a.1.calls.items)
    × (string_bytes now.lines ≡ string_bytes was.lines ++ (lines_from (answer_line (codes "first")) (length was.answers.first.items) a.1.first.items
    ++ call_lines results a.0.state.procs a.0.state.events (length was.answers.calls.items) a.1.calls.items)))
    → IsStep results was first calls now
stepped results was first calls first_calls other_calls now (Ok r) firsts others answered served h = record {
  first_answers = r.1.first.items;
  other_answers = r.1.calls.items;
  lines = lines_from (answer_line (codes "first")) (length was.answers.first.items) r.1.first.items
      ++ call_lines results r.0.state.procs r.0.state.events (length was.answers.calls.items) r.1.calls.items;
  part = record {
    first_calls = first_calls;
    first_are = firsts;
    other_calls = other_calls;
    others_are = others;
    answered = subst (λ (g : Ground). AreAnswered was.ground.state first_calls other_calls r.1.first.items r.1.calls.items g.state) (sym h.0) answered;
    served = subst (λ (g : Ground). AreServed was.ground.dcs.items g.dcs.items) (sym h.0) served;
    printed = ap (λ (g : Ground). lines_from (answer_line (codes "first")) (length was.answers.first.items) r.1.first.items
        ++ call_lines results g.state.procs g.state.events (length was.answers.calls.items) r.1.calls.items) (sym h.0);
  };
  first_told = h.1;
  calls_told = h.2;
  lines_are = h.3;
}
stepped results was first calls first_calls other_calls now (Err stop) firsts others answered served h = absurd h

-- and the log behind it is kept
pub kept_behind : (results : Bool) (was now : RunOutcome) (answered : Result (Ground × Answers) Stop)
    → IsOkAnd answered (λ a. (now.ground ≡ a.0) × (now.answers.first.items ≡ was.answers.first.items ++ a.1.first.items)
    × (now.answers.calls.items ≡ was.answers.calls.items ++ a.1.calls.items)
    × (string_bytes now.lines ≡ string_bytes was.lines ++ (lines_from (answer_line (codes "first")) (length was.answers.first.items) a.1.first.items
    ++ call_lines results a.0.state.procs a.0.state.events (length was.answers.calls.items) a.1.calls.items)))
    → IfOk answered (λ a. KeepsLog a.0.journal a.0.state.events) → KeepsLog now.ground.journal now.ground.state.events
kept_behind results was now (Ok a) h kept = subst (λ (g : Ground). KeepsLog g.journal g.state.events) (sym h.0) kept
kept_behind results was now (Err stop) h kept = absurd h

-- nothing, and then more behind it
behind_none : {X : Type 0} (all more : List X) → (all ++ []) ++ more ≡ all ++ more
behind_none all more = ap (λ l. l ++ more) (append-nil all)

behind_those : {X : Type 0} (all more : List X) (was : List X) → all ≡ was → (all ++ []) ++ more ≡ was ++ more
behind_those all more was is = behind_none all more ∙ ap (λ l. l ++ more) is

module _ (results : Bool) (start : Core) (dcs : List Store) (over : Option ℕ) where
  -- the first part
  pub first_come : (was now : RunOutcome) (first calls : List Call) → was.ground.state ≡ start → was.ground.dcs.items ≡ dcs
      → was.answers.first.items ≡ [] → was.answers.calls.items ≡ [] → string_bytes was.lines ≡ [] → IsStep results was first calls now
      → IsMeasuredIf over start.procs dcs Unwanted (first ++ calls) → HasCome results start dcs over first calls now
  first_come was now first calls state is_dcs no_first no_calls no_lines s measured =
      let firsts : now.answers.first.items ≡ s.first_answers = s.first_told ∙ ap (λ (l : List Answer). l ++ s.first_answers) no_first in
      let others : now.answers.calls.items ≡ s.other_answers = s.calls_told ∙ ap (λ (l : List Answer). l ++ s.other_answers) no_calls in
      let lines : string_bytes now.lines ≡ s.lines = s.lines_are ∙ ap (λ (l : List ℕ). l ++ s.lines) no_lines in
      let stages : List Stage = Part first calls s.first_answers s.other_answers s.lines ∷ [] in
      let part_first = subst (λ (n : ℕ). IsPart results n (length was.answers.calls.items) was.ground.state was.ground.dcs.items first calls
      s.first_answers s.other_answers s.lines now.ground.state now.ground.dcs.items) (ap length no_first) s.part in
      let part = subst (λ (n : ℕ). IsPart results 0 n was.ground.state was.ground.dcs.items first calls s.first_answers s.other_answers s.lines
      now.ground.state now.ground.dcs.items) (ap length no_calls) part_first in
      let here = subst (λ (c : Core). IsMeasuredIf over c.procs dcs Unwanted (first ++ calls)) (sym state) measured in
      let room = subst (λ (ds : List Store). IsMeasuredIf over was.ground.state.procs ds Unwanted (first ++ calls)) (sym is_dcs) here in
      let led : HaveLed over results start dcs first calls s.first_answers s.other_answers s.lines now.ground.state now.ground.dcs.items stages = record {
        lead = (was.ground.state, was.ground.dcs.items, (state, is_dcs), (part, room));
        first_are = refl;
        calls_are = refl;
        first_told = refl;
        calls_told = refl;
        lines_are = refl;
      } in
      let one : AreOne over first calls s.first_answers s.other_answers s.lines stages = λ none. refl in
      record { stages = stages; led = rw (firsts, others, lines) led; one = rw (firsts, others, lines) one }

  -- the log may begin anew, and the next part is answered
  pub next_come : (first_done done first part : List Call) (was mid now : RunOutcome) → (over ≡ None → ⊥)
      → HasCome results start dcs over first_done done was
      → IsRenewal was.ground.state was.ground.dcs.items mid.ground.state mid.ground.dcs.items mid.renewal
      → mid.answers ≡ was.answers → mid.lines ≡ was.lines → IsStep results mid first part now
      → IsMeasuredIf over mid.ground.state.procs mid.ground.dcs.items mid.renewal (first ++ part)
      → HasCome results start dcs over (first_done ++ first) (done ++ part) now
  next_come first_done done first part was mid now some h renewed answers lines s measured =
      let firsts : in_all first_told h.stages ≡ mid.answers.first.items = h.led.first_told ∙ ap (λ (a : Answers). a.first.items) (sym answers) in
      let others : in_all calls_told h.stages ≡ mid.answers.calls.items = h.led.calls_told ∙ ap (λ (a : Answers). a.calls.items) (sym answers) in
      let texts : in_all lines_of h.stages ≡ string_bytes mid.lines = h.led.lines_are ∙ ap string_bytes (sym lines) in
      let first_before : length mid.answers.first.items ≡ length (in_all first_told h.stages ++ []) =
      ap length (sym (append-nil (in_all first_told h.stages) ∙ firsts)) in
      let before : length mid.answers.calls.items ≡ length (in_all calls_told h.stages ++ []) =
      ap length (sym (append-nil (in_all calls_told h.stages) ∙ others)) in
      let part_first = subst (λ (n : ℕ). IsPart results n (length mid.answers.calls.items) mid.ground.state mid.ground.dcs.items first part
      s.first_answers s.other_answers s.lines now.ground.state now.ground.dcs.items) first_before s.part in
      let here = subst (λ (n : ℕ). IsPart results (length (in_all first_told h.stages ++ [])) n mid.ground.state mid.ground.dcs.items first part
      s.first_answers s.other_answers s.lines now.ground.state now.ground.dcs.items) before part_first in
      record {
        stages = Part first part s.first_answers s.other_answers s.lines ∷ Anew mid.renewal ∷ h.stages;
        led = record {
          lead = (mid.ground.state, mid.ground.dcs.items, (was.ground.state, was.ground.dcs.items, h.led.lead, renewed), (here, measured));
          first_are = behind_those (in_all first_in h.stages) first first_done h.led.first_are;
          calls_are = behind_those (in_all calls_in h.stages) part done h.led.calls_are;
          first_told = behind_those (in_all first_told h.stages) s.first_answers mid.answers.first.items firsts ∙ sym s.first_told;
          calls_told = behind_those (in_all calls_told h.stages) s.other_answers mid.answers.calls.items others ∙ sym s.calls_told;
          lines_are = behind_those (in_all lines_of h.stages) s.lines (string_bytes mid.lines) texts ∙ sym s.lines_are;
        };
        one = λ none. absurd (some none);
      }

-- ---- all of them

pub is_none : (rest : List Call) → length rest ≡ 0 → rest ≡ []
is_none [] none = refl
is_none (x ∷ rest) none = absurd (omega (arith, none))

-- where some are left, the log may begin anew between two parts
may_renew : (over : Option ℕ) (first_rest rest : List Call) → 0 < length first_rest + length rest
    → (over ≡ None → (first_rest ≡ []) × (rest ≡ [])) → over ≡ None → ⊥
may_renew over first_rest rest some none unset =
    let firsts : length first_rest ≡ 0 = ap length (none unset).0 in
    let others : length rest ≡ 0 = ap length (none unset).1 in
    omega (arith, some, firsts, others)

module _ (results : Bool) (g : Ground) (over : Option ℕ) (first calls : List Call) where
  pub first_so_far : (was now : RunOutcome) (first_part part first_rest rest : List Call) → was.ground ≡ g → was.answers.first.items ≡ []
      → was.answers.calls.items ≡ [] → string_bytes was.lines ≡ [] → first ≡ first_part ++ first_rest → calls ≡ part ++ rest
      → (over ≡ None → (first_rest ≡ []) × (rest ≡ [])) → IsStep results was first_part part now
      → IsMeasuredIf over g.state.procs g.dcs.items Unwanted (first_part ++ part) → AreSoFar results g over first calls first_rest rest now
  first_so_far was now first_part part first_rest rest is no_first no_calls no_lines first_all all none s measured = record {
    first_done = first_part;
    done = part;
    first_all = first_all;
    all = all;
    come = first_come results g.state g.dcs.items over was now first_part part (ap (λ (x : Ground). x.state) is)
        (ap (λ (x : Ground). x.dcs.items) is) no_first no_calls no_lines s measured;
    none = none;
  }

  pub next_so_far : (was mid now : RunOutcome) (first_rest rest first_part part first_behind behind : List Call)
      → 0 < length first_rest + length rest → AreSoFar results g over first calls first_rest rest was
      → first_rest ≡ first_part ++ first_behind → rest ≡ part ++ behind
      → (over ≡ None → (first_behind ≡ []) × (behind ≡ []))
      → IsRenewal was.ground.state was.ground.dcs.items mid.ground.state mid.ground.dcs.items mid.renewal
      → mid.answers ≡ was.answers → mid.lines ≡ was.lines → IsStep results mid first_part part now
      → IsMeasuredIf over mid.ground.state.procs mid.ground.dcs.items mid.renewal (first_part ++ part)
      → AreSoFar results g over first calls first_behind behind now
  next_so_far was mid now first_rest rest first_part part first_behind behind some so_far first_split split none renewed answers lines s measured = record {
    first_done = so_far.first_done ++ first_part;
    done = so_far.done ++ part;
    first_all = so_far.first_all
        ∙ (ap (λ (l : List Call). so_far.first_done ++ l) first_split ∙ sym (append_assoc so_far.first_done first_part first_behind));
    all = so_far.all ∙ (ap (λ (l : List Call). so_far.done ++ l) split ∙ sym (append_assoc so_far.done part behind));
    come = next_come results g.state g.dcs.items over so_far.first_done so_far.done first_part part was mid now
        (may_renew over first_rest rest some so_far.none) so_far.come renewed answers lines s measured;
    none = none;
  }

  -- none are left
  pub all_come : (now : RunOutcome) (first_rest rest : List Call) → length first_rest ≡ 0 → length rest ≡ 0
      → AreSoFar results g over first calls first_rest rest now → HasCome results g.state g.dcs.items over first calls now
  all_come now first_rest rest first_none none so_far =
      let firsts : first ≡ so_far.first_done =
      so_far.first_all ∙ (ap (λ (l : List Call). so_far.first_done ++ l) (is_none first_rest first_none) ∙ append-nil so_far.first_done) in
      let done : calls ≡ so_far.done = so_far.all ∙ (ap (λ (l : List Call). so_far.done ++ l) (is_none rest none) ∙ append-nil so_far.done) in
      rw (firsts, done) so_far.come

-- and the log may have begun anew behind the last
module _ (results : Bool) (start : Core) (dcs : List Store) (first calls : List Call) (checkpoints : Checkpoints) (over : Option ℕ) (behind : RunOutcome)
  where
    pub ended : (last : Result RunOutcome Stop) → HasCome results start dcs checkpoints.over first calls behind
        → over ≡ over_at_end checkpoints → (checkpoints.over ≡ None → checkpoints.at_end ≡ false → over ≡ None)
        → IfOk last (λ o. IsRenewal behind.ground.state behind.ground.dcs.items o.ground.state o.ground.dcs.items o.renewal)
        → IfOk last (λ o. (o.answers ≡ behind.answers) × (o.lines ≡ behind.lines)) → IfOk last (λ o. over ≡ None → o.renewal ≡ Unwanted)
        → IfOk last (λ o. IsHeeded o.ground.journal over o.renewal) → IfOk last (HasEnded results start dcs first calls checkpoints)
    ended (Ok o) come is none renewed same unwanted heeded = record {
      behind = behind.ground.state;
      behind_dcs = behind.ground.dcs.items;
      stages = come.stages;
      led = rw (same.0, same.1) come.led;
      one = rw (same.0, same.1) come.one;
      renewed = renewed;
      wanted = λ no not_then. unwanted (none no not_then);
      heeded = subst (λ (bytes : Option ℕ). IsHeeded o.ground.journal bytes o.renewal) is heeded;
    }
    ended (Err stop) come is none renewed same unwanted heeded = tt
