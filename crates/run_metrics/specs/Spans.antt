-- The spans of a trace in Chrome's format, and the lanes in which they are drawn.
use Rattle.std.specs.Prelude.{ℕ, ◌/◌, ◌%◌, ◌-◌, nat_le, List, ◌∷◌, [], ◌++◌, length, position, slice_set, Option, Some, None, codes, decimal}
use Rattle.run_metrics.specs.Outcomes.{outcome_name}
use Rattle.run_metrics.specs.declared.span_text.Call.{Call}
use Rattle.run_metrics.specs.declared.span_text.Span.{Span}

-- nanoseconds as microseconds with three places
abbrev pub micros_text : ℕ → List ℕ
micros_text nanos =
    decimal (nanos / 1_000) ++ (codes "." ++ (decimal (nanos / 100 % 10) ++ (decimal (nanos / 10 % 10) ++ decimal (nanos % 10))))

-- from one time to another
abbrev pub between : (from to : ℕ) → Span
between from to = record { begun = from; took = to - from }

-- a complete event: its name, its category, when it began, how long it took, and its lane
abbrev pub named_text : (name category : List ℕ) → List ℕ
named_text name category = codes ",\n{\"name\":\"" ++ (name ++ (codes "\",\"cat\":\"" ++ (category ++ codes "\",\"ph\":\"X\",\"ts\":")))

abbrev pub placed_text : ℕ → List ℕ
placed_text lane = codes ",\"pid\":1,\"tid\":" ++ decimal lane

abbrev pub timed_text : (name category : List ℕ) → Span → (lane : ℕ) → List ℕ
timed_text name category s lane =
    named_text name category ++ micros_text s.begun ++ codes ",\"dur\":" ++ micros_text s.took ++ placed_text lane

-- of a call its place and its outcome are said as well
abbrev pub call_end : ℕ → (outcome : List ℕ) → List ℕ
call_end place outcome =
    codes ",\"args\":{\"call\":" ++ (decimal place ++ (codes ",\"outcome\":\"" ++ (outcome ++ codes "\"}}")))

abbrev pub call_text : (procedure : List ℕ) → Call → Span → (lane : ℕ) → List ℕ
call_text procedure call s lane = timed_text procedure (codes "call") s lane ++ call_end call.place (outcome_name call.outcome)

-- of a phase of a call nothing else
abbrev pub phase_text : (phase : List ℕ) → Span → (lane : ℕ) → List ℕ
phase_text phase s lane = timed_text phase (codes "phase") s lane ++ codes "}"

-- the first lane that is free at this time, of lanes that are taken until these; the next one where none is
abbrev pub lane_at : Option ℕ → List ℕ → ℕ
lane_at (Some lane) until = lane
lane_at None until = length until

abbrev pub free_lane : List ℕ → ℕ → Option ℕ
free_lane until begun = position (λ end. nat_le end begun) until

abbrev pub lane_of : List ℕ → ℕ → ℕ
lane_of until begun = lane_at (free_lane until begun) until

-- until when they are taken behind a span in that lane
abbrev pub taken_by : Option ℕ → List ℕ → ℕ → List ℕ
taken_by (Some lane) until end = slice_set until lane end
taken_by None until end = until ++ end ∷ []

abbrev pub taken : List ℕ → (begun end : ℕ) → List ℕ
taken until begun end = taken_by (free_lane until begun) until end
