-- How many calls were answered how, as lines.
use Rattle.std.specs.Prelude.{◌≡◌, ℕ, zero, suc, ◌+◌, ◌-◌, ◌*◌, ◌/◌, ◌==◌, max, get_or, Bool, true}
use Rattle.std.specs.Prelude.{false, if◌then◌else◌, List, [], ◌∷◌, ◌++◌, length, count_by}
use Rattle.std.specs.Prelude.{filter, map, zip, slice_get, unwrap_or, codes, decimal, Option, Some, None, string_bytes}
use Rattle.std.specs.declared.alloc.Global.{Global}
use Rattle.std.specs.declared.string.String.{String}
use Rattle.data_component.specs.Store.{Store}
use Rattle.scripts.specs.declared.script.Call.{Call}
use Rattle.tc_core.specs.Loaded.{Loaded}
use Rattle.run_calls.specs.declared.figures.Latencies.{Latencies}
use Rattle.run_metrics.specs.declared.exposition.Delays.{Delays}
use Rattle.worker_pool.specs.declared.answer.Answer.{Answer}
use Rattle.worker_pool.specs.declared.answer.Answer.TheVariants.{Committed, Aborted, NoRoom, InDoubt, Blocked}

abbrev pub is_committed : Answer → Bool
is_committed (Committed place) = true
is_committed other = false

-- what the call wrote was undone
abbrev pub is_aborted : Answer → Bool
is_aborted (Aborted value place) = true
is_aborted (NoRoom place) = true
is_aborted other = false

abbrev pub is_in_doubt : Answer → Bool
is_in_doubt (InDoubt number) = true
is_in_doubt other = false

abbrev pub is_blocked : Answer → Bool
is_blocked (Blocked busy) = true
is_blocked other = false

abbrev pub figure_line : List ℕ → ℕ → List ℕ
figure_line name count = name ++ (codes " " ++ (decimal count ++ codes "\n"))

-- all calls, and how many of them were answered how
abbrev pub figure_lines : List Answer → List ℕ
figure_lines answers =
    figure_line (codes "calls") (length answers) ++ figure_line (codes "committed") (count_by is_committed answers)
    ++ figure_line (codes "aborted") (count_by is_aborted answers) ++ figure_line (codes "in doubt") (count_by is_in_doubt answers)
    ++ figure_line (codes "blocked") (count_by is_blocked answers)

-- the answers of the calls of the procedure with this number
abbrev pub answers_of : ℕ → List Call → List Answer → List Answer
answers_of number calls answers =
    map (λ (pair : Call × Answer). pair.1) (filter (λ (pair : Call × Answer). pair.0.procedure == number) (zip calls answers))

-- how many calls the procedure of this name had, and how many of them were answered how
abbrev pub done_text : List ℕ → List Answer → List ℕ
done_text name answers =
    codes "procedure " ++ (name ++ (codes " " ++ (decimal (length answers) ++ (codes " committed " ++ (decimal (count_by is_committed answers)
    ++ (codes " aborted " ++ decimal (count_by is_aborted answers)))))))

abbrev pub undone_text : List Answer → List ℕ
undone_text answers =
    codes " in doubt " ++ (decimal (count_by is_in_doubt answers) ++ (codes " blocked " ++ (decimal (count_by is_blocked answers) ++ codes "\n")))

-- the line of that; none where it wasn't called
abbrev pub procedure_line : List ℕ → List Answer → List ℕ
procedure_line name answers = if length answers == 0 then [] else done_text name answers ++ undone_text answers

abbrev pub name_at : List (List ℕ) → ℕ → List ℕ
name_at names number = unwrap_or (slice_get names number) []

-- a line for each procedure that was called, of those with numbers below this
abbrev pub procedure_lines_below : ℕ → List (List ℕ) → List Call → List Answer → List ℕ
procedure_lines_below zero names calls answers = []
procedure_lines_below (suc number) names calls answers =
    procedure_lines_below number names calls answers ++ procedure_line (name_at names number) (answers_of number calls answers)

-- of all that are loaded
abbrev pub procedure_lines : Loaded → List Call → List Answer → List ℕ
procedure_lines l calls answers = procedure_lines_below (length l.codes) l.names calls answers

-- how often the file that keeps the log was synced, and its bytes
abbrev pub log_figures : (syncs bytes : ℕ) → List ℕ
log_figures syncs bytes = codes "syncs " ++ (decimal syncs ++ (codes "\nlog bytes " ++ (decimal bytes ++ codes "\n")))

-- how many of so many calls were answered in a second, when all took so many nanoseconds
abbrev pub rate_line : ℕ → ℕ → List ℕ
rate_line calls nanoseconds = codes "calls a second " ++ (decimal (calls * 1_000_000 / max (nanoseconds / 1_000) 1) ++ codes "\n")

-- the least of rising numbers that all but one in so many aren't above (a percentile of nearest rank); 0 of none
abbrev pub all_but : ℕ → List ℕ → ℕ
all_but one_in rising = get_or rising (length rising - length rising / one_in - 1) 0

-- how many nanoseconds calls took, of these in rising order: half of them no more, 99 in a hundred no more, none more
abbrev pub latencies_of : List ℕ → Latencies
latencies_of rising = record { half = all_but 2 rising; most = all_but 100 rising; longest = all_but 18_446_744_073_709_551_615 rising }

-- the same in microseconds, a line each
abbrev pub lines_of : Latencies → List ℕ
lines_of l =
    codes "p50 " ++ (decimal (l.half / 1_000) ++ (codes " us\np99 " ++ (decimal (l.most / 1_000) ++ (codes " us\nlongest wait "
    ++ (decimal (l.longest / 1_000) ++ codes " us\n")))))

-- how many calls had to wait for a lock, and how many wires were sent again
abbrev pub delay_lines : Delays → List ℕ
delay_lines d = codes "waits for locks " ++ (decimal d.lock_waits ++ (codes "\nresends " ++ (decimal d.resends ++ codes "\n")))

-- a data component without room for a further operation: its number, and how many it has performed
abbrev pub full_line : ℕ → Store → List ℕ
full_line number dc =
    if length dc.list == dc.ops then codes "full dc " ++ (decimal number ++ (codes " " ++ (decimal (length dc.list) ++ codes " operations\n"))) else []

-- a line for each that is full; the first has this number
abbrev pub full_lines_from : ℕ → List Store → List ℕ
full_lines_from number [] = []
full_lines_from number (dc ∷ dcs) = full_line number dc ++ full_lines_from (number + 1) dcs

abbrev pub full_lines : List Store → List ℕ
full_lines dcs = full_lines_from 0 dcs

-- what standard error has behind a run: these figures, and a line for each that is full; nothing where there is none of both
abbrev pub AreNotes : List ℕ → List Store → Option (String Global) → Type 0
AreNotes figures dcs None = figures ++ full_lines dcs ≡ []
AreNotes figures dcs (Some notes) = string_bytes notes ≡ figures ++ full_lines dcs

-- the same, with figures only where these are wanted
pub record AreNotesIf (wanted : Bool) (dcs : List Store) (notes : Option (String Global)) : Type 0 where
  pub figures : List ℕ
  pub unwanted : wanted ≡ false → figures ≡ []
  pub are : AreNotes figures dcs notes
