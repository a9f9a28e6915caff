-- How the loop over units goes on.
use Rattle.std.proofs.Common.{◌≡◌, ◌∙◌, ℕ, ◌+◌, ◌-◌, ◌/◌, ◌<◌, List, length, ap, sym}
use Rattle.std.specs.Prelude.{Option, Some, None}
use Rattle.object_file.specs.LineSections.{LineBytes}
use Rattle.source_lines.specs.Lines.{Line, unit_at, line_in, or_else, left_at, around_unit, line_within}
use Rattle.source_lines.specs.Machine.{relocations_from}
use Rattle.source_lines.specs.Numbers.{◌>>=◌}
use Rattle.source_lines.specs.declared.rows.Place.{Place}
use Rattle.source_lines.proofs.Counts.{one_left}

abbrev after_unit : ℕ → LineBytes → Place → List ℕ → List ℕ × List ℕ → Option Line
after_unit n s place left (unit, rest) = or_else (line_in s.strings (around_unit s left rest) place unit) (line_within n s place left rest)

pub unit_cut : (n k : ℕ) (s : LineBytes) (place : Place) (relocations bytes : List ℕ) (total : Option Line) → k < n
    → unit_at bytes ≡ None → line_within (n - k) s place relocations bytes ≡ total → total ≡ None
unit_cut n k s place relocations bytes total below is so_far =
    sym so_far ∙ ap (λ (m : ℕ). line_within m s place relocations bytes) (one_left n k below)
    ∙ ap (λ (u : Option (List ℕ × List ℕ)). u >>= after_unit (n - (k + 1)) s place (left_at s relocations bytes)) is

pub unit_on : (n k begin end : ℕ) (s : LineBytes) (place : Place) (relocations left bytes unit rest : List ℕ) (line total : Option Line) → k < n
    → unit_at bytes ≡ Some (unit, rest) → begin ≡ length s.lines - length bytes → end ≡ length s.lines - length rest
    → left ≡ relocations_from (length relocations / 16) begin relocations
    → line_in s.strings (record { end = end; symbols = s.symbols; relocations = left }) place unit ≡ line
    → line_within (n - k) s place relocations bytes ≡ total → or_else line (line_within (n - (k + 1)) s place left rest) ≡ total
unit_on n k begin end s place relocations left bytes unit rest line total below is begins ends passed said so_far =
    let now : left ≡ left_at s relocations bytes = passed ∙ ap (λ (b : ℕ). relocations_from (length relocations / 16) b relocations) begins in
    sym (ap (λ (m : ℕ). line_within m s place relocations bytes) (one_left n k below)
    ∙ ap (λ (u : Option (List ℕ × List ℕ)). u >>= after_unit (n - (k + 1)) s place (left_at s relocations bytes)) is
    ∙ ap (λ (x : List ℕ). or_else (line_in s.strings (around_unit s x rest) place unit) (line_within (n - (k + 1)) s place x rest)) (sym now)
    ∙ ap (λ (e : ℕ). or_else (line_in s.strings (record { end = e; symbols = s.symbols; relocations = left }) place unit)
    (line_within (n - (k + 1)) s place left rest)) (sym ends)
    ∙ ap (λ (l : Option Line). or_else l (line_within (n - (k + 1)) s place left rest)) said)
    ∙ so_far
