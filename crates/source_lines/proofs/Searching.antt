-- How the search for the row that covers a place goes on.
use Rattle.std.proofs.Common.{◌≡◌, ◌∙◌, ℕ, zero, suc, ◌+◌, ◌-◌, ◌<◌, List, [], ◌∷◌, ◌++◌, refl, ap, sym}
use Rattle.std.specs.Prelude.{Bool, true, false, if◌then◌else◌, Option, Some, None}
use Rattle.object_file.specs.Gathering.{listed}
use Rattle.source_lines.specs.Machine.{Around, After, step}
use Rattle.source_lines.specs.Rows.{at_operands, row_and, rows_within, covers, going_on, covering_behind}
use Rattle.source_lines.specs.Unit.{Fields}
use Rattle.source_lines.specs.declared.machine.Registers.{Registers}
use Rattle.source_lines.specs.declared.machine.Row.{Row}
use Rattle.source_lines.specs.declared.rows.Looked.{Looked}
use Rattle.source_lines.specs.declared.rows.Looked.TheVariants.{Found, Behind}
use Rattle.source_lines.specs.declared.rows.Place.{Place}
use Rattle.source_lines.specs.Searching.{looked}
use Rattle.source_lines.proofs.Counts.{one_left}

abbrev pub after_look : Place → Looked → List Row → Option Registers
after_look p (Found row) rows = Some row
after_look p (Behind before) rows = covering_behind p before rows

by_cover : (p : Place) (row : Row) (rows : List Row) (before : Registers) (b : Bool)
    → (if b then Some before else covering_behind p (going_on row) rows) ≡ after_look p (if b then Found before else Behind (going_on row)) rows
by_cover p row rows before true = refl
by_cover p row rows before false = refl

pub look_is : (p : Place) (before : Option Registers) (row : Option Row) (rows : List Row)
    → covering_behind p before (listed row ++ rows) ≡ after_look p (looked p before row) rows
look_is p before None rows = refl
look_is p None (Some row) rows = refl
look_is p (Some before) (Some row) rows = by_cover p row rows before (covers p before row.registers)

-- the rows that are to come
abbrev pub to_come : Place → ℕ → Fields → Around → Registers → Option Registers → List ℕ → Option Registers
to_come place n p a r before bytes = covering_behind place before (rows_within n p a r bytes)

opened : (place : Place) (n k : ℕ) (p : Fields) (a b : Around) (r : Registers) (before : Option Registers) (bytes rest : List ℕ) (opcode : ℕ) (s : Option After)
    → k < n → bytes ≡ opcode ∷ rest → b ≡ at_operands rest a → step p b opcode rest r ≡ s
    → to_come place (n - k) p a r before bytes ≡ covering_behind place before (row_and s (rows_within (n - (k + 1)) p b))
opened place n k p a b r before bytes rest opcode s below here passed is =
    ap (λ (m : ℕ). to_come place m p a r before bytes) (one_left n k below)
    ∙ ap (to_come place (suc (n - (k + 1))) p a r before) here
    ∙ ap (λ (x : Around). covering_behind place before (row_and (step p x opcode rest r) (rows_within (n - (k + 1)) p x))) (sym passed)
    ∙ ap (λ (x : Option After). covering_behind place before (row_and x (rows_within (n - (k + 1)) p b))) is

pub step_on : (place : Place) (n k : ℕ) (p : Fields) (a b : Around) (r : Registers) (before : Option Registers) (bytes rest : List ℕ) (opcode : ℕ) (s : After)
    (l : Looked) (total : Option Registers)
    → k < n → bytes ≡ opcode ∷ rest → b ≡ at_operands rest a → step p b opcode rest r ≡ Some s → looked place before s.row ≡ l
    → to_come place (n - k) p a r before bytes ≡ total
    → after_look place l (rows_within (n - (k + 1)) p b s.registers s.rest) ≡ total
step_on place n k p a b r before bytes rest opcode s l total below here passed is look so_far =
    sym (opened place n k p a b r before bytes rest opcode (Some s) below here passed is
    ∙ look_is place before s.row (rows_within (n - (k + 1)) p b s.registers s.rest)
    ∙ ap (λ (x : Looked). after_look place x (rows_within (n - (k + 1)) p b s.registers s.rest)) look)
    ∙ so_far

pub step_cut : (place : Place) (n k : ℕ) (p : Fields) (a b : Around) (r : Registers) (before : Option Registers) (bytes rest : List ℕ) (opcode : ℕ)
    (total : Option Registers)
    → k < n → bytes ≡ opcode ∷ rest → b ≡ at_operands rest a → step p b opcode rest r ≡ None
    → to_come place (n - k) p a r before bytes ≡ total → total ≡ None
step_cut place n k p a b r before bytes rest opcode total below here passed is so_far =
    sym so_far ∙ opened place n k p a b r before bytes rest opcode None below here passed is

nothing : (place : Place) (n : ℕ) (p : Fields) (a : Around) (r : Registers) (before : Option Registers) → to_come place n p a r before [] ≡ None
nothing place zero p a r before = refl
nothing place (suc n) p a r before = refl

pub no_more : (place : Place) (n : ℕ) (p : Fields) (a : Around) (r : Registers) (before : Option Registers) (bytes : List ℕ) (total : Option Registers)
    → bytes ≡ [] → to_come place n p a r before bytes ≡ total → total ≡ None
no_more place n p a r before bytes total none so_far =
    sym so_far ∙ ap (to_come place n p a r before) none ∙ nothing place n p a r before
