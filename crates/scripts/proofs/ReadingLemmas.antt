-- How reading goes on from line to line.
use Rattle.std.proofs.Common.{◌≡◌, ℕ, ◌+◌, ◌<◌, List, ◌∷◌, length, drop, get_or, Ok, Err, sym, ap, ap₂, ◌∙◌, arith, add-one}
use Rattle.std.specs.Prelude.{Result, Some}
use Rattle.std.proofs.Math.Seq.{drop-cons, drop-length}
use Rattle.scripts.specs.declared.fault.ScriptFault.{ScriptFault}
use Rattle.scripts.specs.declared.keyword.Command.{Command}
use Rattle.scripts.specs.Reading.{State, Contents, Reading, taken, go_on, read_from, stopped, end_fault}

-- what is read from this line on
abbrev from_line : Command → ℕ → State → List (List ℕ) → Result State ScriptFault → Reading
from_line command n s ls said = go_on said s.contents (n + 1) (λ t. read_from command (n + 1) t (drop (n + 1) ls))

one_line : (command : Command) (ls : List (List ℕ)) (n k : ℕ) (line : List ℕ) (s : State) (said : Result State ScriptFault) (total : Reading)
    → n ≡ k → (k < length ls) × (line ≡ get_or ls k line)
    → taken command s (n + 1) line ≡ said → read_from command n s (drop n ls) ≡ total → from_line command n s ls said ≡ total
one_line command ls n k line s said total at here is so_far =
    let inside : n < length ls = omega (arith, at, here.0) in
    let same : line ≡ get_or ls n line = here.1 ∙ ap (λ (i : ℕ). get_or ls i line) (sym at) in
    let opened = drop-cons ls n line inside ∙ ap₂ (λ (l : List ℕ) (i : ℕ). l ∷ drop i ls) (sym same) (sym (add-one n)) in
    ap (from_line command n s ls) (sym is) ∙ ap (read_from command n s) (sym opened) ∙ so_far

-- the line is taken
pub going : (command : Command) (ls : List (List ℕ)) (n k : ℕ) (line : List ℕ) (s t : State) (total : Reading) → n ≡ k
    → (k < length ls) × (line ≡ get_or ls k line)
    → taken command s (n + 1) line ≡ Ok t → read_from command n s (drop n ls) ≡ total → read_from command (n + 1) t (drop (n + 1) ls) ≡ total
going command ls n k line s t total at here is so_far = one_line command ls n k line s (Ok t) total at here is so_far

-- the line has the first fault
pub stopping : (command : Command) (ls : List (List ℕ)) (n k : ℕ) (line : List ℕ) (s : State) (contents : Contents) (fault : ScriptFault) (total : Reading)
    → n ≡ k → (k < length ls) × (line ≡ get_or ls k line)
    → taken command s (n + 1) line ≡ Err fault → contents ≡ s.contents → read_from command n s (drop n ls) ≡ total → stopped contents (n + 1) (Some fault) ≡ total
stopping command ls n k line s contents fault total at here is kept so_far =
    ap (λ (c : Contents). stopped c (n + 1) (Some fault)) kept ∙ one_line command ls n k line s (Err fault) total at here is so_far

-- no line is left
pub ending : (command : Command) (ls : List (List ℕ)) (n k : ℕ) (s : State) (total : Reading) → n ≡ k → k ≡ length ls
    → read_from command n s (drop n ls) ≡ total → stopped s.contents n (end_fault s) ≡ total
ending command ls n k s total at end so_far = ap (read_from command n s) (sym (ap (λ (i : ℕ). drop i ls) (at ∙ end) ∙ drop-length ls)) ∙ so_far
