-- One data component more.
use Rattle.std.proofs.Common.{◌≡◌, ℕ, ◌+◌, ◌<◌, List, [], ◌∷◌, ◌++◌, length, take, get_or, sym, ap, ◌∙◌, arith, add-zero, append_assoc}
use Rattle.std.proofs.lemmas.List.{append-nil, take_more, length-take-le}
use Rattle.data_component.specs.Store.{Store}
use Rattle.run_calls.specs.Figures.{full_line, full_lines_from, full_lines}

pub lines_push : (n : ℕ) (dcs : List Store) (x : Store) → full_lines_from n (dcs ++ x ∷ []) ≡ full_lines_from n dcs ++ full_line (n + length dcs) x
lines_push n [] x = append-nil (full_line n x) ∙ ap (λ (k : ℕ). full_line k x) (sym (add-zero n))
lines_push n (y ∷ ys) x =
    let places : n + 1 + length ys ≡ n + length (y ∷ ys) = omega arith in
    ap (λ (ls : List ℕ). full_line n y ++ ls) (lines_push (n + 1) ys x ∙ ap (λ (k : ℕ). full_lines_from (n + 1) ys ++ full_line k x) places)
    ∙ sym (append_assoc (full_line n y) (full_lines_from (n + 1) ys) (full_line (n + length (y ∷ ys)) x))

-- behind the lines of so many comes that of the next
pub one_more : (lines new : List ℕ) (dcs : List Store) (k : ℕ) (d : Store) → k < length dcs
    → lines ≡ full_lines (take k dcs) → new ≡ lines ++ full_line k (get_or dcs k d) → new ≡ full_lines (take (k + 1) dcs)
one_more lines new dcs k d lt so_far more =
    let x = get_or dcs k d in
    let count : length (take k dcs) ≡ k = length-take-le k dcs (omega arith) in
    let place : 0 + length (take k dcs) ≡ k = omega arith in
    more ∙ ap (λ (ls : List ℕ). ls ++ full_line k x) so_far
    ∙ sym (ap full_lines (take_more dcs k d lt) ∙ lines_push 0 (take k dcs) x ∙ ap (λ (n : ℕ). full_lines (take k dcs) ++ full_line n x) place)
