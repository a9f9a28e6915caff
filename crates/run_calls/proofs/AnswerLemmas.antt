-- One answer more.
use Rattle.std.proofs.Common.{◌≡◌, ℕ, ◌+◌, ◌<◌, List, [], ◌∷◌, ◌++◌, length, take, get_or, sym, ap, ◌∙◌, arith, add-zero, append_assoc}
use Rattle.std.proofs.lemmas.List.{append-nil, take_more, length-take-le}
use Rattle.worker_pool.specs.declared.answer.Answer.{Answer}
use Rattle.run_calls.specs.AnswerLines.{lines_from}

lines_push : (line : ℕ → Answer → List ℕ) (n : ℕ) (answers : List Answer) (x : Answer)
    → lines_from line n (answers ++ x ∷ []) ≡ lines_from line n answers ++ line (n + length answers) x
lines_push line n [] x = append-nil (line n x) ∙ ap (λ (k : ℕ). line k x) (sym (add-zero n))
lines_push line n (y ∷ ys) x =
    let places : n + 1 + length ys ≡ n + length (y ∷ ys) = omega arith in
    ap (λ (ls : List ℕ). line n y ++ ls) (lines_push line (n + 1) ys x ∙ ap (λ (k : ℕ). lines_from line (n + 1) ys ++ line k x) places)
    ∙ sym (append_assoc (line n y) (lines_from line (n + 1) ys) (line (n + length (y ∷ ys)) x))

-- behind the lines of so many answers comes that of the next, which has this place
pub one_line : (line : ℕ → Answer → List ℕ) (n place : ℕ) (old lines new : List ℕ) (answers : List Answer) (k : ℕ) (d : Answer) → place ≡ n + k
    → k < length answers → lines ≡ old ++ lines_from line n (take k answers) → new ≡ lines ++ line place (get_or answers k d)
    → new ≡ old ++ lines_from line n (take (k + 1) answers)
one_line line n place old lines new answers k d is lt so_far more =
    let x = get_or answers k d in
    let count : length (take k answers) ≡ k = length-take-le k answers (omega arith) in
    let place_is : n + length (take k answers) ≡ place = omega arith in
    more ∙ ap (λ (ls : List ℕ). ls ++ line place x) so_far
    ∙ append_assoc old (lines_from line n (take k answers)) (line place x)
    ∙ ap (λ (ls : List ℕ). old ++ ls)
    (sym (ap (lines_from line n) (take_more answers k d lt) ∙ lines_push line n (take k answers) x
    ∙ ap (λ (m : ℕ). lines_from line n (take k answers) ++ line m x) place_is))
