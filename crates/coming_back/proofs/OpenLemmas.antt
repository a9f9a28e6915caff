-- Open transactions, counted by their serial numbers.
use Rattle.std.proofs.Common.{◌≡◌, ℕ, zero, suc, ◌+◌, ◌≤◌, List, [], ◌++◌, length, Option, Some, None, refl, ◌∙◌, ap, arith, length-append, add-zero, add-suc}
use Rattle.tc_log.specs.declared.event.Event.{Event}
use Rattle.transactions.specs.Standing.{Standing, standing}
use Rattle.transactions.specs.Room.{each_one, weighed, total_to}
use Rattle.coming_back.specs.Coming.{serial_if, open_to}

count_one : (t : ℕ) (s : Option Standing) → length (serial_if t s) ≡ weighed each_one s
count_one t None = refl
count_one t (Some s) = refl

-- as many as are counted
pub count_to : (h : List Event) (n : ℕ) → length (open_to h n) ≡ total_to each_one h n
count_to h zero = refl
count_to h (suc n) =
    let ih = count_to h n in
    let one = count_one (suc n) (standing h (suc n)) in
    omega (arith, length-append (open_to h n) (serial_if (suc n) (standing h (suc n))), ih, one)

pub count_less : (h : List Event) (n k : ℕ) → total_to each_one h n ≤ total_to each_one h (n + k)
count_less h n zero = rw add-zero (omega arith)
count_less h n (suc k) =
    let ih = count_less h n k in
    let next : total_to each_one h (n + suc k) ≡ total_to each_one h (n + k) + weighed each_one (standing h (suc (n + k))) = rw add-suc refl in
    omega (arith, ih, next)

pub none_to : (h : List Event) (n : ℕ) → ((t : ℕ) → t ≤ n → standing h t ≡ None) → open_to h n ≡ []
none_to h zero none = refl
none_to h (suc n) none =
    ap (λ (l : List ℕ). l ++ serial_if (suc n) (standing h (suc n))) (none_to h n (λ t low. none t (omega (arith, low))))
    ∙ ap (serial_if (suc n)) (none (suc n) (omega arith))

-- those among the first n stand as they did
pub open_same : (h g : List Event) (n : ℕ) → ((u : ℕ) → u ≤ n → standing g u ≡ standing h u) → open_to g n ≡ open_to h n
open_same h g zero same = refl
open_same h g (suc n) same =
    ap (λ (l : List ℕ). l ++ serial_if (suc n) (standing g (suc n))) (open_same h g n (λ u low. same u (omega (arith, low))))
    ∙ ap (λ (s : Option Standing). open_to h n ++ serial_if (suc n) s) (same (suc n) (omega arith))
