-- How what is gathered goes on.
use Rattle.std.proofs.Common.{
  ◌≡◌,
  ◌∙◌,
  ℕ,
  suc,
  ◌+◌,
  ◌-◌,
  ◌<◌,
  ◌≤◌,
  List,
  [],
  ◌∷◌,
  ◌++◌,
  length,
  map,
  take,
  drop,
  get_or,
  refl,
  ap,
  ap₂,
  sym,
  arith,
  append_assoc,
}
use Rattle.std.specs.Prelude.{Option, Some, None, Result, Ok, Err, IfOk, IfErr}
use Rattle.std.specs.Option.{option_map}
use Rattle.std.proofs.lemmas.List.{append-nil, map-append, drop_more, drop_all}
use Rattle.object_file.specs.Elf.{rows_in}
use Rattle.object_file.specs.Gathering.{and_then, listed, gathered, viewed, there, fault_there, kept, faults}
use Rattle.object_file.specs.declared.fault.ObjectFault.{ObjectFault}

-- what was gathered, and what is to come
abbrev pub behind : {A : Type 0} → List A → Result (List A) ObjectFault → Result (List A) ObjectFault
behind done (Ok more) = Ok (done ++ more)
behind done (Err fault) = Err fault

regroup : {A : Type 0} (done : List A) (y : Option A) (said : Result (List A) ObjectFault)
    → behind done (and_then said (λ ys. Ok (listed y ++ ys))) ≡ behind (done ++ listed y) said
regroup {A} done y (Ok ys) = ap (λ (zs : List A). Ok zs) (sym (append_assoc done (listed y) ys))
regroup {A} done y (Err fault) = refl

one_more : {A B : Type 0} (said : ℕ → A → Result (Option B) ObjectFault) (n : ℕ) (xs : List A) (x : A) (rest : List A)
    (now : Result (Option B) ObjectFault) (done : List B) (total : Result (List B) ObjectFault)
    → xs ≡ x ∷ rest → said n x ≡ now → total ≡ behind done (gathered said n xs)
    → total ≡ behind done (and_then now (λ y. and_then (gathered said (n + 1) rest) (λ ys. Ok (listed y ++ ys))))
one_more {A} {B} said n xs x rest now done total is here so_far =
    so_far ∙ ap (λ (zs : List A). behind done (gathered said n zs)) is
    ∙ ap (λ (r : Result (Option B) ObjectFault). behind done (and_then r (λ y. and_then (gathered said (n + 1) rest) (λ ys. Ok (listed y ++ ys))))) here

pub gather_more : {A B : Type 0} (said : ℕ → A → Result (Option B) ObjectFault) (n : ℕ) (xs : List A) (x : A) (rest : List A)
    (y : Option B) (done : List B) (total : Result (List B) ObjectFault)
    → xs ≡ x ∷ rest → said n x ≡ Ok y → total ≡ behind done (gathered said n xs)
    → total ≡ behind (done ++ listed y) (gathered said (n + 1) rest)
gather_more said n xs x rest y done total is here so_far =
    one_more said n xs x rest (Ok y) done total is here so_far ∙ regroup done y (gathered said (n + 1) rest)

pub gather_bad : {A B : Type 0} (said : ℕ → A → Result (Option B) ObjectFault) (n : ℕ) (xs : List A) (x : A) (rest : List A)
    (fault : ObjectFault) (done : List B) (total : Result (List B) ObjectFault)
    → xs ≡ x ∷ rest → said n x ≡ Err fault → total ≡ behind done (gathered said n xs) → total ≡ Err fault
gather_bad said n xs x rest fault done total is here so_far = one_more said n xs x rest (Err fault) done total is here so_far

pub gather_end : {A B : Type 0} (said : ℕ → A → Result (Option B) ObjectFault) (n : ℕ) (xs : List A) (done : List B) (total : Result (List B) ObjectFault)
    → xs ≡ [] → total ≡ behind done (gathered said n xs) → total ≡ Ok done
gather_end {A} {B} said n xs done total is so_far =
    so_far ∙ ap (λ (zs : List A). behind done (gathered said n zs)) is ∙ ap (λ (ys : List B). Ok ys) (append-nil done)

-- ---- rows

one_left : (n k : ℕ) → k < n → n - k ≡ suc (n - (k + 1))
one_left n k below = omega (arith, below)

-- the next row
pub row_next : (width n k : ℕ) (rest front back : List ℕ) → k < n → front ≡ take width rest → back ≡ drop width rest
    → rows_in width (n - k) rest ≡ front ∷ rows_in width (n - (k + 1)) back
row_next width n k rest front back below cut left =
    ap (λ (m : ℕ). rows_in width m rest) (one_left n k below)
    ∙ sym (ap₂ (λ (f b : List ℕ). f ∷ rows_in width (n - (k + 1)) b) cut left)

-- ---- loops

view_there : {B C : Type 0} (view : C → B) (r : Result (Option C) ObjectFault) → there (viewed view r) ≡ map view (there r)
view_there view (Ok None) = refl
view_there view (Ok (Some x)) = refl
view_there view (Err fault) = refl

fault_view : {B C : Type 0} (view : C → B) (r : Result (Option C) ObjectFault) → fault_there (viewed view r) ≡ fault_there r
fault_view view (Ok found) = refl
fault_view view (Err fault) = refl

-- what is said of a result that is seen so
pub as_viewed : {B C : Type 0} (view : C → B) (said : Result (Option B) ObjectFault) (r : Result (Option C) ObjectFault)
    → IfOk r (λ found. said ≡ Ok (option_map view found)) → IfErr r (λ fault. said ≡ Err fault) → said ≡ viewed view r
as_viewed view said (Ok found) ok err = ok
as_viewed view said (Err fault) ok err = err

-- a loop over a list, which keeps what it finds
pub kept_more : {A B C : Type 0} (view : C → B) (said : ℕ → A → Result (Option B) ObjectFault) (k : ℕ) (xs : List A) (x : A)
    (items new : List C) (r : Result (Option C) ObjectFault) (total : List B)
    → k < length xs → map view items ++ kept said k (drop k xs) ≡ total
    → said k (get_or xs k x) ≡ viewed view r → new ≡ items ++ there r
    → map view new ++ kept said (k + 1) (drop (k + 1) xs) ≡ total
kept_more {A} {B} {C} view said k xs x items new r total below so_far here grown =
    ap (λ (cs : List C). map view cs ++ kept said (k + 1) (drop (k + 1) xs)) grown
    ∙ ap (λ (bs : List B). bs ++ kept said (k + 1) (drop (k + 1) xs)) (map-append view items (there r))
    ∙ append_assoc (map view items) (map view (there r)) (kept said (k + 1) (drop (k + 1) xs))
    ∙ ap (λ (bs : List B). map view items ++ (bs ++ kept said (k + 1) (drop (k + 1) xs))) (sym (ap (λ (s : Result (Option B) ObjectFault). there s) here ∙ view_there view r))
    ∙ ap (λ (ys : List A). map view items ++ kept said k ys) (sym (drop_more xs k x below))
    ∙ so_far

-- and the faults of the others
pub faults_more : {A B C : Type 0} (view : C → B) (said : ℕ → A → Result (Option B) ObjectFault) (k : ℕ) (xs : List A) (x : A)
    (items new : List ObjectFault) (r : Result (Option C) ObjectFault) (total : List ObjectFault)
    → k < length xs → items ++ faults said k (drop k xs) ≡ total
    → said k (get_or xs k x) ≡ viewed view r → new ≡ items ++ fault_there r
    → new ++ faults said (k + 1) (drop (k + 1) xs) ≡ total
faults_more {A} {B} {C} view said k xs x items new r total below so_far here grown =
    ap (λ (fs : List ObjectFault). fs ++ faults said (k + 1) (drop (k + 1) xs)) grown
    ∙ append_assoc items (fault_there r) (faults said (k + 1) (drop (k + 1) xs))
    ∙ ap (λ (fs : List ObjectFault). items ++ (fs ++ faults said (k + 1) (drop (k + 1) xs))) (sym (ap (λ (s : Result (Option B) ObjectFault). fault_there s) here ∙ fault_view view r))
    ∙ ap (λ (ys : List A). items ++ faults said k ys) (sym (drop_more xs k x below))
    ∙ so_far
