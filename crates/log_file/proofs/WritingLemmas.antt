-- A base is written, one part after another.
use Rattle.std.proofs.Common.{arith, ◌≡◌, ℕ, ◌<◌, List, [], ◌∷◌, ◌++◌, length, take, drop, map, refl, sym, ◌∙◌, ap, subst, append_assoc}
use Rattle.std.proofs.lemmas.List.{append-nil}
use Rattle.frame_file.specs.Device.{Only, LeavesOnly}
use Rattle.frame_file.specs.Reading.{IsSettled, IsBeforeOrAfter}
use Rattle.frame_file.specs.declared.file.FrameFile.{FrameFile}
use Rattle.frame_file.proofs.Moments.{weaker, joined}
use Rattle.frame_file.proofs.Torns.{whole}
use Rattle.log_file.specs.Bytes.{Rows, part_bytes, parts_of}
use Rattle.log_file.specs.Reading.{IsFront}
use Rattle.log_file.proofs.BaseLemmas.{parts_cons}
use Rattle.log_file.proofs.MomentLemmas.{unmoved}

-- where all that was written is on the disk
front_at : (before xs : List (List ℕ)) (last : List ℕ) (after : List (List ℕ)) (file : List ℕ) → ((payload : List ℕ) → IsBeforeOrAfter before payload file)
    → IsFront (before ++ (xs ++ last ∷ after)) file
front_at before [] last after file left = record { before = before; payload = last; after = after; is = refl; left = left last }
front_at before (x ∷ xs) last after file left = record { before = before; payload = x; after = xs ++ last ∷ after; is = refl; left = left x }

pub at_rest : {D : Type 0} (seen : D → List ℕ) (may_leave : D → List ℕ → Type 0) (moment : D → ℕ) (left_since : D → ℕ → List ℕ → Type 0) (file : FrameFile D)
    (before xs : List (List ℕ)) (last : List ℕ) (after : List (List ℕ))
    → ((c : List ℕ) → left_since file.device (moment file.device) c → may_leave file.device c)
    → IsSettled seen may_leave file before → LeavesOnly moment left_since file.device file.device (IsFront (before ++ (xs ++ last ∷ after)))
at_rest seen may_leave moment left_since file before xs last after only_now settled =
    let only = subst (λ f. Only f (may_leave file.device)) settled.bytes settled.durable in
    unmoved moment left_since file.device _ (λ c left. front_at before xs last after c
    (λ payload. whole before payload settled.fit c (only c (only_now c left))))

-- of all these parts those in front of the rest were written behind what stood there
pub record Wrote {D : Type 0} (seen : D → List ℕ) (may_leave : D → List ℕ → Type 0) (moment : D → ℕ) (left_since : D → ℕ → List ℕ → Type 0)
    (old new : FrameFile D) (before : List (List ℕ)) (all rest : Rows) : Type 0 where
  pub parts : List (List ℕ)
  pub is : map part_bytes (parts_of all) ≡ parts ++ map part_bytes (parts_of rest)
  pub settled : IsSettled seen may_leave new (before ++ parts)
  pub left : (last : List ℕ) (after : List (List ℕ))
      → LeavesOnly moment left_since old.device new.device (IsFront (before ++ (map part_bytes (parts_of all) ++ last ∷ after)))

pub none_yet : {D : Type 0} (seen : D → List ℕ) (may_leave : D → List ℕ → Type 0) (moment : D → ℕ) (left_since : D → ℕ → List ℕ → Type 0) (file : FrameFile D)
    (before : List (List ℕ)) (all : Rows) → ((c : List ℕ) → left_since file.device (moment file.device) c → may_leave file.device c)
    → IsSettled seen may_leave file before → Wrote seen may_leave moment left_since file file before all all
none_yet seen may_leave moment left_since file before all only_now settled = record {
  parts = [];
  is = refl;
  settled = subst (IsSettled seen may_leave file) (sym (append-nil before)) settled;
  left = λ last after. at_rest seen may_leave moment left_since file before (map part_bytes (parts_of all)) last after only_now settled;
}

-- the next one
goes : (all rest : Rows) (parts : List (List ℕ)) (p : List ℕ) → map part_bytes (parts_of all) ≡ parts ++ map part_bytes (parts_of rest) → 0 < length rest
    → p ≡ part_bytes (take 4096 rest) → map part_bytes (parts_of all) ≡ parts ++ p ∷ map part_bytes (parts_of (drop 4096 rest))
goes all rest parts p is some same =
    is ∙ (ap (λ (ps : List Rows). parts ++ map part_bytes ps) (parts_cons rest some)
    ∙ ap (λ (q : List ℕ). parts ++ q ∷ map part_bytes (parts_of (drop 4096 rest))) (sym same))

split : (before parts x more behind : List (List ℕ)) (p : List ℕ) → x ≡ parts ++ p ∷ more → before ++ (x ++ behind) ≡ (before ++ parts) ++ p ∷ (more ++ behind)
split before parts x more behind p is =
    ap (λ (l : List (List ℕ)). before ++ (l ++ behind)) is
    ∙ (ap (λ (l : List (List ℕ)). before ++ l) (append_assoc parts (p ∷ more) behind) ∙ sym (append_assoc before parts (p ∷ (more ++ behind))))

pub moved : {D : Type 0} (seen : D → List ℕ) (may_leave : D → List ℕ → Type 0) (moment : D → ℕ)
    (left_since : D → ℕ → List ℕ → Type 0) (old mid new : FrameFile D)
    (before : List (List ℕ)) (all rest : Rows) (p : List ℕ) → (was : Wrote seen may_leave moment left_since old mid before all rest) → 0 < length rest
    → p ≡ part_bytes (take 4096 rest) → LeavesOnly moment left_since mid.device new.device (IsBeforeOrAfter (before ++ was.parts) p)
    → (last : List ℕ) (after : List (List ℕ))
    → LeavesOnly moment left_since old.device new.device (IsFront (before ++ (map part_bytes (parts_of all) ++ last ∷ after)))
moved seen may_leave moment left_since old mid new before all rest p was some same time last after =
    let P = IsFront (before ++ (map part_bytes (parts_of all) ++ last ∷ after)) in
    let more = map part_bytes (parts_of (drop 4096 rest)) in
    joined moment left_since old.device mid.device new.device P (was.left last after)
    (weaker moment left_since mid.device new.device (IsBeforeOrAfter (before ++ was.parts) p) P time (λ c left. record {
      before = before ++ was.parts;
      payload = p;
      after = more ++ last ∷ after;
      is = split before was.parts (map part_bytes (parts_of all)) more (last ∷ after) p (goes all rest was.parts p was.is some same);
      left = left;
    }))

pub one_more : {D : Type 0} (seen : D → List ℕ) (may_leave : D → List ℕ → Type 0) (moment : D → ℕ)
    (left_since : D → ℕ → List ℕ → Type 0) (old mid new : FrameFile D)
    (before : List (List ℕ)) (all rest : Rows) (p : List ℕ) → (was : Wrote seen may_leave moment left_since old mid before all rest) → 0 < length rest
    → p ≡ part_bytes (take 4096 rest) → LeavesOnly moment left_since mid.device new.device (IsBeforeOrAfter (before ++ was.parts) p)
    → IsSettled seen may_leave new ((before ++ was.parts) ++ p ∷ []) → Wrote seen may_leave moment left_since old new before all (drop 4096 rest)
one_more seen may_leave moment left_since old mid new before all rest p was some same time settled = record {
  parts = was.parts ++ p ∷ [];
  is = goes all rest was.parts p was.is some same ∙ sym (append_assoc was.parts (p ∷ []) (map part_bytes (parts_of (drop 4096 rest))));
  settled = subst (IsSettled seen may_leave new) (append_assoc before was.parts (p ∷ [])) settled;
  left = moved seen may_leave moment left_since old mid new before all rest p was some same time;
}

pub no_rows : (rows : Rows) → length rows ≡ 0 → rows ≡ []
no_rows [] none = refl
no_rows (r ∷ rows) none = absurd (omega (arith, none))

pub all_written : {D : Type 0} (seen : D → List ℕ) (may_leave : D → List ℕ → Type 0) (moment : D → ℕ)
    (left_since : D → ℕ → List ℕ → Type 0) (old new : FrameFile D)
    (before : List (List ℕ)) (all rest : Rows) → Wrote seen may_leave moment left_since old new before all rest → rest ≡ []
    → IsSettled seen may_leave new (before ++ map part_bytes (parts_of all))
all_written seen may_leave moment left_since old new before all rest was none =
    let done : was.parts ≡ map part_bytes (parts_of all)
    = sym (append-nil was.parts) ∙ (ap (λ (l : Rows). was.parts ++ map part_bytes (parts_of l)) (sym none) ∙ sym was.is) in
    subst (λ (ps : List (List ℕ)). IsSettled seen may_leave new (before ++ ps)) done was.settled
