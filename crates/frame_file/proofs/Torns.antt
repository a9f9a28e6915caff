-- What a crash leaves while a frame is being written.
use Rattle.std.proofs.Common.{
  ◌≡◌,
  ◌⊎◌,
  inl,
  inr,
  ℕ,
  zero,
  suc,
  ◌+◌,
  ◌*◌,
  ◌≤◌,
  List,
  [],
  ◌∷◌,
  ◌++◌,
  length,
  take,
  drop,
  refl,
  sym,
  ◌∙◌,
  ap,
  subst,
  arith,
  append_assoc,
  length-append,
}
use Rattle.std.proofs.lemmas.List.{append-nil}
use Rattle.frame_file.specs.Device.{Only, Follows, Torn, word_at, IsLeft}
use Rattle.frame_file.specs.Frame.{framed, frames_from, IsPayload, ArePayloads, MayBeTorn}
use Rattle.frame_file.specs.Reading.{Reads, IsTold, IsBeforeOrAfter}
use Rattle.frame_file.proofs.Ends.{nothing_torn, left_torn}
use Rattle.frame_file.proofs.Frames.{Goes, goes, fits_behind, length-framed}

-- of no bytes there is no word
no_word : (word : List ℕ) (k : ℕ) → IsLeft word (word_at k [])
no_word word k = subst (IsLeft word) (sym (nothing (8 * k))) (inl refl)
  where
    nothing : (m : ℕ) → take {A = ℕ} 8 (drop m []) ≡ []
    nothing zero = refl
    nothing (suc m) = refl

module _ (ps : List (List ℕ)) (p : List ℕ) (fit : ArePayloads ps) where
  behind : (tail rest c : List ℕ) (all more : List (List ℕ)) → length tail ≤ 24 + length p → c ≡ frames_from 0 ps ++ tail → ArePayloads all → IsTold ps p c
      → all ≡ ps ++ more → tail ≡ frames_from (0 + length ps) more ++ rest → (all ≡ ps) ⊎ (all ≡ ps ++ p ∷ [])
  behind tail rest c all [] short is allfit told are left = inl (are ∙ append-nil ps)
  behind tail rest c all (q ∷ more) short is allfit told are left =
      let n = length ps in
      let after = frames_from (n + 1) more ++ rest in
      let here : tail ≡ framed n q ++ after
      = left ∙ (ap (λ (k : ℕ). frames_from k (q ∷ more) ++ rest) (omega arith) ∙ append_assoc (framed n q) (frames_from (n + 1) more) rest) in
      let one : q ≡ p = told q after (fits_behind ps more q (subst ArePayloads are allfit)) (is ∙ ap (λ (b : List ℕ). frames_from 0 ps ++ b) here) in
      let size : length q ≡ length p = ap length one in
      last more (λ r rest_of e. (
      let long = ap length here in
      let lengths = ap (λ (x : List (List ℕ)). length (frames_from (n + 1) x)) e in
      omega (
        arith,
        short,
        long,
        lengths,
        size,
        length-append (framed n q) after,
        length-framed n q,
        length-append (frames_from (n + 1) more) rest,
        length-append (framed (n + 1) r) (frames_from (n + 1 + 1) rest_of),
        length-framed (n + 1) r,
      ))) (λ none. inr (are ∙ (ap (λ (x : List (List ℕ)). ps ++ q ∷ x) none ∙ ap (λ (x : List ℕ). ps ++ x ∷ []) one)))
    where
      last : {X : Type 0} (xs : List (List ℕ)) → ((r : List ℕ) (rs : List (List ℕ)) → xs ≡ r ∷ rs → ⊥) → (xs ≡ [] → X) → X
      last [] some none = none refl
      last (r ∷ rs) some none = absurd (some r rs refl)

  gone : (tail c : List ℕ) → c ≡ frames_from 0 ps ++ tail → (all : List (List ℕ)) (reads : Reads c all) → Goes 0 ps all tail reads.rest
  gone tail c is all reads = goes 0 (length all) ps all tail reads.rest fit reads.fit (omega arith) reads.ends (sym is ∙ reads.is)

  ends : (tail rest c : List ℕ) (all more : List (List ℕ)) → length tail ≤ 24 + length p → MayBeTorn (length ps) tail
      → c ≡ frames_from 0 ps ++ tail → ArePayloads all
      → IsTold ps p c → all ≡ ps ++ more → tail ≡ frames_from (0 + length ps) more ++ rest → MayBeTorn (length all) rest
  ends tail rest c all [] short may is allfit told are left =
      let same : all ≡ ps = are ∙ append-nil ps in
      subst (λ (k : ℕ). MayBeTorn k rest) (sym (ap length same)) (subst (MayBeTorn (length ps)) left may)
  ends tail rest c all (q ∷ more) short may is allfit told are left =
      let n = length ps in
      let after = frames_from (n + 1) more ++ rest in
      let here : tail ≡ framed n q ++ after
      = left ∙ (ap (λ (k : ℕ). frames_from k (q ∷ more) ++ rest) (omega arith) ∙ append_assoc (framed n q) (frames_from (n + 1) more) rest) in
      let one : q ≡ p = told q after (fits_behind ps more q (subst ArePayloads are allfit)) (is ∙ ap (λ (b : List ℕ). frames_from 0 ps ++ b) here) in
      let size : length q ≡ length p = ap length one in
      let long = ap length here in
      nothing_torn (length all) rest
      (omega (arith, short, long, size, length-append (framed n q) after, length-framed n q, length-append (frames_from (n + 1) more) rest))

  torn : (tail c : List ℕ) → length tail ≤ 24 + length p → ((k : ℕ) → IsLeft (word_at k (framed (length ps) p)) (word_at k tail))
      → MayBeTorn (length ps) tail → c ≡ frames_from 0 ps ++ tail → IsBeforeOrAfter ps p c
  torn tail c short words may is = record {
    bytes = record { tail = tail; is = is; short = omega (arith, short, length-framed (length ps) p); words = words };
    kept = λ all reads. (let g = gone tail c is all reads in record { more = g.more; is = g.are });
    told = λ all reads told. (let g = gone tail c is all reads in behind tail reads.rest c all g.more short is reads.fit told g.are g.left);
    torn = λ all reads told. (let g = gone tail c is all reads in ends tail reads.rest c all g.more short may is reads.fit told g.are g.left);
  }

  -- nothing is written yet
  pub whole : (c : List ℕ) → c ≡ frames_from 0 ps → IsBeforeOrAfter ps p c
  whole c is = torn [] c (omega arith) (λ k. no_word (word_at k (framed (length ps) p)) k)
      (nothing_torn (length ps) [] refl) (is ∙ sym (append-nil (frames_from 0 ps)))

  -- the frame is being written
  pub append_crash : (bytes : List ℕ) (n : ℕ) (old new : List ℕ → Type 0) → IsPayload p → bytes ≡ framed n p → n ≡ length ps → Only (frames_from 0 ps) old
      → Follows (Torn bytes) old new → (c : List ℕ) → new c → IsBeforeOrAfter ps p c
  append_crash bytes n old new fits are count only follows c left =
      let from = follows c left in
      let t = from.2 in
      let short = t.short in
      let size = ap length are in
      let no_longer : length t.tail ≤ 24 + length p = omega (arith, short, size, length-framed n p) in
      let words : (k : ℕ) → IsLeft (word_at k (framed n p)) (word_at k t.tail)
      = subst (λ (b : List ℕ). (k : ℕ) → IsLeft (word_at k b) (word_at k t.tail)) are t.words in
      let may : MayBeTorn (length ps) t.tail = subst (λ (m : ℕ). MayBeTorn m t.tail) count (left_torn n p t.tail fits no_longer words) in
      let own : (k : ℕ) → IsLeft (word_at k (framed (length ps) p)) (word_at k t.tail)
      = subst (λ (m : ℕ). (k : ℕ) → IsLeft (word_at k (framed m p)) (word_at k t.tail)) count words in
      torn t.tail c no_longer own may (t.is ∙ ap (λ (b : List ℕ). b ++ t.tail) (only from.0 from.1))
