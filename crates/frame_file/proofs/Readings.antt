-- A file is read as one list of payloads.
use Rattle.std.proofs.Common.{
  ◌≡◌,
  ⊎_elim,
  inl,
  inr,
  ℕ,
  ◌+◌,
  ◌-◌,
  ◌^◌,
  ◌<◌,
  ◌≤◌,
  zero,
  suc,
  List,
  [],
  ◌∷◌,
  ◌++◌,
  length,
  take,
  drop,
  Vec,
  refl,
  sym,
  ◌∙◌,
  ap,
  subst,
  arith,
  append_assoc,
  length-append,
  take-append-drop,
}
use Rattle.std.proofs.lemmas.List.{append-nil, drop_at, take_at, take-append-le}
use Rattle.std.specs.Int.{w64, from_le_bytes}
use Rattle.std.specs.declared.alloc.Global.{Global}
use Rattle.frame_file.specs.Device.{Cut}
use Rattle.frame_file.specs.Frame.{framed, frames_from, IsPayload, ArePayloads, NoFrame, NoneBegins, NoneStands, MayStand, IsFollowed, HasFrame, IsEnd}
use Rattle.frame_file.specs.Reading.{Reads, ReadsAs, payloads_in}
use Rattle.frame_file.proofs.Ends.{torn_front}
use Rattle.frame_file.proofs.Frames.{Goes, goes, frames_push, fit_push, length-framed}

reads_goes : (file : List ℕ) (ps qs : List (List ℕ)) (a : Reads file ps) (b : Reads file qs) → Goes 0 ps qs a.rest b.rest
reads_goes file ps qs a b = goes 0 (length qs) ps qs a.rest b.rest a.fit b.fit (omega arith) b.ends (sym a.is ∙ b.is)

by_more : (ps qs more : List (List ℕ)) (a b : List ℕ) → ArePayloads qs → NoFrame (length ps) a → qs ≡ ps ++ more
    → a ≡ frames_from (0 + length ps) more ++ b → qs ≡ ps
by_more ps qs [] a b fit ends are left = are ∙ append-nil ps
by_more ps qs (q ∷ more) a b fit ends are left =
    let fits = fits_in ps (subst ArePayloads are fit) in
    let here : a ≡ framed (length ps) q ++ (frames_from (length ps + 1) more ++ b)
    = left ∙ (ap (λ (k : ℕ). frames_from k (q ∷ more) ++ b) (omega arith) ∙ append_assoc (framed (length ps) q) (frames_from (length ps + 1) more) b) in
    absurd (ends q (frames_from (length ps + 1) more ++ b) fits here)
  where
    fits_in : (xs : List (List ℕ)) → ArePayloads (xs ++ q ∷ more) → IsPayload q
    fits_in [] f = f.0
    fits_in (x ∷ xs) f = fits_in xs f.1

pub reads_one : (file : List ℕ) (ps qs : List (List ℕ)) → Reads file ps → Reads file qs → qs ≡ ps
reads_one file ps qs a b = (let g = reads_goes file ps qs a b in by_more ps qs g.more a.rest b.rest b.fit a.ends g.are g.left)

-- ---- what is cut off

take_past : (xs ys : List ℕ) (m n : ℕ) → m ≡ length xs + n → take m (xs ++ ys) ≡ xs ++ take n ys
take_past [] ys m n is = (let same : m ≡ n = omega (arith, is) in ap (λ (k : ℕ). take k ys) same)
take_past (x ∷ xs) ys zero n is = absurd (omega (arith, is))
take_past (x ∷ xs) ys (suc m) n is = ap (λ (l : List ℕ). x ∷ l) (take_past xs ys m n (omega (arith, is)))

-- the front of what begins with no frame begins with none
front_none : (n k : ℕ) (rest : List ℕ) → NoFrame n rest → NoFrame n (take k rest)
front_none n k rest none p after fits is =
    none p (after ++ drop k rest) fits
    (sym (take-append-drop k rest) ∙ (ap (λ (b : List ℕ). b ++ drop k rest) is ∙ append_assoc (framed n p) after (drop k rest)))

-- and of an end an end
stands_on : (n number : ℕ) (after more : List ℕ) → MayStand n number after → MayStand n number (after ++ more)
stands_on n number after more may = (
  may.0,
  ⊎_elim (λ (near : number ≤ n + 16). inl near)
      (λ (next : IsFollowed number after). inr (record {
        long = omega (arith, next.long, length-append after more);
        next = ap (from_le_bytes w64) (take-append-le 8 after more next.long) ∙ next.next;
      })) may.1,
)

has_front : (n k : ℕ) (rest : List ℕ) → HasFrame n (take k rest) → HasFrame n rest
has_front n k rest w = record {
  stands = ⊎_elim (λ (front : w.before ≡ []). inl front)
      (λ (may : MayStand n w.number w.after). inr (stands_on n w.number w.after (drop k rest) may)) w.stands;
  number = w.number;
  small = w.small;
  payload = w.payload;
  fits = w.fits;
  before = w.before;
  after = w.after ++ drop k rest;
  is =
      let frame = framed w.number w.payload in
      sym (take-append-drop k rest)
      ∙ (ap (λ (b : List ℕ). b ++ drop k rest) w.is
      ∙ (append_assoc w.before (frame ++ w.after) (drop k rest) ∙ ap (λ (b : List ℕ). w.before ++ b) (append_assoc frame w.after (drop k rest))));
}

end_front : (n k : ℕ) (rest : List ℕ) → IsEnd n rest → IsEnd n (take k rest)
end_front n k rest ends = record { none = λ w. ends.none (has_front n k rest w); torn = λ some. torn_front n k rest (ends.torn some) }

pub end_inside : (file : List ℕ) (ps : List (List ℕ)) (end : ℕ) → Reads file ps → end ≡ length (frames_from 0 ps) → end ≤ length file
end_inside file ps end reads at = (let long = ap length reads.is in omega (arith, at, long, length-append (frames_from 0 ps) reads.rest))

-- a cut behind the frames keeps them
pub cut_reads : (file c : List ℕ) (ps : List (List ℕ)) (end : ℕ) → Reads file ps → end ≡ length (frames_from 0 ps) → Cut end file c → Reads c ps
cut_reads file c ps end reads at cut =
    let n = length c - length (frames_from 0 ps) in
    let inside = end_inside file ps end reads at in
    let enough : end ≤ length c = ⊎_elim (λ (le : end ≤ length c). le)
    (λ (same : c ≡ file). subst (λ (f : List ℕ). end ≤ length f) (sym same) inside) cut.no_shorter in
    let whole : c ≡ frames_from 0 ps ++ take n reads.rest
    = sym cut.front ∙ (ap (λ (b : List ℕ). take (length c) b) reads.is ∙ take_past (frames_from 0 ps) reads.rest (length c) n (omega (arith, enough, at))) in
    record { rest = take n reads.rest; is = whole; fit = reads.fit; ends = front_none (length ps) n reads.rest reads.ends }

-- and the file is read as before
pub cut_reads_as : (file c : List ℕ) (ps : List (List ℕ)) (end : ℕ) → Reads file ps → end ≡ length (frames_from 0 ps) → Cut end file c → ReadsAs file c
unfolding cut_reads
cut_reads_as file c ps end reads at cut payloads other =
    let same : payloads ≡ ps = reads_one file ps payloads reads other in
    let here : end ≡ length (frames_from 0 payloads) = at ∙ ap (λ (p : List (List ℕ)). length (frames_from 0 p)) (sym same) in
    let n = length c - length (frames_from 0 payloads) in
    (cut_reads file c payloads end other here cut, λ ends. end_front (length payloads) n other.rest ends)

pub same_reads_as : (file c : List ℕ) → c ≡ file → ReadsAs file c
same_reads_as file c is = subst (ReadsAs file) (sym is) (λ payloads reads. (reads, λ ends. ends))

-- a file has one end behind its frames
pub one_end : (file : List ℕ) (ps : List (List ℕ)) (a b : Reads file ps) → a.rest ≡ b.rest
one_end file ps a b = sym (drop_at (frames_from 0 ps) a.rest (length (frames_from 0 ps)) refl)
    ∙ (ap (λ (f : List ℕ). drop (length (frames_from 0 ps)) f) (sym a.is ∙ b.is) ∙ drop_at (frames_from 0 ps) b.rest (length (frames_from 0 ps)) refl)

pub cut_done : (file : List ℕ) (ps : List (List ℕ)) (end : ℕ) → Reads file ps → end ≡ length (frames_from 0 ps) → take end file ≡ frames_from 0 ps
cut_done file ps end reads at = ap (λ (b : List ℕ). take end b) reads.is ∙ take_at (frames_from 0 ps) reads.rest end (sym at)

-- ---- one frame after another

pub payloads_push : (vecs : List (Vec ℕ Global)) (v : Vec ℕ Global) → payloads_in (vecs ++ v ∷ []) ≡ payloads_in vecs ++ v.items ∷ []
payloads_push [] v = refl
payloads_push (x ∷ vecs) v = ap (λ (ps : List (List ℕ)). x.items ∷ ps) (payloads_push vecs v)

pub count_payloads : (vecs : List (Vec ℕ Global)) → length (payloads_in vecs) ≡ length vecs
count_payloads [] = refl
count_payloads (v ∷ vecs) = ap suc (count_payloads vecs)

all_on : (payload : List ℕ) (vecs new : List (Vec ℕ Global)) (v : Vec ℕ Global) → new ≡ vecs ++ v ∷ []
    → v.items ≡ payload → payloads_in new ≡ payloads_in vecs ++ payload ∷ []
all_on payload vecs new v grown is =
    ap payloads_in grown ∙ (payloads_push vecs v ∙ ap (λ (p : List ℕ). payloads_in vecs ++ p ∷ []) is)

pub read_on : (bytes rest after payload : List ℕ) (n : ℕ) (vecs new : List (Vec ℕ Global)) (v : Vec ℕ Global) → bytes ≡ frames_from 0 (payloads_in vecs) ++ rest
    → rest ≡ framed n payload ++ after → n ≡ length vecs → new ≡ vecs ++ v ∷ [] → v.items ≡ payload → bytes ≡ frames_from 0 (payloads_in new) ++ after
read_on bytes rest after payload n vecs new v so_far cut at grown is =
    let ps = payloads_in vecs in
    let count : n ≡ 0 + length ps = (let many = count_payloads vecs in omega (arith, at, many)) in
    let whole : frames_from 0 (payloads_in new) ≡ frames_from 0 ps ++ framed n payload
    = ap (λ (x : List (List ℕ)). frames_from 0 x) (all_on payload vecs new v grown is) ∙ frames_push 0 n ps payload count in
    so_far
    ∙ (ap (λ (b : List ℕ). frames_from 0 ps ++ b) cut
    ∙ (sym (append_assoc (frames_from 0 ps) (framed n payload) after) ∙ ap (λ (b : List ℕ). b ++ after) (sym whole)))

pub fit_on : (payload : List ℕ) (vecs new : List (Vec ℕ Global)) (v : Vec ℕ Global) → ArePayloads (payloads_in vecs) → IsPayload payload → new ≡ vecs ++ v ∷ []
    → v.items ≡ payload → ArePayloads (payloads_in new)
fit_on payload vecs new v fit fits grown is = subst ArePayloads (sym (all_on payload vecs new v grown is)) (fit_push (payloads_in vecs) payload fit fits)

-- ---- frames that stand anywhere

pub frame_in : (n place own : ℕ) (bytes payload after : List ℕ) → MayStand n own after → own < 2 ^ 64 → IsPayload payload
    → drop place bytes ≡ framed own payload ++ after → HasFrame n bytes
frame_in n place own bytes payload after may small fits is = record {
  number = own;
  small = small;
  payload = payload;
  fits = fits;
  before = take place bytes;
  after = after;
  is = sym (take-append-drop place bytes) ∙ ap (λ (b : List ℕ). take place bytes ++ b) is;
  stands = inr may;
}

pub none_in : (n : ℕ) (bytes : List ℕ) → NoneBegins bytes → ((at : ℕ) → at < length bytes → NoneStands n (drop at bytes)) → HasFrame n bytes → ⊥
none_in n bytes front none w =
    let frame = framed w.number w.payload in
    let long = ap length w.is in
    let inside : length w.before < length bytes
    = omega (arith, long, length-append w.before (frame ++ w.after), length-append frame w.after, length-framed w.number w.payload) in
    let there : drop (length w.before) bytes ≡ frame ++ w.after
    = ap (λ (b : List ℕ). drop (length w.before) b) w.is ∙ drop_at w.before (frame ++ w.after) (length w.before) refl in
    ⊎_elim (λ (at_front : w.before ≡ []). front w.number w.small w.payload w.after w.fits
    (w.is ∙ ap (λ (b : List ℕ). b ++ (frame ++ w.after)) at_front))
    (λ (may : MayStand n w.number w.after). none (length w.before) inside w.number w.small w.payload w.after w.fits may there) w.stands
