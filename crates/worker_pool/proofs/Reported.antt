-- The report of calls that all have an answer.
use Rattle.std.proofs.Common.{◌≡◌, ℕ, List, [], ◌∷◌, zero, suc, length, map, refl, sym, ◌∙◌, ap}
use Rattle.std.proofs.Common.{subst, Option, Some, arith, cond}
use Rattle.std.proofs.lemmas.List.Sums.{sum_by-cons}
use Rattle.std.specs.List.{slice_get, count_by}
use Rattle.transactions.specs.Legal.{Legal}
use Rattle.tc_core.specs.Core.{Core}
use Rattle.tc_core.specs.declared.state.Call.{Call}
use Rattle.tc_core.specs.declared.state.TxnId.{TxnId}
use Rattle.worker_pool.specs.declared.answer.Answer.{Answer}
use Rattle.worker_pool.specs.declared.answer.Progress.{Progress}
use Rattle.worker_pool.specs.declared.answer.Progress.TheVariants.{Waiting, Begun, Answered}
use Rattle.tc_core.specs.Admission.{call_of}
use Rattle.worker_pool.specs.Answers.{has_place, AnswerFits}
use Rattle.worker_pool.specs.Kept.{serial_of, txn_of, is_placed, Keeps}
use Rattle.worker_pool.specs.Joining.Seen.{told_by, AreToldBy}
use Rattle.worker_pool.specs.Reports.{Reports}

-- an answer is that of a call which has one
record IsToldBy (p : Progress) (a : Answer) : Type 0 where
  txn : Option TxnId
  is : p ≡ Answered a txn

told_one : (p : Progress) (a : Answer) → told_by p ≡ Some a → IsToldBy p a
told_one Waiting a is = absurd cc
told_one (Begun t) a is = absurd cc
told_one (Answered b txn) a is = (let same : b ≡ a = cc in record { txn = txn; is = ap (λ (x : Answer). Answered x txn) same })

record ToldAt (ps : List Progress) (k : ℕ) (a : Answer) : Type 0 where
  txn : Option TxnId
  at : slice_get ps k ≡ Some (Answered a txn)

told_at : (ps : List Progress) (answers : List Answer) (k : ℕ) (a : Answer) → AreToldBy ps answers → slice_get answers k ≡ Some a → ToldAt ps k a
told_at [] [] k a told at = absurd cc
told_at [] (b ∷ answers) k a told at = absurd cc
told_at (p ∷ ps) [] k a told at = absurd cc
told_at (p ∷ ps) (b ∷ answers) zero a told at =
    let head : told_by p ≡ Some b = cc in
    let same : b ≡ a = cc in
    let it = told_one p a (head ∙ ap (λ (x : Answer). Some x) same) in
    record { txn = it.txn; at = ap (λ (x : Progress). Some x) it.is }
told_at (p ∷ ps) (b ∷ answers) (suc k) a told at =
    let rest : AreToldBy ps answers = cc in
    let it = told_at ps answers k a rest at in
    record { txn = it.txn; at = it.at }

told_length : (ps : List Progress) (answers : List Answer) → AreToldBy ps answers → length answers ≡ length ps
told_length [] [] told = refl
told_length [] (b ∷ answers) told = absurd cc
told_length (p ∷ ps) [] told = absurd cc
told_length (p ∷ ps) (b ∷ answers) told = (let rest : AreToldBy ps answers = cc in ap suc (told_length ps answers rest))

told_count : (ps : List Progress) (answers : List Answer) → AreToldBy ps answers → count_by has_place answers ≡ count_by is_placed ps
told_count [] [] told = refl
told_count [] (b ∷ answers) told = absurd cc
told_count (p ∷ ps) [] told = absurd cc
told_count (p ∷ ps) (b ∷ answers) told =
    let head : told_by p ≡ Some b = cc in
    let rest : AreToldBy ps answers = cc in
    let it = told_one p b head in
    let here : ◌≡◌ {A = ℕ} (cond (has_place b) 1 0) (cond (is_placed p) 1 0) = ap {B = ℕ} (λ (x : Progress). cond (is_placed x) 1 0) (sym it.is) in
    omega (
      arith,
      sum_by-cons (λ (x : Answer). cond (has_place x) 1 0) b answers,
      sum_by-cons (λ (x : Progress). cond (is_placed x) 1 0) p ps,
      here,
      told_count ps answers rest,
    )

record MappedAt (ps : List Progress) (k : ℕ) (o : Option ℕ) : Type 0 where
  p : Progress
  at : slice_get ps k ≡ Some p
  is : txn_of p ≡ o

mapped_at : (ps : List Progress) (k : ℕ) (o : Option ℕ) → slice_get (map txn_of ps) k ≡ Some o → MappedAt ps k o
mapped_at [] k o at = absurd cc
mapped_at (p ∷ ps) zero o at = record { p = p; at = refl; is = cc }
mapped_at (p ∷ ps) (suc k) o at = (let it = mapped_at ps k o at in record { p = it.p; at = it.at; is = it.is })

map_at : (ps : List Progress) (k : ℕ) (p : Progress) → slice_get ps k ≡ Some p → slice_get (map txn_of ps) k ≡ Some (txn_of p)
map_at [] k p at = absurd cc
map_at (q ∷ ps) zero p at = (let same : q ≡ p = cc in ap (λ (x : Progress). Some (txn_of x)) same)
map_at (q ∷ ps) (suc k) p at = map_at ps k p at

length_map : (ps : List Progress) → length (map txn_of ps) ≡ length ps
length_map [] = refl
length_map (p ∷ ps) = ap suc (length_map ps)

pub reported : (start : Core) (calls : List Call) (state : Core) (ps : List Progress) (answers : List Answer)
    → Keeps start calls state ps → Legal state.procs state.events → AreToldBy ps answers
    → Reports start calls state answers
reported start calls state ps answers keeps legal told = record {
  stays = keeps.stays;
  legal = legal;
  txns = map txn_of ps;
  tells = record {
    begins = keeps.begins;
    one_each = told_length ps answers told ∙ keeps.one_each;
    txn_each = length_map ps ∙ keeps.one_each;
    fits = λ k a o c at own of.
        let it = told_at ps answers k a told at in
        let m = mapped_at ps k o own in
        let both : Some m.p ≡ Some (Answered a it.txn) = sym m.at ∙ it.at in
        let same : m.p ≡ Answered a it.txn = cc in
        let txn : serial_of it.txn ≡ o = sym (ap txn_of same) ∙ m.is in
        subst (AnswerFits start state (call_of c) a) txn (keeps.fits k (Answered a it.txn) c it.at of);
    own = λ i j t a b.
        let x = mapped_at ps i (Some t) a in
        let y = mapped_at ps j (Some t) b in
        keeps.own i j x.p y.p t x.at y.at x.is y.is;
    known = λ place t proc args low stands.
        let x = keeps.known place t proc args low stands in
        record { k = x.k; own = map_at ps x.k x.progress x.at ∙ ap (λ (o : Option ℕ). Some o) x.own; c = x.c; of = x.of; same = x.same };
    places = λ i j a b place at bt is js.
        let x = told_at ps answers i a told at in
        let y = told_at ps answers j b told bt in
        keeps.places i j (Answered a x.txn) (Answered b y.txn) place x.at y.at is js;
    ends_placed = (let n = told_count ps answers told in let old = keeps.ends_placed in omega (arith, n, old));
  };
}
