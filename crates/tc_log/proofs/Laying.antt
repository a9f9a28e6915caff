-- One event more in a log of heads and words.
use Rattle.std.proofs.Common.{arith, ◌≡◌, ℕ, zero, suc, ◌+◌, ◌-◌, ◌*◌, ◌<◌, ◌≤◌}
use Rattle.std.proofs.Common.{List, [], ◌∷◌, ◌++◌, length, take, drop, replicate, reverse}
use Rattle.std.proofs.Common.{sym, refl, ap, ap₂, subst, ◌∙◌}
use Rattle.std.specs.Prelude.{Option, Some, None, slice_index_or}
use Rattle.std.specs.List.{slice_get, flat_map}
use Rattle.std.specs.Int.{w64, to_le_bytes, from_le_bytes}
use borrow.Rule.Slice.PartMut.{put_mid}
use Rattle.std.proofs.lemmas.List.{length-append, length-take-le, length-drop, length-reverse, nil_from_length}
use Rattle.std.proofs.lemmas.List.{take-append-drop, take-append-le, take_at, take_more, take_all}
use Rattle.std.proofs.lemmas.List.{drop_at, drop-drop, drop-append-le, get_or-drop, get_or_append_left}
use Rattle.std.proofs.lemmas.List.{append_assoc, map-append, reverse-append, reverse-reverse}
use Rattle.std.proofs.lemmas.List.{replicate-append-replicate}
use Rattle.std.proofs.lemmas.List.Concat.{flat_map-append}
use Rattle.std.proofs.lemmas.Nat.{le_bytes_8}
use Rattle.std.proofs.Math.Seq.{take-add}
use Rattle.access_slots.specs.declared.slot.Record.{Record}
use Rattle.access_slots.specs.declared.op.Op.{Op}
use Rattle.access_slots.specs.declared.op.Said.{Said}
use Rattle.access_slots.specs.declared.kind.OpKind.{OpKind}
use Rattle.access_slots.specs.declared.kind.SaidKind.{SaidKind}
use Rattle.access_slots.specs.Locks.{target}
use Rattle.access_slots.specs.Kinds.{op_value, IsOpAgain, said_value, IsSaidAgain}
use Rattle.access_slots.proofs.KindLemmas.{op_made, said_made}
use Rattle.tc_log.specs.declared.event.Event.{Event}
use Rattle.tc_log.specs.declared.event.Event.TheVariants.{Admit, Ask, Answer, Undo, End, Checkpoint}
use Rattle.tc_log.specs.declared.event.Outcome.{Outcome}
use Rattle.tc_log.specs.declared.event.Outcome.TheVariants as outcome
use Rattle.tc_log.specs.declared.heads.Kind.{Kind}
use Rattle.tc_log.specs.declared.heads.Kind.TheVariants.{Admits, AdmitsMany, Asks, Answers, Undoes}
use Rattle.tc_log.specs.declared.heads.Kind.TheVariants.{Commits, Aborts, LacksRoom, Begins}
use Rattle.tc_log.specs.declared.heads.Head.{Head}
use Rattle.tc_log.specs.Printed.{printed}
use Rattle.tc_log.proofs.Lengths.{numbers_long}
use Rattle.tc_log.specs.Heads.{Words, Calls, filled, value_at, words_in, head_with, event_by, event_of, events_of}
use Rattle.tc_log.specs.Heads.{IsCallWithin, IsWithin, AllWithin, IsKept, IsEnd, IsLaid}

append_nothing : {X : Type 0} (xs : List X) → xs ≡ xs ++ []
append_nothing [] = refl
append_nothing (x ∷ xs) = ap (λ ys. x ∷ ys) (append_nothing xs)

-- ---- the words of a value

one_more : (n : ℕ) (v : List ℕ) → words_in (suc n) v ≡ words_in n v ++ from_le_bytes w64 (take 8 (drop (8 * n) v)) ∷ []
one_more zero v = refl
one_more (suc n) v =
    ap (λ (ws : Words). from_le_bytes w64 (take 8 v) ∷ ws)
    (one_more n (drop 8 v)
    ∙ ap (λ (b : List ℕ). words_in n (drop 8 v) ++ from_le_bytes w64 (take 8 b) ∷ [])
    (drop-drop (8 * n) 8 v ∙ ap (λ (k : ℕ). drop k v) (eight n)))
  where
    eight : (k : ℕ) → 8 + 8 * k ≡ 8 * suc k
    eight k = omega arith

pub one_word_more : (n : ℕ) (v : List ℕ) → words_in (n + 1) v ≡ words_in n v ++ from_le_bytes w64 (take 8 (drop (8 * n) v)) ∷ []
one_word_more n v = ap (λ (k : ℕ). words_in k v) (next n) ∙ one_more n v
  where
    next : (k : ℕ) → k + 1 ≡ suc k
    next k = omega arith

words_count : (n : ℕ) (v : List ℕ) → length (words_in n v) ≡ n
words_count zero v = refl
words_count (suc n) v = ap suc (words_count n (drop 8 v))

abbrev pub AreSmall : List ℕ → Type 0
AreSmall v = (i : ℕ) → slice_index_or v i 0 < 256

small_behind : (v : List ℕ) (n : ℕ) → AreSmall v → AreSmall (drop n v)
small_behind v n small = λ i. subst (λ (x : ℕ). x < 256) (sym (get_or-drop n v i 0)) (small (n + i))

small_before : (v : List ℕ) (n : ℕ) → AreSmall v → AreSmall (take n v)
small_before v zero small i = omega arith
small_before [] (suc n) small i = omega arith
small_before (x ∷ v) (suc n) small zero = small 0
small_before (x ∷ v) (suc n) small (suc i) = small_before v n (λ j. small (suc j)) i

word_bytes : (v : List ℕ) → AreSmall v → 8 ≤ length v → to_le_bytes w64 (from_le_bytes w64 (take 8 v)) ≡ take 8 v
word_bytes v small long = le_bytes_8 (take 8 v) (from_le_bytes w64 (take 8 v)) (length-take-le 8 v long) (small_before v 8 small) refl

words_joined : (n : ℕ) (v : List ℕ) → AreSmall v → 8 * n ≤ length v → flat_map (to_le_bytes w64) (words_in n v) ≡ take (8 * n) v
words_joined zero v small long = refl
words_joined (suc n) v small long =
    ap₂ (λ (a b : List ℕ). a ++ b) (word_bytes v small (omega (arith, long)))
    (words_joined n (drop 8 v) (small_behind v 8 small) (let left = length-drop 8 v in omega (arith, left, long)))
    ∙ sym (take-add 8 (8 * n) v) ∙ ap (λ (k : ℕ). take k v) (eight n)
  where
    eight : (k : ℕ) → 8 + 8 * k ≡ 8 * suc k
    eight k = omega arith

kept : (old new : Words) (v : List ℕ) (n : ℕ) → AreSmall v → length v ≡ 64 → new ≡ old ++ words_in n v → n ≤ 8
    → drop (8 * n) v ≡ replicate (64 - 8 * n) 0 → IsKept old new (Some v) n
kept old new v n small long is few zeros = record {
  more = words_in n v;
  is = is;
  counts = words_count n v;
  few = few;
  fills =
      ap₂ (λ (a b : List ℕ). a ++ b) (words_joined n v small (omega (arith, long, few))) (sym zeros)
      ∙ take-append-drop (8 * n) v;
}

pub none_left : (v : List ℕ) → length v ≡ 64 → drop 64 v ≡ []
none_left v long = nil_from_length (drop 64 v) (length-drop 64 v ∙ omega (arith, long))

pub keep_further : (old mid new : Words) (v : List ℕ) (word n m : ℕ) → mid ≡ old ++ words_in n v → new ≡ mid ++ word ∷ []
    → word ≡ from_le_bytes w64 (take m (drop (8 * n) v)) → m ≡ 8
    → new ≡ old ++ words_in (n + 1) v
keep_further old mid new v word n m before is cut eight =
    is
    ∙ ap₂ (λ (ws : Words) (w : ℕ). ws ++ w ∷ []) before (cut ∙ ap (λ (k : ℕ). from_le_bytes w64 (take k (drop (8 * n) v))) eight)
    ∙ append_assoc old (words_in n v) (from_le_bytes w64 (take 8 (drop (8 * n) v)) ∷ [])
    ∙ ap (λ (ws : Words). old ++ ws) (sym (one_word_more n v))

pub kept_count : (old mid : Words) (v : List ℕ) (n : ℕ) → mid ≡ old ++ words_in n v → length mid ≡ length old + n
kept_count old mid v n is = ap length is ∙ length-append old (words_in n v) ∙ ap (λ (k : ℕ). length old + k) (words_count n v)

pub kept_all : (old new : Words) (v : List ℕ) (n last : ℕ) → AreSmall v → length v ≡ 64 → new ≡ old ++ words_in last v
    → last ≡ n → n ≤ 8 → drop (8 * n) v ≡ replicate (64 - 8 * n) 0 → IsKept old new (Some v) n
kept_all old new v n last small long is at few zeros =
    kept old new v n small long (is ∙ ap (λ (k : ℕ). old ++ words_in k v) at) few zeros

pub none_kept : (words : Words) → IsKept words words None 0
none_kept words = record { more = []; is = append_nothing words; counts = refl; few = omega arith; fills = tt }

pub zero_word : (v : List ℕ) (n m word : ℕ) → AreSmall v → 8 * n + 8 ≤ length v → m ≡ 8 → word ≡ from_le_bytes w64 (take m (drop (8 * n) v)) → word ≡ 0
    → take m (drop (8 * n) v) ≡ replicate 8 0
zero_word v n m word small long eight is none =
    ap (λ (k : ℕ). take k (drop (8 * n) v)) eight
    ∙ sym (word_bytes (drop (8 * n) v) (small_behind v (8 * n) small) (let left = length-drop (8 * n) v in omega (arith, left, long)))
    ∙ ap (to_le_bytes w64) (ap (λ (k : ℕ). from_le_bytes w64 (take k (drop (8 * n) v))) (sym eight) ∙ sym is ∙ none)

-- one word fewer is kept of a value
pub one_word_fewer : (v front : List ℕ) (n less m : ℕ) → n ≤ 8 → n ≡ less + 1 → drop (8 * n) v ≡ replicate (64 - 8 * n) 0
    → front ≡ take m (drop (8 * less) v) → m ≡ 8 → front ≡ replicate 8 0 → drop (8 * less) v ≡ replicate (64 - 8 * less) 0
one_word_fewer v front n less m few is zeros cut eight none =
    sym (take-append-drop 8 (drop (8 * less) v))
    ∙ ap₂ (λ (a b : List ℕ). a ++ b) (ap (λ (k : ℕ). take k (drop (8 * less) v)) (sym eight) ∙ sym cut ∙ none)
    (drop-drop 8 (8 * less) v ∙ ap (λ (k : ℕ). drop k v) (omega (arith, is)) ∙ zeros)
    ∙ replicate-append-replicate 8 (64 - 8 * n) 0
    ∙ ap (λ (k : ℕ). replicate k 0) (omega (arith, is, few))

-- ---- a value from its words

joined_further : (words : Words) (place at word d : ℕ) → word ≡ slice_index_or words (place + at) d → place + at < length words
    → flat_map (to_le_bytes w64) (take (at + 1) (drop place words)) ≡ flat_map (to_le_bytes w64) (take at (drop place words)) ++ to_le_bytes w64 word
joined_further words place at word d is inside =
    ap (flat_map (to_le_bytes w64))
    (take_more (drop place words) at d (let left = length-drop place words in omega (arith, left, inside))
    ∙ ap (λ (w : ℕ). take at (drop place words) ++ w ∷ []) (get_or-drop place words at d ∙ sym is))
    ∙ flat_map-append (to_le_bytes w64) (take at (drop place words)) (word ∷ [])
    ∙ ap (λ (b : List ℕ). flat_map (to_le_bytes w64) (take at (drop place words)) ++ b) (sym (append_nothing (to_le_bytes w64 word)))

words_long : (words : Words) (place at : ℕ) → place + at ≤ length words → length (flat_map (to_le_bytes w64) (take at (drop place words))) ≡ 8 * at
words_long words place at inside =
    numbers_long (take at (drop place words))
    ∙ ap (λ (k : ℕ). 8 * k) (length-take-le at (drop place words) (let left = length-drop place words in omega (arith, left, inside)))

pub value_further : (words : Words) (place at m word d : ℕ) (value bytes : List ℕ) → value ≡ value_at words place at
    → word ≡ slice_index_or words (place + at) d → bytes ≡ to_le_bytes w64 word
    → place + at < length words → at < 8 → m ≡ 8
    → put_mid (8 * at) m value bytes ≡ value_at words place (at + 1)
value_further words place at m word d value bytes before is written inside few whole =
    ap₂ (λ (a b : List ℕ). a ++ (bytes ++ b)) front back
    ∙ ap (λ (b : List ℕ). words_before ++ (b ++ replicate (64 - 8 * (at + 1)) 0)) written
    ∙ sym (append_assoc words_before (to_le_bytes w64 word) (replicate (64 - 8 * (at + 1)) 0))
    ∙ ap (λ (ws : List ℕ). ws ++ replicate (64 - 8 * (at + 1)) 0) (sym (joined_further words place at word d is inside))
  where
    words_before : List ℕ
    words_before = flat_map (to_le_bytes w64) (take at (drop place words))

    long : length words_before ≡ 8 * at
    long = words_long words place at (omega (arith, inside))

    front : take (8 * at) value ≡ words_before
    front = ap (λ (b : List ℕ). take (8 * at) b) before ∙ take_at words_before (replicate (64 - 8 * at) 0) (8 * at) long

    more : (k : ℕ) → k < 8 → 64 - 8 * k ≡ 8 + (64 - 8 * (k + 1))
    more k few = omega (arith, few)

    rest : (k : ℕ) → drop 8 (replicate {A = ℕ} (8 + k) 0) ≡ replicate k 0
    rest k = ap (λ (b : List ℕ). drop 8 b) (sym (replicate-append-replicate 8 k 0)) ∙ drop_at (replicate {A = ℕ} 8 0) (replicate k 0) 8 refl

    back : drop m (drop (8 * at) value) ≡ replicate (64 - 8 * (at + 1)) 0
    back =
        ap (λ (b : List ℕ). drop m b) (ap (λ (b : List ℕ). drop (8 * at) b) before ∙ drop_at words_before (replicate (64 - 8 * at) 0) (8 * at) long)
        ∙ ap₂ (λ (j k : ℕ). drop j (replicate {A = ℕ} k 0)) whole (more at few)
        ∙ rest (64 - 8 * (at + 1))

-- ---- one head more

words_there : (words more : Words) (n : ℕ) → length more ≡ n → take n (drop (length words) (words ++ more)) ≡ more
words_there words more n count =
    ap (λ (ws : Words). take n ws) (drop_at words more (length words) refl) ∙ take_all n more (omega (arith, count))

laid_words : (words new : Words) (calls : Calls) (e : Event) (h : Head) (more : Words) → new ≡ words ++ more → length more ≡ h.count → h.count ≤ 8
    → h.place ≡ length words → IsCallWithin (length calls) h.kind h.key → event_by h.kind h more (slice_index_or calls h.key []) ≡ e
    → IsLaid words new calls calls e h
laid_words words new calls e h more is count few at call means = record {
  more = more;
  is = is;
  few = omega (arith, count, few);
  calls_more = [];
  calls_is = append_nothing calls;
  one = omega arith;
  within = record { named = (let all = ap length is in omega (arith, all, at, count, length-append words more)); few = few; call = call };
  means = ap (λ (v : Words). event_by h.kind h v (slice_index_or calls h.key []))
      (ap₂ (λ (ws : Words) (p : ℕ). take h.count (drop p ws)) is at ∙ words_there words more h.count count) ∙ means;
}

pub laid_ask : (words new : Words) (calls : Calls) (e : Event) (h : Head) (txn number place count : ℕ) (o : Op)
    (r : Record) (k : OpKind) (value : Option (List ℕ)) → IsKept words new value count → value ≡ op_value o
    → IsOpAgain o k → r ≡ target o → place ≡ length words → h ≡ head_with (Asks k) txn number r place count
    → e ≡ Ask txn number o → IsLaid words new calls calls e h
laid_ask words new calls e h txn number place count o r k value kept written again named at parts is =
    subst (λ (g : Head). IsLaid words new calls calls e g) (sym parts)
    (laid_words words new calls e (head_with (Asks k) txn number r place count) kept.more kept.is kept.counts kept.few
    at tt
    (ap (λ (p : Op). Ask txn number p) (op_made o k r value (filled count kept.more) again named written kept.fills)
    ∙ sym is))

pub laid_undo : (words new : Words) (calls : Calls) (e : Event) (h : Head) (txn number place count : ℕ) (o : Op)
    (r : Record) (k : OpKind) (value : Option (List ℕ)) → IsKept words new value count → value ≡ op_value o
    → IsOpAgain o k → r ≡ target o → place ≡ length words → h ≡ head_with (Undoes k) txn number r place count
    → e ≡ Undo txn number o → IsLaid words new calls calls e h
laid_undo words new calls e h txn number place count o r k value kept written again named at parts is =
    subst (λ (g : Head). IsLaid words new calls calls e g) (sym parts)
    (laid_words words new calls e (head_with (Undoes k) txn number r place count) kept.more kept.is kept.counts
    kept.few at tt
    (ap (λ (p : Op). Undo txn number p) (op_made o k r value (filled count kept.more) again named written kept.fills)
    ∙ sym is))

pub laid_answer : (words new : Words) (calls : Calls) (e : Event) (h : Head) (txn number place count : ℕ) (a : Said)
    (r : Record) (k : SaidKind) (value : Option (List ℕ)) → IsKept words new value count → value ≡ said_value a
    → IsSaidAgain a k → place ≡ length words → h ≡ head_with (Answers k) txn number r place count
    → e ≡ Answer txn number a → IsLaid words new calls calls e h
laid_answer words new calls e h txn number place count a r k value kept told again at parts is =
    subst (λ (g : Head). IsLaid words new calls calls e g) (sym parts)
    (laid_words words new calls e (head_with (Answers k) txn number r place count) kept.more kept.is kept.counts
    kept.few at tt
    (ap (λ (s : Said). Answer txn number s) (said_made a k value (filled count kept.more) again told kept.fills)
    ∙ sym is))

-- of an event that has no words
laid_plainly : (words : Words) (calls : Calls) (e : Event) (h : Head) → h.count ≡ 0
    → h.place ≡ length words → IsCallWithin (length calls) h.kind h.key → event_by h.kind h [] (slice_index_or calls h.key []) ≡ e
    → IsLaid words words calls calls e h
laid_plainly words calls e h none at call means = laid_words words words calls e h [] (append_nothing words) (sym none) (omega (arith, none)) at call means

pub laid_end : (words : Words) (calls : Calls) (e : Event) (h : Head) (txn number place : ℕ) (r : Record) (o : Outcome) (kind : Kind)
    → IsEnd o kind number → place ≡ length words → h ≡ head_with kind txn number r place 0 → e ≡ End txn o
    → IsLaid words words calls calls e h
laid_end words calls e h txn number place r outcome.Committed kind ends at parts is =
    subst (λ (g : Head). IsLaid words words calls calls e g) (sym (parts ∙ ap (λ (k : Kind). head_with k txn number r place 0) ends))
    (laid_plainly words calls e (head_with Commits txn number r place 0) refl at tt (sym is))
laid_end words calls e h txn number place r (outcome.Aborted v) kind ends at parts is =
    subst (λ (g : Head). IsLaid words words calls calls e g) (sym (parts ∙ ap₂ (λ (k : Kind) (n : ℕ). head_with k txn n r place 0) ends.0 ends.1))
    (laid_plainly words calls e (head_with Aborts txn v r place 0) refl at tt (sym is))
laid_end words calls e h txn number place r outcome.NoRoom kind ends at parts is =
    subst (λ (g : Head). IsLaid words words calls calls e g) (sym (parts ∙ ap (λ (k : Kind). head_with k txn number r place 0) ends))
    (laid_plainly words calls e (head_with LacksRoom txn number r place 0) refl at tt (sym is))

pub laid_checkpoint : (words : Words) (calls : Calls) (e : Event) (h : Head) (txn number place : ℕ) (r : Record)
    → place ≡ length words → h ≡ head_with Begins txn number r place 0 → e ≡ Checkpoint txn number
    → IsLaid words words calls calls e h
laid_checkpoint words calls e h txn number place r at parts is =
    subst (λ (g : Head). IsLaid words words calls calls e g) (sym parts) (laid_plainly words calls e (head_with Begins txn number r place 0) refl at tt (sym is))

last_is : {X : Type 0} (xs : List X) (y d : X) → slice_index_or (xs ++ y ∷ []) (length xs) d ≡ y
last_is [] y d = refl
last_is (x ∷ xs) y d = last_is xs y d

pub laid_admit : (words : Words) (calls new : Calls) (e : Event) (h : Head) (txn proc place key dc table : ℕ) (args : List ℕ)
    → new ≡ calls ++ args ∷ [] → key ≡ length calls → place ≡ length words
    → h ≡ record { txn = txn; number = proc; key = key; place = place; dc = dc; table = table; kind = AdmitsMany; count = 0 } → e ≡ Admit txn proc args
    → IsLaid words words calls new e h
laid_admit words calls new e h txn proc place key dc table args grown named at parts is = record {
  more = [];
  is = append_nothing words;
  few = omega arith;
  calls_more = args ∷ [];
  calls_is = grown;
  one = omega arith;
  within = subst (λ (g : Head). IsWithin (length words) (length new) g) (sym parts) (record {
    named = omega (arith, at);
    few = omega arith;
    call = (let all = ap length grown in omega (arith, all, named, length-append calls (args ∷ [])));
  });
  means = ap (event_of words new) parts ∙ ap (λ (a : List ℕ). Admit txn proc a) (ap₂ (λ (cs : Calls) (k : ℕ). slice_index_or cs k []) grown named ∙ last_is calls args []) ∙ sym is;
}

-- ---- the events of before

call_kept : (calls more : Calls) (kind : Kind) (h : Head) (ws : Words) → IsCallWithin (length calls) kind h.key
    → event_by kind h ws (slice_index_or (calls ++ more) h.key []) ≡ event_by kind h ws (slice_index_or calls h.key [])
call_kept calls more Admits h ws call = refl
call_kept calls more AdmitsMany h ws call = ap (λ (a : List ℕ). Admit h.txn h.number a) (get_or_append_left calls more [] h.key call)
call_kept calls more (Asks k) h ws call = refl
call_kept calls more (Answers k) h ws call = refl
call_kept calls more (Undoes k) h ws call = refl
call_kept calls more Commits h ws call = refl
call_kept calls more Aborts h ws call = refl
call_kept calls more LacksRoom h ws call = refl
call_kept calls more Begins h ws call = refl

words_kept : (words more : Words) (place n : ℕ) → place + n ≤ length words → take n (drop place (words ++ more)) ≡ take n (drop place words)
words_kept words more place n inside =
    ap (λ (ws : Words). take n ws) (drop-append-le place words more (omega (arith, inside)))
    ∙ take-append-le n (drop place words) more (let left = length-drop place words in omega (arith, left, inside))

event_kept : (words more : Words) (calls calls_more : Calls) (h : Head) → IsWithin (length words) (length calls) h
    → event_of (words ++ more) (calls ++ calls_more) h ≡ event_of words calls h
event_kept words more calls calls_more h is =
    ap (λ (ws : Words). event_by h.kind h ws (slice_index_or (calls ++ calls_more) h.key [])) (words_kept words more h.place h.count is.named)
    ∙ call_kept calls calls_more h.kind h (take h.count (drop h.place words)) is.call

events_kept : (words more : Words) (calls calls_more : Calls) (heads : List Head) → AllWithin (length words) (length calls) heads
    → events_of (words ++ more) (calls ++ calls_more) heads ≡ events_of words calls heads
events_kept words more calls calls_more [] all = refl
events_kept words more calls calls_more (h ∷ heads) all =
    ap₂ (λ (e : Event) (es : List Event). e ∷ es) (event_kept words more calls calls_more h all.0) (events_kept words more calls calls_more heads all.1)

call_more : (n m : ℕ) (kind : Kind) (key : ℕ) → n ≤ m → IsCallWithin n kind key → IsCallWithin m kind key
call_more n m Admits key more call = tt
call_more n m AdmitsMany key more call = omega (arith, more, call)
call_more n m (Asks k) key more call = tt
call_more n m (Answers k) key more call = tt
call_more n m (Undoes k) key more call = tt
call_more n m Commits key more call = tt
call_more n m Aborts key more call = tt
call_more n m LacksRoom key more call = tt
call_more n m Begins key more call = tt

within_pushed : (w v c d : ℕ) (heads : List Head) (h : Head) → w ≤ v → c ≤ d → AllWithin w c heads → IsWithin v d h → AllWithin v d (heads ++ h ∷ [])
within_pushed w v c d [] h more calls_more all is = (is, tt)
within_pushed w v c d (g ∷ heads) h more calls_more all is = (
  record { named = (let at = all.0.named in omega (arith, at, more)); few = all.0.few; call = call_more c d g.kind g.key calls_more all.0.call },
  within_pushed w v c d heads h more calls_more all.1 is,
)

longer : {X : Type 0} (old new more : List X) → new ≡ old ++ more → length old ≤ length new
longer old new more is = let count = ap length is in omega (arith, count, length-append old more)

at_most : {X : Type 0} (old new more : List X) (n : ℕ) → new ≡ old ++ more → length more ≤ n → length new ≤ length old + n
at_most old new more n is few = let count = ap length is in omega (arith, count, few, length-append old more)

pub pushed_within : (words new : Words) (calls calls_new : Calls) (heads behind : List Head) (h : Head) (e : Event) → AllWithin (length words) (length calls) heads
    → IsLaid words new calls calls_new e h → behind ≡ heads ++ h ∷ [] → AllWithin (length new) (length calls_new) behind
pushed_within words new calls calls_new heads behind h e all laid is =
    subst (λ (hs : List Head). AllWithin (length new) (length calls_new) hs) (sym is)
    (within_pushed (length words) (length new) (length calls) (length calls_new) heads h (longer words new laid.more laid.is) (longer calls calls_new laid.calls_more laid.calls_is) all laid.within)

pub pushed_words : (words new : Words) (calls calls_new : Calls) (heads behind : List Head) (h : Head) (e : Event) → length words ≤ 8 * length heads
    → IsLaid words new calls calls_new e h → behind ≡ heads ++ h ∷ [] → length new ≤ 8 * length behind
pushed_words words new calls calls_new heads behind h e few laid is =
    let some = at_most words new laid.more 8 laid.is laid.few in
    let count = ap length is in
    omega (arith, some, few, count, length-append heads (h ∷ []))

pub pushed_calls : (words new : Words) (calls calls_new : Calls) (heads behind : List Head) (h : Head) (e : Event) → length calls ≤ length heads
    → IsLaid words new calls calls_new e h → behind ≡ heads ++ h ∷ [] → length calls_new ≤ length behind
pushed_calls words new calls calls_new heads behind h e few laid is =
    let some = at_most calls calls_new laid.calls_more 1 laid.calls_is laid.one in
    let count = ap length is in
    omega (arith, some, few, count, length-append heads (h ∷ []))

pub pushed_events : (words new : Words) (calls calls_new : Calls) (heads behind : List Head) (h : Head) (e : Event) → AllWithin (length words) (length calls) heads
    → IsLaid words new calls calls_new e h → behind ≡ heads ++ h ∷ []
    → reverse (events_of new calls_new behind) ≡ e ∷ reverse (events_of words calls heads)
pushed_events words new calls calls_new heads behind h e all laid is =
    ap (λ (hs : List Head). reverse (events_of new calls_new hs)) is
    ∙ ap reverse (map-append (event_of new calls_new) heads (h ∷ []))
    ∙ reverse-append (events_of new calls_new heads) (event_of new calls_new h ∷ [])
    ∙ ap₂ (λ (x : Event) (xs : List Event). x ∷ reverse xs) laid.means
    (ap₂ (λ (ws : Words) (cs : Calls). events_of ws cs heads) laid.is laid.calls_is ∙ events_kept words laid.more calls laid.calls_more heads all)

-- ---- one of them

events_count : (words : Words) (calls : Calls) (heads : List Head) → length (events_of words calls heads) ≡ length heads
events_count words calls [] = refl
events_count words calls (h ∷ heads) = ap suc (events_count words calls heads)

seen_count : (words : Words) (calls : Calls) (heads : List Head) (events : List Event) → reverse (events_of words calls heads) ≡ events → length events ≡ length heads
seen_count words calls heads events is = ap length (sym is) ∙ length-reverse (events_of words calls heads) ∙ events_count words calls heads

within_at : (w c : ℕ) (heads : List Head) (place : ℕ) (d : Head) → AllWithin w c heads → place < length heads → IsWithin w c (slice_index_or heads place d)
within_at w c [] place d all inside = absurd (omega (arith, inside))
within_at w c (h ∷ heads) zero d all inside = all.0
within_at w c (h ∷ heads) (suc place) d all inside = within_at w c heads place d all.1 (omega (arith, inside))

pub inside_heads : (words : Words) (calls : Calls) (heads : List Head) (events : List Event) (place : ℕ) → reverse (events_of words calls heads) ≡ events
    → place < length events → place < length heads
inside_heads words calls heads events place is inside = let same = seen_count words calls heads events is in omega (arith, same, inside)

pub entry_within : (words ws : Words) (calls cs : Calls) (heads : List Head) (place : ℕ) (h : Head) → AllWithin (length words) (length calls) heads
    → ws ≡ words → cs ≡ calls → place < length heads → h ≡ slice_index_or heads place h → IsWithin (length ws) (length cs) h
entry_within words ws calls cs heads place h all same same_calls inside is =
    subst (λ (g : Head). IsWithin (length ws) (length cs) g) (sym is)
    (rw (same, same_calls) (within_at (length words) (length calls) heads place h all inside))

seen_there : (words : Words) (calls : Calls) (heads : List Head) (place : ℕ) (d : Head) → place < length heads
    → slice_get (events_of words calls heads) place ≡ Some (event_of words calls (slice_index_or heads place d))
seen_there words calls [] place d inside = absurd (omega (arith, inside))
seen_there words calls (h ∷ heads) zero d inside = refl
seen_there words calls (h ∷ heads) (suc place) d inside = seen_there words calls heads place d (omega (arith, inside))

seen_at : (words : Words) (calls : Calls) (heads : List Head) (events : List Event) (place : ℕ) (d : Head) → reverse (events_of words calls heads) ≡ events
    → place < length heads → slice_get (reverse events) place ≡ Some (event_of words calls (slice_index_or heads place d))
seen_at words calls heads events place d is inside =
    ap (λ (es : List Event). slice_get (reverse es) place) (sym is)
    ∙ ap (λ (es : List Event). slice_get es place) (reverse-reverse (events_of words calls heads))
    ∙ seen_there words calls heads place d inside

pub entry_seen : (words ws : Words) (calls cs : Calls) (heads : List Head) (events : List Event) (place : ℕ) (h : Head) (e : Event) → reverse (events_of words calls heads) ≡ events
    → ws ≡ words → cs ≡ calls → place < length heads → h ≡ slice_index_or heads place h → e ≡ event_of ws cs h → slice_get (reverse events) place ≡ Some e
entry_seen words ws calls cs heads events place h e view same same_calls inside is means =
    seen_at words calls heads events place h view inside
    ∙ ap (λ (g : Head). Some (event_of words calls g)) (sym is)
    ∙ ap₂ (λ (vs : Words) (ds : Calls). Some (event_of vs ds h)) (sym same) (sym same_calls)
    ∙ ap (λ (x : Event). Some x) (sym means)

pub none_there : {X : Type 0} (events : List X) (place : ℕ) → length events ≤ place → slice_get (reverse events) place ≡ None
none_there events place few = none_behind (reverse events) place (let same = length-reverse events in omega (arith, same, few))
  where
    none_behind : {X : Type 0} (xs : List X) (i : ℕ) → length xs ≤ i → slice_get xs i ≡ None
    none_behind [] i few = refl
    none_behind (x ∷ xs) zero few = absurd (omega (arith, few))
    none_behind (x ∷ xs) (suc i) few = none_behind xs i (omega (arith, few))

-- ---- printing one after another

dropped_there : {X : Type 0} (events : List X) (place : ℕ) (e : X) → slice_get events place ≡ Some e → drop place events ≡ e ∷ drop (suc place) events
dropped_there [] place e is = let bad : None ≡ Some e = is in cc
dropped_there (x ∷ events) zero e is = let same : Some x ≡ Some e = is in cc
dropped_there (x ∷ events) (suc place) e is = dropped_there events place e is

pub first_there : (events : List Event) (place : ℕ) (e : Event) → slice_get events place ≡ Some e → drop place events ≡ e ∷ drop (place + 1) events
first_there events place e is = dropped_there events place e is ∙ ap (λ (k : ℕ). e ∷ drop k events) (next place)
  where
    next : (k : ℕ) → suc k ≡ k + 1
    next k = omega arith

pub printed_next : (out new all : List ℕ) (events : List Event) (place number : ℕ) (e : Event) → out ++ flat_map printed (drop (place + number) events) ≡ all
    → slice_get events (place + number) ≡ Some e → new ≡ out ++ printed e → new ++ flat_map printed (drop (place + (number + 1)) events) ≡ all
printed_next out new all events place number e so_far there is =
    ap₂ (λ (b : List ℕ) (k : ℕ). b ++ flat_map printed (drop k events)) is (next place number)
    ∙ append_assoc out (printed e) (flat_map printed (drop (suc (place + number)) events))
    ∙ ap (λ (es : List Event). out ++ flat_map printed es) (sym (dropped_there events (place + number) e there))
    ∙ so_far
  where
    next : (a b : ℕ) → a + (b + 1) ≡ suc (a + b)
    next a b = omega arith

-- ---- reading one after another

pub reversed : (old new : List Event) (e : Event) → new ≡ e ∷ old → reverse new ≡ reverse old ++ e ∷ []
reversed old new e is = ap reverse is ∙ reverse-append (e ∷ []) old

pub counted : (old new : List Event) (e : Event) (n : ℕ) → new ≡ e ∷ old → length (reverse old) ≡ n → length (reverse new) ≡ n + 1
counted old new e n is before = ap length (reversed old new e is) ∙ length-append (reverse old) (e ∷ []) ∙ omega (arith, before)
