-- One call more.
use Rattle.std.proofs.Common.{◌≡◌, ◌⊎◌, inl, inr, ℕ, zero, suc, ◌*◌, List, [], ◌∷◌, length, take, drop, refl, sym, subst, arith}
use Rattle.std.proofs.lemmas.List.{append-nil, take_all}
use Rattle.frame_file.specs.Device.{Elapses, Follows, Torn, Cut, Only, word_at}
use Rattle.disk_file.specs.Events.{Appended, CutTo, Synced, Unsynced, Event, written_by, MayLeave, LeftSince}

abbrev pub Events : Type 0
Events = List Event

one_more : (events : Events) (x : Event) → Elapses (length events) (length (x ∷ events)) (LeftSince events) (LeftSince (x ∷ events)) (MayLeave (x ∷ events))
one_more events x = record { later = omega arith; nothing_else = λ t c le left. earlier t c left; keeps = λ t c le left. inr (omega (arith, le), left) }
  where
    earlier : (t : ℕ) (c : List ℕ) → LeftSince (x ∷ events) t c → LeftSince events t c ⊎ MayLeave (x ∷ events) c
    earlier t c (inl now) = inr now
    earlier t c (inr before) = inl before.1

pub elapses_to : (events new : Events) (x : Event) → new ≡ x ∷ events → Elapses (length events) (length new) (LeftSince events) (LeftSince new) (MayLeave new)
elapses_to events new x is = subst (λ (l : Events). Elapses (length events) (length l) (LeftSince events) (LeftSince l)
    (MayLeave l)) (sym is) (one_more events x)

pub elapses_same : (events : Events) → Elapses (length events) (length events) (LeftSince events) (LeftSince events) (MayLeave events)
elapses_same events = record { later = omega arith; nothing_else = λ t c le left. inl left; keeps = λ t c le left. left }

pub appended : (events new : Events) (bytes : List ℕ) (fault : ℕ) → new ≡ record { call = Appended bytes; fault = fault } ∷ events
    → Follows (Torn bytes) (MayLeave events) (MayLeave new)
appended events new bytes fault is = subst (λ (l : Events). Follows (Torn bytes) (MayLeave events) (MayLeave l)) (sym is) (λ c left. left)

empty_word : (m : ℕ) (xs : List ℕ) → xs ≡ [] → take 8 (drop m xs) ≡ []
empty_word m (x ∷ xs) is = absurd (let bad : x ∷ xs ≡ [] = is in cc)
empty_word zero [] is = refl
empty_word (suc m) [] is = refl

none_left : (a b : List ℕ) → a ≡ [] → a ≡ take (length a) b
none_left [] b is = refl
none_left (x ∷ a) b is = absurd (let bad : x ∷ a ≡ [] = is in cc)

pub not_appended : (events : Events) (bytes : List ℕ) → Follows (Torn bytes) (MayLeave events) (MayLeave events)
not_appended events bytes c left = (
  c,
  left,
  record {
    tail = [];
    short = omega arith;
    is = sym (append-nil c);
    words = λ k. inl (none_left (word_at k []) (word_at k bytes) (empty_word (8 * k) [] refl));
  },
)

pub cut_to : (events new : Events) (n fault : ℕ) → new ≡ record { call = CutTo n; fault = fault } ∷ events → Follows (Cut n) (MayLeave events) (MayLeave new)
cut_to events new n fault is = subst (λ (l : Events). Follows (Cut n) (MayLeave events) (MayLeave l)) (sym is) (λ c left. left)

pub synced : (events new : Events) (fault : ℕ) → new ≡ record { call = Synced; fault = fault } ∷ events → Only (written_by events) (MayLeave new)
synced events new fault is = subst (λ (l : Events). Only (written_by events) (MayLeave l)) (sym is) (λ c left. left.0)

pub synced_within : (events new : Events) (fault : ℕ) → new ≡ record { call = Synced; fault = fault } ∷ events
    → (c : List ℕ) → MayLeave new c → MayLeave events c
synced_within events new fault is c left = (let there : MayLeave (record { call = Synced; fault = fault } ∷ events) c =
    subst (λ (l : Events). MayLeave l c) is left in there.1)

pub unsynced_within : (events new : Events) (fault : ℕ) → new ≡ record { call = Unsynced; fault = fault } ∷ events
    → (c : List ℕ) → MayLeave new c → MayLeave events c
unsynced_within events new fault is c left = (let there : MayLeave (record { call = Unsynced; fault = fault } ∷ events)
    c = subst (λ (l : Events). MayLeave l c) is left in there)

-- nothing was cut off
pub not_cut : (events : Events) (n : ℕ) → Follows (Cut n) (MayLeave events) (MayLeave events)
not_cut events n c left = (c, left, record { no_shorter = inr refl; front = take_all (length c) c (omega arith) })
