-- Only these events are printed so.
use Rattle.std.proofs.Common.{arith, ◌≡◌, ℕ, ◌≤◌, nat_le, Bool, true, false, List, [], ◌∷◌, ◌++◌, length, take, drop, sym, refl, ap, ap₂, subst, ◌∙◌}
use Rattle.std.specs.Prelude.{Option, Some, None, ◌==◌, ◌+◌, ◌*◌}
use Rattle.std.specs.List.{flat_map}
use Rattle.std.proofs.lemmas.Bool.{cond-true, cond-false, leb-true}
use Rattle.std.proofs.lemmas.List.{length-drop, length-take-le, take_all}
use Rattle.std.proofs.lemmas.List.{nil_from_length, take_at, drop_at, take-append-le, drop-append-le}
use Rattle.std.proofs.Math.Seq.{take-add}
use Rattle.access_slots.specs.declared.op.Op.{Op}
use Rattle.access_slots.specs.declared.op.Op.TheVariants.{Read, Insert, Update, Delete}
use Rattle.access_slots.specs.declared.op.Said.{Said}
use Rattle.access_slots.specs.declared.op.Said.TheVariants.{Value, Absent, Done, Duplicate, Missing, NoRoom, Old}
use Rattle.tc_log.specs.declared.event.Event.{Event}
use Rattle.tc_log.specs.declared.event.Event.TheVariants.{Admit, Ask, Answer, Undo, End, Checkpoint}
use Rattle.tc_log.specs.declared.event.Outcome.{Outcome}
use Rattle.tc_log.specs.declared.event.Outcome.TheVariants as outcome
use Rattle.tc_log.specs.Printed.{Cells, printed, printed_cells, zeros, op_cells}
use Rattle.tc_log.specs.Reading.{cells_in, event_in, IsEvent, IsOp, IsSaid, AreEvents, HaveRows, has_row, AreOnlyOnes}
use Rattle.tc_log.proofs.Again.{read_back, some_is}
use Rattle.tc_log.proofs.Lengths.{whole, args_long}

-- each record is read as its event
abbrev pub AreSeen : List Event → List ℕ → Type 0
AreSeen [] bytes = length bytes ≡ 0
AreSeen (e ∷ events) bytes = (event_in (cells_in (take 96 bytes)) ≡ Some e) × AreSeen events (drop 96 bytes)

-- ---- 96 bytes

op_long : (kind txn number : ℕ) (o : Op) → IsOp o → length (op_cells kind txn number o).body ≡ 64
op_long kind txn number (Read r) is = refl
op_long kind txn number (Insert r v) is = is.1
op_long kind txn number (Update r v) is = is.1
op_long kind txn number (Delete r) is = refl

rowless : length (zeros 96) ≡ 96
rowless = refl

call_long : (b : Bool) (txn proc : ℕ) (args : List ℕ) → nat_le (length args) 8 ≡ b → length (printed (Admit txn proc args)) ≡ 96
call_long false txn proc args few = ap (λ (o : Option Cells). length (printed_cells o)) (cond-false _ _ _ few)
call_long true txn proc args few =
    ap (λ (o : Option Cells). length (printed_cells o)) (cond-true _ _ _ few) ∙ whole _ (args_long args (leb-true (length args) 8 few))

said_long : (txn number : ℕ) (said : Said) → IsSaid said → length (printed (Answer txn number said)) ≡ 96
said_long txn number (Value v) is = whole _ is
said_long txn number Absent is = whole _ refl
said_long txn number (Done None) is = whole _ refl
said_long txn number (Done (Some v)) is = whole _ is
said_long txn number Duplicate is = whole _ refl
said_long txn number Missing is = whole _ refl
said_long txn number NoRoom is = whole _ refl
said_long txn number Old is = refl

abort_long : (b : Bool) (txn v : ℕ) → (v == 0) ≡ b → length (printed (End txn (outcome.Aborted v))) ≡ 96
abort_long true txn v is = ap (λ (o : Option Cells). length (printed_cells o)) (cond-true _ _ _ is)
abort_long false txn v is = ap (λ (o : Option Cells). length (printed_cells o)) (cond-false _ _ _ is) ∙ whole _ refl

end_long : (txn : ℕ) (o : Outcome) → has_row (End txn o) ≡ true → length (printed (End txn o)) ≡ 96
end_long txn outcome.Committed row = whole _ refl
end_long txn (outcome.Aborted v) row = abort_long (v == 0) txn v refl
end_long txn outcome.NoRoom row = whole _ refl

long : (e : Event) → IsEvent e → has_row e ≡ true → length (printed e) ≡ 96
long (Admit txn proc args) is row = call_long (nat_le (length args) 8) txn proc args refl
long (Ask txn number o) is row = whole _ (op_long 2 txn number o is.2)
long (Answer txn number said) is row = said_long txn number said is.2
long (Undo txn number o) is row = whole _ (op_long 4 txn number o is.2)
long (End txn o) is row = end_long txn o row
long (Checkpoint admitted given) is row = whole _ refl

-- ---- the events that are printed so

seen_of : (events : List Event) (bytes : List ℕ) → AreEvents events → HaveRows events → flat_map printed events ≡ bytes → AreSeen events bytes
seen_of [] bytes are rows is = ap length (sym is)
seen_of (e ∷ events) bytes are rows is =
    let front : take 96 bytes ≡ printed e = ap (λ (b : List ℕ). take 96 b) (sym is) ∙ take_at (printed e) (flat_map printed events) 96 (long e are.0 rows.0) in
    let back : flat_map printed events ≡ drop 96 bytes = sym (drop_at (printed e) (flat_map printed events) 96 (long e are.0 rows.0)) ∙ ap (λ (b : List ℕ). drop 96 b) is in
    (ap (λ (b : List ℕ). event_in (cells_in b)) front ∙ read_back e are.0 rows.0, seen_of events (drop 96 bytes) are.1 rows.1 back)

nothing_left : (e : Event) (bytes : List ℕ) → length bytes ≡ 0 → event_in (cells_in (take 96 bytes)) ≡ Some e → ⊥
nothing_left e [] none is = let bad : None ≡ Some e = is in cc
nothing_left e (b ∷ bytes) none is = omega (arith, none)

same_seen : (events others : List Event) (bytes : List ℕ) → AreSeen events bytes → AreSeen others bytes → others ≡ events
same_seen [] [] bytes seen also = refl
same_seen [] (f ∷ others) bytes seen also = absurd (nothing_left f bytes seen also.0)
same_seen (e ∷ events) [] bytes seen also = absurd (nothing_left e bytes also seen.0)
same_seen (e ∷ events) (f ∷ others) bytes seen also =
    ap₂ (λ (x : Event) (xs : List Event). x ∷ xs) (some_is f e (sym also.0 ∙ seen.0)) (same_seen events others (drop 96 bytes) seen.1 also.1)

pub only_these : (events : List Event) (bytes : List ℕ) → AreSeen events bytes → AreOnlyOnes events bytes
only_these events bytes seen = λ others are printed. same_seen events others bytes seen (seen_of others bytes are printed.rows printed.prints)

-- ---- one record after another

pub none_seen : (bytes : List ℕ) → AreSeen [] (take (96 * 0) bytes)
none_seen bytes = refl

seen_append : (events : List Event) (e : Event) (front back : List ℕ) → length front ≡ 96 * length events
    → AreSeen events front → event_in (cells_in back) ≡ Some e → length back ≡ 96
    → AreSeen (events ++ e ∷ []) (front ++ back)
seen_append [] e front back count seen is long =
    let none : front ≡ [] = nil_from_length front seen in
    subst (λ (f : List ℕ). AreSeen (e ∷ []) (f ++ back)) (sym none)
    (ap (λ (b : List ℕ). event_in (cells_in b)) (take_all 96 back (omega (arith, long))) ∙ is, length-drop 96 back ∙ omega (arith, long))
seen_append (x ∷ events) e front back count seen is long = (
  ap (λ (b : List ℕ). event_in (cells_in b)) (take-append-le 96 front back (omega (arith, count))) ∙ seen.0,
  subst (AreSeen (events ++ e ∷ [])) (sym (drop-append-le 96 front back (omega (arith, count))))
      (seen_append events e (drop 96 front) back (length-drop 96 front ∙ omega (arith, count)) seen.1 is long),
)

pub seen_further : (events new : List Event) (e : Event) (bytes rest front : List ℕ) (place : ℕ)
    → AreSeen events (take (96 * place) bytes) → length events ≡ place → new ≡ events ++ e ∷ []
    → rest ≡ drop (96 * place) bytes
    → front ≡ take 96 rest → length front ≡ 96 → 96 * place ≤ length bytes → event_in (cells_in front) ≡ Some e → AreSeen new (take (96 * (place + 1)) bytes)
seen_further events new e bytes rest front place seen count grown left cut long few is =
    let at = length-take-le (96 * place) bytes few in
    let joined : take (96 * place) bytes ++ front ≡ take (96 * (place + 1)) bytes =
    ap (λ (b : List ℕ). take (96 * place) bytes ++ b) (cut ∙ ap (λ (b : List ℕ). take 96 b) left) ∙ sym (take-add (96 *
    place) 96 bytes) ∙ ap (λ (n : ℕ). take n bytes) (one_further place) in
    subst (λ (es : List Event). AreSeen es (take (96 * (place + 1)) bytes)) (sym grown)
    (subst (AreSeen (events ++ e ∷ [])) joined (seen_append events e (take (96 * place) bytes) front (omega (arith, at, count)) seen is long))
  where
    one_further : (p : ℕ) → 96 * p + 96 ≡ 96 * (p + 1)
    one_further p = omega arith
