-- Printing and reading give the event back.
use Rattle.std.proofs.Common.{arith, ◌≡◌, ℕ, suc, ◌<◌, ◌≤◌, ◌^◌, nat_le, Bool, true, false, List, [], ◌∷◌, ◌++◌}
use Rattle.std.proofs.Common.{length, take, drop, sym, refl, ap, ap₂, subst, inl, inr, ◌∙◌}
use Rattle.std.specs.Prelude.{Option, Some, None, ◌==◌, ◌+◌, ◌-◌, ◌*◌}
use Rattle.std.specs.List.{flat_map}
use Rattle.std.specs.Int.{w64, to_le_bytes, from_le_bytes}
use Rattle.std.proofs.lemmas.Bool.{cases_lt, cond-true, cond-false, le-leb}
use Rattle.std.proofs.lemmas.List.{take_all, length-drop, append-nil, append_assoc, drop-drop, take-replicate}
use Rattle.std.proofs.lemmas.List.Concat.{flat_map-append}
use Rattle.std.proofs.Math.Seq.{take-add}
use Rattle.std.proofs.lemmas.Nat.{from_le_bytes-to_le_bytes_2, from_le_bytes-to_le_bytes_8}
use Rattle.access_slots.specs.declared.op.Op.{Op}
use Rattle.access_slots.specs.declared.op.Op.TheVariants.{Read, Insert, Update, Delete}
use Rattle.access_slots.specs.declared.op.Said.{Said}
use Rattle.access_slots.specs.declared.op.Said.TheVariants.{Value, Absent, Done, Duplicate, Missing, NoRoom, Old}
use Rattle.tc_log.specs.declared.event.Event.{Event}
use Rattle.tc_log.specs.declared.event.Event.TheVariants.{Admit, Ask, Answer, Undo, End, Checkpoint}
use Rattle.tc_log.specs.declared.event.Outcome.{Outcome}
use Rattle.tc_log.specs.declared.event.Outcome.TheVariants as outcome
use Rattle.tc_log.specs.Printed.{Cells, cells_of, cells_bytes, head_bytes, number_bytes, printed, printed_cells}
use Rattle.tc_log.specs.Printed.{zeros, args_bytes, plain, with_value, op_cells}
use Rattle.tc_log.specs.Reading.{record_at, u16_at, u64_at, cells_in, event_in, call_in, numbers_in, IsEvent, IsOp}
use Rattle.tc_log.specs.Reading.{IsOutcome, AreNumbers, has_row, is_some, IsPrinted, ArePrinted, HaveRows}

-- ---- the fields

-- what isn't a byte fits its width
record Fit (c : Cells) : Type 0 where
  dc : c.dc < 2 ^ 16
  table : c.table < 2 ^ 16
  txn : c.txn < 2 ^ 64
  word : c.word < 2 ^ 64
  key : c.key < 2 ^ 64

abbrev cells : ℕ → ℕ → ℕ → ℕ → ℕ → ℕ → ℕ → List ℕ → Cells
cells kind sub dc table txn word key body = record { kind = kind; sub = sub; dc = dc; table = table; txn = txn; word = word; key = key; body = body }

same_cells : (kind sub d dc t table x txn w word k key : ℕ) (body : List ℕ) → d ≡ dc → t ≡ table → x ≡ txn → w ≡ word
    → k ≡ key → cells kind sub d t x w k body ≡ cells kind sub dc table txn word key body
same_cells kind sub d dc t table x txn w word k key body a b e f g = cc

dc_back : (c : Cells) → c.dc < 2 ^ 16 → u16_at 2 (cells_bytes c) ≡ c.dc
unfolding head_bytes number_bytes
dc_back c fits = from_le_bytes-to_le_bytes_2 c.dc fits

table_back : (c : Cells) → c.table < 2 ^ 16 → u16_at 4 (cells_bytes c) ≡ c.table
unfolding head_bytes number_bytes
table_back c fits = from_le_bytes-to_le_bytes_2 c.table fits

txn_back : (c : Cells) → c.txn < 2 ^ 64 → u64_at 8 (cells_bytes c) ≡ c.txn
unfolding head_bytes number_bytes
txn_back c fits = from_le_bytes-to_le_bytes_8 c.txn fits

word_back : (c : Cells) → c.word < 2 ^ 64 → u64_at 16 (cells_bytes c) ≡ c.word
unfolding head_bytes number_bytes
word_back c fits = from_le_bytes-to_le_bytes_8 c.word fits

key_back : (c : Cells) → c.key < 2 ^ 64 → u64_at 24 (cells_bytes c) ≡ c.key
unfolding head_bytes number_bytes
key_back c fits = from_le_bytes-to_le_bytes_8 c.key fits

seen_back : (c : Cells)
    → cells_in (cells_bytes c) ≡ cells c.kind c.sub (u16_at 2 (cells_bytes c)) (u16_at 4 (cells_bytes c)) (u64_at 8 (cells_bytes c)) (u64_at 16 (cells_bytes c)) (u64_at 24 (cells_bytes c)) c.body
unfolding head_bytes number_bytes
seen_back c = refl

cells_back : (c : Cells) → Fit c → cells_in (cells_bytes c) ≡ c
cells_back c fit = seen_back c ∙ same_cells c.kind c.sub _ c.dc _ c.table _ c.txn _ c.word _ c.key c.body (dc_back c
    fit.dc) (table_back c fit.table) (txn_back c fit.txn) (word_back c fit.word) (key_back c fit.key)

-- no record stands in it
plain_fits : (c : Cells) → c.dc ≡ 0 → c.table ≡ 0 → c.key ≡ 0 → c.txn < 2 ^ 64 → c.word < 2 ^ 64 → Fit c
plain_fits c d t k x w = record { dc = omega (arith, d); table = omega (arith, t); txn = x; word = w; key = omega (arith, k) }

-- ---- the arguments of a call

numbers_back : (args rest : List ℕ) → AreNumbers args → numbers_in (length args) (flat_map (to_le_bytes w64) args ++ rest) ≡ args
numbers_back [] rest fit = refl
numbers_back (n ∷ args) rest fit = ap₂ (λ (x : ℕ) (xs : List ℕ). x ∷ xs) (from_le_bytes-to_le_bytes_8 n fit.0) (numbers_back args rest fit.1)

call_back : (b : Bool) (txn proc : ℕ) (args : List ℕ) → nat_le (length args) 8 ≡ b → txn < 2 ^ 64 → proc < 2 ^ 64
    → AreNumbers args → has_row (Admit txn proc args) ≡ true
    → event_in (cells_in (printed (Admit txn proc args))) ≡ Some (Admit txn proc args)
call_back false txn proc args few a b fit row = absurd (
    let none : is_some None ≡ true = sym (ap is_some (cond-false _ _ _ few)) ∙ row in
    let bad : false ≡ true = none in
    cc)
call_back true txn proc args few a b fit row =
    let c = with_value 1 (length args) txn proc (args_bytes args) in
    ap (λ (o : Option Cells). event_in (cells_in (printed_cells o))) (cond-true _ _ _ few)
    ∙ ap event_in (cells_back c (plain_fits c refl refl refl a b))
    ∙ cond-true _ _ _ few
    ∙ ap (λ (xs : List ℕ). Some (Admit txn proc xs)) (numbers_back args (zeros (64 - 8 * length args)) fit)

-- ---- every event

zero_long : 0 < 2 ^ 64
zero_long = omega arith

record_fits : (c : Cells) → c.dc < 2 ^ 16 → c.table < 2 ^ 16 → c.txn < 2 ^ 64 → c.word < 2 ^ 64 → c.key < 2 ^ 64 → Fit c
record_fits c d t x w k = record { dc = d; table = t; txn = x; word = w; key = k }

ask_back : (o : Op) (txn number : ℕ) → txn < 2 ^ 64 → number < 2 ^ 64 → IsOp o
    → event_in (cells_in (printed (Ask txn number o))) ≡ Some (Ask txn number o)
ask_back (Read r) txn number x n is = ap event_in (cells_back (op_cells 2 txn number (Read r)) (record_fits _ is.0 is.1 x n is.2))
ask_back (Insert r v) txn number x n is = ap event_in (cells_back (op_cells 2 txn number (Insert r v)) (record_fits _ is.0.0 is.0.1 x n is.0.2))
ask_back (Update r v) txn number x n is = ap event_in (cells_back (op_cells 2 txn number (Update r v)) (record_fits _ is.0.0 is.0.1 x n is.0.2))
ask_back (Delete r) txn number x n is = ap event_in (cells_back (op_cells 2 txn number (Delete r)) (record_fits _ is.0 is.1 x n is.2))

undo_back : (o : Op) (txn number : ℕ) → txn < 2 ^ 64 → number < 2 ^ 64 → IsOp o
    → event_in (cells_in (printed (Undo txn number o))) ≡ Some (Undo txn number o)
undo_back (Read r) txn number x n is = ap event_in (cells_back (op_cells 4 txn number (Read r)) (record_fits _ is.0 is.1 x n is.2))
undo_back (Insert r v) txn number x n is = ap event_in (cells_back (op_cells 4 txn number (Insert r v)) (record_fits _ is.0.0 is.0.1 x n is.0.2))
undo_back (Update r v) txn number x n is = ap event_in (cells_back (op_cells 4 txn number (Update r v)) (record_fits _ is.0.0 is.0.1 x n is.0.2))
undo_back (Delete r) txn number x n is = ap event_in (cells_back (op_cells 4 txn number (Delete r)) (record_fits _ is.0 is.1 x n is.2))

answer_back : (said : Said) (txn number : ℕ) → txn < 2 ^ 64 → number < 2 ^ 64
    → has_row (Answer txn number said) ≡ true
    → event_in (cells_in (printed (Answer txn number said))) ≡ Some (Answer txn number said)
answer_back (Value v) txn number x n row = ap event_in (cells_back _ (plain_fits (with_value 3 1 txn number v) refl refl refl x n))
answer_back Absent txn number x n row = ap event_in (cells_back _ (plain_fits (with_value 3 2 txn number (zeros 64)) refl refl refl x n))
answer_back (Done None) txn number x n row = ap event_in (cells_back _ (plain_fits (with_value 3 3 txn number (zeros 64)) refl refl refl x n))
answer_back (Done (Some v)) txn number x n row = ap event_in (cells_back _ (plain_fits (with_value 3 4 txn number v) refl refl refl x n))
answer_back Duplicate txn number x n row = ap event_in (cells_back _ (plain_fits (with_value 3 5 txn number (zeros 64)) refl refl refl x n))
answer_back Missing txn number x n row = ap event_in (cells_back _ (plain_fits (with_value 3 6 txn number (zeros 64)) refl refl refl x n))
answer_back NoRoom txn number x n row = ap event_in (cells_back _ (plain_fits (with_value 3 7 txn number (zeros 64)) refl refl refl x n))
answer_back Old txn number x n row = absurd (let bad : false ≡ true = row in cc)

abort_back : (b : Bool) (txn v : ℕ) → (v == 0) ≡ b → txn < 2 ^ 64 → v < 2 ^ 64
    → has_row (End txn (outcome.Aborted v)) ≡ true
    → event_in (cells_in (printed (End txn (outcome.Aborted v)))) ≡ Some (End txn (outcome.Aborted v))
abort_back true txn v is x n row = absurd (
    let none : is_some None ≡ true = sym (ap is_some (cond-true _ _ _ is)) ∙ row in
    let bad : false ≡ true = none in
    cc)
abort_back false txn v is x n row =
    let c = with_value 5 2 txn v (zeros 64) in
    ap (λ (o : Option Cells). event_in (cells_in (printed_cells o))) (cond-false _ _ _ is)
    ∙ ap event_in (cells_back c (plain_fits c refl refl refl x n))

end_back : (o : Outcome) (txn : ℕ) → txn < 2 ^ 64 → IsOutcome o → has_row (End txn o) ≡ true
    → event_in (cells_in (printed (End txn o))) ≡ Some (End txn o)
end_back outcome.Committed txn x is row = ap event_in (cells_back _ (plain_fits (with_value 5 1 txn 0 (zeros 64)) refl refl refl x zero_long))
end_back (outcome.Aborted v) txn x is row = abort_back (v == 0) txn v refl x is row
end_back outcome.NoRoom txn x is row = ap event_in (cells_back _ (plain_fits (with_value 5 3 txn 0 (zeros 64)) refl refl refl x zero_long))

-- what prints an event is read as that event
pub read_back : (e : Event) → IsEvent e → has_row e ≡ true → event_in (cells_in (printed e)) ≡ Some e
read_back (Admit txn proc args) is row = call_back (nat_le (length args) 8) txn proc args refl is.0 is.1 is.2 row
read_back (Ask txn number o) is row = ask_back o txn number is.0 is.1 is.2
read_back (Answer txn number said) is row = answer_back said txn number is.0 is.1 row
read_back (Undo txn number o) is row = undo_back o txn number is.0 is.1 is.2
read_back (End txn o) is row = end_back o txn is.0 is.1 row
read_back (Checkpoint admitted given) is row = ap event_in (cells_back (plain 6 0 admitted given) (plain_fits (plain 6 0 admitted given) refl refl refl is.0 is.1))

-- ---- what is read

pub call_is : (c : Cells) (txn proc : ℕ) (args : List ℕ) → c.sub ≤ 8 → txn ≡ c.txn → proc ≡ c.word
    → args ≡ numbers_in c.sub c.body → Some (Admit txn proc args) ≡ call_in c
call_is c txn proc args few a b is = same_call txn c.txn proc c.word args (numbers_in c.sub c.body) a b is ∙ sym (cond-true _ _ _ (le-leb c.sub 8 few))
  where
    same_call : (t x p w : ℕ) (xs ys : List ℕ) → t ≡ x → p ≡ w → xs ≡ ys → Some (Admit t p xs) ≡ Some (Admit x w ys)
    same_call t x p w xs ys d e f = cc

pub rest_is : (bytes : List ℕ) → take (length bytes - 32) (drop 32 bytes) ≡ drop 32 bytes
rest_is bytes = take_all (length bytes - 32) (drop 32 bytes) (omega (arith, length-drop 32 bytes))

no_row : (o : Option Cells) → is_some o ≡ false → printed_cells o ≡ zeros 96
no_row None is = refl
no_row (Some c) is = absurd (let bad : true ≡ false = is in cc)

nothing_in_zeros : event_in (cells_in (zeros 96)) ≡ None
nothing_in_zeros = refl

pub row_of : (e : Event) (bytes : List ℕ) → event_in (cells_in bytes) ≡ Some e → printed e ≡ bytes → has_row e ≡ true
row_of e bytes seen is = by_row (has_row e) refl
  where
    by_row : (b : Bool) → has_row e ≡ b → has_row e ≡ true
    by_row true row = row
    by_row false row = absurd (
        let none : event_in (cells_in bytes) ≡ None = ap (λ (b : List ℕ). event_in (cells_in b)) (sym is ∙ no_row (cells_of e) row) ∙ nothing_in_zeros in
        let bad : None ≡ Some e = sym none ∙ seen in
        cc)

seen_in : (bytes : List ℕ) (p : IsPrinted bytes) → event_in (cells_in bytes) ≡ Some p.event
seen_in bytes p = subst (λ (b : List ℕ). event_in (cells_in b) ≡ Some p.event) p.prints (read_back p.event p.numbers p.row)

pub some_is : (e f : Event) → Some e ≡ Some f → e ≡ f
some_is e f is = cc

pub not_printed : (e : Event) (bytes : List ℕ) → event_in (cells_in bytes) ≡ Some e → (printed e ≡ bytes → ⊥) → IsPrinted bytes → ⊥
not_printed e bytes seen other p = other (ap printed (some_is e p.event (sym seen ∙ seen_in bytes p)) ∙ p.prints)

pub nothing_printed : (bytes : List ℕ) → event_in (cells_in bytes) ≡ None → IsPrinted bytes → ⊥
nothing_printed bytes none p = let bad : None ≡ Some p.event = sym none ∙ seen_in bytes p in cc

-- ---- one record after another

rows_append : (events : List Event) (e : Event) → HaveRows events → has_row e ≡ true → HaveRows (events ++ e ∷ [])
rows_append [] e rows row = (row, tt)
rows_append (f ∷ events) e rows row = (rows.0, rows_append events e rows.1 row)

next : (place : ℕ) → 96 * place + 96 ≡ 96 * (place + 1)
next place = omega arith

pub one_more : (events : List Event) (e : Event) (bytes : List ℕ) (place : ℕ)
    → ArePrinted events (take (96 * place) bytes) → has_row e ≡ true → printed e ≡ take 96 (drop (96 * place) bytes)
    → ArePrinted (events ++ e ∷ []) (take (96 * (place + 1)) bytes)
one_more events e bytes place so_far row is = record {
  rows = rows_append events e so_far.rows row;
  prints = flat_map-append printed events (e ∷ []) ∙ ap₂ (λ (xs ys : List ℕ). xs ++ ys) so_far.prints (append-nil
      (printed e) ∙ is) ∙ sym (take-add (96 * place) 96 bytes) ∙ ap (λ (n : ℕ). take n bytes) (next place);
}

pub none_printed : (bytes : List ℕ) → ArePrinted [] (take (96 * 0) bytes)
none_printed bytes = record { rows = tt; prints = refl }

pub printed_further : (events new : List Event) (e : Event) (bytes rest front : List ℕ) (place : ℕ)
    → ArePrinted events (take (96 * place) bytes) → new ≡ events ++ e ∷ [] → rest ≡ drop (96 * place) bytes
    → front ≡ take 96 rest → has_row e ≡ true → printed e ≡ front → ArePrinted new (take (96 * (place + 1)) bytes)
printed_further events new e bytes rest front place so_far grown left cut row is =
    subst (λ (es : List Event). ArePrinted es (take (96 * (place + 1)) bytes)) (sym grown)
    (one_more events e bytes place so_far row (is ∙ cut ∙ ap (λ (b : List ℕ). take 96 b) left))

-- the first 96 bytes of the rest are the record at this place
pub record_is : (P : List ℕ → Type 0) (bytes rest front : List ℕ) (place : ℕ) → rest ≡ drop (96 * place) bytes
    → front ≡ take 96 rest → P (record_at place bytes) → P front
record_is P bytes rest front place left cut is = subst P (sym (cut ∙ ap (λ (b : List ℕ). take 96 b) left)) is

pub read_further : (e : Event) (bytes rest front : List ℕ) (place : ℕ)
    → ((earlier : ℕ) → earlier < place → IsPrinted (record_at earlier bytes)) → rest ≡ drop (96 * place) bytes
    → front ≡ take 96 rest → IsEvent e → has_row e ≡ true → printed e ≡ front → (earlier : ℕ) → earlier < place + 1 → IsPrinted (record_at earlier bytes)
read_further e bytes rest front place before left cut machine row is earlier within = elim (cases_lt earlier place) [
  | inl below ↦ before earlier below
  | inr at ↦
      let same : place ≡ earlier = omega (arith, within, at) in
      subst (λ (k : ℕ). IsPrinted (record_at k bytes)) same
      (record { event = e; numbers = machine; row = row; prints = is ∙ cut ∙ ap (λ (b : List ℕ). take 96 b) left })
]

pub rest_further : (bytes rest back : List ℕ) (place : ℕ) → rest ≡ drop (96 * place) bytes → back ≡ drop 96 rest
    → back ≡ drop (96 * (place + 1)) bytes
rest_further bytes rest back place left cut = cut ∙ ap (λ (b : List ℕ). drop 96 b) left ∙ drop-drop 96 (96 * place) bytes ∙ ap (λ (n : ℕ). drop n bytes) (turned place)
  where
    turned : (p : ℕ) → 96 * p + 96 ≡ 96 * (p + 1)
    turned p = omega arith

pub numbers_further : (numbers new : List ℕ) (count k x : ℕ) (rest front back total : List ℕ) → k < count
    → numbers ++ numbers_in (count - k) rest ≡ total → new ≡ numbers ++ x ∷ [] → x ≡ from_le_bytes w64 front
    → front ≡ take 8 rest → back ≡ drop 8 rest → new ++ numbers_in (count - (k + 1)) back ≡ total
numbers_further numbers new count k x rest front back total more so_far grown is cut left =
    ap₂ (λ (xs b : List ℕ). xs ++ numbers_in (count - (k + 1)) b) grown left
    ∙ append_assoc numbers (x ∷ []) (numbers_in (count - (k + 1)) (drop 8 rest))
    ∙ ap (λ (n : ℕ). numbers ++ (n ∷ numbers_in (count - (k + 1)) (drop 8 rest))) (is ∙ ap (from_le_bytes w64) cut)
    ∙ ap (λ (n : ℕ). numbers ++ numbers_in n rest) (sym (one_left count k more))
    ∙ so_far
  where
    one_left : (n i : ℕ) → i < n → n - i ≡ suc (n - (i + 1))
    one_left n i below = omega (arith, below)

-- ---- zeros

pub first_zeros : (n : ℕ) → n ≤ 96 → take n (zeros 96) ≡ zeros n
first_zeros n few = take-replicate n 96 0 few
