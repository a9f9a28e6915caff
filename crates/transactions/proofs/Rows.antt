-- Each event of a legal log has a row.
use Rattle.std.proofs.Common.{◌≡◌, ℕ, ◌≤◌, Bool, true, false, List, [], ◌∷◌, ◌++◌, length, Option, Some, None, arith, refl, sym, ◌∙◌, ap, subst}
use Rattle.std.specs.Prelude.{◌==◌, reverse}
use Rattle.std.specs.List.{flat_map}
use Rattle.std.proofs.lemmas.Bool.{cond-true, cond-false, le-leb}
use Rattle.std.proofs.lemmas.List.{reverse-append}
use Rattle.access_slots.specs.Access.{fits}
use Rattle.access_slots.specs.declared.op.Op.{Op}
use Rattle.access_slots.specs.declared.op.Op.TheVariants.{Read, Insert, Update, Delete}
use Rattle.access_slots.specs.declared.op.Said.{Said}
use Rattle.access_slots.specs.declared.op.Said.TheVariants.{Value, Absent, Done, Duplicate, Missing, NoRoom, Old}
use Rattle.tc_log.specs.declared.event.Event.{Event}
use Rattle.tc_log.specs.declared.event.Event.TheVariants.{Admit, Answer, End}
use Rattle.tc_log.specs.declared.event.Outcome.{Outcome}
use Rattle.tc_log.specs.declared.event.Outcome.TheVariants as outcome
use Rattle.tc_log.specs.Printed.{printed}
use Rattle.tc_log.specs.Reading.{is_some, has_row, HaveRows, ArePrinted}
use Rattle.verifier.specs.Checked.{Checked}
use Rattle.transactions.specs.Legal.{Legal, Allowed, first_undo, ending}
use Rattle.transactions.specs.Reached.{Reached, Asks, Ends, Nowhere, reached}
use Rattle.transactions.specs.Rows.{AllTakeFew}

-- ---- one event

few_have : (t p : ℕ) (args : List ℕ) → length args ≤ 8 → has_row (Admit t p args) ≡ true
few_have t p args few = ap is_some (cond-true _ _ _ (le-leb (length args) 8 few))

-- Old is no answer to any operation
answer_has : (t n : ℕ) (o : Op) (said : Said) → fits o said ≡ true → has_row (Answer t n said) ≡ true
answer_has t n o (Value v) fit = refl
answer_has t n o Absent fit = refl
answer_has t n o (Done None) fit = refl
answer_has t n o (Done (Some v)) fit = refl
answer_has t n o Duplicate fit = refl
answer_has t n o Missing fit = refl
answer_has t n o NoRoom fit = refl
answer_has t n (Read r) Old fit = absurd (cc)
answer_has t n (Insert r v) Old fit = absurd (cc)
answer_has t n (Update r v) Old fit = absurd (cc)
answer_has t n (Delete r) Old fit = absurd (cc)

some_value : (v : ℕ) → (v == 0) ≡ false → (t : ℕ) → has_row (End t (outcome.Aborted v)) ≡ true
some_value v other t = ap is_some (cond-false _ _ _ other)

-- a procedure that aborts has answered another value than 0
aborted : (t v : ℕ) (full : Bool) (left : Option Op) (at : Reached) → ending full left at ≡ Some (outcome.Aborted v) → has_row (End t (outcome.Aborted v)) ≡ true
aborted t v true None at is = absurd (cc)
aborted t v true (Some w) at is = absurd (cc)
aborted t v false left (Asks o) is = absurd (cc)
aborted t v false left Nowhere is = absurd (cc)
aborted t v false left (Ends x) is = by (x == 0) left refl is
  where
    by : (b : Bool) (left : Option Op) → (x == 0) ≡ b → ending false left (Ends x) ≡ Some (outcome.Aborted v) → has_row (End t (outcome.Aborted v)) ≡ true
    by true left zero_is is = absurd (let bad : Some outcome.Committed ≡ Some (outcome.Aborted v) = sym (cond-true _ _ _ zero_is) ∙ is in cc)
    by false (Some w) other is = absurd (let bad : None ≡ Some (outcome.Aborted v) = sym (cond-false _ _ _ other) ∙ is in cc)
    by false None other is =
        let one : Some (outcome.Aborted x) ≡ Some (outcome.Aborted v) = sym (cond-false _ _ _ other) ∙ is in
        let same : x ≡ v = cc in
        some_value v (ap (λ (n : ℕ). n == 0) (sym same) ∙ other) t

end_has : (t : ℕ) (o : Outcome) (full : Bool) (left : Option Op) (at : Reached) → ending full left at ≡ Some o → has_row (End t o) ≡ true
end_has t outcome.Committed full left at is = refl
end_has t (outcome.Aborted v) full left at is = aborted t v full left at is
end_has t outcome.NoRoom full left at is = refl

allowed_has : (ps : List Checked) (h : List Event) (e : Event) → AllTakeFew ps → Allowed ps h e → has_row e ≡ true
allowed_has ps h (Admit t p args) few can = (let most = few p can.q can.loaded in let count = can.takes.count in few_have t p args (omega (arith, most, count)))
allowed_has ps h (Answer t n said) few can = answer_has t n can.r.op said can.fit
allowed_has ps h (End t o) few can = end_has t o can.s.full (first_undo can.s.undo) (reached ps can.s) can.ends
allowed_has ps h _ few can = refl

-- ---- all of them

rows_push : (es : List Event) (e : Event) → HaveRows es → has_row e ≡ true → HaveRows (es ++ e ∷ [])
rows_push [] e rows row = (row, tt)
rows_push (x ∷ es) e rows row = (rows.0, rows_push es e rows.1 row)

rows_of : (ps : List Checked) (h : List Event) → AllTakeFew ps → Legal ps h → HaveRows (reverse h)
rows_of ps [] few legal = tt
rows_of ps (e ∷ h) few legal = subst HaveRows (sym (reverse-append (e ∷ []) h)) (rows_push (reverse h) e (rows_of ps h few legal.1) (allowed_has ps h e few legal.0))

pub legal_prints : (ps : List Checked) (h : List Event) → AllTakeFew ps → Legal ps h → ArePrinted (reverse h) (flat_map printed (reverse h))
legal_prints ps h few legal = record { rows = rows_of ps h few legal; prints = refl }
