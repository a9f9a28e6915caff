-- Numbers that were given up stay so until they are answered.
use Rattle.std.proofs.Common.{◌≡◌, ◌⊎◌, ℕ, Bool, true, false, not, cond, ◌==◌, List, [], ◌∷◌, ◌++◌, refl, sym, ◌∙◌, ap, subst, inl, inr}
use Rattle.std.proofs.lemmas.Bool.{cases_eq}
use Rattle.request_numbers.specs.Given.{holds, others}
use Rattle.tc_log.specs.declared.event.Event.{Event}
use Rattle.tc_log.specs.declared.event.Event.TheVariants.{Answer}
use Rattle.tc_core.specs.Core.{Core, Asking}
use Rattle.tc_core.specs.Doubts.{with_number_by, given_up_behind}
use Rattle.tc_core.specs.GivingUp.{IsOpenHere, with_given_up}
use Rattle.worker_pool.specs.Answers.{BeginWith}

append_nil : (ns : List ℕ) → ns ++ [] ≡ ns
append_nil [] = refl
append_nil (n ∷ ns) = ap (λ (l : List ℕ). n ∷ l) (append_nil ns)

append_again : (a b c : List ℕ) → (a ++ b) ++ c ≡ a ++ (b ++ c)
append_again [] b c = refl
append_again (n ∷ a) b c = ap (λ (l : List ℕ). n ∷ l) (append_again a b c)

pub begin_same : (ns : List ℕ) → BeginWith ns ns
begin_same ns = record { later = []; is = sym (append_nil ns) }

pub begin_then : (first mid last : List ℕ) → BeginWith first mid → BeginWith mid last → BeginWith first last
begin_then first mid last a b = record {
  later = a.later ++ b.later;
  is = b.is ∙ (ap (λ (l : List ℕ). l ++ b.later) a.is ∙ append_again first a.later b.later);
}

-- ---- an event

others_join : (n : ℕ) (a b : List ℕ) → others n (a ++ b) ≡ others n a ++ others n b
others_join n [] b = refl
others_join n (m ∷ a) b = by (not (m == n)) (others n (a ++ b)) (others n a) (others n b) (others_join n a b)
  where
    by : (kept : Bool) (all left right : List ℕ) → all ≡ left ++ right → cond kept (m ∷ all) all ≡ cond kept (m ∷ left) left ++ right
    by true all left right is = ap (λ (l : List ℕ). m ∷ l) is
    by false all left right is = is

-- what begins with others does so behind an event
pub begin_behind : (e : Event) (first ns : List ℕ) → BeginWith first ns → BeginWith (given_up_behind e first) (given_up_behind e ns)
begin_behind (Answer t n said) first ns b = record { later = others n b.later; is = ap (others n) b.is ∙ others_join n first b.later }
begin_behind _ first ns b = b

-- ---- a request that is given up

-- whether numbers begin with others
begins : (first ns : List ℕ) → (BeginWith first ns) ⊎ (BeginWith first ns → ⊥)
begins [] ns = inl (record { later = ns; is = refl })
begins (m ∷ first) [] = inr (λ b. (let bad : [] ≡ m ∷ (first ++ b.later) = b.is in cc))
begins (m ∷ first) (n ∷ ns) =
    elim (cases_eq m n) [
      | inl same ↦ elim (begins first ns) [
        | inl b ↦ inl (record { later = b.later; is = (let rest = b.is in cc) })
        | inr none ↦ inr (λ b. none (record { later = b.later; is = (let all : n ∷ ns ≡ m ∷ (first ++ b.later) = b.is in cc) }))
      ]
      | inr other ↦ inr (λ b. other (let all : n ∷ ns ≡ m ∷ (first ++ b.later) = b.is in cc))
    ]

one_more : (n : ℕ) (ns : List ℕ) (there : Bool) → BeginWith ns (with_number_by there n ns)
one_more n ns true = begin_same ns
one_more n ns false = record { later = n ∷ []; is = refl }

-- one request more is given up, or none; which of both isn't looked at
pub given_up_more : (old new : Core) (r : Asking) → (IsOpenHere old r → new ≡ with_given_up old r.number) → ((IsOpenHere old r → ⊥) → new ≡ old)
    → BeginWith old.given_up new.given_up
given_up_more old new r here elsewhere =
    elim (begins old.given_up new.given_up) [
      | inl it ↦ it
      | inr none ↦ absurd (none (by_same (elsewhere (λ open_here. none (by_more (here open_here))))))
    ]
  where
    by_same : new ≡ old → BeginWith old.given_up new.given_up
    by_same same = subst (λ (c : Core). BeginWith old.given_up c.given_up) (sym same) (begin_same old.given_up)

    by_more : new ≡ with_given_up old r.number → BeginWith old.given_up new.given_up
    by_more same = subst (λ (c : Core). BeginWith old.given_up c.given_up) (sym same) (one_more r.number old.given_up (holds r.number old.given_up))
