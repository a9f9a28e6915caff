use Rattle.std.proofs.Common.{◌≡◌, ◌==◌, ℕ, zero, suc, List, [], ◌∷◌, Some, None, refl, sym, ◌∙◌, ap, subst, inl, inr}
use Rattle.std.specs.Prelude.{slice_get}
use Rattle.std.proofs.lemmas.Bool.{cases_eq}
use Rattle.access_slots.specs.declared.op.Op.{Op}
use Rattle.access_slots.specs.declared.op.Op.TheVariants.{Insert}
use Rattle.access_slots.specs.declared.op.Said.{Said}
use Rattle.access_slots.specs.declared.op.Said.TheVariants.{Done, Duplicate}
use Rattle.tc_log.specs.declared.event.Event.{Event}
use Rattle.tc_log.specs.declared.event.Event.TheVariants.{Ask, Answer}
use Rattle.history.specs.Anew.{begun}
use Rattle.data_component.specs.Performed.{said_under}
use Rattle.data_component.specs.Store.{Store, empty}
use Rattle.transactions.proofs.StandingLemmas.{some_same, none_some}
use Rattle.serial.specs.Audit.{IsBegunTogether}
use Rattle.serial.specs.Serial.{done}
use Rattle.serial.specs.Lists.{logged, dc_of}
use Rattle.serial.proofs.ListLemmas.{if_none, if_some}
use Rattle.coming_back.specs.Coming.{IsOfRows}
use Rattle.coming_back.proofs.examples.logs_of_rows.Goals as goal

together : (h : List Event) (rows ops : ℕ) → begun h ≡ 0 → IsBegunTogether h (empty rows ops ∷ [])
together h rows ops none zero s at = ap (λ (x : Store). x.base_mark) (sym (some_same (empty rows ops) s at)) ∙ sym none
together h rows ops none (suc d) s at = absurd (none_some _ s refl at)

pub returns-clause-nothing : goal.returns-clause-nothing
returns-clause-nothing c rows ops = record { together = together [] rows ops refl; honest = tt; there = λ n o said logs was. absurd (none_some _ o refl logs) }

its_own : (o p : Op) (n : ℕ) → logged (Answer 1 1 (Done None) ∷ Ask 1 1 o ∷ []) n ≡ Some p → o ≡ p
its_own o p n logs = elim (cases_eq 1 n) [
  | inl same ↦ some_same o p (sym (if_some 1 n (Some o) None same) ∙ logs)
  | inr other ↦ absurd (none_some _ p (if_none 1 n (Some o) None other) logs)
]

pub returns-clause-inserted : goal.returns-clause-inserted
returns-clause-inserted c table key rows ops v =
    let o : Op = Insert (record { dc = 0; table = table; key = key }) v in
    record {
      together = together (Answer 1 1 (Done None) ∷ Ask 1 1 o ∷ []) rows ops refl;
      honest = (inl refl, (tt, tt));
      there = λ n p said logs was. (
        empty rows ops,
        subst
            (λ (q : Op). slice_get (empty rows ops ∷ []) (dc_of q) ≡ Some (empty rows ops)) (its_own o p n logs) refl,
      );
    }

pub returns-clause-there_already : goal.returns-clause-there_already
returns-clause-there_already c table key rows ops v is = elim is.honest.0 [
  | inl bad ↦ absurd cc
  | inr bad ↦ absurd cc
]

pub returns-clause-nowhere : goal.returns-clause-nowhere
returns-clause-nowhere c table key v is =
    let s = is.there 1 (Insert (record { dc = 0; table = table; key = key }) v) (Done None) refl refl in
    none_some _ s.0 refl s.1
