use Rattle.std.proofs.Common.{◌≡◌, length, ◌-◌, ◌/◌, ◌++◌, [], refl, ap, sym, subst, ◌∙◌, arith}
use Rattle.std.specs.Prelude.{ℕ, false, List, Option, Some, None, is_some}
use Rattle.std.proofs.lemmas.List.{append-nil}
use Rattle.std.proofs.lemmas.Result.{err_from_is_err_and}
use Rattle.bpf_encoding.specs.Fields.{Fields, fields_of_bytes, slots_from}
use Rattle.bpf_encoding.specs.Spelling.{fields_of_code}
use Rattle.bpf_encoding.specs.Spells.{first_fault}
use Rattle.bpf_encoding.specs.Named.{named_from}
use Rattle.bpf_encoding.specs.declared.insn.Register.{Register}
use Rattle.bpf_encoding.specs.Joining.Taking.{due_fields, half_of, TakesSlot, IsFaultHere}
use Rattle.bpf_encoding.specs.declared.decode.Due.{Due}
use Rattle.bpf_encoding.specs.declared.decode.DecodeFault.TheVariants.{WideCut}
use Rattle.bpf_encoding.proofs.Growing.{fields_go_on, faults_go_on, named_goes_on, fault_is_first}
use Rattle.bpf_encoding.proofs.decode.places_of.Goals as goal

pub loop-at-init : goal.loop-at-init
loop-at-init c =
    let n : length c.args.bytes.now / 8 - 0 ≡ length c.args.bytes.now / 8 = omega arith in
    rw c.in_ok-places.ensures.items (record {
      long = omega arith;
      fields = ap (λ (k : ℕ). slots_from k c.args.bytes.now) n;
      named = ap (λ (k : ℕ). named_from None (slots_from k c.args.bytes.now)) n;
      whole = refl;
      faults = ap (λ (k : ℕ). first_fault false 0 (slots_from k c.args.bytes.now)) n;
    })

pub returns-in_err-due-clause-err : goal.returns-in_err-due-clause-err
returns-in_err-due-clause-err c =
    let p = err_from_is_err_and c.from_residual-in_err-due.result c.from_residual-in_err-due.ensures.1 in
    let l = c.loop-at in
    let is = c.from_bytes-slot.ensures ∙ ap fields_of_bytes c.split_at.ensures.front in
    let P : Fields → Type 0 = λ f. IsFaultHere l.due l.at f c.in_err-due.field-0.0 in
    rw (p.1, p.2) (fault_is_first (length c.args.bytes.now / 8) l.at l.due l.rest.now _ _ c.loop-at-test.true (subst P is c.in_err-due.ensures.err) l.invariant.faults)

pub loop-at-preserved : goal.loop-at-preserved
loop-at-preserved c =
    let l = c.loop-at in
    let count = length c.args.bytes.now / 8 in
    let is = c.from_bytes-slot.ensures ∙ ap fields_of_bytes c.split_at.ensures.front in
    let P : Fields → Type 0 = λ f. TakesSlot l.places.items l.due f c.take.new.places.items c.in_ok-due.due in
    let taken = subst P is c.in_ok-due.ensures.ok in
    rw c.split_at.ensures.back (record {
      long = omega (arith, c.split_at.ensures.front_len, c.split_at.ensures.back_len, l.invariant.long, ap length c.split_at.ensures.back);
      fields = fields_go_on count l.at _ l.rest.now _ _ c.loop-at-test.true taken.fields l.invariant.fields;
      named = named_goes_on count l.at (half_of l.due) (half_of c.in_ok-due.due) l.places.items c.take.new.places.items l.rest.now _ c.loop-at-test.true taken.named l.invariant.named;
      whole = taken.whole l.invariant.whole;
      faults = faults_go_on count l.at _ _ l.rest.now _ c.loop-at-test.true taken.faults l.invariant.faults;
    })

pub returns-in-None-clause-fields : goal.returns-in-None-clause-fields
returns-in-None-clause-fields c =
    let l = c.loop-at in
    let n : length c.args.bytes.now / 8 - l.at ≡ 0 = omega arith in
    let none : due_fields l.due ≡ [] = ap due_fields c.in-None.is in
    sym (append-nil (fields_of_code l.places.items)) ∙ ap (λ (fs : List Fields). fields_of_code l.places.items ++ fs)
    (sym none) ∙ sym (append-nil _) ∙ ap (λ (k : ℕ). (fields_of_code l.places.items ++ due_fields l.due) ++ slots_from
    k l.rest.now) (sym n) ∙ l.invariant.fields

pub returns-in-None-clause-named : goal.returns-in-None-clause-named
returns-in-None-clause-named c =
    let l = c.loop-at in
    let n : length c.args.bytes.now / 8 - l.at ≡ 0 = omega arith in
    let none : half_of l.due ≡ None = ap half_of c.in-None.is in
    sym (append-nil l.places.items) ∙ ap (λ (half : Option (Register × ℕ)). l.places.items ++ named_from half []) (sym none)
    ∙ ap (λ (k : ℕ). l.places.items ++ named_from (half_of l.due) (slots_from k l.rest.now)) (sym n) ∙ l.invariant.named

pub returns-in-None-clause-faultless : goal.returns-in-None-clause-faultless
returns-in-None-clause-faultless c =
    let l = c.loop-at in
    let n : length c.args.bytes.now / 8 - l.at ≡ 0 = omega arith in
    sym l.invariant.faults ∙ ap (λ (k : ℕ). first_fault (is_some l.due) l.at (slots_from k l.rest.now)) n ∙ ap (λ (o : Option Due). first_fault (is_some o) l.at []) c.in-None.is

pub returns-in-Some-clause-err : goal.returns-in-Some-clause-err
returns-in-Some-clause-err c =
    let l = c.loop-at in
    let n : length c.args.bytes.now / 8 - l.at ≡ 0 = omega arith in
    let at_end : l.at - 1 ≡ c.saturating_sub.result = omega arith in
    sym l.invariant.faults ∙ ap (λ (k : ℕ). first_fault (is_some l.due) l.at (slots_from k l.rest.now)) n ∙ ap (λ (o :
    Option Due). first_fault (is_some o) l.at []) c.in-Some.is ∙ ap (λ (k : ℕ). Some (WideCut k)) at_end
