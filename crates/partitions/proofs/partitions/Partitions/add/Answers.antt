use Rattle.std.proofs.Common.{arith, ◌≡◌, ◌∙◌, ◌<◌, ◌≤◌, ℕ, List, length, Some, ap, subst, sym}
use Rattle.std.specs.Prelude.{slice_get}
use Rattle.access_slots.specs.declared.slot.Slot.{Slot}
use Rattle.partitions.specs.Partitions.{partition_at, Reaches}
use Rattle.partitions.specs.Joining.Merging.{AreJoined}
use Rattle.partitions.proofs.Joins.{first_is, first_low, one_joined, taken_in}
use Rattle.partitions.proofs.partitions.Partitions.add.Goals as goal

pub loop-slot-preserved : goal.loop-slot-preserved
loop-slot-preserved c = λ dcs decls reach reaches are.
    let l = c.loop-slot in
    let slots = c.slots-slots.result.now in
    let first = c.from-first.result in
    let at : slice_get slots 0 ≡ Some c.in-Some.first.now = sym c.in-Some.ensures.value in
    one_joined dcs decls slots first reach reaches
    (λ numbers. first_is numbers slots c.in-Some.first.now at ∙ ap (partition_at numbers) (sym c.from-first.ensures))
    (subst (λ (n : ℕ). n < dcs) (sym c.from-first.ensures) (first_low dcs slots c.in-Some.first.now at reaches))
    l.slot-index _ c.number-one.result c.number-other.result l.self c.merge.new.self c.loop-slot-test.true c.number-one.ensures
    (c.number-other.ensures ∙ ap (partition_at l.self) c.from.ensures) c.merge.ensures.each c.merge.ensures.renamed
    (l.invariant dcs decls reach reaches are)

pub returns : goal.returns
returns c = λ dcs decls reach reaches are.
    let l = c.loop-slot in
    let decl = c.args.decl.now in
    let slots = c.slots-slots.result.now in
    let first = c.from-first.result in
    let same : slots ≡ decl.slots = c.slots-slots.ensures.value in
    let at : slice_get decl.slots 0 ≡ Some c.in-Some.first.now = ap (λ (xs : List Slot). slice_get xs 0) (sym same) ∙ sym c.in-Some.ensures.value in
    let all : length decl.slots ≤ l.slot-index = omega (arith, c.loop-slot-test.false, ap length same) in
    taken_in dcs decls decl first l.slot-index l.self all
    (first_is l.self decl.slots c.in-Some.first.now at ∙ ap (partition_at l.self) (sym c.from-first.ensures))
    (subst (λ (xs : List Slot). AreJoined dcs decls xs first l.slot-index l.self) same
    (l.invariant dcs decls reach (subst (Reaches dcs) (sym same) reaches) are))
