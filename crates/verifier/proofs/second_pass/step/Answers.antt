use Rattle.std.proofs.Common.{◌≡◌, ℕ, ◌+◌, Bool, Option, Some, None, Ok, cond, sym, ap, ◌∙◌, arith}
use Rattle.bpf_encoding.specs.declared.insn.Place.TheVariants as place
use Rattle.register_kinds.specs.declared.kinds.Kinds.{Kinds}
use Rattle.register_kinds.specs.Arriving.{along, along_from}
use Rattle.register_kinds.specs.Effects.{result_by}
use Rattle.register_kinds.specs.Transfer.{transfer_of}
use Rattle.verifier.specs.Joining.Table.{kept}
use Rattle.verifier.proofs.Arrived.{stepped, next_is}
use Rattle.verifier.proofs.second_pass.step.Goals as goal

pub returns-then-stays-clause-ways : goal.returns-then-stays-clause-ways
returns-then-stays-clause-ways c = λ none k after inside.
    let at = c.args.at in
    let i = c.args.insn.now in
    let decl = c.args.decl.now in
    let ks = c.in-Some.kinds in
    let e = c.in-Ok.effect in
    let new = c.go_on.new.kinds in
    let waiting = c.go_on.new.pending in
    let now = c.fall.new.pending in
    let is : result_by ks (Ok e) ≡ transfer_of decl i ks = ap (result_by ks) (sym c.in-Ok.is) ∙ c.effect_of.ensures in
    let behind = ap (λ (n : ℕ). at + n) c.slots.ensures.value ∙ next_is at i in
    ap (λ (b : Bool). along (Some (at + 1)) (cond b (Some new) None) k (kept now k)) (sym c.if-stays.true)
    ∙ stepped decl at k i ks new e c.jump_place.result (at + c.slots.result) c.in_ok-falls.falls c.in_ok-stays.stays
    (kept c.args.pending.now k) (kept waiting k) (kept now k)
    (c.in_ok-stays.ensures.ok k after (omega (arith, inside, c.go_on.ensures.long))) c.in_ok-falls.ensures.next
    (c.in_ok-falls.ensures.jump k inside) c.jump_place.ensures behind is
    ∙ ap (λ (o : Option Kinds). along_from decl at (Some (place.Insn i)) o k (kept c.args.pending.now k)) (sym c.in-Some.is)

pub returns-clause-ways : goal.returns-clause-ways
returns-clause-ways c = λ none k after inside.
    let at = c.args.at in
    let i = c.args.insn.now in
    let decl = c.args.decl.now in
    let ks = c.in-Some.kinds in
    let e = c.in-Ok.effect in
    let new = c.go_on.new.kinds in
    let waiting = c.go_on.new.pending in
    let now = c.fall.new.pending in
    let is : result_by ks (Ok e) ≡ transfer_of decl i ks = ap (result_by ks) (sym c.in-Ok.is) ∙ c.effect_of.ensures in
    let behind = ap (λ (n : ℕ). at + n) c.slots.ensures.value ∙ next_is at i in
    ap (λ (b : Bool). along (Some (at + 1)) (cond b (Some new) None) k (kept now k)) (sym c.if-stays.false)
    ∙ stepped decl at k i ks new e c.jump_place.result (at + c.slots.result) c.in_ok-falls.falls c.in_ok-stays.stays
    (kept c.args.pending.now k) (kept waiting k) (kept now k)
    (c.in_ok-stays.ensures.ok k after (omega (arith, inside, c.go_on.ensures.long))) c.in_ok-falls.ensures.next
    (c.in_ok-falls.ensures.jump k inside) c.jump_place.ensures behind is
    ∙ ap (λ (o : Option Kinds). along_from decl at (Some (place.Insn i)) o k (kept c.args.pending.now k)) (sym c.in-Some.is)
