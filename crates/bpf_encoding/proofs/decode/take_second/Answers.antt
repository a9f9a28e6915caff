use Rattle.std.proofs.Common.{◌≡◌, Some, None, subst, ap, ◌∙◌, arith, rules}
use Rattle.std.specs.Prelude.{ℤ, pos}
use Rattle.std.specs.Int.{w32, cast_unsigned}
use Rattle.std.proofs.lemmas.Int.{ints, to_z-of_z}
use Rattle.std.specs.Int.RustNames.{FitsSigned}
use Rattle.bpf_encoding.specs.Fields.{Fields}
use Rattle.bpf_encoding.specs.Spelling.{fields}
use Rattle.bpf_encoding.specs.Named.{wide_named}
use Rattle.bpf_encoding.specs.Joining.Viewed.{viewed}
use Rattle.bpf_encoding.specs.Joining.Taking.{TakesSlot}
use Rattle.bpf_encoding.proofs.Growing.{takes_second, blank_fields}
use Rattle.bpf_encoding.proofs.decode.take_second.Goals as goal

pub returns-clause-ok : goal.returns-clause-ok
returns-clause-ok c =
    let fits : FitsSigned w32 c.args.slot.now.imm = search rules in
    let offset : c.args.slot.now.offset ≡ pos 0 = grind (arith, ints) in
    let blank : fields 0 0 0 (pos 0) c.args.slot.now.imm ≡ viewed c.args.slot.now = blank_fields _ _ _ _ _ c.if-slot-ne0.false c.if-slot-ne0-2.false c.if-slot-ne0-3.false offset in
    let P : Fields → Type 0 = λ f. TakesSlot c.args.places.now.items (Some c.args.due) f c.push-2.new.self.items None in
    subst P blank
    (rw (c.in_ok-push-2.ensures.items, c.in_ok-push.ensures.items)
    (takes_second c.args.places.now.items c.args.due c.wide_value-value.result c.args.slot.now.imm c.wide_value-value.ensures.low
    (c.wide_value-value.ensures.high ∙ ap (cast_unsigned w32) (to_z-of_z w32 c.args.slot.now.imm fits))
    (c.wide_value-value.ensures.whole ∙ ap (λ (z : ℤ). wide_named c.args.due.low (cast_unsigned w32 z)) (to_z-of_z w32 c.args.slot.now.imm fits)) fits))
