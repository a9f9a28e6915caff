use Rattle.std.proofs.Common.{◌≡◌, length, map, ◌≤◌}
use Rattle.bpf_asm.specs.Cutting.{trim, first_three}
use Rattle.bpf_asm.proofs.cut.split_operands.Given as goal

abbrev pub invariant-parts : goal.invariant-parts
invariant-parts l =
    (goal.iterator-parts).can_next l.part-iterator ×
    (goal.iterator-parts).is_finite l.part-iterator ×
    (l.count ≡ length l.yielded) × (l.count ≤ 3) × (map (λ t. t.now) l.texts ≡ first_three (map trim (map (λ t. t.now) l.yielded)))
