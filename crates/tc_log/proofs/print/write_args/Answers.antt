use Rattle.std.proofs.Common.{◌≡◌, ℕ, ◌+◌, ◌-◌, ◌*◌, ◌≤◌, List, ◌++◌, length, replicate, refl, ap, ◌∙◌}
use Rattle.std.specs.List.{flat_map}
use Rattle.std.specs.Int.{w64, to_le_bytes}
use Rattle.std.proofs.lemmas.Result.{on_ok_weaker}
use Rattle.std.proofs.lemmas.List.{append_assoc, length-append, take_all}
use Rattle.tc_log.specs.Printed.{args_bytes}
use Rattle.tc_log.proofs.Lengths.{args_long}
use Rattle.tc_log.proofs.print.write_args.Goals as goal

written : (old mid new words zeros rest : List ℕ) → mid ≡ old ++ words → new ≡ mid ++ rest → rest ≡ zeros → new ≡ old ++ (words ++ zeros)
written old mid new words zeros rest a b is = b ∙ ap (λ (xs : List ℕ). xs ++ rest) a ∙ append_assoc old words rest ∙ ap (λ (z : List ℕ). old ++ (words ++ z)) is

pub returns-clause-bytes : goal.returns-clause-bytes
returns-clause-bytes c =
    let args = c.args.args.now in
    let all = take_all c.numbers.arg-index args c.numbers-test.false in
    on_ok_weaker c.write_zeros.result
    (λ h. written c.args.out.now.items _ _ (flat_map (to_le_bytes w64) args) (replicate (64 - 8 * length args) 0) _
    (c.numbers.invariant ∙ ap (λ (xs : List ℕ). c.args.out.now.items ++ flat_map (to_le_bytes w64) xs) all) h refl)
    c.write_zeros.ensures

longer : (old new args : List ℕ) → new ≡ old ++ args_bytes args → length args ≤ 8 → length new ≡ length old + 64
longer old new args is few = ap length is ∙ length-append old (args_bytes args) ∙ ap (λ (n : ℕ). length old + n) (args_long args few)

pub returns-clause-long : goal.returns-clause-long
returns-clause-long c = on_ok_weaker c.write_zeros.result (λ h. longer c.args.out.now.items _ c.args.args.now h c.requires) (returns-clause-bytes c)
