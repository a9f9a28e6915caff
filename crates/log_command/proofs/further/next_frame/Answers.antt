use Rattle.std.proofs.Common.{◌≡◌, length, take, drop, true, false, sym, ◌∙◌, ap, arith, rules}
use Rattle.std.specs.Prelude.{ℕ, List}
use Rattle.std.specs.Int.{w64, from_le_bytes}
use Rattle.frame_file.proofs.Frames.{none_short, none_long, none_head}
use Rattle.log_command.proofs.further.next_frame.Goals as goal

pub returns-then-bytes-lt-HEAD-clause-none : goal.returns-then-bytes-lt-HEAD-clause-none
returns-then-bytes-lt-HEAD-clause-none c = none_short c.args.number c.args.bytes.now (omega arith)

pub returns-then-length-rest-clause-none : goal.returns-then-length-rest-clause-none
returns-then-length-rest-clause-none c =
    let bytes = c.args.bytes.now in
    let said : c.long-length.result ≡ from_le_bytes w64 (take 8 (drop 8 (take 24 bytes))) = search rules in
    let left = ap length c.split_at.ensures.back in
    none_long c.args.number bytes (omega (arith, said, left))

pub returns-else-branch-clause-none : goal.returns-else-branch-clause-none
returns-else-branch-clause-none c =
    let bytes = c.args.bytes.now in
    let n = c.long-length.result in
    let said : n ≡ from_le_bytes w64 (take 8 (drop 8 (take 24 bytes))) = search rules in
    let cut
    = c.split_at-2.ensures.front
    ∙ (ap (λ (x : List ℕ). take n x) c.split_at.ensures.back ∙ ap (λ (k : ℕ). take k (drop 24 bytes)) said) in
    none_head c.args.number bytes c.split_at-2.result.0.now cut
    (λ same. (let bad : true ≡ false = sym (c.in_ok-is_head.ensures.1 (c.split_at.ensures.front ∙ same)) ∙ c.if-branch.false in cc))
