use Rattle.std.proofs.Common.{◌≡◌, ◌≤◌, ℕ, List, [], ◌++◌, length, take, refl, sym, ◌∙◌, ap, arith, rules, subst}
use Rattle.frame_file.specs.Frame.{head_bytes, framed}
use Rattle.frame_file.proofs.Frames.{length-framed, length-head}
use Rattle.std.proofs.lemmas.List.{take_at}
use Rattle.log_command.proofs.further.is_head.Goals as goal

pub slice_bounds-eq-end : goal.slice_bounds-eq-end
slice_bounds-eq-end c =
    let is : c.write_frame.new.out.items ≡ framed c.args.number c.args.payload.now = search rules in
    let long = ap length is ∙ length-framed c.args.number c.args.payload.now in
    search (rules, long)

pub returns : goal.returns
returns c =
    let n = c.args.number in
    let p = c.args.payload.now in
    let is : c.write_frame.new.out.items ≡ framed n p = search rules in
    let front : take 24 c.write_frame.new.out.items ≡ head_bytes n p
    = ap (λ (b : List ℕ). take 24 b) is ∙ take_at (head_bytes n p) p 24 (length-head n p) in
    search (rules, front)
