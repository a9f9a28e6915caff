use Rattle.std.proofs.Common.{◌≡◌, ◌+◌, ◌++◌, length, ap, arith, rules, length-append}
use Rattle.frame_file.specs.Frame.{framed}
use Rattle.frame_file.proofs.Frames.{length-framed}
use Rattle.log_command.proofs.FurtherLemmas.{so_far_on}
use Rattle.log_command.proofs.further.further_frames.Goals as goal

pub frames-smaller : goal.frames-smaller
frames-smaller c =
    let n = c.frames.next in
    let p = c.in-Some.payload.now in
    let cut : c.frames.rest.now ≡ framed n p ++ c.in-Some.after.now = search rules in
    omega (arith, ap length cut, length-append (framed n p) c.in-Some.after.now, length-framed n p)

pub frames-preserved : goal.frames-preserved
frames-preserved c =
    let n = c.frames.next in
    let p = c.in-Some.payload.now in
    let cut : c.frames.rest.now ≡ framed n p ++ c.in-Some.after.now = search rules in
    let next : c.in-Some-checked_add.following ≡ n + 1 = search rules in
    let grown : c.write_frame.new.out.items ≡ c.frames.file.items ++ framed (c.frames.count + 1) p = search rules in
    rw next (so_far_on c.args.header.now c.args.number c.args.bytes.now c.frames.file.items c.write_frame.new.out.items n c.frames.count c.frames.rest.now p
    c.in-Some.after.now c.frames.invariant cut (search rules) grown)
