use Rattle.std.proofs.Common.{◌≡◌, length, ap, arith}
use Rattle.frame_file.specs.Reading.{payloads_in}
use Rattle.frame_file.proofs.Readings.{reads_one, count_payloads}
use Rattle.log_command.proofs.following.frames_in.Goals as goal

pub returns-in-Ok : goal.returns-in-Ok
returns-in-Ok c = λ payloads reads.
    let vecs = c.in-Ok.found.payloads.items in
    let same : payloads ≡ payloads_in vecs = reads_one c.args.file.now (payloads_in vecs) payloads c.in-Ok.ensures.found.reads reads in
    omega (arith, ap length same, count_payloads vecs)
