use Rattle.frame_file.specs.Reading.{ReadsAs}
use Rattle.frame_file.proofs.Readings.{same_reads_as}
use Rattle.frame_file.proofs.Moments.{started}
use Rattle.frame_file.proofs.file.FrameFile.recover.Goals as goal

pub returns-in_err-found-clause-any_moment : goal.returns-in_err-found-clause-any_moment
returns-in_err-found-clause-any_moment g c =
    let old = c.args.self.now.device in
    let file = g.D.Device.seen old in
    started g.D.Device.moment g.D.Device.left_since old (ReadsAs file)
    (λ f left. same_reads_as file f (c.requires.settled f (g.met.D.Device.only_now old f left)))
