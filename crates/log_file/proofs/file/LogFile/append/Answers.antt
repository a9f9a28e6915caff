use Rattle.std.proofs.Common.{subst}
use Rattle.frame_file.specs.Device.{Only}
use Rattle.frame_file.proofs.Torns.{whole}
use Rattle.log_file.specs.Bytes.{batch_bytes}
use Rattle.log_file.proofs.MomentLemmas.{unmoved}
use Rattle.log_file.proofs.file.LogFile.append.Goals as goal

pub returns-in_err-payload-clause-any_moment : goal.returns-in_err-payload-clause-any_moment
returns-in_err-payload-clause-any_moment g c payloads settled =
    let device = c.args.self.now.frames.device in
    let payload = batch_bytes (record { notes = c.args.notes.now; rows = c.args.rows.now }) in
    let only = subst (λ f. Only f (g.D.Device.may_leave device)) settled.bytes settled.durable in
    unmoved g.D.Device.moment g.D.Device.left_since device _ (λ f left. whole payloads payload settled.fit f (only f (g.met.D.Device.only_now device f left)))
