use Rattle.std.proofs.Common.{subst, sym}
use Rattle.frame_file.specs.Device.{Follows, Cut}
use Rattle.disk_file.specs.Events.{MayLeave}
use Rattle.disk_file.proofs.Events.{Events, not_cut}
use Rattle.disk_file.proofs.disk.DiskFileDevice.cut.Goals as goal

pub returns-in_err-keep-clause-crash : goal.returns-in_err-keep-clause-crash
returns-in_err-keep-clause-crash c =
    subst (λ (l : Events). Follows (Cut c.args.len) (MayLeave c.args.self.now.calls) (MayLeave l))
    (sym c.keep.ensures.calls) (not_cut c.args.self.now.calls c.args.len)
