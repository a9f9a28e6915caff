use Rattle.std.proofs.Common.{◌∙◌, subst}
use Rattle.program_files.specs.Streams.{Begins}
use Rattle.program_files.proofs.FollowEnds.{one_seam}
use Rattle.program_files.proofs.following.renew.Goals as goal

pub returns-in_ok-missing-in-Followed-clause-told : goal.returns-in_ok-missing-in-Followed-clause-told
returns-in_ok-missing-in-Followed-clause-told g c =
    one_seam _ c.seam.result (subst (Begins _) (c.as_str.ensures.value ∙ c.in_ok-missing-in-Followed.ensures) c.tell.ensures.part)
