use Rattle.log_command.proofs.FollowLemmas.{anew_is}
use Rattle.log_command.proofs.following.Followed.anew.Goals as goal

pub returns-clause-behind : goal.returns-clause-behind
returns-clause-behind c = λ part old printed has. anew_is part old c.args.file.now printed c.args.self.now c.begin.result has c.begin.ensures
