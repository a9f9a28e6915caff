use Rattle.std.proofs.Common.{◌≡◌, inr, rules}
use Rattle.log_command.proofs.following.read_own.Goals as goal

pub returns-else-eq-clause-none : goal.returns-else-eq-clause-none
returns-else-eq-clause-none c =
    let differs : ¬ (c.in-Ok.stored.header ≡ c.args.header.now) = search (rules, c.eq.ensures, c.if-eq.false) in
    inr (c.in-Ok.stored, c.in-Ok.ensures.says, differs)
