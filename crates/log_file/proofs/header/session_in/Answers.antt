use Rattle.std.proofs.Common.{◌≡◌, true, rules}
use Rattle.log_file.specs.Joining.Fields.{version_in, has_session}
use Rattle.log_file.proofs.HeaderLemmas.{unsaid_none}
use Rattle.log_file.proofs.header.session_in.Goals as goal

pub returns-then-bytes-lt72-clause-none : goal.returns-then-bytes-lt72-clause-none
returns-then-bytes-lt72-clause-none c =
    let has : has_session (version_in c.args.bytes.now) ≡ true = search rules in
    unsaid_none c.args.bytes.now has c.if-bytes-lt72.true
