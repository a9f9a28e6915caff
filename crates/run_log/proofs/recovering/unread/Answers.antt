use Rattle.std.proofs.Common.{ap, sym, subst, inr}
use Rattle.std.specs.Prelude.{string_bytes}
use Rattle.run_log.specs.LogLines.{IsOtherRefusal}
use Rattle.run_log.proofs.recovering.unread.Goals as goal

pub returns-in_ok-line-in-Other : goal.returns-in_ok-line-in-Other
returns-in_ok-line-in-Other c =
    let file = c.args.bytes.now in
    let lines = ap string_bytes (sym c.refusal-in-Other.ensures.1) in
    (inr (c.in-Other.is, subst (IsOtherRefusal c.args.header.now file) lines c.in_ok-line-in-Other.ensures), c.refusal-in-Other.ensures.0)
