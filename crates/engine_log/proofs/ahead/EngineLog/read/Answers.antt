use Rattle.std.proofs.Common.{◌≡◌, true, false, sym, ◌∙◌, rules}
use Rattle.tc_core.specs.Core.{loaded_in}
use Rattle.log_file.specs.Bytes.{of_session}
use Rattle.procedure_digest.specs.Header.{header_of}
use Rattle.engine_log.proofs.ahead.EngineLog.read.Goals as goal

pub returns-then-not-is_same-clause-fault : goal.returns-then-not-is_same-clause-fault
returns-then-not-is_same-clause-fault c = record {
  stored = c.in-Ok.stored;
  is = c.in-Ok.ensures.says;
  differs = λ same.
      let own : c.in_ok-own.own ≡ of_session (header_of (loaded_in c.args.tc.now)) c.in-Ok.stored.header.session = search rules in
      let yes : c.is_same.result ≡ true = c.is_same.ensures.1 (same ∙ sym own) in
      let bad : true ≡ false = sym yes ∙ c.if-not-is_same.true in
      cc;
}
