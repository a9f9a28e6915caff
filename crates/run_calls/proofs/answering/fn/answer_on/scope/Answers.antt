use Rattle.std.proofs.Common.{◌≡◌, rules, length}
use Rattle.std.specs.Prelude.{is_some}
use Rattle.std.proofs.lemmas.Result.{IfOk-weaker}
use Rattle.run_calls.proofs.answering.fn.answer_on.scope.Goals as goal

pub returns-then-len-count : goal.returns-then-len-count
returns-then-len-count g c =
    let m = c.captures.manner in
    let all = c.answer_all-answered.ensures in
    let now = c.with_dcs.result in
    let is = c.with_dcs.ensures in
    let count : length c.captures.dcs.items ≡ length c.serve_all-servers.result.items = search rules in
    let served = c.handed_back.ensures c.captures.dcs.items c.serve_all-servers.ensures count in
    record {
      answered = IfOk-weaker now _ _ (λ r h. rw h at all.answered) is.answered;
      served = IfOk-weaker now _ _ (λ r h. rw h at served) is.dcs;
      kept = λ was. IfOk-weaker now _ _ (λ r h. rw h at (all.kept was)) is.answered;
      same = IfOk-weaker now _ _ (λ r h. rw h at all.same) is.answered;
      range = IfOk-weaker now _ _ (λ r h. rw h at all.range) is.answered;
      fault = is.fault (is_some c.captures.journal) m.workers m.tries all.fault;
    }

pub returns-else-len-count : goal.returns-else-len-count
returns-else-len-count g c =
    record { answered = tt; served = tt; kept = λ _. tt; same = tt; range = tt; fault = c.unserved.ensures (is_some c.captures.journal) c.captures.manner.workers }
