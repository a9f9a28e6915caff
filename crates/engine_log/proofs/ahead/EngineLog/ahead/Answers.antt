use Rattle.std.proofs.Common.{◌≡◌, ◌++◌, None, rules}
use Rattle.engine_log.specs.Handing.{Fits}
use Rattle.engine_log.proofs.AheadLemmas.{on_ok, goes_on, begins}
use Rattle.engine_log.proofs.ahead.EngineLog.ahead.Goals as goal

pub returns-in_default-clause-goes_on : goal.returns-in_default-clause-goes_on
returns-in_default-clause-goes_on c =
    let one = c.in_ok-append.ensures.one_more in
    let none : c.args.self.now.header ≡ None = search rules in
    let out : c.extend_from_slice.new.self.items ≡ c.args.out.now.items ++ c.append.new.out.items = search rules in (
      c.append.new.out.items,
      out,
      begins c.args.self.now c.in_ok-file.file c.append.new.self c.args.tc.now c.begun.new.out.items one.0 c.append.new.out.items none
          c.in_ok-file.ensures.header c.in_ok-file.ensures.session (c.in_ok-file.ensures.frames (search rules)) c.append.ensures.header
          c.append.ensures.session one.2 one.1,
    )

pub returns-clause-goes_on : goal.returns-clause-goes_on
returns-clause-goes_on c =
    let fits : Fits c.in-Some.header c.args.self.now c.args.tc.now = search rules in
    on_ok c.append-2.result (λ one. (
      one.0,
      one.1,
      goes_on c.in-Some.header c.args.self.now c.args.tc.now one.0 c.append-2.new.self c.in-Some.is fits c.append-2.ensures.header
          c.append-2.ensures.session one.2,
    )) c.append-2.ensures.one_more
