use Rattle.std.proofs.Common.{rules, arith, ap, length}
use Rattle.std.proofs.lemmas.Result.{err_from_is_err_and}
use Rattle.std.specs.Option.{option_map}
use Rattle.object_file.specs.LineSections.{line_bytes}
use Rattle.object_procedures.specs.Given.{given_of}
use Rattle.object_procedures.proofs.Each.{each_more}
use Rattle.object_procedures.proofs.GivenLemmas.{given_stop}
use Rattle.object_procedures.proofs.given.all_given.Goals as goal

pub found-preserved : goal.found-preserved
found-preserved c =
    let l = c.found in
    let s = c.in-Some.ensures.steps in
    let count = ap length s.0 in (
      omega (arith, l.invariant.0, s.1, count),
      each_more (given_of (option_map line_bytes c.args.lines)) l.one-iterator.rest.items c.next.new.self.rest.items c.in-Some.one
          c.in_ok-given_of.field-0 l.given.items c.push.new.self.items _ s.0 (search rules) (search rules) l.invariant.1,
    )

pub returns-in_err-given_of-clause-err : goal.returns-in_err-given_of-clause-err
returns-in_err-given_of-clause-err c =
    let l = c.found in
    let p = err_from_is_err_and c.from_residual.result c.from_residual.ensures.1 in
    rw (p.1, p.2) (given_stop (option_map line_bytes c.args.lines) l.one-iterator.rest.items c.next.new.self.rest.items c.in-Some.one c.in_err-given_of.field-0.0 l.given.items _
    c.in-Some.ensures.steps.0 c.in_err-given_of.ensures l.invariant.1)
