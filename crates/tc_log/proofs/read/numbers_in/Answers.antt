use Rattle.std.proofs.Common.{rules, sym, subst}
use Rattle.tc_log.specs.Reading.{AreNumbers}
use Rattle.tc_log.proofs.Again.{numbers_further}
use Rattle.tc_log.proofs.Numbers.{numbers_push}
use Rattle.tc_log.proofs.read.numbers_in.Goals as goal

pub numbers-preserved : goal.numbers-preserved
numbers-preserved c = record {
  so_far = numbers_further c.numbers.numbers.items c.push.new.self.items c.args.count c.numbers.counter c.long.result
      c.numbers.rest.now c.split_at.result.0.now c.split_at.result.1.now _ (search rules) c.numbers.invariant.so_far
      (search rules) (search rules) (search rules) (search rules);
  machine = subst AreNumbers (sym (search rules)) (numbers_push c.numbers.numbers.items c.long.result c.numbers.invariant.machine (search rules));
  left = search rules;
}
