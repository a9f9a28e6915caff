use Rattle.std.proofs.Common.{rules, sym, subst}
use Rattle.log_file.specs.Reading.{AreRows}
use Rattle.log_file.proofs.BaseLemmas.{rows_further, rows_push}
use Rattle.log_file.proofs.base.rows_in.Goals as goal

pub rows-preserved : goal.rows-preserved
rows-preserved c = record {
  so_far = rows_further c.rows.rows.items c.push.new.self.items c.args.count c.rows.counter c.row_in.result
      c.rows.rest.now c.split_at.result.0.now c.split_at.result.1.now _ (search rules) c.rows.invariant.so_far
      (search rules) c.row_in.ensures.value (search rules) (search rules);
  numbers = subst AreRows (sym (search rules)) (rows_push c.rows.rows.items c.row_in.result c.rows.invariant.numbers c.row_in.ensures.numbers);
  left = search rules;
}
