use Rattle.std.proofs.Common.{rules, ◌≡◌, true, false, length, sym, ◌∙◌, ap}
use Rattle.log_file.specs.Bytes.{part_bytes}
use Rattle.log_file.specs.Joining.Fields.{rows_in}
use Rattle.log_file.proofs.BaseLemmas.{length_none, other_none, length_rows_in}
use Rattle.log_file.proofs.base.read_part.Goals as goal

pub returns-then-payload-count-clause-none : goal.returns-then-payload-count-clause-none
returns-then-payload-count-clause-none c = length_none c.args.count c.args.payload.now c.if-payload-count.true

pub returns-then-is_same-clause-size : goal.returns-then-is_same-clause-size
returns-then-is_same-clause-size c =
    let rows : c.in_ok-rows.rows.items ≡ rows_in c.args.count c.args.payload.now = c.in_ok-rows.ensures.value in
    ap length rows ∙ length_rows_in c.args.count c.args.payload.now

pub returns-else-is_same-clause-none : goal.returns-else-is_same-clause-none
returns-else-is_same-clause-none c =
    let again : c.deref-2.result.now ≡ part_bytes (rows_in c.args.count c.args.payload.now) = search rules in
    other_none c.args.count c.args.payload.now (λ e.
    (let yes : c.is_same.result ≡ true = c.is_same.ensures.1 (again ∙ e) in
    let bad : true ≡ false = sym yes ∙ c.if-is_same.false in
    cc))
