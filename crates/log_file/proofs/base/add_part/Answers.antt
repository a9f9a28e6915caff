use Rattle.std.proofs.Common.{rules, ◌≡◌, ◌++◌, length, sym, subst}
use Rattle.std.proofs.lemmas.Result.{IfOk-weaker}
use Rattle.log_file.specs.Bytes.{Rows, part_bytes}
use Rattle.log_file.specs.Reading.{AreRows, Rise}
use Rattle.log_file.proofs.BaseLemmas.{none_added}
use Rattle.log_file.proofs.base.add_part.Goals as goal

pub returns-clause-no : goal.returns-clause-no
returns-clause-no c =
    let part = c.in-Some.part.items in
    let rows : AreRows c.in-Some.part.items = search rules in
    let size : length c.in-Some.part.items ≡ c.args.count = search rules in
    let is : c.args.payload.now ≡ part_bytes c.in-Some.part.items = search rules in
    IfOk-weaker c.add_rising.result _ _ (λ added never told.
    none_added c.args.count c.args.payload.now c.args.base.now.items part rows size is
    (λ rise. never told (subst (λ (l : Rows). Rise (c.args.base.now.items ++ l)) (sym c.deref.ensures.value) rise))) c.add_rising.ensures.no
