use Rattle.std.proofs.Common.{rules, ◌≡◌, ◌-◌, true, false, length, drop, refl, sym, ◌∙◌, ap}
use Rattle.std.specs.Int.{w64, from_le_bytes}
use Rattle.log_file.specs.Bytes.{based_header_bytes}
use Rattle.log_file.proofs.BaseLemmas.{count_at, short_count}
use Rattle.log_file.proofs.header.base_count.Goals as goal

pub returns-then-payload-lt8-clause-none : goal.returns-then-payload-lt8-clause-none
returns-then-payload-lt8-clause-none c rows few is = short_count c.args.header.now rows c.args.payload.now c.if-payload-lt8.true is

pub returns-clause-none : goal.returns-clause-none
returns-clause-none c rows few is =
    let p = c.args.payload.now in
    let said : c.long-rows.result ≡ from_le_bytes w64 (drop (length c.args.payload.now - 8) c.args.payload.now) = search rules in
    let count : c.long-rows.result ≡ rows = said ∙ count_at c.args.header.now rows (length p - 8) p few is refl in
    let wanted : c.deref.result.now ≡ based_header_bytes c.args.header.now c.long-rows.result = c.deref.ensures.value ∙ c.in_ok-wanted.ensures in
    let yes : c.is_same.result ≡ true = c.is_same.ensures.1 (is ∙ (ap (based_header_bytes c.args.header.now) (sym count) ∙ sym wanted)) in
    let bad : true ≡ false = sym yes ∙ c.if-is_same.false in
    cc
