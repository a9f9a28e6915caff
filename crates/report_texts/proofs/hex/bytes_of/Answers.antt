use Rattle.std.proofs.Common.{sym, ◌∙◌}
use Rattle.report_texts.proofs.HexLemmas.{blank_on, pair_on}
use Rattle.report_texts.proofs.hex.bytes_of.Goals as goal

pub text-preserved-then-is_blank : goal.text-preserved-then-is_blank
text-preserved-then-is_blank c = blank_on c.args.text.now c.text.bytes.items c.text.at _ c.text-test.true (sym c.is_blank.ensures ∙ c.if-is_blank.true) c.text.invariant

pub text-preserved : goal.text-preserved
text-preserved c =
    rw c.in_ok-push.ensures.items
    (pair_on c.args.text.now c.text.bytes.items c.text.at c.in-Some.byte _ c.if-at-text.false (sym c.is_blank.ensures ∙ c.if-is_blank.false) (sym c.pair.ensures ∙ c.in-Some.is) c.text.invariant)
