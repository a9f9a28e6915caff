use Rattle.std.proofs.Common.{rules, ◌≡◌, ◌∙◌, ap}
use Rattle.std.specs.Prelude.{IfOk, string_bytes}
use Rattle.std.proofs.lemmas.Result.{IfOk-weaker}
use Rattle.log_picture.specs.Texts.{use_title, mode_class, span_text}
use Rattle.log_picture.proofs.Drawn.{use_form, use_form_is}
use Rattle.log_picture.proofs.texts.use_title.Goals as goal

pub returns : goal.returns
unfolding use_title
returns c =
    let name = c.args.name.now in
    let txn = c.args.life.now.txn in
    let class = c.mode_class-class.result.now in
    let span = string_bytes c.in_ok-span.span in
    let written : IfOk c.format.result (λ s. string_bytes s
    ≡ use_form c.args.name.now c.mode_class-class.result.now c.args.life.now.txn (string_bytes c.in_ok-span.span)) = search rules in
    IfOk-weaker c.format.result _ _
    (λ s is. use_form_is name class (mode_class c.args.mode) span _ (string_bytes s) txn c.mode_class-class.ensures
    (c.in_ok-span.ensures ∙ ap (span_text c.args.life.now.begin) c.end_place.ensures) is) written
