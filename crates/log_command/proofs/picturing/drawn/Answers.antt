use Rattle.std.proofs.lemmas.Result.{IfOk-weaker}
use Rattle.log_command.proofs.picturing.drawn.Goals as goal

pub returns : goal.returns
returns c =
    let shown = rw (c.before-shown.ensures) at c.in_ok-picture.ensures in
    let drawn = rw (c.before-shown.ensures, c.len.ensures) at c.drawing.ensures in
    IfOk-weaker c.drawing.result _ _ (λ svg text. record { picture = c.in_ok-picture.picture; of = shown; text = text }) drawn
