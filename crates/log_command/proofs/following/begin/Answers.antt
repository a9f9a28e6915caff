use Rattle.std.proofs.Common.{ℕ, ◌≡◌, refl, subst}
use Rattle.log_part.specs.Part.{begin_of}
use Rattle.std.specs.Prelude.{string_bytes}
use Rattle.log_command.proofs.FollowLemmas.{has_begun}
use Rattle.log_command.proofs.following.begin.Goals as goal

pub returns : goal.returns
returns c =
    let is = c.in_ok-lines.ensures.taken in
    has_begun c.args.part c.args.file.now _ c.take.new.self c.in-Ok.stored c.events-events.result (string_bytes c.in_ok-lines.lines) c.in-Ok.ensures.says
    c.events-events.ensures c.in_ok-frames_in.ensures refl refl refl
    (subst (λ (n : ℕ). c.begin.result ≡ begin_of c.args.part n) c.len.ensures c.begin.ensures)
    refl is.frames is.bytes c.in_ok-lines.ensures.lines is
