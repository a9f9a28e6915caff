use Rattle.std.proofs.Common.{◌≡◌, ◌∙◌, ℕ, List, [], ◌∷◌, refl, subst, inl, inr, rules}
use Rattle.std.specs.Prelude.{string_bytes}
use Rattle.log_file.specs.Stored.{IsStored}
use Rattle.frame_file.specs.Frame.{frames_from}
use Rattle.log_file.specs.Bytes.{header_bytes}
use Rattle.log_command.specs.Following.{IsUnlike}
use Rattle.log_command.proofs.FollowLemmas.{read_further}
use Rattle.log_command.proofs.following.Followed.read_on.Goals as goal

pub returns : goal.returns
returns c = λ part file printed has.
    let is = c.in_ok-lines.ensures.taken in
    inl (read_further part file printed c.args.bytes.now c.args.self.now _ c.take.new.self c.in_ok-further.further c.in-Some.stored c.events.result
    (string_bytes c.in_ok-lines.lines) has c.in_ok-further.ensures (subst (λ (b : List ℕ). IsStored b c.in-Some.stored) c.deref.ensures.value (c.in-Some.ensures.some).0)
    (c.in-Some.ensures.some).1 c.events.ensures
    c.in_ok-lines.ensures.lines is refl refl refl refl refl (search rules))

pub returns-in_default : goal.returns-in_default
returns-in_default c = λ part file printed has.
    let are = c.in_ok-further.ensures in
    let h = c.args.self.now.header in
    let unlike : IsUnlike h (frames_from 0 (header_bytes h ∷ are.payloads))
    = subst (IsUnlike h) (c.deref.ensures.value ∙ are.file) c.in_default.ensures.none in
    let silent : string_bytes c.new.result ≡ [] = search rules in
    inr (record { why = record { payloads = are.payloads; rest = are.rest; is = are.is; unlike = unlike }; same = refl; silent = silent })
