use Rattle.std.proofs.Common.{arith, ◌≡◌, ◌∙◌, ℕ, List, [], ◌++◌, ap, subst, sym}
use Rattle.std.specs.Prelude.{string_bytes}
use Rattle.std.proofs.lemmas.Bool.{eqb-true}
use Rattle.std.proofs.lemmas.List.{append-nil}
use Rattle.log_command.specs.Following.{HasPrinted}
use Rattle.program_files.proofs.FollowEnds.{no_bytes}
use Rattle.program_files.proofs.following.look.Goals as goal

pub returns-in-Ok-true-clause-ok : goal.returns-in-Ok-true-clause-ok
returns-in-Ok-true-clause-ok g c = λ part file printed has.
    let it = c.in_ok-lines.lines in
    let none : it.bytes.len ≡ 0 = eqb-true _ _ (sym c.is_empty.ensures ∙ c.if-not-is_empty.false) in
    let silent : string_bytes it ≡ [] = no_bytes (string_bytes it) (omega (arith, none, it.bytes.ok)) in
    let read = c.in_ok-lines.ensures.ok part file printed has in
    let same = ap (λ (l : List ℕ). printed ++ l) silent ∙ append-nil printed in
    c.renew.ensures.ok part read.0 printed (subst (HasPrinted part read.0 c.read_on.new.source.followed) same read.1)
