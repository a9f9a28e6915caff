use Rattle.std.proofs.Common.{◌≡◌, ℕ, List, ◌++◌, refl, sym, subst}
use Rattle.std.specs.Prelude.{string_bytes}
use Rattle.log_command.specs.declared.following.Followed.{Followed}
use Rattle.log_command.specs.Following.{HasPrinted}
use Rattle.log_command.proofs.FollowLemmas.{read_or_waiting}
use Rattle.program_files.proofs.following.read_on.Goals.{then-not-is_empty, else-not-is_empty+then-not-source+in_ok-judge, else-not-is_empty+else-not-source}
use Rattle.program_files.proofs.following.read_on.Goals as goal

pub returns-clause-ok : goal.returns-clause-ok
returns-clause-ok c = λ part file printed has.
    let lines = string_bytes c.in_ok-lines.lines in
    let old = c.args.source.now.followed in
    let read = read_or_waiting part file _ printed c.deref.result.now lines old c.read_on.new.self has (c.in_ok-lines.ensures part file printed has) in
    let same : c.if-not-is_empty.source.followed ≡ c.read_on.new.self
    = elim c.if-not-is_empty.branch [
      | then-not-is_empty w ↦ rw w.source-is refl
      | else-not-is_empty+then-not-source+in_ok-judge w ↦ rw w.source-is refl
      | else-not-is_empty+else-not-source w ↦ rw w.source-is refl
    ] in
    subst (λ (f : Followed). (now : List ℕ) × HasPrinted part now f (printed ++ lines)) (sym same) read
