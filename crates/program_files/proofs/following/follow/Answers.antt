use Rattle.std.proofs.Common.{[], ◌++◌, rules, subst}
use Rattle.std.specs.Prelude.{string_bytes}
use Rattle.std.proofs.KnownBytes.{Appends-nil, Appends-trans}
use Rattle.program_files.specs.Streams.{stream, Gets, Begins}
use Rattle.program_files.specs.declared.following.End.TheVariants.{Unwritten}
use Rattle.program_files.proofs.FollowEnds.{ends_at_once, ends_behind, ends_unwritten, no_seams, more_seams}
use Rattle.program_files.proofs.following.follow.Goals as goal

pub returns-in-Err : goal.returns-in-Err
returns-in-Err g c = ends_at_once c.args.part _ _ c.in-Err.end c.in-Err.ensures.end

pub looks-init : goal.looks-init
looks-init g c =
    let begun = c.in-Ok.ensures.ok in
    (begun.0, [], begun.1, Appends-nil (g.W.Write.contents c.args.out.now), no_seams (g.E.Write.contents c.args.err.now))

pub returns-in-Err-tell : goal.returns-in-Err-tell
returns-in-Err-tell g c =
    let inv = c.looks.invariant in
    ends_unwritten c.args.part inv.0 inv.1 (string_bytes c.looks.lines) c.looks.source.followed _ _ _ _ (Unwritten c.in-Err-tell.error) inv.2 inv.3
    (subst (Begins _) c.as_str.ensures.value c.tell.ensures.part) inv.4 (λ begins. begins)

pub returns-in-Err-look : goal.returns-in-Err-look
returns-in-Err-look g c =
    let inv = c.looks.invariant in
    let lines = string_bytes c.looks.lines in
    let written : Gets (stream (g.W.Write.contents c.looks.out) (g.W.Write.contents c.tell.new.to)) lines = search rules in
    ends_behind c.args.part inv.0 (inv.1 ++ lines) c.looks.source.followed _ _ c.in-Err-look.end inv.2 (Appends-trans _ _ _ inv.1 lines inv.3 written)
    (more_seams _ _ _ inv.4 c.look.ensures.told) c.in-Err-look.ensures.end

pub looks-preserved : goal.looks-preserved
looks-preserved g c =
    let inv = c.looks.invariant in
    let lines = string_bytes c.looks.lines in
    let written : Gets (stream (g.W.Write.contents c.looks.out) (g.W.Write.contents c.tell.new.to)) lines = search rules in
    let read = c.in-Ok-look.ensures.ok c.args.part inv.0 (inv.1 ++ lines) inv.2 in
    (read.0, inv.1 ++ lines, read.1, Appends-trans _ _ _ inv.1 lines inv.3 written, more_seams _ _ _ inv.4 c.look.ensures.told)
