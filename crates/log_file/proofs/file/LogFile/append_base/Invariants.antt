use Rattle.std.proofs.Common.{◌≤◌, List, ℕ, length}
use Rattle.frame_file.specs.Reading.{IsSettled}
use Rattle.log_file.proofs.WritingLemmas.{Wrote}
use Rattle.log_file.proofs.file.LogFile.append_base.Given as goal

abbrev pub invariant-parts : goal.invariant-parts
invariant-parts g l =
    let d = g.D.Device in
    record {
      wrote : (before : List (List ℕ)) → IsSettled d.seen d.may_leave l.fn.self.frames before
          → Wrote d.seen d.may_leave d.moment d.left_since l.fn.self.frames l.self.frames before l.base l.rest;
      later : d.faults l.fn.self.frames.device ≤ d.faults l.self.frames.device;
    }

abbrev pub decreases-parts : goal.decreases-parts
decreases-parts g l = length l.rest
