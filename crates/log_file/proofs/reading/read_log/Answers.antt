use Rattle.std.proofs.Common.{rules, ◌≡◌, ◌++◌, reverse, List, ℕ, subst}
use Rattle.frame_file.specs.Reading.{payloads_in}
use Rattle.tc_log.specs.Reading.{ArePrinted}
use Rattle.log_file.specs.Bytes.{front_of}
use Rattle.log_file.specs.Found.{base_in}
use Rattle.log_file.specs.Reading.{IsStart}
use Rattle.log_file.specs.Joining.Fields.{AreGathered}
use Rattle.log_file.proofs.OpeningLemmas.{no_checkpoint, front_long}
use Rattle.log_file.proofs.reading.read_log.Goals as goal

pub returns-then-not-may_follow-clause-fault : goal.returns-then-not-may_follow-clause-fault
returns-then-not-may_follow-clause-fault c =
    let h = c.args.header.now in
    let events = reverse c.in_ok-log.log.events in
    let starts : IsStart (base_in c.in_ok-base.base) = search rules in
    let is : payloads_in c.args.payloads.now ≡ front_of c.args.header.now (base_in c.in_ok-base.base) ++ payloads_in c.in_ok-base.batches.now = search rules in
    let g : AreGathered c.args.header.now.dcs (payloads_in c.in_ok-base.batches.now)
    c.in_ok-gathered.gathered.known.items c.in_ok-gathered.gathered.rows.items = search rules in
    let printed = subst (λ (r : List ℕ). ArePrinted (reverse c.in_ok-log.log.events) r) c.deref.ensures.value c.in_ok-log.ensures.printed in
    no_checkpoint h (payloads_in c.args.payloads.now) (payloads_in c.in_ok-base.batches.now) (base_in c.in_ok-base.base) c.in_ok-gathered.gathered.known.items
    c.in_ok-gathered.gathered.rows.items events _ starts is g printed (front_long h c.args.payloads.now c.in_ok-base.batches.now (base_in c.in_ok-base.base) is)
    (c.may_follow.ensures.no c.if-not-may_follow.true)
