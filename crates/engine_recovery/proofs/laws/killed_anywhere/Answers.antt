use Rattle.std.proofs.Common.{subst}
use Rattle.transactions.specs.Legal.{Legal}
use Rattle.serial.proofs.BackLemmas.{legal_first}
use Rattle.tc_world.proofs.AheadLemmas.{told_may_crash}
use Rattle.tc_world.proofs.LivingLemmas.{crash_lived, living_legal, living_serial, living_agreed}
use Rattle.engine_recovery.proofs.MemoryLemmas.{told_in_memory}
use Rattle.engine_recovery.proofs.TurnLemmas.{turned, thinks}
use Rattle.engine_recovery.proofs.laws.killed_anywhere.Goals as goal

pub returns-clause-kept : goal.returns-clause-kept
returns-clause-kept c h turns e f k is = turned h turns e f k is

pub returns-clause-may : goal.returns-clause-may
returns-clause-may c h e k = told_may_crash e.written e.world k.tells

pub returns-clause-back : goal.returns-clause-back
returns-clause-back c h e k = crash_lived e.world e.written.events e.written.notes k.tells k.lived

pub returns-clause-log : goal.returns-clause-log
returns-clause-log c h e k =
    let begins = k.tells.begins in
    (begins, legal_first e.world.core.procs begins.later e.written.events (subst (Legal e.world.core.procs) begins.is (living_legal e.world k.lived)))

pub returns-clause-legal : goal.returns-clause-legal
returns-clause-legal c h e k = living_legal e.world k.lived

pub returns-clause-one_at_a_time : goal.returns-clause-one_at_a_time
returns-clause-one_at_a_time c h e k = living_serial e.world k.lived

pub returns-clause-agreed : goal.returns-clause-agreed
returns-clause-agreed c h e k each = living_agreed e.world k.lived each

pub returns-clause-forgotten : goal.returns-clause-forgotten
returns-clause-forgotten c h steps e w k taken =
    let m = thinks h steps e w k taken in
    (m.lived, m.same e.written.events e.written.notes)

pub returns-clause-told : goal.returns-clause-told
returns-clause-told c h steps b e next w k taken writes =
    told_in_memory e.written.events next.events next.notes e.world w (thinks h steps e w k taken) writes.more writes.log writes.notes
