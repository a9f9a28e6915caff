use Rattle.tc_world.proofs.AheadLemmas.{living_whole, ahead_told, ahead_lived, told_may_crash, whole_turn, unwritten_turn}
use Rattle.tc_world.proofs.LivingLemmas.{crash_lived}
use Rattle.tc_world.proofs.recovery.killed_anywhere.Goals as goal

pub returns-clause-whole : goal.returns-clause-whole
returns-clause-whole c w lived = living_whole w lived

pub returns-clause-told : goal.returns-clause-told
returns-clause-told c turns p q w v lived told writes = ahead_told turns p q w v lived told writes

pub returns-clause-may : goal.returns-clause-may
returns-clause-may c turns p q w v lived told writes = told_may_crash q v (ahead_told turns p q w v lived told writes)

pub returns-clause-lived : goal.returns-clause-lived
returns-clause-lived c turns p q w v lived told writes = ahead_lived turns p q w v lived told writes

pub returns-clause-back : goal.returns-clause-back
returns-clause-back c turns p q w v lived told writes =
    crash_lived v q.events q.notes (ahead_told turns p q w v lived told writes) (ahead_lived turns p q w v lived told writes)

pub returns-clause-met : goal.returns-clause-met
returns-clause-met c w v x o lived goes honest no_crash legal good =
    whole_turn w v x o lived (record { legal = legal; good = good }) honest no_crash goes

pub returns-clause-unwritten : goal.returns-clause-unwritten
returns-clause-unwritten c w v x o p told goes honest no_crash no_cut legal good noted =
    unwritten_turn w v x o p (record { legal = legal; good = good }) honest no_crash no_cut told goes noted
