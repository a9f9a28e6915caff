use Rattle.tc_world.proofs.LivingLemmas.{living_legal, living_serial}
use Rattle.std.proofs.Common.{refl, ◌∙◌}
use Rattle.succession.proofs.ReignLemmas.{goes_on, thinks, reigns_stand, stays_written}
use Rattle.succession.proofs.laws.successors_go_on.Goals as goal

pub returns-clause-lived : goal.returns-clause-lived
returns-clause-lived c reigns p q w v lived told is = (reigns_stand reigns p q w v lived told is).lived

pub returns-clause-told : goal.returns-clause-told
returns-clause-told c reigns p q w v lived told is = (reigns_stand reigns p q w v lived told is).told

pub returns-clause-legal : goal.returns-clause-legal
returns-clause-legal c reigns p q w v lived told is = living_legal v (reigns_stand reigns p q w v lived told is).lived

pub returns-clause-one_at_a_time : goal.returns-clause-one_at_a_time
returns-clause-one_at_a_time c reigns p q w v lived told is = living_serial v (reigns_stand reigns p q w v lived told is).lived

pub returns-clause-late : goal.returns-clause-late
returns-clause-late c turns steps p w late last lived told on taken =
    let k = goes_on turns p w late lived told on in
    ((thinks steps p w late last k taken).same p.events p.notes ∙ k.same p.events p.notes, k.told.copies)

pub returns-clause-kept : goal.returns-clause-kept
returns-clause-kept c reigns p q w v none is = stays_written reigns p q w v none is

pub returns-clause-log : goal.returns-clause-log
returns-clause-log c p w = refl
