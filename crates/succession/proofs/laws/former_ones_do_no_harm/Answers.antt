use Rattle.std.proofs.Common.{[], List}
use Rattle.access_slots.specs.declared.op.Wire.{Wire}
use Rattle.tc_world.specs.Whole.{Whole}
use Rattle.tc_world.specs.Lives.{HasLived}
use Rattle.tc_world.proofs.LivingLemmas.{Sound, sound_serial, sound_agreed}
use Rattle.succession.specs.Side.{Happening, Happens}
use Rattle.succession.proofs.EffectLemmas.{living_sound, sound_flies, sound_apart}
use Rattle.succession.proofs.SideLemmas.{happens_sound, alone, none_more}
use Rattle.succession.proofs.laws.former_ones_do_no_harm.Goals as goal

now : (all : List Happening) (late : List Wire) (w v : Whole) → HasLived w → Happens all [] w late v → Sound v
now all late w v lived is = alone late v (happens_sound all [] late w v (none_more w (living_sound w lived)) is)

pub returns-clause-legal : goal.returns-clause-legal
returns-clause-legal c all late w v lived is = (now all late w v lived is).known.legal

pub returns-clause-marks : goal.returns-clause-marks
returns-clause-marks c all late w v lived is = (now all late w v lived is).low

pub returns-clause-one_at_a_time : goal.returns-clause-one_at_a_time
returns-clause-one_at_a_time c all late w v lived is = sound_serial v (now all late w v lived is)

pub returns-clause-agreed : goal.returns-clause-agreed
returns-clause-agreed c all late w v lived is each = sound_agreed v (now all late w v lived is) each

pub returns-clause-flies : goal.returns-clause-flies
returns-clause-flies c all late w v x lived is e = (let a = sound_flies v x (now all late w v lived is) e in (a.f, a.op, a.is))

pub returns-clause-none_conflict : goal.returns-clause-none_conflict
returns-clause-none_conflict c all late w v x y lived is ex ey differ = sound_apart v x y (now all late w v lived is) ex ey differ
