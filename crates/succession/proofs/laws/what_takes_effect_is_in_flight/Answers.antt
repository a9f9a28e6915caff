use Rattle.succession.proofs.EffectLemmas.{flies, covers, apart}
use Rattle.succession.proofs.laws.what_takes_effect_is_in_flight.Goals as goal

pub returns-clause-flies : goal.returns-clause-flies
returns-clause-flies c w x lived e = (let a = flies w x lived e in (a.f, a.op, a.is))

pub returns-clause-none_conflict : goal.returns-clause-none_conflict
returns-clause-none_conflict c w x y lived ex ey differ = apart w x y lived ex ey differ

pub returns-clause-covered : goal.returns-clause-covered
returns-clause-covered c w x lived e = (let a = flies w x lived e in (a.f, a.is, covers w x lived e))
