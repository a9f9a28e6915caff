use Rattle.engine_recovery.proofs.HandedLemmas.{told_of, all_known, read_as}
use Rattle.engine_recovery.proofs.laws.handed_out_tells.Goals as goal

pub returns-clause-told : goal.returns-clause-told
returns-clause-told c h l ps log bytes few legal numbers handed is = told_of h l ps log bytes few legal numbers handed is

pub returns-clause-known : goal.returns-clause-known
returns-clause-known c w = all_known w.core.sites

pub returns-clause-read : goal.returns-clause-read
returns-clause-read c h bytes b back = read_as h bytes b back
