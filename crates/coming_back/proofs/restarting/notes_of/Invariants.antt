use Rattle.std.proofs.Common.{◌≡◌, map, take}
use Rattle.data_component.specs.Store.{Store, news_of}
use Rattle.tc_core.specs.declared.recovery.SiteNote.TheVariants.{Restarted}
use Rattle.coming_back.proofs.restarting.notes_of.Given as goal

abbrev pub invariant-loop-dc : goal.invariant-loop-dc
invariant-loop-dc l = l.notes.items ≡ map (λ (s : Store). Restarted (news_of s)) (take l.dc-index l.dcs)
