-- Why a state in which nothing has happened, with as many data components as it knows, isn't brought to where a log left it.
use Rattle.coming_back.specs.declared.coming.ComeBackFault.{ComeBackFault}
use Rattle.coming_back.specs.declared.coming.ComeBackFault.TheVariants.{Recover, NoRoom, Otherwise, Memory}
use Rattle.tc_core.specs.declared.recovery.RecoverFault.TheVariants.{Begun, DcCount, Unfit, Forgotten}

-- it isn't that something has happened, nor another number of data components
abbrev pub IsOfLog : ComeBackFault → Type 0
IsOfLog (Recover Begun) = ⊥
IsOfLog (Recover DcCount) = ⊥
IsOfLog (Recover (Unfit fault)) = Unit {0}
IsOfLog (Recover (Forgotten d)) = Unit {0}
IsOfLog (NoRoom d) = Unit {0}
IsOfLog (Otherwise d) = Unit {0}
IsOfLog Memory = Unit {0}
