-- Transaction components in succession over one log (Lomet, Fekete, Weikum, Zwilling, CIDR 2009: the transaction component's own failure;
-- its log is forced ahead of what data components are sent). One takes over from what was written, whether the one before it is dead, was
-- only stopped, or is cut off: the log takes no more of that one's appends (fencing), so it carries no more than what was written tells of.
use Rattle.std.specs.Prelude.{◌≡◌, Bool, true, false, List, [], ◌∷◌}
use Rattle.std.specs.List.{All}
use Rattle.access_slots.specs.declared.op.Wire.{Wire}
use Rattle.history.specs.Flight.{low_water}
use Rattle.tc_world.specs.Whole.{Whole}
use Rattle.tc_world.specs.Recovery.{IsWrittenFor, AreNoted, come_back}
use Rattle.tc_world.specs.Lives.{Lives, Takes, Loses}
use Rattle.tc_world.specs.Ahead.{Written, Turn, Goes, Killed, WritesAhead}
use Rattle.tc_world.specs.declared.step.Step.{Step}
use Rattle.tc_world.specs.declared.step.Step.TheVariants as step
use Rattle.engine_recovery.specs.Engine.{is_in_memory, TakesInMemory}

-- one that was superseded goes on: it takes a step in memory, and of all wires these are carried from then on, at once or at any later time.
-- What was written tells of each, and of what it knows as it makes them: nothing more is written
abbrev pub GoesOn : List (Step × List Wire) → Written → Whole → Whole → Type 0
GoesOn [] p w v = v ≡ w
GoesOn (turn ∷ turns) p w v =
    (is_in_memory turn.0 ≡ true) × (mid : Whole) × Lives (Takes turn.0 ∷ Loses turn.1 w.replies w.news ∷ []) w mid
    × All (IsWrittenFor p.events) mid.copies × AreNoted (low_water p.events) mid p.notes × GoesOn turns p mid v

-- what happens: one writes ahead for a while; or another takes over. The former one goes on, at any time from then on: by such turns first, and
-- from when it would have to write by steps in memory alone
pub data Reign : Type 0 where
  Rules : List Turn → Reign
  TakesOver : List (Step × List Wire) → List Step → Reign

-- one after the other: what was written, and the world of the transaction component of now
abbrev pub Reigns : List Reign → Written → Whole → Written → Whole → Type 0
Reigns [] p w q v = (q ≡ p) × (v ≡ w)
Reigns (Rules turns ∷ rest) p w q v = (m : Written) × (mid : Whole) × WritesAhead turns p w m mid × Reigns rest m mid q v
Reigns (TakesOver turns steps ∷ rest) p w q v =
    (late : Whole) × (last : Whole) × GoesOn turns p w late × TakesInMemory steps late last
    × Reigns rest p (come_back p.events p.notes last) q v

-- ---- where the log isn't cut

abbrev pub is_cut : Step → Bool
is_cut step.Cut = true
is_cut other = false

abbrev pub NoneCutIn : List Turn → Type 0
NoneCutIn [] = Unit {0}
NoneCutIn (Goes x next xs rs ns ∷ turns) = (is_cut x ≡ false) × NoneCutIn turns
NoneCutIn (Killed ∷ turns) = NoneCutIn turns

abbrev pub NoneCut : List Reign → Type 0
NoneCut [] = Unit {0}
NoneCut (Rules turns ∷ rest) = NoneCutIn turns × NoneCut rest
NoneCut (TakesOver turns steps ∷ rest) = NoneCut rest
