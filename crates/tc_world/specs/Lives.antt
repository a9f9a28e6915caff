-- What happens to a world whose transaction component crashes now and then.
use Rattle.std.specs.Prelude.{◌≡◌, ℕ, false, List, [], ◌∷◌, Some, slice_get}
use Rattle.std.specs.List.{All}
use Rattle.access_slots.specs.declared.op.Wire.{Wire}
use Rattle.access_slots.specs.declared.op.Reply.{Reply}
use Rattle.access_slots.specs.declared.op.News.{News}
use Rattle.tc_log.specs.declared.event.Event.{Event}
use Rattle.history.specs.Places.{Begins}
use Rattle.data_component.specs.Store.{Store}
use Rattle.transactions.specs.Legal.{Legal}
use Rattle.transactions.specs.Reached.{AllGood}
use Rattle.tc_core.specs.declared.recovery.SiteNote.{SiteNote}
use Rattle.tc_world.specs.Whole.{Whole}
use Rattle.tc_world.specs.Steps.{Steps}
use Rattle.tc_world.specs.Marks.{IsFresh}
use Rattle.tc_world.specs.OneAtATime.{is_forge}
use Rattle.tc_world.specs.Recovery.{IsWritten, come_back, IsNew, StandFor, start_over}
use Rattle.tc_world.specs.declared.step.Step.{Step}
use Rattle.tc_world.specs.declared.step.Outcome.{Outcome}

-- each of these is one of those
abbrev pub AreAmong : {X : Type 0} → List X → List X → Type 0
AreAmong {X} xs ys = (k : ℕ) (x : X) → slice_get xs k ≡ Some x → (j : ℕ) × (slice_get ys j ≡ Some x)

-- the world with these messages alone: these wires, replies and news
abbrev pub left_with : List Wire → List Reply → List (ℕ × News) → Whole → Whole
left_with xs rs ns w = record w { copies = xs; replies = rs; news = ns }

-- what happens: a step; or all messages but these are lost for ever, or were made and never carried; or the transaction component
-- crashes, when so much of its log and these notes were written, and comes back; or its data components die with it, when so much of
-- its log was written, and it comes back to new ones, of which only the rows are left with which they begin
pub data Move : Type 0 where
  Takes : Step → Move
  Loses : List Wire → List Reply → List (ℕ × News) → Move
  Crashes : List Event → List SiteNote → Move
  StartsOver : List Event → List Store → Move

-- the world lives on, one move after another: no reply is forged, what a state keeps holds behind each step, and whatever a crash
-- finds carried was written for
abbrev pub Lives : List Move → Whole → Whole → Type 0
Lives [] w v = v ≡ w
Lives (Takes x ∷ moves) w v =
    (o : Outcome) × (mid : Whole) × Steps w x o mid × (is_forge x ≡ false) × Legal mid.core.procs mid.core.events
    × AllGood mid.core.procs × Lives moves mid v
Lives (Loses xs rs ns ∷ moves) w v =
    AreAmong xs w.copies × AreAmong rs w.replies × AreAmong ns w.news × Lives moves (left_with xs rs ns w) v
Lives (Crashes first notes ∷ moves) w v = IsWritten first notes w × Lives moves (come_back first notes w) v
Lives (StartsOver first dcs ∷ moves) w v =
    Begins first w.core.events × All (IsNew first) dcs × StandFor dcs w.dcs × Lives moves (start_over first dcs w) v

-- by such moves the first world has become the second one
pub record Becomes (w v : Whole) : Type 0 where
  pub moves : List Move
  pub lives : Lives moves w v

-- a fresh world, of procedures that were verified, has become this one
pub record HasLived (w : Whole) : Type 0 where
  pub first : Whole
  pub fresh : IsFresh first
  pub good : AllGood first.core.procs
  pub moves : List Move
  pub lives : Lives moves first w
