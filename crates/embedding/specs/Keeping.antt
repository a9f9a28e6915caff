-- What one call makes of a data component, by the frame that it was made with, the code that it answered and the frame behind it; and
-- why one is refused.
use Rattle.std.specs.Prelude.{◌≡◌, ◌≢◌, ◌≤◌, ℕ, Bool, true, false, ◌==◌, ⊤, MatchBool, List, [], ◌∷◌, Option, Some, None, slice_get}
use Rattle.std.specs.List.{list_any}
use Rattle.access_slots.specs.declared.op.Reply.{Reply}
use Rattle.access_slots.specs.declared.op.Said.TheVariants.{Value}
use Rattle.access_slots.specs.declared.op.Wire.{Wire}
use Rattle.access_slots.specs.declared.slot.Record.{Record}
use Rattle.data_component.specs.Keeping.{AreRowsOf}
use Rattle.data_component.specs.Performed.{value_in, count}
use Rattle.data_component.specs.Sorted.{Rows}
use Rattle.data_component.specs.Store.{Store, replied, performed, checkpointed, IsSpent, restarted, news_of}
use Rattle.data_component.specs.Store.{heard, may_forget, HasForgotten}
use Rattle.embedding.specs.Frames.{bit, IsOf, Says, Carries, CarriesNothing, Brings, news_in}
use Rattle.embedding.specs.declared.call.TheConstants.{PERFORM, RESTART, GET, ROWS, ROW, MARK, CHECKPOINT, INCARNATION, HEAR_MARK, FORGET}
use Rattle.embedding.specs.declared.codes.TheConstants.{BAD_FRAME, INCARNATIONS_SPENT, NO_PLACE, NO_SUCH_CALL, SILENT}
use Rattle.embedding.specs.declared.frame.Frame.{Frame}

-- the wire in the frame is performed, and the reply is in the frame
pub record Performs (s : Store) (f : Frame) (s' : Store) (f' : Frame) : Type 0 where
  pub wire : Wire
  pub carried : Carries f wire
  pub is : s' ≡ performed s wire
  pub reply : Reply
  pub said : replied s wire ≡ Some reply
  pub brought : Brings f' reply

-- there is no reply to the wire in the frame
pub record WhySilent (s : Store) (f : Frame) (s' : Store) : Type 0 where
  pub wire : Wire
  pub carried : Carries f wire
  pub is : s' ≡ performed s wire
  pub silent : replied s wire ≡ None

-- the frame carries no wire, or there is no reply to it
pub data WhyNotPerformed (s : Store) (f : Frame) (code : ℕ) (s' : Store) : Type 0 where
  Uncarried : code ≡ BAD_FRAME → CarriesNothing f → WhyNotPerformed s f code s'
  Silent : code ≡ SILENT → WhySilent s f s' → WhyNotPerformed s f code s'

-- it has the next incarnation, and its news are in the frame
pub record HasRestarted (s : Store) (s' : Store) (f' : Frame) : Type 0 where
  pub left : ¬ (IsSpent s)
  pub is : s' ≡ restarted s
  pub news : news_in f' ≡ news_of s'

abbrev pub ShowsValue : Option (List ℕ) → Frame → Type 0
ShowsValue None f = f.kind ≡ 2
ShowsValue (Some v) f = (f.kind ≡ 1) × (f.value ≡ v)

-- the value of the record that the frame names
pub record Finds (s : Store) (f : Frame) (f' : Frame) : Type 0 where
  pub r : Record
  pub named : IsOf f r
  pub shown : ShowsValue (value_in s.base s.list r) f'

-- of the records that are present, rising, this is the one at the frame's place, with its value
pub record ShowsRow (s : Store) (f : Frame) (f' : Frame) : Type 0 where
  pub rows : Rows
  pub are : AreRowsOf rows s.base s.list
  pub row : Record × List ℕ
  pub at : slice_get rows f.place ≡ Some row
  pub named : IsOf f' row.0
  pub shown : Says f' (Value row.1)

-- it has forgotten what it performed, where it may, and the frame says whether it has
pub record Forgets (s : Store) (s' : Store) (f' : Frame) : Type 0 where
  pub forgot : Bool
  pub is : forgot ≡ may_forget s
  pub told : f'.word ≡ bit forgot
  pub forgotten : forgot ≡ true → HasForgotten s s'
  pub stays : forgot ≡ false → s' ≡ s

-- the calls that a data component has
abbrev pub is_dc_call : ℕ → Bool
is_dc_call what =
    list_any (λ c. what == c) (PERFORM ∷ RESTART ∷ GET ∷ ROWS ∷ ROW ∷ MARK ∷ CHECKPOINT ∷ INCARNATION ∷ HEAR_MARK ∷ FORGET ∷ [])

-- what a call has done that answered 0, by its number; one that isn't named here leaves the data component as it was
abbrev pub KeptBy : ℕ → Store → Frame → Store → Frame → Type 0
KeptBy what s f s' f' =
    MatchBool (what == PERFORM) (Performs s f s' f')
    (MatchBool (what == CHECKPOINT) ((s' ≡ checkpointed s) × (f'.low_water ≡ s.mark))
    (MatchBool (what == RESTART) (HasRestarted s s' f')
    (MatchBool (what == HEAR_MARK) (s' ≡ heard s f.incarnation f.low_water)
    (MatchBool (what == FORGET) (Forgets s s' f')
    (s' ≡ s)))))

-- what such a call says, that has changed nothing
abbrev pub SeenBy : ℕ → Store → Frame → Frame → Type 0
SeenBy what s f f' =
    MatchBool (what == GET) (Finds s f f')
    (MatchBool (what == ROWS) (f'.word ≡ count s.base s.list)
    (MatchBool (what == ROW) (ShowsRow s f f')
    (MatchBool (what == MARK) (f'.word ≡ s.mark)
    (MatchBool (what == INCARNATION) (f'.incarnation ≡ s.incarnation)
    ⊤))))

-- why a call is refused, by its number: a restart only where 2^62 incarnations are over, a row only where there are no more; calls that
-- aren't named here only where there is no such call
abbrev pub UnkeptBy : ℕ → Store → Frame → ℕ → Store → Type 0
UnkeptBy what s f code s' =
    MatchBool (what == PERFORM) (WhyNotPerformed s f code s')
    (MatchBool (what == RESTART) ((code ≡ INCARNATIONS_SPENT) × IsSpent s)
    (MatchBool (what == ROW) ((code ≡ NO_PLACE) × (count s.base s.list ≤ f.place))
    ((code ≡ NO_SUCH_CALL) × (is_dc_call what ≡ false))))

-- refused means unchanged, but for a wire without a reply, whose low-water mark counts
pub record IsKept (s : Store) (f : Frame) (code : ℕ) (s' : Store) (f' : Frame) : Type 0 where
  pub refused : code ≢ 0 → code ≢ SILENT → s' ≡ s
  pub why : code ≢ 0 → UnkeptBy f.what s f code s'
  pub known : code ≡ 0 → is_dc_call f.what ≡ true
  pub done : code ≡ 0 → KeptBy f.what s f s' f'
  pub seen : code ≡ 0 → SeenBy f.what s f f'
