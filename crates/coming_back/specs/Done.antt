-- What a log says was done at a data component (Lomet, Fekete, Weikum, Zwilling, CIDR 2009: redo by the transaction component).
use Rattle.std.specs.Prelude.{◌≡◌, ℕ, zero, suc, ◌+◌, ◌-◌, List, [], ◌∷◌, ◌++◌, Option, Some, None, slice_get}
use Rattle.tc_log.specs.declared.event.Event.{Event}
use Rattle.history.specs.Flight.{given}
use Rattle.history.specs.Redo.{done_at}
use Rattle.history.specs.declared.Answered.{Answered}
use Rattle.data_component.specs.Performed.{Performed}
use Rattle.data_component.specs.Store.{Store}

abbrev pub list_of : Option Answered → List Performed
list_of None = []
list_of (Some a) = (a.number, a.op, a.said) ∷ []

-- what was done at data component d under the so many numbers above this one, with its answers, the greatest number first
abbrev pub done_above : List Event → ℕ → ℕ → ℕ → List Performed
done_above h d from zero = []
done_above h d from (suc more) = list_of (done_at h d (from + suc more)) ++ done_above h d from more

-- its list is what was done there, by number, above the number behind which it begins
abbrev pub HasWhatWasDone : List Event → ℕ → Store → Type 0
HasWhatWasDone h d s = s.list ≡ done_above h d s.base_mark (given h - s.base_mark)

-- each data component's list is
abbrev pub EachHasWhatWasDone : List Event → List Store → Type 0
EachHasWhatWasDone h dcs = (d : ℕ) (s : Store) → slice_get dcs d ≡ Some s → HasWhatWasDone h d s
