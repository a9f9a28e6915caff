-- One data component that forgets, among the others.
use Rattle.std.specs.Prelude.{◌≡◌, ℕ, List, slice_set}
use Rattle.data_component.specs.Store.{Store, HasForgotten}

-- in place of data component d there is one that has forgotten what this one kept
pub record IsForgottenIn (kept : Store) (d : ℕ) (olds news : List Store) : Type 0 where
  pub t : Store
  pub is : news ≡ slice_set olds d t
  pub forgotten : HasForgotten kept t
