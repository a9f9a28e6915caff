-- One data component that begins with records, among the others.
use Rattle.std.specs.Prelude.{◌≡◌, ℕ, List, slice_set}
use Rattle.data_component.specs.Sorted.{Rows}
use Rattle.data_component.specs.Store.{Store, begun_with, MayBeginWith}

-- in place of data component d, which is this one, there is one that begins with these rows
pub record BeginsIn (own : Rows) (mark d : ℕ) (s : Store) (olds news : List Store) : Type 0 where
  pub may : MayBeginWith own mark s
  pub is : news ≡ slice_set olds d (begun_with own mark s)
