-- Lists in blocks of sixteen, one after the other, and a mark for each block.
use Rattle.std.specs.Prelude.{◌≡◌, ℕ, ◌*◌, ◌/◌, ◌≤◌, Bool, true, false, List, [], length, slice_index_or}

-- each block has a mark, and the lists of a block that isn't marked are empty
pub record AreMarked (lists : List (List ℕ)) (marks : List Bool) : Type 0 where
  pub enough : length lists ≤ length marks * 16
  pub empty : (k : ℕ) → slice_index_or marks (k / 16) true ≡ false → slice_index_or lists k [] ≡ []
