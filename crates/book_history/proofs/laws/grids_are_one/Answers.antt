use Rattle.bucket_grid.specs.Grids.{GridValue}
use Rattle.book_history.specs.HistoryLaws.{IsWhole}
use Rattle.book_history.proofs.OneGrid.{HasParts, one_grid}
use Rattle.book_history.proofs.laws.grids_are_one.Goals as goal

parts : (g : GridValue) → IsWhole g → HasParts g
parts g h = record { snapshot = h.0; placed = h.1.placed; boxed = h.1.boxed; near = h.1.near; table = h.1.table }

pub returns : goal.returns
returns c = λ g k h i e. one_grid g k (parts g h) (parts k i) e
