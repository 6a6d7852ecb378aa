use Rattle.std.proofs.Common.{◌≡◌, ◌++◌, List, Option, length, option_copied}
use Rattle.std.specs.List.{AllZip}
use Rattle.p21_values.specs.declared.value.Value21.{Value21}
use Rattle.walk_rows.specs.Rows.{AreNumbers, IsRowOf}
use Rattle.walk_rows.proofs.row_places.rows_of.Given as goal

abbrev pub invariant-loop-found : goal.invariant-loop-found
invariant-loop-found l = (given : List Value21) × (l.values ≡ given ++ l.left) × ((names : Option (List Value21)) → AreNumbers l.count names (option_copied l.numbers) → AllZip (IsRowOf names l.count) given l.made.items)

abbrev pub decreases-loop-found : goal.decreases-loop-found
decreases-loop-found l = length l.left
