use Rattle.std.proofs.Common.{List, Option, ◌≤◌, length, option_copied}
use Rattle.std.specs.List.{AllZip}
use Rattle.p21_values.specs.declared.value.Value21.{Value21}
use Rattle.faceset.specs.FaceSets.{NamesPoint, most_corners}
use Rattle.walk_rows.specs.Rows.{AreNumbers}
use Rattle.walk_rows.proofs.face_rows.corner_places.Given as goal

abbrev pub invariant-loop-value : goal.invariant-loop-value
invariant-loop-value l = record {
  named : (names : Option (List Value21)) → AreNumbers l.count names (option_copied l.numbers) → AllZip (NamesPoint names l.count) l.yielded l.made.items;
  few : length l.made.items ≤ most_corners;
}
