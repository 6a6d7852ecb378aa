use Rattle.std.proofs.Common.{◌≡◌, ◌+◌, List, Option, length, map, option_copied}
use Rattle.std.specs.List.{AllZip, flat_map}
use Rattle.p21_values.specs.declared.value.Value21.{Value21}
use Rattle.p21_values.specs.Attributes.{items_in}
use Rattle.faceset.specs.FaceSets.{NamesPoint}
use Rattle.walk_rows.specs.Rows.{AreNumbers}
use Rattle.walk_rows.specs.inner.LoopRows.{AreRings}
use Rattle.walk_rows.proofs.face_rows.inner_places.Given as goal

abbrev pub invariant-loop-row : goal.invariant-loop-row
invariant-loop-row l = record {
  named : (names : Option (List Value21)) → AreNumbers l.count names (option_copied l.numbers) → AllZip (AllZip (NamesPoint names l.count)) (map items_in l.yielded) (map (λ ring. ring.items) l.made.items);
  rings : AreRings l.before (map (λ ring. ring.items) l.made.items);
  total_is : l.total ≡ l.before + length (flat_map (λ ring. ring) (map (λ ring. ring.items) l.made.items));
}
