use Rattle.std.proofs.Common.{List, Option, Some, [], ◌∷◌, ◌≡◌, length, drop, IfSome, option_copied}
use Rattle.std.specs.List.{All}
use Rattle.p21_values.specs.declared.value.Value21.{Value21}
use Rattle.p21_values.specs.Attributes.{led_to}
use Rattle.p21_values.specs.Values.{reference_of}
use Rattle.faceset.specs.FaceSets.{Joined, IsCut}
use Rattle.walk_rows.specs.Rows.{AreNumbers, triangles_at}
use Rattle.walk_rows.specs.SetRows.{LeadsToFace}
use Rattle.walk_rows.proofs.face_rows.rows_of_faces.Given as goal

abbrev pub invariant-loop-value : goal.invariant-loop-value
invariant-loop-value l = record {
  rows : (names : Option (List Value21)) → AreNumbers (length l.points) names (option_copied l.numbers) → Joined (IsCut names l.points) (led_to l.exchange l.yielded) (triangles_at l.points l.rows.items);
  leads : All (LeadsToFace l.exchange) l.yielded;
  kept : IfSome l.last (λ face. (v : Value21) → reference_of v ≡ Some face.id → (names : Option (List Value21)) → AreNumbers (length l.points) names (option_copied l.numbers) → Joined (IsCut names l.points) (led_to l.exchange (v ∷ [])) (triangles_at l.points (drop face.first l.rows.items)));
  kept_leads : IfSome l.last (λ face. (v : Value21) → reference_of v ≡ Some face.id → LeadsToFace l.exchange v);
}
