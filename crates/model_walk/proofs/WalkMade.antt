-- What is made of the parts of a walk.
use Rattle.std.proofs.Common.{◌≡◌, ℕ, List, [], length, replicate, Option, Some, None, Result, Ok, Err, sym, subst, arith}
use Rattle.std.specs.Prelude.{IfOk, IfSome, MatchOption}
use Rattle.std.specs.List.{All}
use Rattle.std.proofs.lemmas.List.{length-replicate}
use Rattle.bim_model.specs.declared.upload.Mode.{Mode}
use Rattle.p21_values.specs.declared.value.Instance.{Instance}
use Rattle.ifc_schema.specs.Surveys.{IsModelElement, Lists}
use Rattle.ifc_units.specs.declared.scale.Scale.{Scale}
use Rattle.ifc_units.specs.Units.{IsLengthUnit}
use Rattle.placement.specs.declared.frame.Frame.{Frame}
use Rattle.placement.specs.Placed.{AreFrames, LacksFrame, AllPlaced, frame_in}
use Rattle.spatial_tree.specs.Trees.{IsTree}
use Rattle.model_walk.specs.declared.element_sketches.Drawn.{Drawn}
use Rattle.model_walk.specs.declared.element_sketches.Stock.{Stock}
use Rattle.model_walk.specs.Checked.{AllClean, Differ}
use Rattle.model_walk.specs.inner.PooledSets.{AreReadSets}
use Rattle.model_walk.specs.Sketches.{elements_of, IsCarried}
use Rattle.model_walk.specs.inner.Stocked.{AreDrawn, IsStocked}
use Rattle.model_walk.specs.Walked.{IsWalked}
use Rattle.walk_rows.specs.Pools.{pooled}
use Rattle.model_walk.proofs.GuidsDiffer.{surfaces_differ}
use Rattle.model_walk.proofs.PlacesChecked.{never_kept}

-- the elements of a walk are those of the file
pub walked : (world : List Instance) (mode : Mode) (scale : Scale) (ids : List ℕ) (stock : Stock) (drawn : Drawn) → IsLengthUnit world scale → IsTree world → AllClean world scale mode → Lists (IsModelElement world) ids
    → AreDrawn world scale mode stock ids drawn → Differ drawn.elements.items → IsWalked world mode (elements_of stock drawn.elements.items drawn.sketches)
walked world mode scale ids stock drawn unit tree clean lists made differ = record {
  scale = scale;
  unit = unit;
  tree = tree;
  clean = clean;
  ids = ids;
  lists = lists;
  each = made.each;
  some = made.some;
  few = made.few;
  differ = surfaces_differ stock drawn.elements.items drawn.sketches made.same differ;
}

-- a new stock, once the sets are read
pub new_stock : (world : List Instance) (scale : Scale) (mode : Mode) (stock : Stock) → AreReadSets world scale mode stock.points stock.sets → stock.pieces.items ≡ [] → stock.shapes ≡ replicate (length world) None → IsStocked world scale mode stock
new_stock world scale mode stock sets none new = record {
  sets = sets;
  pieces = subst (All IsCarried) (sym none) (λ k d lt. absurd (omega (arith, lt)));
  places = subst (λ (s : List (Option _)). length s ≡ length world) (sym new) (length-replicate (length world) None);
  shapes = λ at range e. never_kept (length world) at range (subst (λ s. pooled s at ≡ Some range) new e);
}

-- the frames that were made are those of their placements
pub frames_placed : {E : Type 0} (r : Result (Option (List (ℕ × Frame))) E) (world : List Instance) (scale : Scale) (mode : Mode) (ids : List ℕ) → IfOk r (λ frames. MatchOption frames (LacksFrame world scale mode ids) (λ made. AreFrames world scale mode ids (frame_in made)))
    → IfOk r (λ found. IfSome found (λ frames. AllPlaced world scale mode (frame_in frames)))
frames_placed (Ok (Some made)) world scale mode ids h = h.sound
frames_placed (Ok None) world scale mode ids h = tt
frames_placed (Err _) world scale mode ids h = tt
