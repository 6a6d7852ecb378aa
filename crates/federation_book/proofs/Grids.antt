-- Grids by their parts, and the grid of no models.
use Rattle.std.proofs.Common.{◌≡◌, ◌≤◌, ℕ, List, [], ◌∷◌, refl, ◌∙◌, ap, subst, arith}
use Rattle.std.specs.List.{All}
use Rattle.std.proofs.lemmas.List.Elements.{All-head}
use Rattle.bim_model.specs.declared.geometry.Extent.{Extent}
use Rattle.bim_model.specs.Keys.{subjects_of}
use Rattle.bim_model.specs.Snapshots.{Version}
use Rattle.bucket_grid.specs.declared.bucket_table.Bucket.{Bucket}
use Rattle.bucket_grid.specs.Cells.{memberships, IsBucket}
use Rattle.bucket_grid.specs.Grids.{GridValue, HasMemberships}
use Rattle.bucket_grid.specs.Subjects.{AreBoxes}
use Rattle.book_history.proofs.OneGrid.{HasParts}

no_boxes : (boxes : List Extent) → AreBoxes [] boxes → boxes ≡ []
no_boxes [] h = refl
no_boxes (b ∷ bs) h = absurd h

of_none : (v : Version) (boxes : List Extent) → v.models ≡ [] → AreBoxes (subjects_of v.models) boxes → boxes ≡ []
of_none v boxes e h = no_boxes boxes (subst (λ ms. AreBoxes (subjects_of ms) boxes) e h)

none_buckets : (buckets : List Bucket) → All (λ (b : Bucket). IsBucket [] b.cell) buckets → buckets ≡ []
none_buckets [] h = refl
none_buckets (b ∷ bs) h = absurd (few (All-head (λ (t : Bucket). IsBucket [] t.cell) b bs h))
  where
    few : 2 ≤ 0 → ⊥
    few le = omega (arith, le)

-- a grid of no models has no buckets
pub no_buckets : (g : GridValue) → HasParts g → g.version.models ≡ [] → g.buckets ≡ []
no_buckets g h e = none_buckets g.buckets (subst (λ xs. All (λ (b : Bucket). IsBucket xs b.cell) g.buckets) (of_none g.version g.boxes e h.boxed) h.table.only)

-- nor has it memberships
pub no_memberships : (v : Version) (count : ℕ) → v.models ≡ [] → HasMemberships v count → count ≡ 0
no_memberships v count e h = h.counted ∙ ap memberships (of_none v h.boxes e h.boxed)
