use Rattle.std.proofs.Common.{◌≡◌, List, [], ◌∷◌, refl, sym, subst, ap, ◌∙◌}
use Rattle.std.specs.List.{AllZip}
use Rattle.bim_model.specs.Keys.{Subject}
use Rattle.bucket_grid.specs.declared.cell.Cell.{Cell}
use Rattle.bucket_grid.specs.Cells.{members}
use Rattle.bucket_grid.specs.Grids.{GridValue}
use Rattle.bucket_check.specs.declared.bucket_work.BucketWork.{BucketWork}
use Rattle.bucket_check.specs.ClashSets.{IsSame, subjects_at, IsUnmoved}
use Rattle.clash_tests.proofs.bucket_tests.again.Goals as goal

all_same : (xs : List Subject) → AllZip IsSame xs xs
all_same [] = tt
all_same (x ∷ xs) = (record { key = refl; class = refl; storey = refl; triangles = refl }, all_same xs)

itself : (g h : GridValue) (cell : Cell) → g ≡ h → IsUnmoved g h cell
itself g h cell e = subst (λ k. IsUnmoved g k cell) e (record { rules = refl; members = all_same (subjects_at g (members g.boxes cell)) })

pub moved-requires-clause-cell : goal.moved-requires-clause-cell
moved-requires-clause-cell c = ap (λ (w : BucketWork). w.cell) c.work-work.ensures

pub moved-requires-clause-unmoved : goal.moved-requires-clause-unmoved
moved-requires-clause-unmoved c =
    itself c.args.set.now.work.grid c.in_ok-grid.grid c.work-work.result.now.cell (sym (c.in_ok-grid.ensures ∙ ap (λ (w : BucketWork). w.grid) c.work-work.ensures))
