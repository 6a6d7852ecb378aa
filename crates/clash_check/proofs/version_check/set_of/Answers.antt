use Rattle.std.proofs.Common.{◌≡◌, ap, ◌∙◌}
use Rattle.bucket_grid.specs.Grids.{GridValue}
use Rattle.bucket_check.specs.declared.bucket_work.BucketWork.{BucketWork}
use Rattle.bucket_check.specs.ClashSets.{SetValue, own_places}
use Rattle.clash_check.proofs.version_check.set_of.Goals as goal

pub returns : goal.returns
returns g c =
    let same : c.in_ok-kept.kept ≡ c.in_ok-set.set = c.in_ok-kept.ensures in
    let work = ap (λ (s : SetValue). s.work) same ∙ c.in_ok-set.ensures.work in
    record {
      grid_is = ap (λ (w : BucketWork). w.grid) work ∙ c.in_ok-shared.ensures;
      cell_is = ap (λ (w : BucketWork). w.cell) work;
      pairs_are = ap (λ (s : SetValue). s.pairs) same ∙ c.in_ok-set.ensures.pairs ∙ ap (λ (g : GridValue). own_places g c.args.cell) c.in_ok-shared.ensures;
    }
