use Rattle.std.proofs.Common.{◌≡◌, length, ap, sym, ◌∙◌}
use Rattle.bucket_grid.specs.Subjects.{IsBoxOf}
use Rattle.bucket_grid.specs.ElementPlaces.{IsPlace}
use Rattle.bucket_grid.specs.Grids.{GridValue}
use Rattle.bucket_grid.proofs.Zips.{zip_length}
use Rattle.bucket_grid.proofs.grid.Grid.boxes.Goals as goal

pub returns-clause-count : goal.returns-clause-count
returns-clause-count c =
    let i = c.self.invariant.0 in
    let e : length c.self.inside.places.items ≡ length c.self.inside.boxes.items = sym (zip_length (IsPlace _) _ _ i.placed) ∙ zip_length IsBoxOf _ _ i.boxed in
    ap (λ (v : GridValue). length v.places) (sym c.self.view_is) ∙ e ∙ ap length (sym c.as_slice.ensures.value)
