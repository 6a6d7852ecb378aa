use Rattle.std.proofs.Common.{◌≡◌, ◌<◌, length, ap, sym, subst, ◌∙◌}
use Rattle.bim_model.specs.Keys.{subjects_of}
use Rattle.bim_model.specs.Snapshots.{Version}
use Rattle.bucket_grid.specs.Grids.{GridValue}
use Rattle.bucket_grid.specs.ElementPlaces.{IsPlace}
use Rattle.bucket_grid.proofs.Zips.{zip_length}
use Rattle.clash_publish.proofs.published.Published.element.Goals as goal

pub element-requires : goal.element-requires
element-requires c =
    let version : c.args.self.now ≡ c.get-grid.result.now.version = sym c.self.view_is ∙ ap (λ (g : GridValue). g.version) (sym c.get-grid.ensures) in
    let count = ap (λ (v : Version). length (subjects_of v.models)) version ∙ zip_length (IsPlace _) _ _ c.places.ensures.placed ∙ ap length c.places.ensures.places in
    subst (λ n. c.args.number < n) count c.requires
