use Rattle.std.proofs.Common.{◌<◌, length, refl, ap, sym, subst, ◌∙◌}
use Rattle.bucket_grid.specs.ElementPlaces.{IsPlace}
use Rattle.bucket_grid.proofs.Zips.{zip_length}
use Rattle.bucket_grid.proofs.Found.{place_at}
use Rattle.bucket_grid.proofs.grid.Grid.model_of.Goals as goal

pub returns-clause-model : goal.returns-clause-model
returns-clause-model c =
    let n = subst (λ n. c.args.number < n) (ap length (sym c.places.ensures.places) ∙ sym (zip_length (IsPlace _) _ _ c.places.ensures.placed)) c.requires in
    let i = place_at c.args.self.now.version.models c.places.result.now c.args.number _ c.places.ensures.placed n refl in
    sym i.same

pub returns-clause-within : goal.returns-clause-within
returns-clause-within c = subst (λ n. c.args.number < n) (ap length (sym c.places.ensures.places) ∙ sym (zip_length (IsPlace _) _ _ c.places.ensures.placed)) c.requires
