use Rattle.std.proofs.Common.{◌≡◌, ◌<◌, List, length, get_or, refl, ap, sym, subst, ◌∙◌}
use Rattle.bim_model.specs.Snapshots.{Version}
use Rattle.bim_model.specs.declared.named_model.NamedModel.{NamedModel}
use Rattle.bucket_grid.specs.ElementPlaces.{IsPlace}
use Rattle.bucket_grid.proofs.Zips.{zip_length}
use Rattle.bucket_grid.proofs.Found.{place_at, model_within, found_is}
use Rattle.bucket_grid.proofs.grid.Grid.element.Goals as goal

pub bounds-places-number : goal.bounds-places-number
bounds-places-number c = subst (λ n. c.args.number < n) (ap length (sym c.places.ensures.places)) c.requires

pub element_at-requires-clause-model : goal.element_at-requires-clause-model
element_at-requires-clause-model c =
    let m : c.args.self.now.version.models ≡ c.models.result.now = ap (λ (v : Version). v.models) (sym c.snapshot.ensures) ∙ sym c.models.ensures.same in
    let n = subst (λ n. c.args.number < n) (ap length (sym c.places.ensures.places) ∙ sym (zip_length (IsPlace _) _ _ c.places.ensures.placed)) c.requires in
    let i = place_at _ c.places.result.now c.args.number _ c.places.ensures.placed n refl in
    subst (λ (l : List NamedModel). (get_or c.places.result.now c.args.number (record { model = 0; element = 0 })).model < length l) m i.model_in

pub element_at-requires-clause-element : goal.element_at-requires-clause-element
element_at-requires-clause-element c d =
    let m : c.args.self.now.version.models ≡ c.models.result.now = ap (λ (v : Version). v.models) (sym c.snapshot.ensures) ∙ sym c.models.ensures.same in
    let n = subst (λ n. c.args.number < n) (ap length (sym c.places.ensures.places) ∙ sym (zip_length (IsPlace _) _ _ c.places.ensures.placed)) c.requires in
    let i = place_at _ c.places.result.now c.args.number _ c.places.ensures.placed n refl in
    let p = get_or c.places.result.now c.args.number (record { model = 0; element = 0 }) in
    subst (λ (l : List NamedModel). p.element < length (get_or l p.model d).model) m (model_within _ _ p d i)

pub returns-clause-element : goal.returns-clause-element
returns-clause-element c =
    let m : c.models.result.now ≡ c.args.self.now.version.models = c.models.ensures.same ∙ ap (λ (v : Version). v.models) c.snapshot.ensures in
    let n = subst (λ n. c.args.number < n) (ap length (sym c.places.ensures.places) ∙ sym (zip_length (IsPlace _) _ _ c.places.ensures.placed)) c.requires in
    let i = place_at _ c.places.result.now c.args.number _ c.places.ensures.placed n refl in
    let p = get_or c.places.result.now c.args.number (record { model = 0; element = 0 }) in
    found_is c.args.self.now.version.models _ p c.element_at.result.now i (λ d e. c.element_at.ensures.element d e ∙ ap (λ l. get_or (get_or l p.model d).model p.element e) m)
