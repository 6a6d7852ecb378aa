use Rattle.std.proofs.Common.{◌≡◌, ◌<◌, List, length, get_or, ap, sym, subst, rules, ◌∙◌}
use Rattle.std.proofs.lemmas.List.{get_or_default}
use Rattle.bim_model.specs.Keys.{subjects_of}
use Rattle.bim_model.specs.Snapshots.{Version}
use Rattle.bim_model.specs.declared.named_model.NamedModel.{NamedModel}
use Rattle.bucket_grid.specs.Grids.{GridValue}
use Rattle.bucket_grid.specs.ElementPlaces.{IsPlace}
use Rattle.bucket_grid.specs.Subjects.{nobody, subject_at}
use Rattle.bucket_grid.proofs.Zips.{zip_length, zip_at}
use Rattle.clash_publish.proofs.published.Published.model_name.Goals as goal

pub bounds-places-number : goal.bounds-places-number
bounds-places-number c =
    let version : c.args.self.now ≡ c.get-grid.result.now.version = sym c.self.view_is ∙ ap (λ (g : GridValue). g.version) (sym c.get-grid.ensures) in
    subst (λ n. c.args.number < n) (ap (λ (v : Version). length (subjects_of v.models)) version ∙ zip_length (IsPlace _) _ _ c.places.ensures.placed) c.requires

pub bounds-models-place : goal.bounds-models-place
bounds-models-place c =
    let models = c.get-grid.result.now.version.models in
    let version : c.args.self.now ≡ c.get-grid.result.now.version = sym c.self.view_is ∙ ap (λ (g : GridValue). g.version) (sym c.get-grid.ensures) in
    let within : c.args.number < length (subjects_of models) = subst (λ (v : Version). c.args.number < length (subjects_of v.models)) version c.requires in
    let i = zip_at (IsPlace models) (subjects_of models) c.places.result.now c.args.number nobody (record { model = 0; element = 0 }) c.places.ensures.placed within in
    subst (λ (l : List NamedModel). (get_or c.places.result.now c.args.number (record { model = 0; element = 0 })).model < length l) (sym c.models.ensures.same) i.model_in

pub offset_bounds-models-place : goal.offset_bounds-models-place
offset_bounds-models-place c =
    let models = c.get-grid.result.now.version.models in
    let version : c.args.self.now ≡ c.get-grid.result.now.version = sym c.self.view_is ∙ ap (λ (g : GridValue). g.version) (sym c.get-grid.ensures) in
    let within : c.args.number < length (subjects_of models) = subst (λ (v : Version). c.args.number < length (subjects_of v.models)) version c.requires in
    let i = zip_at (IsPlace models) (subjects_of models) c.places.result.now c.args.number nobody (record { model = 0; element = 0 }) c.places.ensures.placed within in
    let bound : (get_or c.places.result.now c.args.number (record { model = 0; element = 0 })).model < length c.models.result.now =
    subst (λ (l : List NamedModel). (get_or c.places.result.now c.args.number (record { model = 0; element = 0 })).model < length l) (sym c.models.ensures.same) i.model_in in
    search rules

pub returns : goal.returns
returns c =
    let models = c.get-grid.result.now.version.models in
    let version : c.args.self.now ≡ c.get-grid.result.now.version = sym c.self.view_is ∙ ap (λ (g : GridValue). g.version) (sym c.get-grid.ensures) in
    let within : c.args.number < length (subjects_of models) = subst (λ (v : Version). c.args.number < length (subjects_of v.models)) version c.requires in
    let p = get_or c.places.result.now c.args.number (record { model = 0; element = 0 }) in
    let i = zip_at (IsPlace models) (subjects_of models) c.places.result.now c.args.number nobody (record { model = 0; element = 0 }) c.places.ensures.placed within in
    let model : get_or c.models.result.now p.model c.index-models-place.result ≡ i.named =
    ap (λ (l : List NamedModel). get_or l p.model c.index-models-place.result) c.models.ensures.same
    ∙ get_or_default models p.model c.index-models-place.result i.named i.model_in ∙ i.model_is in
    c.as_str.ensures ∙ ap (λ (m : NamedModel). m.name) model ∙ sym i.name_is ∙ ap (λ (v : Version). (subject_at (subjects_of v.models) c.args.number).name) (sym version)
