use Rattle.std.proofs.Common.{◌<◌, List, length, get_or, refl, sym, ap, subst, arith, ◌∙◌}
use Rattle.bim_model.specs.declared.named_model.NamedModel.{NamedModel}
use Rattle.bucket_grid.specs.ElementPlaces.{IsPlace}
use Rattle.bucket_grid.proofs.Zips.{zip_length}
use Rattle.bucket_grid.proofs.Found.{place_at}
use Rattle.clash_delta.proofs.former_numbers.name_of.Goals as goal

pub bounds-places-number : goal.bounds-places-number
bounds-places-number c = subst (λ n. c.args.number < n) (ap length (sym c.places.ensures.places)) c.requires

pub name_at-requires : goal.name_at-requires
name_at-requires c =
    let models = c.args.grid.now.version.models in
    let n = subst (λ n. c.args.number < n) (ap length (sym c.places.ensures.places) ∙ sym (zip_length (IsPlace _) _ _ c.places.ensures.placed)) c.requires in
    let i = place_at models c.places.result.now c.args.number _ c.places.ensures.placed n refl in
    subst (λ (l : List NamedModel). (get_or c.places.result.now c.args.number (record { model = 0; element = 0 })).model < length l) (sym c.models.ensures.same) i.model_in

pub returns : goal.returns
returns c =
    let models = c.args.grid.now.version.models in
    let n = subst (λ n. c.args.number < n) (ap length (sym c.places.ensures.places) ∙ sym (zip_length (IsPlace _) _ _ c.places.ensures.placed)) c.requires in
    let i = place_at models c.places.result.now c.args.number _ c.places.ensures.placed n refl in
    let p = get_or c.places.result.now c.args.number (record { model = 0; element = 0 }) in
    c.name_at.ensures i.named ∙ ap (λ (l : List NamedModel). (get_or l p.model i.named).name) c.models.ensures.same ∙ ap (λ (m : NamedModel). m.name) i.model_is ∙ sym i.name_is
