use Rattle.std.proofs.Common.{List, [], sym, subst, arith}
use Rattle.std.specs.List.{AllZip}
use Rattle.std.proofs.lemmas.List.{take_all}
use Rattle.bim_model.specs.declared.named_model.NamedModel.{NamedModel}
use Rattle.bim_model.specs.Keys.{Subject, subjects_of}
use Rattle.bucket_grid.specs.Subjects.{IsBoxOf}
use Rattle.bucket_grid.specs.ElementPlaces.{IsPlace}
use Rattle.bucket_grid.proofs.Zips.{subjects_more, zip_length}
use Rattle.bucket_grid.proofs.subjects.gather.Goals as goal

pub loop-model-preserved : goal.loop-model-preserved
loop-model-preserved c =
    let none : NamedModel = record { name = []; model = [] } in
    let more = subjects_more c.args.models.now c.loop-model.model none c.loop-model-test.true in
    record {
      placed = subst (λ (s : List Subject). AllZip (IsPlace c.args.models.now) s c.add_places.new.places.items) more (c.in_ok-add_places.ensures none _ c.loop-model.invariant.placed);
      boxed = subst (λ (s : List Subject). AllZip IsBoxOf s c.add_boxes.new.boxes.items) more (c.in_ok-add_boxes.ensures.boxes none _ c.loop-model.invariant.boxed);
      near = c.in_ok-add_boxes.ensures.near c.loop-model.invariant.near;
    }

pub returns : goal.returns
returns c =
    let all = take_all c.loop-model.model c.args.models.now (omega (arith, c.loop-model-test.false)) in
    record {
      places = subst (λ (m : List NamedModel). AllZip (IsPlace c.args.models.now) (subjects_of m) c.loop-model.places.items) all c.loop-model.invariant.placed;
      boxes = subst (λ (m : List NamedModel). AllZip IsBoxOf (subjects_of m) c.loop-model.boxes.items) all c.loop-model.invariant.boxed;
      near = c.loop-model.invariant.near;
      count = sym (zip_length IsBoxOf _ _ (subst (λ (m : List NamedModel). AllZip IsBoxOf (subjects_of m) c.loop-model.boxes.items) all c.loop-model.invariant.boxed));
    }
