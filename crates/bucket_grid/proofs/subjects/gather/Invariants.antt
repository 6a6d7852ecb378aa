use Rattle.std.proofs.Common.{take, All}
use Rattle.std.specs.List.{AllZip}
use Rattle.bim_model.specs.Keys.{subjects_of}
use Rattle.bucket_grid.specs.Subjects.{IsBoxOf}
use Rattle.bucket_grid.specs.ElementPlaces.{IsPlace, IsGridBox}
use Rattle.bucket_grid.proofs.subjects.gather.Given as goal

abbrev pub invariant-loop-model : goal.invariant-loop-model
invariant-loop-model l = record {
  placed : AllZip (IsPlace l.models) (subjects_of (take l.model l.models)) l.places.items;
  boxed : AllZip IsBoxOf (subjects_of (take l.model l.models)) l.boxes.items;
  near : All IsGridBox l.boxes.items;
}
