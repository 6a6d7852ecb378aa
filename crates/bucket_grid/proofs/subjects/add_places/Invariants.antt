use Rattle.std.proofs.Common.{◌++◌, take, List, get_or}
use Rattle.std.specs.List.{AllZip}
use Rattle.bim_model.specs.declared.named_model.NamedModel.{NamedModel}
use Rattle.bim_model.specs.Keys.{Subject, in_model}
use Rattle.bucket_grid.specs.ElementPlaces.{IsPlace}
use Rattle.bucket_grid.proofs.subjects.add_places.Given as goal

abbrev pub invariant-loop-element : goal.invariant-loop-element
invariant-loop-element l =
    (d : NamedModel) (s : List Subject) → AllZip (IsPlace l.models) s l.fn.places.items → AllZip (IsPlace l.models) (s ++ in_model l.model (get_or l.models l.model d).name (take l.element (get_or l.models l.model d).model)) l.places.items
