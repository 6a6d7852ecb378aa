-- The elements of a version by their numbers, and the boxes round them.
use Rattle.std.specs.Prelude.{ℕ, List, [], slice_index_or, None}
use Rattle.std.specs.List.{AllZip}
use Rattle.bim_model.specs.declared.geometry.Extent.{Extent}
use Rattle.bim_model.specs.Boxes.{IsExtentOf}
use Rattle.bim_model.specs.declared.named_model.NamedModel.{NamedModel}
use Rattle.bim_model.specs.Keys.{Subject, in_model}

-- what stands past the end of a list of elements
abbrev pub nobody : Subject
nobody =
    record {
      model = 0;
      name = [];
      element = record { guid = record { chars = [] }; class = []; name = []; storey = None; triangles = [] };
    }

-- the elements of the model at a place; d stands past the end of the models
abbrev pub of_model : List NamedModel → ℕ → NamedModel → List Subject
of_model models place d =
    in_model place (slice_index_or models place d).name (slice_index_or models place d).model

-- the element of a number
abbrev pub subject_at : List Subject → ℕ → Subject
subject_at subjects n = slice_index_or subjects n nobody

-- the smallest box round an element of a version
abbrev pub IsBoxOf : Subject → Extent → Type 0
IsBoxOf s e = IsExtentOf s.element.triangles e

-- the smallest boxes round the elements of a version, by number
abbrev pub AreBoxes : List Subject → List Extent → Type 0
AreBoxes subjects boxes = AllZip IsBoxOf subjects boxes
