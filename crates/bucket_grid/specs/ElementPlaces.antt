-- Where the elements of a version stand.
use Rattle.std.specs.Prelude.{◌≡◌, ◌<◌, ◌≤ℤ◌, List, length, slice_index_or}
use Rattle.bim_model.specs.declared.geometry.Extent.{Extent}
use Rattle.bim_model.specs.declared.named_model.NamedModel.{NamedModel}
use Rattle.bim_model.specs.Points.{IsGridPoint}
use Rattle.bim_model.specs.Keys.{Subject}
use Rattle.bucket_grid.specs.declared.subjects.Member.{Member}

-- the element of a version stands at that place of that model
pub record IsPlace (models : List NamedModel) (s : Subject) (p : Member) : Type 0 where
  pub named : NamedModel
  pub model_in : p.model < length models
  pub model_is : slice_index_or models p.model named ≡ named
  pub element_in : p.element < length named.model
  pub element_is : slice_index_or named.model p.element s.element ≡ s.element
  pub same : s.model ≡ p.model
  pub name_is : s.name ≡ named.name

-- a box that isn't turned round: low at or before high on each axis
pub record IsInOrder (e : Extent) : Type 0 where
  pub x : e.low.x ≤ℤ e.high.x
  pub y : e.low.y ≤ℤ e.high.y
  pub z : e.low.z ≤ℤ e.high.z

-- a box of the grid that isn't turned round
pub record IsGridBox (e : Extent) : Type 0 where
  pub low : IsGridPoint e.low
  pub high : IsGridPoint e.high
  pub order : IsInOrder e
