-- What a bucket found, by places among its members.
use Rattle.std.specs.Prelude.{ℕ, ◌≡◌, cond, List, length, map, slice_index, Option, None}
use Rattle.std.specs.List.{AllZip}
use Rattle.bim_model.specs.declared.geometry.Extent.{Extent}
use Rattle.bim_model.specs.Snapshots.{Version}
use Rattle.bim_model.specs.Keys.{Subject, subjects_of, key_of}
use Rattle.bucket_grid.specs.declared.cell.Cell.{Cell}
use Rattle.bucket_grid.specs.Cells.{owner_of, members}
use Rattle.bucket_grid.specs.Subjects.{subject_at}
use Rattle.box_lanes.specs.BoxPlaces.{box_at}
use Rattle.bucket_grid.specs.Grids.{GridValue}
use Rattle.bucket_check.specs.declared.pair.SetPair.{SetPair}
use Rattle.bucket_check.specs.declared.bucket_work.BucketWork.{BucketWork}
use Rattle.bucket_check.specs.Clashes.{clash_of, is_cell, pairs_by}

-- the rule by which two elements clash, where the cell owns them
abbrev pub own_rule : Version → List Extent → Cell → ℕ → ℕ → Option ℕ
own_rule version boxes cell a b =
    let subjects = subjects_of version.models in
    cond (is_cell (owner_of (box_at boxes a) (box_at boxes b)) cell)
    (clash_of version.rules (subject_at subjects a) (subject_at subjects b)) None

-- the number of the member at a place
abbrev pub number_at : List ℕ → ℕ → ℕ
number_at numbers place = slice_index numbers place

-- the pair of the members at two places
abbrev pub pair_at : List ℕ → SetPair → SetPair
pair_at numbers p = record { a = number_at numbers p.a; b = number_at numbers p.b; rule = p.rule }

-- the rule of the members at two places
abbrev pub rule_at : Version → List Extent → Cell → List ℕ → ℕ → ℕ → Option ℕ
rule_at version boxes cell numbers i j =
    own_rule version boxes cell (number_at numbers i) (number_at numbers j)

-- the clashes among these members that a cell owns, by their places
abbrev pub found_among : Version → List Extent → Cell → List ℕ → List SetPair
found_among version boxes cell numbers = pairs_by (length numbers) (rule_at version boxes cell numbers)

-- the clashes that a cell owns, by the places of the elements among its members
abbrev pub own_places : GridValue → Cell → List SetPair
own_places grid cell = found_among grid.version grid.boxes cell (members grid.boxes cell)

-- a set: the work that it was found for, and its pairs
pub record SetValue : Type 0 where
  pub work : BucketWork
  pub pairs : List SetPair

-- the set was found for this cell of this grid: it has the clashes that the cell owns there
pub record IsSetOf (grid : GridValue) (cell : Cell) (set : SetValue) : Type 0 where
  pub grid_is : set.work.grid ≡ grid
  pub cell_is : set.work.cell ≡ cell
  pub pairs_are : set.pairs ≡ own_places grid cell

-- two elements of one key, class, storey and surface
pub record IsSame (s t : Subject) : Type 0 where
  pub key : key_of s ≡ key_of t
  pub class : s.element.class ≡ t.element.class
  pub storey : s.element.storey ≡ t.element.storey
  pub triangles : s.element.triangles ≡ t.element.triangles

-- the elements of some numbers
abbrev pub subjects_at : GridValue → List ℕ → List Subject
subjects_at grid numbers = map (subject_at (subjects_of grid.version.models)) numbers

-- a cell of two grids of equal rules, with members of the same keys, classes, storeys and surfaces
pub record IsUnmoved (before after : GridValue) (cell : Cell) : Type 0 where
  pub rules : before.version.rules ≡ after.version.rules
  pub members :
      AllZip IsSame (subjects_at before (members before.boxes cell))
      (subjects_at after (members after.boxes cell))
