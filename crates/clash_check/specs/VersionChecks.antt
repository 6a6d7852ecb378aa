-- Which versions are too large, and what their clashes are answered by.
use Rattle.std.specs.Prelude.{◌≡◌, ℕ, ◌≤◌, ◌<◌, ◌-◌, ◌^◌, length, min, ⊤}
use Rattle.bim_model.specs.Keys.{subjects_of}
use Rattle.bim_model.specs.Snapshots.{Version}
use Rattle.bucket_grid.specs.Grids.{HasMemberships}
use Rattle.bucket_grid.specs.declared.grid.GridError.{GridError}
use Rattle.bucket_grid.specs.declared.grid.GridError.TheVariants as lacks
use Rattle.bucket_grid.specs.declared.grid.TheConstants.{MOST_MEMBERSHIPS}
use Rattle.clash_check.specs.declared.version_fault.TheConstants.{MOST_VERSION_ELEMENTS}
use Rattle.clash_check.specs.declared.version_fault.VersionError.{VersionError}
use Rattle.clash_check.specs.declared.version_fault.VersionError.TheVariants.{Fault, Memory}
use Rattle.clash_check.specs.declared.version_fault.VersionFault.{VersionFault}
use Rattle.clash_check.specs.declared.version_fault.VersionFault.TheVariants.{ElementsFull, TooSpread}

-- the number of its elements, at most what 64 bits hold
abbrev pub element_count : Version → ℕ
element_count version = min (length (subjects_of version.models)) (2 ^ 64 - 1)

-- the first fault of a version: it has too many elements, or else too many pairs of a cell and a member
abbrev pub IsVersionFault : Version → VersionFault → Type 0
IsVersionFault version (ElementsFull count) =
    (count ≡ element_count version) × (MOST_VERSION_ELEMENTS < count)
IsVersionFault version (TooSpread count) =
    (element_count version ≤ MOST_VERSION_ELEMENTS)
    × HasMemberships version count
    × (MOST_MEMBERSHIPS < count)

-- a version without such a fault
pub record IsChecked (version : Version) : Type 0 where
  pub few : element_count version ≤ MOST_VERSION_ELEMENTS
  pub near : (count : ℕ) → HasMemberships version count → count ≤ MOST_MEMBERSHIPS

-- its fault, or out of memory
abbrev pub IsVersionCause : Version → VersionError → Type 0
IsVersionCause version (Fault fault) = IsVersionFault version fault
IsVersionCause version Memory = ⊤

-- why there is no grid, as an error of its version
abbrev pub of_grid : GridError → VersionError
of_grid (lacks.TooSpread count) = Fault (TooSpread count)
of_grid lacks.Memory = Memory
