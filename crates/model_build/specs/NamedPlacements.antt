-- The placements that elements name (IFC4 ADD2 TC1, IfcProduct).
use Rattle.std.specs.Prelude.{◌≡◌, ℕ, List, Some, Contains}
use Rattle.p21_values.specs.declared.value.Instance.{Instance}
use Rattle.ifc_elements.specs.Finding.{Finds}
use Rattle.p21_values.specs.Attributes.{reference_at}

-- one of them names that placement
pub record IsNamed (world : List Instance) (Of : ℕ → Type 0) (placement : ℕ) : Type 0 where
  pub element : ℕ
  pub of : Of element
  pub names : Finds world element (λ i. reference_at i 5 ≡ Some placement)

-- that one names that placement
abbrev pub NamesPlacement : List Instance → ℕ → ℕ → Type 0
NamesPlacement world element placement = Finds world element (λ i. reference_at i 5 ≡ Some placement)

-- an element that names no placement
abbrev pub NamesNone : List Instance → ℕ → Type 0
NamesNone world element = (placement : ℕ) → NamesPlacement world element placement → ⊥

-- a list of exactly the placements that the listed elements name
pub record ListsNamed (world : List Instance) (ids named : List ℕ) : Type 0 where
  pub sound : (placement : ℕ) → Contains named placement → IsNamed world (Contains ids) placement
  pub all : (placement : ℕ) → IsNamed world (Contains ids) placement → Contains named placement
