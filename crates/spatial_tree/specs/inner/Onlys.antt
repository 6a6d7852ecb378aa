-- The pairs of objects that relations name, and how many different numbers are above an object.
use Rattle.std.specs.Prelude.{ℕ, ◌==◌, List, Contains, Option, Some, None, ◌⊎◌, if◌then◌else◌, Bool, true, false}
use Rattle.spatial_tree.specs.declared.relations.Link.{Link}
use Rattle.spatial_tree.specs.declared.only.Only.{Only}
use Rattle.spatial_tree.specs.declared.only.Only.TheVariants.{Nothing, One, Several}
use Rattle.spatial_tree.specs.Climbing.{IsOnly, HasTwo}

-- an object with what stands above it
abbrev pub link : ℕ → ℕ → Link
link object above = record { object = object; above = above }

-- a list has the pair
abbrev pub Has : List Link → ℕ → ℕ → Type 0
Has links object above = Contains links (link object above)

-- a list of exactly the pairs of which it holds
pub record ListsLinks (P : ℕ → ℕ → Type 0) (links : List Link) : Type 0 where
  pub sound : (object above : ℕ) → Has links object above → P object above
  pub all : (object above : ℕ) → P object above → Has links object above

-- pairs were added: those of which it holds
pub record Adds (P : ℕ → ℕ → Type 0) (old new : List Link) : Type 0 where
  pub sound : (object above : ℕ) → Has new object above → Has old object above ⊎ P object above
  pub keeps : (object above : ℕ) → Has old object above → Has new object above
  pub all : (object above : ℕ) → P object above → Has new object above

-- how many different numbers there are of which it holds
abbrev pub Counts : (ℕ → Type 0) → Only → Type 0
Counts P Nothing = (number : ℕ) → P number → ⊥
Counts P (One number) = IsOnly P number
Counts P Several = HasTwo P

-- the only number, once one more is seen
abbrev pub with_number : Only → ℕ → Only
with_number Nothing number = One number
with_number (One first) number = if first == number then One first else Several
with_number Several number = Several

-- more than one number was seen
abbrev pub is_several : Only → Bool
is_several Several = true
is_several _ = false

-- the next on the way up, from the containers and the wholes
abbrev pub next_in : Only → Only → Option ℕ
next_in (One container) _ = Some container
next_in Nothing (One whole) = Some whole
next_in _ _ = None
