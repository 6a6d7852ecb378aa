-- What is known while chains are walked. No public contract cites it.
use Rattle.std.specs.Prelude.{◌≡◌, ℕ, ◌+◌, ◌<◌, ◌≤◌, ◌⊎◌, Bool, true, false, List, length, Option, Some, None, Contains, sum_by, slice_index, slice_index_or}
use Rattle.p21_values.specs.declared.value.Instance.{Instance}
use Rattle.p21_values.specs.InstancePlaces.{IsPlaceOf}
use Rattle.placement.specs.declared.walk.Standing.{Standing}
use Rattle.placement.specs.declared.walk.Walk.{Walk}
use Rattle.placement.specs.Chains.{parent_of, Ends, ParentsFirst, Reached}

-- where an instance stands among those that were met
abbrev pub rank_at : List (Option ℕ) → ℕ → Option ℕ
rank_at ranks at = slice_index_or ranks at None

-- 1 where a number has no rank yet
abbrev pub is_new : Option ℕ → ℕ
is_new None = 1
is_new (Some rank) = 0

-- the ranks are right, and each instance that was met has one
pub record Ranked (world : List Instance) (ranks : List (Option ℕ)) (met : List ℕ) : Type 0 where
  pub size : length ranks ≡ length world
  pub sound : (id at rank : ℕ) → IsPlaceOf world id at → rank_at ranks at ≡ Some rank
      → (rank < length met) × (slice_index met rank ≡ id)
  pub room : sum_by is_new ranks + length met ≤ length world

-- each that was met from the start on stands in the one that was met after it, the last one in the current one
pub record Climbs (world : List Instance) (met : List ℕ) (start current id : ℕ) : Type 0 where
  pub begun : start ≤ length met
  pub first : slice_index_or met start current ≡ id
  pub stands : (k : ℕ) → start ≤ k → k < length met
      → parent_of world (slice_index met k) ≡ Some (Some (slice_index_or met (k + 1) current))

-- it stands in none, in one that was met before the start, or in the one that was met after it
abbrev pub Rests : List Instance → List ℕ → ℕ → ℕ → Type 0
Rests world met start k = (parent_of world (slice_index met k) ≡ Some None)
    ⊎ ((j : ℕ) × (j < length met) × ((j < start) ⊎ (j ≡ k + 1))
    × (parent_of world (slice_index met k) ≡ Some (Some (slice_index met j))))

-- those that were met from the start on begin with this one, and each but the last stands in the next
pub record Linked (world : List Instance) (met : List ℕ) (start id : ℕ) : Type 0 where
  pub first : start < length met → slice_index met start ≡ id
  pub next : (k : ℕ) → start ≤ k → k + 1 < length met
      → parent_of world (slice_index met k) ≡ Some (Some (slice_index met (k + 1)))

-- the whole way up was met
pub record Climbed (world : List Instance) (met : List ℕ) (start id : ℕ) : Type 0 where
  pub found : Contains met id
  pub linked : Linked world met start id
  pub rests : (k : ℕ) → start ≤ k → k < length met → Rests world met start k

-- each number met from a place on rests on one that was met before it
abbrev pub Rest : List Instance → List ℕ → ℕ → Type 0
Rest world met start = (k : ℕ) → start ≤ k → k < length met → Rests world met start k

-- what a climb found: the placements that lead up, or that they never end
abbrev pub Outcome : List Instance → List ℕ → ℕ → ℕ → Bool → Type 0
Outcome world met start id true = Climbed world met start id
Outcome world met start id false = Ends world id → ⊥

-- each that was met is in the order
pub record Settled (world : List Instance) (walk : Walk) : Type 0 where
  pub ranked : Ranked world walk.ranks.items walk.met.items
  pub first : ParentsFirst world walk.order.items
  pub ordered : (k : ℕ) → k < length walk.met.items → Contains walk.order.items (slice_index walk.met.items k)
  pub few : length walk.order.items ≡ length walk.met.items

-- Those that were met before the start, and from a place on, are in the order.
pub record Settling (world : List Instance) (order met : List ℕ) (start from : ℕ) : Type 0 where
  pub first : ParentsFirst world order
  pub ordered : (k : ℕ) → k < length met → (k < start) ⊎ (from ≤ k) → Contains order (slice_index met k)

-- it is one of those from a place on
abbrev pub IsFrom : List ℕ → ℕ → ℕ → Type 0
IsFrom met start id = (k : ℕ) × (start ≤ k) × (k < length met) × (slice_index met k ≡ id)

-- all that are in the order are reached from these
abbrev pub AllReached : List Instance → List ℕ → List ℕ → Type 0
AllReached world named order = (id : ℕ) → Contains order id → Reached world named id

-- the placement and all above it are in the order, and nothing else was put there
pub record Added (world : List Instance) (old new : Walk) (id : ℕ) : Type 0 where
  pub settled : Settled world new
  pub found : Contains new.order.items id
  pub grows : (other : ℕ) → Contains old.order.items other → Contains new.order.items other
  pub reached : (named : List ℕ) → Contains named id → AllReached world named old.order.items
      → AllReached world named new.order.items

-- what a visit made: a longer walk, or that the placements never end
abbrev pub Visited : List Instance → Walk → Walk → ℕ → Bool → Type 0
Visited world old new id true = Added world old new id
Visited world old new id false = Ends world id → ⊥

-- where a placement is, and what it stands in
pub record StandsAt (world : List Instance) (id : ℕ) (standing : Standing) : Type 0 where
  pub place : IsPlaceOf world id standing.at
  pub parent : parent_of world id ≡ Some standing.parent
