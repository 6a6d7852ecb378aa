-- How many of the loops that are left, from the first on, are known to have no free bridge from each corner of the list.
use Rattle.std.specs.Prelude.{ℕ, ◌≡◌, ◌⊎◌, ◌+◌, ◌-◌, ◌<◌, List, [], length, slice_index_or, None}
use Rattle.ear_cut.specs.declared.polygon_view.View.{View}
use Rattle.ear_cut.specs.declared.corners.Corner.{Corner}
use Rattle.void_bridge.specs.LoopEdges.{Segment}
use Rattle.void_bridge.specs.Bridges.{first_found, bridge_from}

-- no free bridge leads to the k-th loop from a corner whose number is above k
abbrev pub IsTried : View → List Segment → List Corner → List Corner → ℕ → List ℕ → Type 0
IsTried view edges current loop k tried = (i : ℕ) → i < length current → k < slice_index_or tried i 0
    → bridge_from view edges current loop k i ≡ None

-- .. each of the loops
abbrev pub AreTried : View → List Segment → List Corner → List (List Corner) → List ℕ → Type 0
AreTried view edges current loops tried = (k : ℕ) → k < length loops
    → IsTried view edges current (slice_index_or loops k []) k tried

-- no free bridge leads to the first n loops
abbrev pub ArePassed : View → List Segment → List Corner → List (List Corner) → ℕ → Type 0
ArePassed view edges current loops n = (k : ℕ) → k < n
    → first_found (bridge_from view edges current (slice_index_or loops k []) k) 0 (length current) ≡ None

-- of the loops without one of them the k-th stood before that one, or was among the first of a number
abbrev pub WasTried : ℕ → ℕ → ℕ → Type 0
WasTried count taken k = (k < taken) ⊎ (k + 1 < count)

-- .. from the m-th corner of a list in which so many corners were put in behind one
abbrev pub WasTriedFrom : List ℕ → ℕ → ℕ → ℕ → ℕ → ℕ → Type 0
WasTriedFrom tried from more taken m k = ((m < from) × WasTried (slice_index_or tried m 0) taken k)
    ⊎ ((from + more < m) × WasTried (slice_index_or tried (m - more) 0) taken k)

-- .. by the numbers of all corners of the list
abbrev pub WereTried : List ℕ → ℕ → ℕ → ℕ → List ℕ → Type 0
WereTried tried from more taken new = (m k : ℕ) → k < slice_index_or new m 0
    → WasTriedFrom tried from more taken m k
