-- Triples of terms: vectors of space, for equations of `ring` on each coordinate.
--
-- `spot n` is the vector of the variables n, n + 1 and n + 2, so an env lists the coordinates of one vector
-- after the other: `scalar (spot 0) (crossed (spot 0) (spot 3))` is the product of a and a × b.
use Rattle.std.proofs.Common.{suc, ℕ}
use Rattle.exact_arith.proofs.Ring.{Term, at, ◌⊕◌, ◌⊖◌, ◌⊗◌}

pub record Coords : Type 0 where
  pub x : Term
  pub y : Term
  pub z : Term

-- the three variables from n on
abbrev pub spot : ℕ → Coords
spot n = record { x = at n; y = at (suc n); z = at (suc (suc n)) }

abbrev pub ◌⊞◌ : Coords → Coords → Coords
a ⊞ b = record { x = a.x ⊕ b.x; y = a.y ⊕ b.y; z = a.z ⊕ b.z }

abbrev pub ◌⊟◌ : Coords → Coords → Coords
a ⊟ b = record { x = a.x ⊖ b.x; y = a.y ⊖ b.y; z = a.z ⊖ b.z }

abbrev pub ◌⊡◌ : Term → Coords → Coords
k ⊡ b = record { x = k ⊗ b.x; y = k ⊗ b.y; z = k ⊗ b.z }

abbrev pub scalar : Coords → Coords → Term
scalar a b = a.x ⊗ b.x ⊕ a.y ⊗ b.y ⊕ a.z ⊗ b.z

abbrev pub crossed : Coords → Coords → Coords
crossed a b = record { x = a.y ⊗ b.z ⊖ a.z ⊗ b.y; y = a.z ⊗ b.x ⊖ a.x ⊗ b.z; z = a.x ⊗ b.y ⊖ a.y ⊗ b.x }

infixl 6 ◌⊞◌ ◌⊟◌
infixl 7 ◌⊡◌
