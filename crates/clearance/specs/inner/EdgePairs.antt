-- Two triangles' edges near each other.
use Rattle.std.specs.Prelude.{ℕ, pos, ◌-ℤ◌, ◌*ℤ◌, ◌≤ℤ◌, ◌⊎◌}
use Rattle.exact_arith.specs.Space.{Vector, minus, dot_of, Face}
use Rattle.tri_exact.specs.Within.{EdgesWithin}
use Rattle.tri_exact.specs.Edges.{Beside, Crosses}

-- an edge of s at most d from the edge ab
abbrev pub EdgeNear : Vector → Vector → Face → ℕ → Type 0
EdgeNear a b s d = EdgesWithin a b s.a s.b d ⊎ (EdgesWithin a b s.b s.c d ⊎ EdgesWithin a b s.c s.a d)

-- an edge of t at most d from one of s
abbrev pub EdgesNear : Face → Face → ℕ → Type 0
EdgesNear t s d = EdgeNear t.a t.b s d ⊎ (EdgeNear t.b t.c s d ⊎ EdgeNear t.c t.a s d)

-- of the edges ab and pq the starts are near, or a start and the other's inside, or the insides
abbrev pub CornerNear : Vector → Vector → Vector → Vector → ℕ → Type 0
CornerNear a b p q d =
    (dot_of (minus p a) (minus p a) ≤ℤ (pos d *ℤ pos d))
    ⊎ (Beside (dot_of (minus q p) (minus q p)) (dot_of (minus p a) (minus p a))
    (pos 0 -ℤ dot_of (minus p a) (minus q p)) (pos d *ℤ pos d)
    ⊎ (Beside (dot_of (minus b a) (minus b a)) (dot_of (minus p a) (minus p a))
    (dot_of (minus p a) (minus b a)) (pos d *ℤ pos d)
    ⊎ Crosses (minus b a) (minus q p) (minus p a) (pos d *ℤ pos d)))

-- an edge is near an edge of a face
abbrev pub RowNear : Vector → Vector → Face → ℕ → Type 0
RowNear a b s d = CornerNear a b s.a s.b d ⊎ (CornerNear a b s.b s.c d ⊎ CornerNear a b s.c s.a d)
