-- What is within a distance of what, by whole weights and with no bound on any number.
--
-- A point of an edge or a triangle is a sum of its corners times weights that are not negative, over the sum
-- of the weights, which is above zero. These are all of its points whose shares are fractions, and a least
-- distance between points of such figures with whole corners is always taken at one of them.
use Rattle.std.specs.Prelude.{ℕ, ◌+◌, ◌*◌, ◌<◌, ◌≡◌, ℤ, pos, ◌≤ℤ◌, ◌<ℤ◌}
use Rattle.exact_arith.specs.Space.{Vector, plus, minus, times, dot_of, Face, normal}

-- the corners times their weights
abbrev pub mix2 : Vector → Vector → ℤ → ℤ → Vector
mix2 a b i j = plus (times i a) (times j b)

-- three corners by their weights
abbrev pub mix3 : Face → ℤ → ℤ → ℤ → Vector
mix3 t i j k = plus (mix2 t.a t.b i j) (times k t.c)

-- an area above zero: the corners lie on no line
abbrev pub HasArea : Face → Type 0
HasArea t = pos 0 <ℤ dot_of (normal t) (normal t)

-- v over n is at most d long
abbrev pub IsWithin : ℕ → ℕ → Vector → Type 0
IsWithin d n v = dot_of v v ≤ℤ pos (d * d * (n * n))

-- p is at most d from a point of the closed segment ab
unfoldable pub PointEdgeWithin : Vector → Vector → Vector → ℕ → Type 0
PointEdgeWithin p a b d =
    (i : ℕ) × (j : ℕ) × (0 < i + j)
    × IsWithin d (i + j) (minus (times (pos (i + j)) p) (mix2 a b (pos i) (pos j)))

-- the foot of p on the triangle's plane lies in the closed triangle, and is at most d from p: a point of the
-- triangle from which the way to p is orthogonal to two edges
unfoldable pub FootWithin : Vector → Face → ℕ → Type 0
FootWithin p t d =
    (i : ℕ) × (j : ℕ) × (k : ℕ) × (0 < i + j + k)
    × (dot_of (minus (times (pos (i + j + k)) p) (mix3 t (pos i) (pos j) (pos k))) (minus t.b t.a) ≡ pos 0)
    × (dot_of (minus (times (pos (i + j + k)) p) (mix3 t (pos i) (pos j) (pos k))) (minus t.c t.a) ≡ pos 0)
    × IsWithin d (i + j + k) (minus (times (pos (i + j + k)) p) (mix3 t (pos i) (pos j) (pos k)))

-- a point of the closed segment ab is at most d from one of pq
unfoldable pub EdgesWithin : Vector → Vector → Vector → Vector → ℕ → Type 0
EdgesWithin a b p q d =
    (i : ℕ) × (j : ℕ) × (k : ℕ) × (l : ℕ) × (0 < i + j) × (0 < k + l)
    × IsWithin d ((i + j) * (k + l))
    (minus (times (pos (k + l)) (mix2 a b (pos i) (pos j)))
    (times (pos (i + j)) (mix2 p q (pos k) (pos l))))

-- the closed segment pq and the closed triangle have a common point
unfoldable pub Meets : Vector → Vector → Face → Type 0
Meets p q t =
    (i : ℕ) × (j : ℕ) × (k : ℕ) × (l : ℕ) × (m : ℕ) × (0 < i + j + k) × (0 < l + m)
    × (times (pos (l + m)) (mix3 t (pos i) (pos j) (pos k))
    ≡ times (pos (i + j + k)) (mix2 p q (pos l) (pos m)))
