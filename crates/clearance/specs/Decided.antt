-- Whether triangles and elements are near, as truth values that compute, for numbers of any size.
--
-- Two triangles are near where they are at their edges, or where the one has an area and the other is at it: a corner
-- of it stands over the inside and is low enough, or an edge of it goes through.
use Rattle.std.specs.Prelude.{ℕ, ℤ, pos, ◌+ℤ◌, ◌-ℤ◌, ◌*ℤ◌, int_le, int_lt, Bool, ◌&&◌, ◌||◌, List}
use Rattle.std.specs.List.{list_any}
use Rattle.exact_arith.specs.Space.{Vector, minus, dot_of, Face, normal}
use Rattle.bim_model.specs.Points.{shape_of}
use Rattle.bim_model.specs.declared.geometry.Triangle.{Triangle}
use Rattle.bim_model.specs.declared.element.Element.{Element}
use Rattle.tri_exact.specs.Foot.{square_of, along_of, across_of, height_of}
use Rattle.tri_exact.specs.Pierce.{height, weight_a, weight_b, weight_c}

-- the test of `Beside`: a point over the inside of an edge, at a square distance of at most m
abbrev pub is_beside : (l w s m : ℤ) → Bool
is_beside l w s m = int_lt (pos 0) s && (int_lt s l && int_le (l *ℤ w -ℤ s *ℤ s) (m *ℤ l))

-- the test of `Crosses`: the insides of two edges along e and u, r the way between their starts
abbrev pub is_crossing : (e u r : Vector) (m : ℤ) → Bool
is_crossing e u r m =
    int_lt (pos 0) (square_of e u)
    && (int_le (pos 0) (along_of e u r)
    && (int_le (along_of e u r) (square_of e u)
    && (int_le (across_of e u r) (pos 0)
    && (int_le (pos 0) (square_of e u +ℤ across_of e u r) && int_le (height_of e u r *ℤ height_of e u r)
    (m *ℤ square_of e u)))))

-- the edges ab and pq are near at their starts, at the start of one and the inside of the other, or inside of both
abbrev pub is_corner_near : (a b p q : Vector) (m : ℤ) → Bool
is_corner_near a b p q m =
    int_le (dot_of (minus p a) (minus p a)) m
    || (is_beside (dot_of (minus q p) (minus q p)) (dot_of (minus p a) (minus p a))
    (pos 0 -ℤ dot_of (minus p a) (minus q p)) m
    || (is_beside (dot_of (minus b a) (minus b a)) (dot_of (minus p a) (minus p a))
    (dot_of (minus p a) (minus b a)) m
    || is_crossing (minus b a) (minus q p) (minus p a) m))

-- .. the edge ab and one of the edges of s
abbrev pub is_row_near : (a b : Vector) (s : Face) (m : ℤ) → Bool
is_row_near a b s m = is_corner_near a b s.a s.b m ||
    (is_corner_near a b s.b s.c m || is_corner_near a b s.c s.a m)

-- .. one of the edges of t and one of the edges of s
abbrev pub is_edge_near : (t s : Face) (m : ℤ) → Bool
is_edge_near t s m = is_row_near t.a t.b s m || (is_row_near t.b t.c s m || is_row_near t.c t.a s m)

-- the foot of a point lies in the triangle along e and u, at a square distance of at most m; r leads to the point
abbrev pub is_foot : (e u r : Vector) (m : ℤ) → Bool
is_foot e u r m =
    int_le (pos 0) (square_of e u -ℤ along_of e u r -ℤ across_of e u r)
    && (int_le (pos 0) (along_of e u r)
    && (int_le (pos 0) (across_of e u r) && int_le (height_of e u r *ℤ height_of e u r) (m *ℤ square_of e u)))

-- .. the foot of p in t
abbrev pub is_over : (p : Vector) (t : Face) (m : ℤ) → Bool
is_over p t m = is_foot (minus t.b t.a) (minus t.c t.a) (minus p t.a) m

-- the test of `Rises`: from the height h to the height k, with three volumes that aren't negative
abbrev pub is_rising : (h k u v w : ℤ) → Bool
is_rising h k u v w =
    int_le h (pos 0)
    && (int_le (pos 0) k && (int_lt h k && (int_le (pos 0) u && (int_le (pos 0) v && int_le (pos 0) w))))

-- the segment pq goes up through t
abbrev pub is_up : (p q : Vector) (t : Face) → Bool
is_up p q t = is_rising (height p t) (height q t) (weight_a p q t) (weight_b p q t) (weight_c p q t)

-- .. up or down
abbrev pub is_through : (p q : Vector) (t : Face) → Bool
is_through p q t = is_up p q t || is_up q p t

-- t has an area, and a corner of s is over it and low enough, or an edge of s goes through it
abbrev pub is_side_near : (t s : Face) (m : ℤ) → Bool
is_side_near t s m =
    int_lt (pos 0) (dot_of (normal t) (normal t))
    && ((is_over s.a t m || (is_over s.b t m || is_over s.c t m))
    || (is_through s.a s.b t || (is_through s.b s.c t || is_through s.c s.a t)))

-- two faces are near at the root of m
abbrev pub is_face_near : (t s : Face) (m : ℤ) → Bool
is_face_near t s m = is_edge_near t s m || (is_side_near t s m || is_side_near s t m)

-- two triangles are near
unfoldable pub is_near_triangles : Triangle → Triangle → ℕ → Bool
is_near_triangles p q d = is_face_near (shape_of p) (shape_of q) (pos d *ℤ pos d)

-- a triangle of the one list is near to one of the other
unfoldable pub is_near_lists : List Triangle → List Triangle → ℕ → Bool
is_near_lists ps qs d = list_any
    (λ (p : Triangle). list_any (λ (q : Triangle). is_near_triangles p q d) qs) ps

-- two elements are near
unfoldable pub is_near : Element → Element → ℕ → Bool
is_near a b d = is_near_lists a.triangles b.triangles d
