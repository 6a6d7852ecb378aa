-- Whether triangles and elements pierce, as truth values that compute, by signs of heights and volumes alone, for numbers of
-- any size.
--
-- Where two triangles pierce, each has a corner that is alone on its side of the other's plane, and the triangle meets
-- the line of both planes between the two edges from that corner. With the corners in such an order that these two
-- come first and are above the other's plane, the two stretches of the line overlap where two volumes have the right
-- signs: that of the edges to the second corners, and that of the edges to the third ones.
use Rattle.std.specs.Prelude.{ℤ, pos, ◌+ℤ◌, int_le, int_lt, Bool, ◌&&◌, ◌||◌, List}
use Rattle.std.specs.List.{list_any}
use Rattle.exact_arith.specs.Space.{Vector, Face}
use Rattle.tri_exact.specs.Foot.{orient_of}
use Rattle.tri_exact.specs.Pierce.{height}
use Rattle.bim_model.specs.Points.{shape_of}
use Rattle.bim_model.specs.declared.geometry.Triangle.{Triangle}
use Rattle.bim_model.specs.declared.element.Element.{Element}

-- of three heights the first is above 0 and the others aren't, and one of these is below
abbrev pub is_alone : (h k l : ℤ) → Bool
is_alone h k l = int_lt (pos 0) h && (int_le k (pos 0) && (int_le l (pos 0) && int_lt (k +ℤ l) (pos 0)))

-- the first corner of s is alone above the plane of t
abbrev pub is_alone_over : (t s : Face) → Bool
is_alone_over t s = is_alone (height s.a t) (height s.b t) (height s.c t)

-- the first corner of each is alone above the other's plane, and their stretches of the common line overlap
abbrev pub is_linked : (t s : Face) → Bool
is_linked t s =
    is_alone_over t s
    && (is_alone_over s t
    && (int_lt (orient_of t.a t.b s.a s.b) (pos 0) && int_lt (pos 0) (orient_of t.a t.c s.a s.c)))

-- three corners as a face
abbrev pub face_by : (a b c : Vector) → Face
face_by a b c = record { a = a; b = b; c = c }

-- the test holds with the corners in one of their six orders
abbrev pub is_in_some_order : (Face → Bool) → Face → Bool
is_in_some_order test t =
    test (face_by t.a t.b t.c)
    || (test (face_by t.b t.c t.a)
    || (test (face_by t.c t.a t.b)
    || (test (face_by t.a t.c t.b)
    || (test (face_by t.b t.a t.c)
    || test (face_by t.c t.b t.a)))))

-- two faces pierce
abbrev pub is_face_piercing : (t s : Face) → Bool
is_face_piercing t s = is_in_some_order (λ (u : Face). is_in_some_order (λ (v : Face). is_linked u v) s) t

-- two triangles pierce
unfoldable pub is_piercing_triangles : Triangle → Triangle → Bool
is_piercing_triangles p q = is_face_piercing (shape_of p) (shape_of q)

-- a triangle of the one list and one of the other pierce
unfoldable pub is_piercing_lists : List Triangle → List Triangle → Bool
is_piercing_lists ps qs = list_any
    (λ (p : Triangle). list_any (λ (q : Triangle). is_piercing_triangles p q) qs) ps

-- two elements pierce
unfoldable pub is_piercing : Element → Element → Bool
is_piercing a b = is_piercing_lists a.triangles b.triangles
