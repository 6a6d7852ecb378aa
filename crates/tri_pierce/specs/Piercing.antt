-- When two triangles, and two elements, pierce each other.
--
-- A point inside a triangle is a sum of its corners times whole weights that are all above zero, over the
-- sum of the weights. Two triangles pierce where both have an area, they don't lie in one plane, and a point
-- inside the one is a point inside the other: weights a1, a2, a3 with the sum A and b1, b2, b3 with the sum B
-- exist with B · (a1·p1 + a2·p2 + a3·p3) = A · (b1·q1 + b2·q2 + b3·q3). So triangles that touch at a corner or
-- along an edge don't pierce, nor do two in one plane. Two elements pierce where a triangle of one and a
-- triangle of the other do.
use Rattle.std.specs.Prelude.{ℤ, pos, ◌+ℤ◌, ◌<ℤ◌, ◌≡◌, ◌⊎◌, List, Any}
use Rattle.exact_arith.specs.Space.{times, Face}
use Rattle.tri_exact.specs.Within.{mix3, HasArea}
use Rattle.tri_exact.specs.Pierce.{height}
use Rattle.bim_model.specs.Points.{shape_of}
use Rattle.bim_model.specs.declared.geometry.Triangle.{Triangle}
use Rattle.bim_model.specs.declared.element.Element.{Element}

-- the corners of s lie in the plane of t
pub record InPlane (t s : Face) : Type 0 where
  pub a_in : height s.a t ≡ pos 0
  pub b_in : height s.b t ≡ pos 0
  pub c_in : height s.c t ≡ pos 0

-- a corner of s lies off the plane of t
abbrev pub OffPlane : Face → Face → Type 0
OffPlane t s = InPlane t s → ⊥

-- a point inside t that is a point inside s
pub record CommonPoint (t s : Face) : Type 0 where
  pub a1 : ℤ
  pub a2 : ℤ
  pub a3 : ℤ
  pub b1 : ℤ
  pub b2 : ℤ
  pub b3 : ℤ
  pub a1_in : pos 0 <ℤ a1
  pub a2_in : pos 0 <ℤ a2
  pub a3_in : pos 0 <ℤ a3
  pub b1_in : pos 0 <ℤ b1
  pub b2_in : pos 0 <ℤ b2
  pub b3_in : pos 0 <ℤ b3
  pub same : times (b1 +ℤ b2 +ℤ b3) (mix3 t a1 a2 a3) ≡ times (a1 +ℤ a2 +ℤ a3) (mix3 s b1 b2 b3)

-- two faces pierce
pub record FacesPierce (t s : Face) : Type 0 where
  pub first_area : HasArea t
  pub second_area : HasArea s
  pub off : OffPlane t s ⊎ OffPlane s t
  pub inside : CommonPoint t s

-- two triangles pierce
unfoldable pub Pierces : Triangle → Triangle → Type 0
Pierces p q = FacesPierce (shape_of p) (shape_of q)

-- a triangle of the list and p pierce
abbrev pub PiercesAny : Triangle → List Triangle → Type 0
PiercesAny p qs = Any (λ (q : Triangle). Pierces p q) qs

-- a triangle of one list and a triangle of the other pierce
abbrev pub ListsPierce : List Triangle → List Triangle → Type 0
ListsPierce ps qs = Any (λ (p : Triangle). PiercesAny p qs) ps

-- two elements pierce: a triangle of one and a triangle of the other do
unfoldable pub ElementsPierce : Element → Element → Type 0
ElementsPierce a b = ListsPierce a.triangles b.triangles
