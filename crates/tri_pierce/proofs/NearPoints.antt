-- Faces that pierce are near at any distance: they have a common point
use Rattle.std.proofs.Common.{arith, ℕ, ℤ, pos, ◌-ℤ◌, ◌*ℤ◌, ◌≤ℤ◌, ◌<ℤ◌, sym, subst}
use Rattle.std.proofs.lemmas.Int.{ints}
use Rattle.exact_arith.proofs.Order.{mul_nonneg, square_nonneg}
use Rattle.exact_arith.specs.Space.{Vector, dot_of, Face, nowhere}
use Rattle.bim_model.specs.Points.{shape_of}
use Rattle.bim_model.specs.declared.geometry.Triangle.{Triangle}
use Rattle.bim_model.specs.declared.element.Element.{Element}
use Rattle.tri_exact.proofs.Posed.{Posed}
use Rattle.tri_exact.proofs.Weights.{a1, a2, a3, weight}
use Rattle.clearance.specs.Near.{FacesNear, Near, NearAny, ElementsNear}
use Rattle.clearance.proofs.NearTest.{near_yes}
use Rattle.clearance.proofs.Lists.{any_map}
use Rattle.tri_pierce.specs.Piercing.{FacesPierce, Pierces, PiercesAny, ElementsPierce}
use Rattle.tri_pierce.proofs.InnerPoints.{Inner, inner_of}

no_gap : (d n : ℤ) → dot_of nowhere nowhere ≤ℤ (d *ℤ d *ℤ (n *ℤ n))
no_gap d n = mul_nonneg (d *ℤ d) (n *ℤ n) (square_nonneg d) (square_nonneg n)

all_of : (n x y : ℤ) → pos 0 <ℤ (n -ℤ x -ℤ y) → pos 0 <ℤ x → pos 0 <ℤ y → pos 0 <ℤ n
all_of n x y h k l = omega (arith, ints, h, k, l)

weak : (x : ℤ) → pos 0 <ℤ x → pos 0 ≤ℤ x
weak x h = omega (arith, ints, h)

inner_posed : (t s : Face) (d : ℤ) → Inner t s → Posed t s (d *ℤ d)
inner_posed t s d c =
    let w = c.pose in
    record {
      pose = w;
      close = record { n_positive = all_of w.n w.a2 w.a3 (c.inside a1) (c.inside a2) (c.inside a3); within = subst (λ (v : Vector). dot_of v v ≤ℤ (d *ℤ d *ℤ (w.n *ℤ w.n))) (sym c.gone) (no_gap d w.n) };
      nonneg = λ i. weak (weight i w) (c.inside i);
    }

faces_near : (t s : Face) (d : ℕ) → FacesPierce t s → FacesNear t s d
faces_near t s d p = near_yes t s d (inner_posed t s (pos d) (inner_of t s p.inside))

pub triangles_near : (p q : Triangle) (d : ℕ) → Pierces p q → Near p q d
unfolding Pierces
triangles_near p q d h = faces_near (shape_of p) (shape_of q) d h

pub elements_near : (a b : Element) (d : ℕ) → ElementsPierce a b → ElementsNear a b d
unfolding ElementsPierce ElementsNear
elements_near a b d h = any_map (λ (p : Triangle). PiercesAny p b.triangles) (λ (p : Triangle). NearAny p b.triangles d) a.triangles (λ p. any_map (λ (q : Triangle). Pierces p q) (λ (q : Triangle). Near p q d) b.triangles (λ q. triangles_near p q d)) h
