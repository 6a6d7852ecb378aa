-- A smallest box is the only one.
use Rattle.std.proofs.Common.{◌≡◌, ℤ, ◌≤ℤ◌, List, map, ap, ◌∙◌, arith}
use Rattle.std.proofs.lemmas.Int.{ints}
use Rattle.std.proofs.lemmas.List.Elements.{All-contains}
use Rattle.bim_model.specs.declared.geometry.Point.{Point}
use Rattle.bim_model.specs.declared.geometry.Triangle.{Triangle}
use Rattle.bim_model.specs.declared.geometry.Extent.{Extent}
use Rattle.bim_model.specs.declared.element.Element.{Element}
use Rattle.bim_model.specs.Boxes.{corners_of, IsLeast, IsGreatest, Bounds, IsExtentOf}
use Rattle.bim_model.specs.Models.{IsBoxOf, AreBoxes}
use Rattle.bim_model.proofs.Zips.{zip_same}

level : (a b : ℤ) → a ≤ℤ b → b ≤ℤ a → a ≡ b
level a b h k = omega (arith, ints)

least_same : (ns : List ℤ) (a b : ℤ) → IsLeast ns a → IsLeast ns b → a ≡ b
least_same ns a b h k =
    level a b (All-contains (λ n. a ≤ℤ n) ns b h.bound k.reached) (All-contains (λ n. b ≤ℤ n) ns a k.bound h.reached)

greatest_same : (ns : List ℤ) (a b : ℤ) → IsGreatest ns a → IsGreatest ns b → a ≡ b
greatest_same ns a b h k =
    level a b (All-contains (λ n. n ≤ℤ b) ns a k.bound h.reached) (All-contains (λ n. n ≤ℤ a) ns b h.bound k.reached)

abbrev point : ℤ → ℤ → ℤ → Point
point x y z = record { x = x; y = y; z = z }

abbrev extent : Point → Point → Extent
extent low high = record { low = low; high = high }

same_point : (p q : Point) → p.x ≡ q.x → p.y ≡ q.y → p.z ≡ q.z → p ≡ q
same_point p q x y z = ap (λ t. point t p.y p.z) x ∙ ap (λ t. point q.x t p.z) y ∙ ap (λ t. point q.x q.y t) z

same_extent : (a b : Extent) → a.low ≡ b.low → a.high ≡ b.high → a ≡ b
same_extent a b low high = ap (λ t. extent t a.high) low ∙ ap (λ t. extent b.low t) high

bounds_same : (ps : List Point) (a b : Extent) → Bounds ps a → Bounds ps b → a ≡ b
bounds_same ps a b h k =
    same_extent a b
    (same_point a.low b.low (least_same (map (λ (p : Point). p.x) ps) a.low.x b.low.x h.low_x k.low_x)
    (least_same (map (λ (p : Point). p.y) ps) a.low.y b.low.y h.low_y k.low_y)
    (least_same (map (λ (p : Point). p.z) ps) a.low.z b.low.z h.low_z k.low_z))
    (same_point a.high b.high (greatest_same (map (λ (p : Point). p.x) ps) a.high.x b.high.x h.high_x k.high_x)
    (greatest_same (map (λ (p : Point). p.y) ps) a.high.y b.high.y h.high_y k.high_y)
    (greatest_same (map (λ (p : Point). p.z) ps) a.high.z b.high.z h.high_z k.high_z))

pub extent_same : (triangles : List Triangle) (a b : Extent) → IsExtentOf triangles a → IsExtentOf triangles b → a ≡ b
extent_same triangles a b h k = bounds_same (corners_of triangles) a b h k

pub boxes_same : (elements : List Element) (a b : List Extent) → AreBoxes elements a → AreBoxes elements b → a ≡ b
boxes_same elements a b h k = zip_same IsBoxOf (λ e x y p q. extent_same e.triangles x y p q) elements a b h k
