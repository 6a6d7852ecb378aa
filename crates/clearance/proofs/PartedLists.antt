-- Two lists with a gap between their places across a direction are not near
use Rattle.std.proofs.Common.{ℕ, ◌≡◌, ◌∙◌, ℤ, ◌≤◌, unsigned_abs, List, subst}
use Rattle.bim_model.specs.declared.geometry.Triangle.{Triangle}
use Rattle.bim_model.specs.declared.geometry.Extent.{Extent}
use Rattle.bim_model.specs.Points.{shape_of}
use Rattle.exact_arith.specs.Space.{Vector, Face, dot_of}
use Rattle.exact_arith.proofs.Order.{le_trans}
use Rattle.exact_arith.proofs.Ranges.{in_128, same_128}
use Rattle.clearance.specs.declared.projections.Interval.{Interval}
use Rattle.clearance.specs.Near.{FacesNear, ListsNear}
use Rattle.clearance.specs.inner.Apart.{Apart}
use Rattle.clearance.specs.inner.BoxContainment.{InExtent}
use Rattle.clearance.specs.inner.TriangleRuns.{AllIn, AllReach, Reaches}
use Rattle.clearance.specs.inner.Projections.{InInterval, Longer, ProjectsIn, AllProjectIn}
use Rattle.clearance.proofs.Gaps.{near_swaps}
use Rattle.clearance.proofs.Parted.{parted}

pub lengthened : (o v : Vector) (k m : Interval) (t : Face) → Longer k m → InInterval o v k t → InInterval o v m t
lengthened o v k m t w b = record {
  a_low = le_trans _ _ _ w.low b.a_low;
  b_low = le_trans _ _ _ w.low b.b_low;
  c_low = le_trans _ _ _ w.low b.c_low;
  a_high = le_trans _ _ _ b.a_high w.high;
  b_high = le_trans _ _ _ b.b_high w.high;
  c_high = le_trans _ _ _ b.c_high w.high;
}

-- an interval for one triangle more
pub projected_more : (around : Extent) (d : ℕ) (o v : Vector) (f m : Interval) (t : Triangle) → Longer f m → ProjectsIn around d o v f t → ProjectsIn around d o v m t
projected_more around d o v f m t w r = λ s h n. lengthened o v f m (shape_of t) w (r s h n)

-- a bound on an argument as the callee saw it
pub as_seen : (high low f g : ℤ) (d : ℕ) → unsigned_abs high ≤ 24576000000000000000000 → unsigned_abs low ≤ 24576000000000000000000 → unsigned_abs f ≤ 786432000000000000000000000000 → f ≡ g → Apart (in_128 high) (in_128 low) (in_128 f) d → Apart high low g d
as_seen high low f g d h k l e a =
    subst (λ (x : ℤ). Apart high low x d) (same_128 f l tt ∙ e) (subst (λ (x : ℤ). Apart high x (in_128 f) d) (same_128 low k tt) (subst (λ (x : ℤ). Apart x (in_128 low) (in_128 f) d) (same_128 high h tt) a))

-- two triangles that are near have their places in both intervals
module _ (ps qs : List Triangle) (around reached : Extent) (d : ℕ) (o v : Vector) (k m : Interval) (a : AllIn around ps) (r : AllReach around d reached qs) (f : AllProjectIn reached d o v k ps) (g : AllProjectIn around d o v m qs) where
  by_places : ((t s : Face) → InInterval o v k t → InInterval o v m s → FacesNear t s d → ⊥) → ListsNear ps qs d → ⊥
  by_places never (i, p, lt, e, (j, q, lt', e', n)) =
      let t = shape_of p in let s = shape_of q in
      let h = subst (λ (y : Triangle). InExtent around (shape_of y)) e (a i p lt) in
      let x = subst (λ (y : Triangle). Reaches around d reached y) e' (r j q lt') t h n in
      let y = subst (λ (y : Triangle). ProjectsIn around d o v m y) e' (g j q lt') t h n in
      let z = subst (λ (y : Triangle). ProjectsIn reached d o v k y) e (f i p lt) s x (near_swaps t s d n) in
      never t s z y n

  pub first_below : Apart k.high m.low (dot_of v v) d → ListsNear ps qs d → ⊥
  first_below gap = by_places (λ t s z y n. parted t s d v o k.high m.low z.a_high z.b_high z.c_high y.a_low y.b_low y.c_low gap n)

  pub second_below : Apart m.high k.low (dot_of v v) d → ListsNear ps qs d → ⊥
  second_below gap = by_places (λ t s z y n. parted s t d v o m.high k.low y.a_high y.b_high y.c_high z.a_low z.b_low z.c_low gap (near_swaps t s d n))
