-- Two triangles with a gap across a direction, by the places of their corners from one corner on
use Rattle.std.proofs.Common.{ℕ, ◌≡◌, arith, ℤ, pos, ◌+ℤ◌, ◌-ℤ◌, ◌*ℤ◌, ◌≤ℤ◌, ◌<ℤ◌, sym, subst}
use Rattle.std.proofs.lemmas.Int.{ints}
use Rattle.exact_arith.specs.Space.{Vector, Face, minus, dot_of}
use Rattle.clearance.specs.Near.{FacesNear}
use Rattle.clearance.specs.inner.Apart.{Apart}
use Rattle.clearance.proofs.Separate.{separated, height_apart}

-- a place above or below a bound, from another origin
under : (h hi x k : ℤ) → h ≤ℤ hi → k ≡ h +ℤ x → k ≤ℤ (hi +ℤ x)
under h hi x k f e = omega (arith, ints)

over : (h low high m x k : ℤ) → m ≤ℤ (low -ℤ high) → low ≤ℤ h → k ≡ h +ℤ x → (high +ℤ x +ℤ m) ≤ℤ k
over h low high m x k g f e = omega (arith, ints)

between : (high x m : ℤ) → high +ℤ x +ℤ m -ℤ (high +ℤ x) ≡ m
between high x m = omega (arith, ints)

-- the places of t's corners are at most high, those of s's at least low
pub parted : (t s : Face) (d : ℕ) (v o : Vector) (high low : ℤ) → dot_of (minus t.a o) v ≤ℤ high → dot_of (minus t.b o) v ≤ℤ high → dot_of (minus t.c o) v ≤ℤ high →
    low ≤ℤ dot_of (minus s.a o) v → low ≤ℤ dot_of (minus s.b o) v → low ≤ℤ dot_of (minus s.c o) v → Apart high low (dot_of v v) d → FacesNear t s d → ⊥
parted t s d v o high low ha hb hc hp hq hr g near =
    let x = dot_of v o in
    separated t s d v (high +ℤ x) (high +ℤ x +ℤ g.m)
    (under (dot_of (minus t.a o) v) high x (dot_of v t.a) ha (height_apart v t.a o)) (under (dot_of (minus t.b o) v) high x (dot_of v t.b) hb (height_apart v t.b o)) (under (dot_of (minus t.c o) v) high x (dot_of v t.c) hc (height_apart v t.c o))
    (over (dot_of (minus s.a o) v) low high g.m x (dot_of v s.a) g.gap hp (height_apart v s.a o)) (over (dot_of (minus s.b o) v) low high g.m x (dot_of v s.b) g.gap hq (height_apart v s.b o)) (over (dot_of (minus s.c o) v) low high g.m x (dot_of v s.c) g.gap hr (height_apart v s.c o))
    (subst (λ (k : ℤ). pos 0 <ℤ k) (sym (between high x g.m)) g.some) (subst (λ (k : ℤ). (pos d *ℤ pos d *ℤ dot_of v v) <ℤ (k *ℤ k)) (sym (between high x g.m)) g.far) near
