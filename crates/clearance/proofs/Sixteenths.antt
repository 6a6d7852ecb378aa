-- Each place of a list is one of sixteen starts and a number of steps of sixteen
use Rattle.std.proofs.Common.{ℕ, zero, suc, ◌≡◌, ◌+◌, ◌*◌, ◌<◌, List, length, arith, refl, subst, sym}
use Rattle.std.specs.Prelude.{slice_index_or}
use Rattle.bim_model.specs.declared.geometry.Triangle.{Triangle}
use Rattle.clearance.specs.Near.{NearAny, ListsNear}
use Rattle.clearance.specs.inner.TriangleRuns.{NoneInRow}
use Rattle.std.proofs.lemmas.List.{get_or_default}
use Rattle.clearance.proofs.Lists.{by_lt}

split : (k : ℕ) → (j : ℕ) × (i : ℕ) × (i < 16) × (k ≡ 16 * j + i)
split zero = (0, 0, omega arith, refl)
split (suc k) =
    let r = split k in let j = r.0 in let i = r.1 in let lt : i < 16 = r.2 in let e : k ≡ 16 * j + i = r.3 in
    by_lt (i + 1) 16
    (λ h. (j, i + 1, h, omega (arith, e)))
    (λ h. (j + 1, 0, omega arith, omega (arith, lt, h, e)))

pub none_in_rows : (ps qs : List Triangle) (d : ℕ) → ((i : ℕ) → i < 16 → NoneInRow ps i qs d) → ListsNear ps qs d → ⊥
none_in_rows ps qs d none (k, p, lt, e, n) =
    let r = split k in
    none r.1 r.2 r.0 p (subst (λ (x : ℕ). x < length ps) r.3 lt)
    (subst (λ (x : ℕ). NearAny (slice_index_or ps x p) qs d) r.3 (subst (λ (y : Triangle). NearAny y qs d) (sym e) n))

-- a place of a list, with another default
pub at_place : (ps qs : List Triangle) (d i k : ℕ) (p q : Triangle) → i ≡ k → i < length ps → NearAny (slice_index_or ps i p) qs d → NearAny (slice_index_or ps k q) qs d
at_place ps qs d i k p q e lt n =
    subst (λ (x : ℕ). NearAny (slice_index_or ps x q) qs d) e (subst (λ (y : Triangle). NearAny y qs d) (get_or_default ps i p q lt) n)
