-- The box that is found of an element's corners is the smallest round it.
use Rattle.std.proofs.Common.{◌≡◌, ℤ, ◌≤ℤ◌, List, [], ◌∷◌, ◌++◌, length, map, fold, ◌<◌, refl, sym, ap, ap₂, subst, arith, ◌∙◌, append_assoc, append-nil}
use Rattle.std.specs.List.{All, AllZip, Contains}
use Rattle.std.specs.Int.{int_min, int_max}
use Rattle.std.proofs.lemmas.Int.{ints}
use Rattle.std.proofs.lemmas.List.Elements.{All-nil, All-cons, All-head, All-tail}
use Rattle.bim_model.specs.declared.geometry.Point.{Point}
use Rattle.bim_model.specs.declared.geometry.Triangle.{Triangle}
use Rattle.bim_model.specs.declared.geometry.Extent.{Extent}
use Rattle.bim_model.specs.Boxes.{corners_of, IsLeast, IsGreatest, Bounds, IsExtentOf}
use Rattle.bim_model.specs.Keys.{Subject, subjects_of}
use Rattle.bim_model.specs.Snapshots.{Version}
use Rattle.bim_model.proofs.Extents.{least_push, greatest_push}
use Rattle.bim_model.proofs.Unique.{extent_same}
use Rattle.bucket_grid.specs.Subjects.{IsBoxOf, AreBoxes}
use Rattle.book_history.specs.VersionBoxes.{least, greatest, chosen, box_of, boxes_of}

alone_least : (x : ℤ) → IsLeast (x ∷ []) x
alone_least x = record { reached = (0, omega arith, refl); bound = All-cons (λ n. x ≤ℤ n) x [] (omega (arith, ints)) (All-nil (λ n. x ≤ℤ n)) }

alone_greatest : (x : ℤ) → IsGreatest (x ∷ []) x
alone_greatest x = record { reached = (0, omega arith, refl); bound = All-cons (λ n. n ≤ℤ x) x [] (omega (arith, ints)) (All-nil (λ n. n ≤ℤ x)) }

least_on : (seen : List ℤ) (low : ℤ) (xs : List ℤ) → IsLeast seen low → IsLeast (seen ++ xs) (fold int_min low xs)
least_on seen low [] h = subst (λ l. IsLeast l low) (sym (append-nil seen)) h
least_on seen low (x ∷ xs) h =
    subst (λ l. IsLeast l (fold int_min (int_min low x) xs)) (append_assoc seen (x ∷ []) xs)
    (least_on (seen ++ x ∷ []) (int_min low x) xs (least_push seen low x (int_min low x) refl h))

greatest_on : (seen : List ℤ) (high : ℤ) (xs : List ℤ) → IsGreatest seen high → IsGreatest (seen ++ xs) (fold int_max high xs)
greatest_on seen high [] h = subst (λ l. IsGreatest l high) (sym (append-nil seen)) h
greatest_on seen high (x ∷ xs) h =
    subst (λ l. IsGreatest l (fold int_max (int_max high x) xs)) (append_assoc seen (x ∷ []) xs)
    (greatest_on (seen ++ x ∷ []) (int_max high x) xs (greatest_push seen high x (int_max high x) refl h))

is_least : (x : ℤ) (xs : List ℤ) → IsLeast (x ∷ xs) (least (x ∷ xs))
is_least x xs = least_on (x ∷ []) x xs (alone_least x)

is_greatest : (x : ℤ) (xs : List ℤ) → IsGreatest (x ∷ xs) (greatest (x ∷ xs))
is_greatest x xs = greatest_on (x ∷ []) x xs (alone_greatest x)

bounds_found : (p : Point) (ps : List Point) → Bounds (p ∷ ps) (record { low = chosen least (p ∷ ps); high = chosen greatest (p ∷ ps) })
bounds_found p ps = record {
  low_x = is_least p.x (map (λ (q : Point). q.x) ps);
  low_y = is_least p.y (map (λ (q : Point). q.y) ps);
  low_z = is_least p.z (map (λ (q : Point). q.z) ps);
  high_x = is_greatest p.x (map (λ (q : Point). q.x) ps);
  high_y = is_greatest p.y (map (λ (q : Point). q.y) ps);
  high_z = is_greatest p.z (map (λ (q : Point). q.z) ps);
}

none_reached : (e : Extent) → IsExtentOf [] e → ⊥
none_reached e h = let c = h.low_x.reached in omega (arith, c.1)

box_is : (ts : List Triangle) (e : Extent) → IsExtentOf ts e → e ≡ box_of ts
box_is [] e h = absurd (none_reached e h)
box_is (t ∷ ts) e h = extent_same (t ∷ ts) e (box_of (t ∷ ts)) h (bounds_found t.a (t.b ∷ t.c ∷ corners_of ts))

boxes_are_by : (subjects : List Subject) (boxes : List Extent) → AreBoxes subjects boxes → boxes ≡ map (λ (s : Subject). box_of s.element.triangles) subjects
boxes_are_by [] [] h = refl
boxes_are_by [] (b ∷ bs) h = absurd h
boxes_are_by (s ∷ ss) [] h = absurd h
boxes_are_by (s ∷ ss) (b ∷ bs) h = ap₂ (λ x xs. x ∷ xs) (box_is s.element.triangles b h.0) (boxes_are_by ss bs h.1)

-- the boxes round a version's elements are those that are found
pub boxes_are : (version : Version) (boxes : List Extent) → AreBoxes (subjects_of version.models) boxes → boxes ≡ boxes_of version
boxes_are version boxes h = boxes_are_by (subjects_of version.models) boxes h
