-- The truth values say what the definitions by weights say.
use Rattle.std.proofs.Common.{ℕ, Bool, true, false, ◌&&◌, ◌||◌, ◌≡◌, ◌↔◌, ◌⊎◌, IsTrue, arith, ℤ, pos, ◌+ℤ◌, ◌-ℤ◌, ◌*ℤ◌, ◌≤ℤ◌, ◌<ℤ◌, List, refl}
use Rattle.std.specs.Prelude.{Any, int_le, int_lt}
use Rattle.std.specs.Bool.{Decides}
use Rattle.std.specs.List.{list_any}
use Rattle.std.proofs.lemmas.Bool.Decides.{Decides-and, Decides-or, Decides-like, same_from_decides}
use Rattle.std.proofs.lemmas.List.Folds.{Any-from_list_any, list_any-from_Any}
use Rattle.std.proofs.lemmas.Int.{ints}
use Rattle.exact_arith.specs.Space.{Vector, minus, dot_of, Face, normal}
use Rattle.bim_model.specs.Points.{shape_of}
use Rattle.bim_model.specs.declared.geometry.Triangle.{Triangle}
use Rattle.bim_model.specs.declared.element.Element.{Element}
use Rattle.tri_exact.specs.Within.{HasArea, FootWithin}
use Rattle.tri_exact.specs.Foot.{square_of, along_of, across_of, height_of}
use Rattle.tri_exact.specs.Edges.{Beside, Crosses}
use Rattle.tri_exact.specs.Pierce.{Rises, Up, PiercesFace, height, weight_a, weight_b, weight_c}
use Rattle.tri_exact.proofs.FootTest.{foot_yes, foot_no}
use Rattle.clearance.specs.Near.{FacesNear, Near, NearAny, ListsNear, ElementsNear}
use Rattle.clearance.specs.inner.Planes.{SideNear}
use Rattle.clearance.specs.inner.EdgePairs.{CornerNear, RowNear, EdgesNear}
use Rattle.clearance.specs.Decided.{is_beside, is_crossing, is_corner_near, is_row_near, is_edge_near, is_over, is_rising, is_up, is_through, is_side_near, is_face_near, is_near_triangles, is_near_lists, is_near}
use Rattle.clearance.proofs.Lists.{any_map}
use Rattle.clearance.proofs.NearTest.{near_tests, tests_near}
use Rattle.clearance.proofs.RowsTest.{rows_yes, rows_no}

-- ---- comparisons
unless : (t : Bool) → (t ≡ false → ⊥) → t ≡ true
unless true f = refl
unless false f = absurd (f refl)

le : (a b : ℤ) → Decides (int_le a b) (a ≤ℤ b)
le a b = (λ e. omega (arith, ints, e), λ h. unless (int_le a b) (λ e. omega (arith, ints, e, h)))

lt : (a b : ℤ) → Decides (int_lt a b) (a <ℤ b)
lt a b = (λ e. omega (arith, ints, e), λ h. unless (int_lt a b) (λ e. omega (arith, ints, e, h)))

module _ {P Q R : Type 0} where
  three : (x y z : Bool) → Decides x P → Decides y Q → Decides z R → Decides (x || (y || z)) (P ⊎ (Q ⊎ R))
  three x y z p q r = Decides-or x (y || z) p (Decides-or y z q r)

-- ---- edges
beside : (l w s m : ℤ) → Decides (is_beside l w s m) (Beside l w s m)
beside l w s m =
    Decides-like (is_beside l w s m)
    (λ h. record { starts = h.0; ends = h.1.0; low = h.1.1 }) (λ c. (c.starts, (c.ends, c.low)))
    (Decides-and (int_lt (pos 0) s) (int_lt s l && int_le (l *ℤ w -ℤ s *ℤ s) (m *ℤ l)) (lt (pos 0) s)
    (Decides-and (int_lt s l) (int_le (l *ℤ w -ℤ s *ℤ s) (m *ℤ l)) (lt s l) (le (l *ℤ w -ℤ s *ℤ s) (m *ℤ l))))

-- the numbers of `Crosses`
crossing_numbers : (q a c h m : ℤ) → let last = int_le (pos 0) (q +ℤ c) && int_le (h *ℤ h) (m *ℤ q) in
    Decides (int_lt (pos 0) q && (int_le (pos 0) a && (int_le a q && (int_le c (pos 0) && last)))) ((pos 0 <ℤ q) × ((pos 0 ≤ℤ a) × ((a ≤ℤ q) × ((c ≤ℤ pos 0) × ((pos 0 ≤ℤ (q +ℤ c)) × ((h *ℤ h) ≤ℤ (m *ℤ q)))))))
crossing_numbers q a c h m =
    let e = int_le (pos 0) (q +ℤ c) in let f = int_le (h *ℤ h) (m *ℤ q) in
    Decides-and (int_lt (pos 0) q) (int_le (pos 0) a && (int_le a q && (int_le c (pos 0) && (e && f)))) (lt (pos 0) q)
    (Decides-and (int_le (pos 0) a) (int_le a q && (int_le c (pos 0) && (e && f))) (le (pos 0) a)
    (Decides-and (int_le a q) (int_le c (pos 0) && (e && f)) (le a q)
    (Decides-and (int_le c (pos 0)) (e && f) (le c (pos 0))
    (Decides-and e f (le (pos 0) (q +ℤ c)) (le (h *ℤ h) (m *ℤ q))))))

crossing : (e u r : Vector) (m : ℤ) → Decides (is_crossing e u r m) (Crosses e u r m)
crossing e u r m =
    Decides-like (is_crossing e u r m)
    (λ h. record { slanted = h.0; along_in = h.1.0; along_end = h.1.1.0; across_in = h.1.1.1.0; across_end = h.1.1.1.1.0; low = h.1.1.1.1.1 })
    (λ c. (c.slanted, (c.along_in, (c.along_end, (c.across_in, (c.across_end, c.low))))))
    (crossing_numbers (square_of e u) (along_of e u r) (across_of e u r) (height_of e u r) m)

corner : (a b p q : Vector) (d : ℕ) → Decides (is_corner_near a b p q (pos d *ℤ pos d)) (CornerNear a b p q d)
corner a b p q d =
    let m = pos d *ℤ pos d in let w = dot_of (minus p a) (minus p a) in
    let l = dot_of (minus q p) (minus q p) in let s = pos 0 -ℤ dot_of (minus p a) (minus q p) in
    let k = dot_of (minus b a) (minus b a) in let r = dot_of (minus p a) (minus b a) in
    let x = is_crossing (minus b a) (minus q p) (minus p a) m in
    Decides-or (int_le w m) (is_beside l w s m || (is_beside k w r m || x)) (le w m)
    (three (is_beside l w s m) (is_beside k w r m) x (beside l w s m) (beside k w r m) (crossing (minus b a) (minus q p) (minus p a) m))

row : (a b : Vector) (s : Face) (d : ℕ) → Decides (is_row_near a b s (pos d *ℤ pos d)) (RowNear a b s d)
row a b s d =
    let m = pos d *ℤ pos d in
    three (is_corner_near a b s.a s.b m) (is_corner_near a b s.b s.c m) (is_corner_near a b s.c s.a m) (corner a b s.a s.b d) (corner a b s.b s.c d) (corner a b s.c s.a d)

edge : (t s : Face) (d : ℕ) → Decides (is_edge_near t s (pos d *ℤ pos d)) (EdgesNear t s d)
edge t s d =
    let m = pos d *ℤ pos d in
    Decides-like (is_edge_near t s m) (rows_yes t s d) (rows_no t s d)
    (three (is_row_near t.a t.b s m) (is_row_near t.b t.c s m) (is_row_near t.c t.a s m) (row t.a t.b s d) (row t.b t.c s d) (row t.c t.a s d))

-- ---- sides
foot_numbers : (a b c h k : ℤ) → Decides (int_le (pos 0) a && (int_le (pos 0) b && (int_le (pos 0) c && int_le h k))) ((pos 0 ≤ℤ a) × ((pos 0 ≤ℤ b) × ((pos 0 ≤ℤ c) × (h ≤ℤ k))))
foot_numbers a b c h k =
    Decides-and (int_le (pos 0) a) (int_le (pos 0) b && (int_le (pos 0) c && int_le h k)) (le (pos 0) a)
    (Decides-and (int_le (pos 0) b) (int_le (pos 0) c && int_le h k) (le (pos 0) b)
    (Decides-and (int_le (pos 0) c) (int_le h k) (le (pos 0) c) (le h k)))

over : (p : Vector) (t : Face) (d : ℕ) → HasArea t → Decides (is_over p t (pos d *ℤ pos d)) (FootWithin p t d)
over p t d area =
    let m = pos d *ℤ pos d in let e = minus t.b t.a in let u = minus t.c t.a in let r = minus p t.a in
    Decides-like (is_over p t m)
    (λ h. foot_yes p t d (record { area = area; a_in = h.0; b_in = h.1.0; c_in = h.1.1.0; low = h.1.1.1 }))
    (λ f. let c = foot_no p t d area f in (c.a_in, (c.b_in, (c.c_in, c.low))))
    (foot_numbers (square_of e u -ℤ along_of e u r -ℤ across_of e u r) (along_of e u r) (across_of e u r) (height_of e u r *ℤ height_of e u r) (m *ℤ square_of e u))

rising : (h k u v w : ℤ) → Decides (is_rising h k u v w) (Rises h k u v w)
rising h k u v w =
    Decides-like (is_rising h k u v w)
    (λ c. record { low = c.0; high = c.1.0; steep = c.1.1.0; a_in = c.1.1.1.0; b_in = c.1.1.1.1.0; c_in = c.1.1.1.1.1 })
    (λ c. (c.low, (c.high, (c.steep, (c.a_in, (c.b_in, c.c_in))))))
    (Decides-and (int_le h (pos 0)) (int_le (pos 0) k && (int_lt h k && (int_le (pos 0) u && (int_le (pos 0) v && int_le (pos 0) w)))) (le h (pos 0))
    (Decides-and (int_le (pos 0) k) (int_lt h k && (int_le (pos 0) u && (int_le (pos 0) v && int_le (pos 0) w))) (le (pos 0) k)
    (Decides-and (int_lt h k) (int_le (pos 0) u && (int_le (pos 0) v && int_le (pos 0) w)) (lt h k)
    (Decides-and (int_le (pos 0) u) (int_le (pos 0) v && int_le (pos 0) w) (le (pos 0) u)
    (Decides-and (int_le (pos 0) v) (int_le (pos 0) w) (le (pos 0) v) (le (pos 0) w))))))

upward : (p q : Vector) (t : Face) → Decides (is_up p q t) (Up p q t)
upward p q t = rising (height p t) (height q t) (weight_a p q t) (weight_b p q t) (weight_c p q t)

through : (p q : Vector) (t : Face) → Decides (is_through p q t) (PiercesFace p q t)
through p q t = Decides-or (is_up p q t) (is_up q p t) (upward p q t) (upward q p t)

-- where the first of two tests has to hold for the second to say something
guarded : {P Q : Type 0} (x y : Bool) → Decides x P → (P → Decides y Q) → Decides (x && y) (P × Q)
guarded true y d k = (λ e. (d.0 refl, (k (d.0 refl)).0 e), λ h. (k h.0).1 h.1)
guarded false y d k = (λ e. absurd (cc e), λ h. d.1 h.0)

side : (t s : Face) (d : ℕ) → Decides (is_side_near t s (pos d *ℤ pos d)) (HasArea t × SideNear t s d)
side t s d =
    let m = pos d *ℤ pos d in
    let f = is_over s.a t m || (is_over s.b t m || is_over s.c t m) in
    let g = is_through s.a s.b t || (is_through s.b s.c t || is_through s.c s.a t) in
    guarded (int_lt (pos 0) (dot_of (normal t) (normal t))) (f || g) (lt (pos 0) (dot_of (normal t) (normal t)))
    (λ area. Decides-or f g
    (three (is_over s.a t m) (is_over s.b t m) (is_over s.c t m) (over s.a t d area) (over s.b t d area) (over s.c t d area))
    (three (is_through s.a s.b t) (is_through s.b s.c t) (is_through s.c s.a t) (through s.a s.b t) (through s.b s.c t) (through s.c s.a t)))

-- ---- triangles, lists and elements
pub face_decided : (t s : Face) (d : ℕ) → Decides (is_face_near t s (pos d *ℤ pos d)) (FacesNear t s d)
face_decided t s d =
    let m = pos d *ℤ pos d in
    Decides-like (is_face_near t s m) (tests_near t s d) (near_tests t s d)
    (three (is_edge_near t s m) (is_side_near t s m) (is_side_near s t m) (edge t s d) (side t s d) (side s t d))

pub triangles_decided : (p q : Triangle) (d : ℕ) → IsTrue (is_near_triangles p q d) ↔ Near p q d
unfolding is_near_triangles
triangles_decided p q d = face_decided (shape_of p) (shape_of q) d

any_decided : {X : Type 0} (test : X → Bool) (P : X → Type 0) (xs : List X) → ((x : X) → Decides (test x) (P x)) → Decides (list_any test xs) (Any P xs)
any_decided test P xs each = (
  λ e. any_map (λ x. test x ≡ true) P xs (λ x. (each x).0) (Any-from_list_any test xs e),
  λ a. list_any-from_Any test xs (any_map P (λ x. test x ≡ true) xs (λ x. (each x).1) a),
)

pub lists_decided : (ps qs : List Triangle) (d : ℕ) → IsTrue (is_near_lists ps qs d) ↔ ListsNear ps qs d
unfolding is_near_lists
lists_decided ps qs d =
    any_decided (λ (p : Triangle). list_any (λ (q : Triangle). is_near_triangles p q d) qs) (λ (p : Triangle). NearAny p qs d) ps
    (λ p. any_decided (λ (q : Triangle). is_near_triangles p q d) (λ (q : Triangle). Near p q d) qs (λ q. triangles_decided p q d))

pub elements_decided : (a b : Element) (d : ℕ) → IsTrue (is_near a b d) ↔ ElementsNear a b d
unfolding is_near ElementsNear
elements_decided a b d = lists_decided a.triangles b.triangles d

-- ---- an answer that is true exactly where they are near is the truth value
pub triangles_told : (r : Bool) (p q : Triangle) (d : ℕ) → IsTrue r ↔ Near p q d → r ≡ is_near_triangles p q d
triangles_told r p q d h = same_from_decides r (is_near_triangles p q d) h (triangles_decided p q d)

pub lists_told : (r : Bool) (ps qs : List Triangle) (d : ℕ) → IsTrue r ↔ ListsNear ps qs d → r ≡ is_near_lists ps qs d
lists_told r ps qs d h = same_from_decides r (is_near_lists ps qs d) h (lists_decided ps qs d)

pub elements_told : (r : Bool) (a b : Element) (d : ℕ) → IsTrue r ↔ ElementsNear a b d → r ≡ is_near a b d
elements_told r a b d h = same_from_decides r (is_near a b d) h (elements_decided a b d)
