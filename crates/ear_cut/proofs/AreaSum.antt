-- The areas of the triangles add up to the polygon's.
use Rattle.std.proofs.Common.{◌≡◌, ◌∙◌, ap, sym, refl, subst, ℕ, zero, suc, ◌+◌, ◌-◌, ◌<◌, ◌≤◌, inl, inr, ℤ, pos, ◌+ℤ◌, ◌-ℤ◌, ◌*ℤ◌, Bool, true, false, cond, List, [], ◌∷◌, ◌++◌, length, map, take, drop, get_or, Option, Some, None, arith}
use Rattle.std.specs.Prelude.{remove, slice_index_or}
use Rattle.std.specs.Option.{option_map, option_and_then}
use Rattle.std.proofs.lemmas.Int.{ints}
use Rattle.std.proofs.lemmas.Bool.{cases_lt}
use Rattle.std.proofs.lemmas.Bool.Decides.{nat_tests}
use Rattle.std.proofs.lemmas.List.{map-append, take-map, drop-map, get_or-map, length-map, get_or_append_left, get_or_at}
use Rattle.std.proofs.lemmas.List.Edits.{length-remove}
use Rattle.bim_model.specs.declared.geometry.Point.{Point}
use Rattle.ear_cut.specs.declared.polygon_view.View.{View}
use Rattle.ear_cut.specs.declared.corners.Corner.{Corner}
use Rattle.ear_cut.specs.declared.ears.Ear.{Ear}
use Rattle.exact_arith.specs.Space.{Vector, nowhere, plus, cross_of}
use Rattle.bim_model.specs.Points.{vector_of}
use Rattle.bim_model.specs.Polygons.{along, normal_of}
use Rattle.ear_cut.specs.PolygonViews.{view_of}
use Rattle.ear_cut.specs.Corners.{corners_from, previous, next, nobody, turn_at, angle_of, is_straight}
use Rattle.ear_cut.specs.Removal.{first_from, is_ear, or_else, choice, ear_of, is_turned_over, cut_by, cut_of}
use Rattle.ear_cut.specs.Areas.{point_at, area_of_ear, area_of_ears}
use Rattle.ear_cut.proofs.Parts.{same_vector}
use Rattle.ear_cut.proofs.Newell.{last_of, along_push}
use Rattle.ear_cut.proofs.Closed.{previous_within, next_within}
use Rattle.ear_cut.proofs.Places.{corner, length-corners}
use Rattle.ear_cut.proofs.Taken.{lift, taken, lift_within}

-- ---- sums of vectors
turned : (a b c d : ℤ) → (a *ℤ b -ℤ c *ℤ d) +ℤ (d *ℤ c -ℤ b *ℤ a) ≡ pos 0
turned a b c d = omega (arith, ints)

pub cross_back : (a b : Vector) → plus (cross_of a b) (cross_of b a) ≡ nowhere
cross_back a b = same_vector _ _ _ (pos 0) (pos 0) (pos 0) (turned a.y b.z a.z b.y) (turned a.z b.x a.x b.z) (turned a.x b.y a.y b.x)

middle : (ab bc ca ac r : ℤ) → ca +ℤ ac ≡ pos 0 → ab +ℤ (bc +ℤ r) ≡ (ab +ℤ (bc +ℤ (ca +ℤ pos 0))) +ℤ (ac +ℤ r)
middle ab bc ca ac r h = omega (arith, ints, h)

plus_middle : (ab bc ca ac r : Vector) → plus ca ac ≡ nowhere → plus ab (plus bc r) ≡ plus (plus ab (plus bc (plus ca nowhere))) (plus ac r)
plus_middle ab bc ca ac r h =
    same_vector _ _ _ _ _ _ (middle ab.x bc.x ca.x ac.x r.x (ap (λ (v : Vector). v.x) h)) (middle ab.y bc.y ca.y ac.y r.y (ap (λ (v : Vector). v.y) h)) (middle ab.z bc.z ca.z ac.z r.z (ap (λ (v : Vector). v.z) h))

at_end : (ab bc ca ac r : ℤ) → ca +ℤ ac ≡ pos 0 → bc +ℤ (r +ℤ ab) ≡ (ab +ℤ (bc +ℤ (ca +ℤ pos 0))) +ℤ (r +ℤ ac)
at_end ab bc ca ac r h = omega (arith, ints, h)

plus_at_end : (ab bc ca ac r : Vector) → plus ca ac ≡ nowhere → plus bc (plus r ab) ≡ plus (plus ab (plus bc (plus ca nowhere))) (plus r ac)
plus_at_end ab bc ca ac r h =
    same_vector _ _ _ _ _ _ (at_end ab.x bc.x ca.x ac.x r.x (ap (λ (v : Vector). v.x) h)) (at_end ab.y bc.y ca.y ac.y r.y (ap (λ (v : Vector). v.y) h)) (at_end ab.z bc.z ca.z ac.z r.z (ap (λ (v : Vector). v.z) h))

swapped : (a b c : ℤ) → a +ℤ (b +ℤ c) ≡ b +ℤ (a +ℤ c)
swapped a b c = omega (arith, ints)

plus-swap : (a b c : Vector) → plus a (plus b c) ≡ plus b (plus a c)
plus-swap a b c = same_vector _ _ _ _ _ _ (swapped a.x b.x c.x) (swapped a.y b.y c.y) (swapped a.z b.z c.z)

after_zero : (a : ℤ) → a +ℤ pos 0 ≡ a
after_zero a = omega (arith, ints)

plus_nowhere : (a : Vector) → plus a nowhere ≡ a
plus_nowhere a = same_vector _ _ _ a.x a.y a.z (after_zero a.x) (after_zero a.y) (after_zero a.z)

-- ---- the sum round a polygon, without one of its points
abbrev triangle : Point → Point → Point → Vector
triangle a b c = normal_of (a ∷ b ∷ c ∷ [])

-- b between a and c
between : (a b c : Point) (ys : List Point) → along (a ∷ b ∷ c ∷ ys) ≡ plus (triangle a b c) (along (a ∷ c ∷ ys))
between a b c ys = plus_middle (cross_of (vector_of a) (vector_of b)) (cross_of (vector_of b) (vector_of c)) (cross_of (vector_of c) (vector_of a)) (cross_of (vector_of a) (vector_of c)) (along (c ∷ ys)) (cross_back (vector_of c) (vector_of a))

-- the j-th point after p goes
along_without : (p : Point) (qs : List Point) (h : Point) (j : ℕ) (d : Point) → j < length qs → along (p ∷ (qs ++ h ∷ [])) ≡ plus (triangle (get_or (p ∷ qs) j d) (get_or qs j d) (get_or (qs ++ h ∷ []) (suc j) d)) (along (p ∷ (remove qs j ++ h ∷ [])))
along_without p [] h j d l = absurd (omega (arith, l))
along_without p (b ∷ []) h zero d l = between p b h []
along_without p (b ∷ c ∷ zs) h zero d l = between p b c (zs ++ h ∷ [])
along_without p (q ∷ qs) h (suc j) d l =
    ap (λ (v : Vector). plus (cross_of (vector_of p) (vector_of q)) v) (along_without q qs h j d (omega (arith, l)))
    ∙ plus-swap (cross_of (vector_of p) (vector_of q)) (triangle (get_or (q ∷ qs) j d) (get_or qs j d) (get_or (qs ++ h ∷ []) (suc j) d)) (along (q ∷ (remove qs j ++ h ∷ [])))

last_at : (c : Point) (zs : List Point) (d : Point) → get_or (c ∷ zs) (length zs) d ≡ last_of c zs
last_at c [] d = refl
last_at c (z ∷ zs) d = last_at z zs d

-- the first point goes
without_first : (b c : Point) (zs : List Point) → normal_of (b ∷ c ∷ zs) ≡ plus (triangle (last_of c zs) b c) (normal_of (c ∷ zs))
without_first b c zs =
    ap (λ (v : Vector). plus (cross_of (vector_of b) (vector_of c)) v) (along_push c zs b)
    ∙ (plus_at_end (cross_of (vector_of (last_of c zs)) (vector_of b)) (cross_of (vector_of b) (vector_of c)) (cross_of (vector_of c) (vector_of (last_of c zs))) (cross_of (vector_of (last_of c zs)) (vector_of c)) (along (c ∷ zs)) (cross_back (vector_of c) (vector_of (last_of c zs)))
    ∙ sym (ap (λ (v : Vector). plus (triangle (last_of c zs) b c) v) (along_push c zs c)))

-- indexes of neighbours
before_first : (n : ℕ) → previous (suc (suc n)) 0 ≡ suc n
before_first n = grind (arith, nat_tests)

behind_first : (n : ℕ) → next (suc (suc n)) 0 ≡ 1
behind_first n = grind (arith, nat_tests)

before_later : (n j : ℕ) → previous n (suc j) ≡ j
before_later n j = grind (arith, nat_tests)

behind_later : (n j : ℕ) → suc j < n → next (suc n) (suc j) ≡ suc (suc j)
behind_later n j h = grind (arith, nat_tests)

behind_last : (n j : ℕ) → suc j ≡ n → next (suc n) (suc j) ≡ 0
behind_last n j h = grind (arith, nat_tests)

next_point : (p : Point) (qs : List Point) (j : ℕ) (d : Point) → j < length qs → get_or (p ∷ qs) (next (suc (length qs)) (suc j)) d ≡ get_or (qs ++ p ∷ []) (suc j) d
next_point p qs j d h =
    elim (cases_lt (suc j) (length qs)) [
      | inl l ↦ ap (λ (k : ℕ). get_or (p ∷ qs) k d) (behind_later (length qs) j l) ∙ sym (get_or_append_left qs (p ∷ []) d (suc j) l)
      | inr l ↦ let e : suc j ≡ length qs = omega arith in ap (λ (k : ℕ). get_or (p ∷ qs) k d) (behind_last (length qs) j e) ∙ sym (get_or_at qs p [] d (suc j) (sym e))
    ]

pub normal_without : (ps : List Point) (i : ℕ) (d : Point) → 1 < length ps → i < length ps → normal_of ps ≡ plus (triangle (get_or ps (previous (length ps) i) d) (get_or ps i d) (get_or ps (next (length ps) i) d)) (normal_of (remove ps i))
normal_without [] i d h l = absurd (omega (arith, h))
normal_without (p ∷ []) i d h l = absurd (omega (arith, h))
normal_without (b ∷ c ∷ zs) zero d h l =
    without_first b c zs
    ∙ (ap (λ (q : Point). plus (triangle q b c) (normal_of (c ∷ zs))) (sym (ap (λ (k : ℕ). get_or (b ∷ c ∷ zs) k d) (before_first (length zs)) ∙ last_at c zs d))
    ∙ ap (λ (q : Point). plus (triangle (get_or (b ∷ c ∷ zs) (previous (length (b ∷ c ∷ zs)) 0) d) b q) (normal_of (c ∷ zs))) (sym (ap (λ (k : ℕ). get_or (b ∷ c ∷ zs) k d) (behind_first (length zs)))))
normal_without (p ∷ q ∷ qs) (suc j) d h l =
    along_without p (q ∷ qs) p j d (omega (arith, l))
    ∙ (ap (λ (k : ℕ). plus (triangle (get_or (p ∷ q ∷ qs) k d) (get_or (q ∷ qs) j d) (get_or ((q ∷ qs) ++ p ∷ []) (suc j) d)) (along (p ∷ (remove (q ∷ qs) j ++ p ∷ [])))) (sym (before_later (length (p ∷ q ∷ qs)) j))
    ∙ ap (λ (r : Point). plus (triangle (get_or (p ∷ q ∷ qs) (previous (length (p ∷ q ∷ qs)) (suc j)) d) (get_or (q ∷ qs) j d) r) (along (p ∷ (remove (q ∷ qs) j ++ p ∷ [])))) (sym (next_point p (q ∷ qs) j d (omega (arith, l)))))

-- ---- points of the corners that remain
map-remove : (left : List Corner) (i : ℕ) → map (λ (c : Corner). c.point) (remove left i) ≡ remove (map (λ (c : Corner). c.point) left) i
map-remove left i =
    map-append (λ (c : Corner). c.point) (take i left) (drop (suc i) left)
    ∙ (ap (λ (ps : List Point). ps ++ map (λ (c : Corner). c.point) (drop (suc i) left)) (sym (take-map (λ (c : Corner). c.point) i left))
    ∙ ap (λ (ps : List Point). take i (map (λ (c : Corner). c.point) left) ++ ps) (sym (drop-map (λ (c : Corner). c.point) (suc i) left)))

-- each corner stands at the point of its place
pub ArePlaced : List Point → List Corner → Type 0
ArePlaced points left = (k : ℕ) → k < length left → point_at points (slice_index_or left k nobody).place ≡ (slice_index_or left k nobody).point

placed_without : (points : List Point) (left : List Corner) (i : ℕ) → i < length left → ArePlaced points left → ArePlaced points (remove left i)
unfolding ArePlaced
placed_without points left i h a = λ k l.
    let e = taken left i k nobody h in
    let n = length-remove left i h in
    ap (λ (c : Corner). point_at points c.place) e ∙ (a (lift i k) (lift_within (length left) i k (omega (arith, n, l))) ∙ sym (ap (λ (c : Corner). c.point) e))

corners_at : (n : ℕ) (ps : List Point) (k : ℕ) (d : Point) → k < length ps → slice_index_or (corners_from n ps) k nobody ≡ corner (n + k) (get_or ps k d)
corners_at n [] k d h = absurd (omega (arith, h))
corners_at n (p ∷ ps) zero d h = ap (λ (m : ℕ). corner m p) (nothing_more n)
  where
    nothing_more : (n : ℕ) → n ≡ n + 0
    nothing_more n = omega arith
corners_at n (p ∷ ps) (suc k) d h = corners_at (n + 1) ps k d (omega (arith, h)) ∙ ap (λ (m : ℕ). corner m (get_or ps k d)) (one_further n k)
  where
    one_further : (n k : ℕ) → (n + 1) + k ≡ n + suc k
    one_further n k = omega arith

placed_at_first : (points : List Point) → ArePlaced points (corners_from 0 points)
unfolding ArePlaced
placed_at_first points = λ k l.
    let h : k < length points = omega (arith, l, length-corners 0 points) in
    let e = corners_at 0 points k nobody.point h in
    ap (λ (c : Corner). point_at points c.place) e ∙ (ap (point_at points) (from_zero k) ∙ sym (ap (λ (c : Corner). c.point) e))
  where
    from_zero : (k : ℕ) → 0 + k ≡ k
    from_zero k = omega arith

points_at_first : (n : ℕ) (points : List Point) → map (λ (c : Corner). c.point) (corners_from n points) ≡ points
points_at_first n [] = refl
points_at_first n (p ∷ ps) = ap (λ (qs : List Point). p ∷ qs) (points_at_first (n + 1) ps)

-- the triangle at a corner
ear_area : (points : List Point) (left : List Corner) (i : ℕ) → ArePlaced points left → i < length left → area_of_ear points (ear_of (turn_at left i)) ≡ triangle (get_or (map (λ (c : Corner). c.point) left) (previous (length (map (λ (c : Corner). c.point) left)) i) nobody.point) (get_or (map (λ (c : Corner). c.point) left) i nobody.point) (get_or (map (λ (c : Corner). c.point) left) (next (length (map (λ (c : Corner). c.point) left)) i) nobody.point)
unfolding ArePlaced turn_at
ear_area points left i a h =
    let f = λ (c : Corner). c.point in
    let at = λ (k : ℕ) (l : k < length left). a k l ∙ sym (get_or-map (λ (c : Corner). c.point) left k nobody nobody.point l) in
    let n = length-map left (λ (c : Corner). c.point) in
    let p = at (previous (length left) i) (previous_within (length left) i h) ∙ ap (λ (m : ℕ). get_or (map (λ (c : Corner). c.point) left) (previous m i) nobody.point) (sym n) in
    let q = at i h in
    let r = at (next (length left) i) (next_within (length left) i h) ∙ ap (λ (m : ℕ). get_or (map (λ (c : Corner). c.point) left) (next m i) nobody.point) (sym n) in
    same_triangle _ _ _ _ _ _ p q r
  where
    same_triangle : (a b c d e f : Point) → a ≡ d → b ≡ e → c ≡ f → triangle a b c ≡ triangle d e f
    same_triangle a b c d e f h k l = ap (λ (x : Point). triangle x b c) h ∙ (ap (λ (x : Point). triangle d x c) k ∙ ap (λ (x : Point). triangle d e x) l)

-- ---- a choice is a corner that remains
by_test : (test : ℕ → Bool) (i n j : ℕ) (b : Bool) → (first_from test (i + 1) n ≡ Some j → j < (i + 1) + n) → cond b (Some i) (first_from test (i + 1) n) ≡ Some j → j < i + suc n
by_test test i n j true r e = let f : i ≡ j = cc e in omega (arith, f)
by_test test i n j false r e = let l = r e in omega (arith, l)

pub found_within : (test : ℕ → Bool) (i n j : ℕ) → first_from test i n ≡ Some j → j < i + n
found_within test i zero j h = absurd (cc h)
found_within test i (suc n) j h = by_test test i n j (test i) (found_within test (i + 1) n j) h

either_within : (a b : Option ℕ) (n j : ℕ) → (a ≡ Some j → j < n) → (b ≡ Some j → j < n) → or_else a b ≡ Some j → j < n
either_within (Some i) b n j f g h = f h
either_within None b n j f g h = g h

from_zero : {i n : ℕ} → i < 0 + n → i < n
from_zero {i} {n} l = omega (arith, l)

chosen_within : (view : Option View) (left : List Corner) (i : ℕ) → choice view left ≡ Some i → i < length left
unfolding choice
chosen_within view left i h =
    let straight = λ (j : ℕ). is_straight (angle_of view (turn_at left j)) in
    let ear = λ (j : ℕ). is_ear view left (turn_at left j) in
    either_within (first_from straight 0 (length left)) (first_from ear 0 (length left)) (length left) i (λ e. from_zero (found_within straight 0 (length left) i e)) (λ e. from_zero (found_within ear 0 (length left) i e)) h

-- ---- all triangles
after_rest : (P : List Ear → Type 0) (e : Ear) (rest : Option (List Ear)) (ears : List Ear) → ((more : List Ear) → rest ≡ Some more → P (e ∷ more)) → option_map (λ more. e ∷ more) rest ≡ Some ears → P ears
after_rest P e None ears k f = absurd (cc f)
after_rest P e (Some more) ears k f = let g : e ∷ more ≡ ears = cc f in subst P g (k more refl)

after_choice : (P : List Ear → Type 0) (view : Option View) (n : ℕ) (left : List Corner) (o : Option ℕ) (ears : List Ear) → ((i : ℕ) (rest : List Ear) → o ≡ Some i → cut_by view n (remove left i) ≡ Some rest → P (ear_of (turn_at left i) ∷ rest)) → option_and_then (λ i. option_map (λ more. ear_of (turn_at left i) ∷ more) (cut_by view n (remove left i))) o ≡ Some ears → P ears
after_choice P view n left None ears h e = absurd (cc e)
after_choice P view n left (Some i) ears h e = after_rest P (ear_of (turn_at left i)) (cut_by view n (remove left i)) ears (λ rest f. h i rest refl f) e

after_last : (P : List Ear → Type 0) (e : Ear) (b : Bool) (ears : List Ear) → P (e ∷ []) → cond b None (Some (e ∷ [])) ≡ Some ears → P ears
after_last P e true ears h f = absurd (cc f)
after_last P e false ears h f = let g : e ∷ [] ≡ ears = cc f in subst P g h

last_area : (points : List Point) (left : List Corner) → length left ≡ 3 → ArePlaced points left → area_of_ears points (ear_of (turn_at left 1) ∷ []) ≡ normal_of (map (λ (c : Corner). c.point) left)
last_area points [] n a = absurd (omega (arith, n))
last_area points (p ∷ []) n a = absurd (omega (arith, n))
last_area points (p ∷ q ∷ []) n a = absurd (omega (arith, n))
last_area points (p ∷ q ∷ r ∷ []) n a = plus_nowhere (area_of_ear points (ear_of (turn_at (p ∷ q ∷ r ∷ []) 1))) ∙ ear_area points (p ∷ q ∷ r ∷ []) 1 a (omega arith)
last_area points (p ∷ q ∷ r ∷ s ∷ more) n a = absurd (omega (arith, n))

pub areas_by : (points : List Point) (view : Option View) (n : ℕ) (left : List Corner) (ears : List Ear) → length left ≡ n + 3 → ArePlaced points left → cut_by view n left ≡ Some ears → area_of_ears points ears ≡ normal_of (map (λ (c : Corner). c.point) left)
unfolding cut_by
areas_by points view zero left ears m a e =
    after_last (λ es. area_of_ears points es ≡ normal_of (map (λ (c : Corner). c.point) left)) (ear_of (turn_at left 1)) (is_turned_over view (angle_of view (turn_at left 1))) ears (last_area points left (omega (arith, m)) a) e
areas_by points view (suc n) left ears m a e =
    after_choice (λ es. area_of_ears points es ≡ normal_of (map (λ (c : Corner). c.point) left)) view n left (choice view left) ears (λ i rest f g.
    let w = chosen_within view left i f in
    let l = length-remove left i w in
    let ps = map (λ (c : Corner). c.point) left in
    let k = length-map left (λ (c : Corner). c.point) in
    let t = ear_area points left i a w in
    let more = areas_by points view n (remove left i) rest (omega (arith, l, m)) (placed_without points left i w a) g ∙ ap normal_of (map-remove left i) in
    ap (λ (v : Vector). plus v (area_of_ears points rest)) t
    ∙ (ap (λ (v : Vector). plus (triangle (get_or ps (previous (length ps) i) nobody.point) (get_or ps i nobody.point) (get_or ps (next (length ps) i) nobody.point)) v) more
    ∙ sym (normal_without ps i nobody.point (omega (arith, k, m)) (omega (arith, k, w))))) e

-- the triangles' areas add up to the polygon's
pub areas_add_up : (points : List Point) (ears : List Ear) → 3 ≤ length points → cut_of points ≡ Some ears → area_of_ears points ears ≡ normal_of points
unfolding cut_of
areas_add_up points ears h e =
    areas_by points (view_of (normal_of points)) (length points - 3) (corners_from 0 points) ears (omega (arith, h, length-corners 0 points)) (placed_at_first points) e
    ∙ ap normal_of (points_at_first 0 points)

-- ---- how many there are
pub count_by : (view : Option View) (n : ℕ) (left : List Corner) (ears : List Ear) → cut_by view n left ≡ Some ears → length ears ≡ n + 1
unfolding cut_by
count_by view zero left ears e = after_last (λ es. length es ≡ 0 + 1) (ear_of (turn_at left 1)) (is_turned_over view (angle_of view (turn_at left 1))) ears refl e
count_by view (suc n) left ears e =
    after_choice (λ es. length es ≡ suc n + 1) view n left (choice view left) ears (λ i rest f g. let r = count_by view n (remove left i) rest g in longer (length rest) n r) e
  where
    longer : (a n : ℕ) → a ≡ n + 1 → suc a ≡ suc n + 1
    longer a n h = omega (arith, h)

pub count_of_ears : (points : List Point) (ears : List Ear) → 3 ≤ length points → cut_of points ≡ Some ears → length ears + 2 ≡ length points
unfolding cut_of
count_of_ears points ears h e = let r = count_by (view_of (normal_of points)) (length points - 3) (corners_from 0 points) ears e in omega (arith, r, h)
