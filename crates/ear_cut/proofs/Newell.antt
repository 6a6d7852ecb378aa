-- The sum round a polygon, point by point.
use Rattle.std.proofs.Common.{◌≡◌, ◌∙◌, ap, sym, refl, ℕ, ◌+◌, ◌<◌, ◌≤◌, ℤ, pos, ◌+ℤ◌, ◌-ℤ◌, ◌*ℤ◌, List, [], ◌∷◌, ◌++◌, take, take_all, length, get_or, arith}
use Rattle.std.proofs.lemmas.Int.{ints}
use Rattle.std.proofs.lemmas.List.{take_more}
use Rattle.bim_model.specs.declared.geometry.Point.{Point}
use Rattle.exact_arith.specs.Space.{Vector, nowhere, plus, cross_of}
use Rattle.bim_model.specs.Points.{vector_of}
use Rattle.bim_model.specs.Polygons.{along, normal_of}
use Rattle.ear_cut.proofs.Parts.{same_vector}

-- ---- sums of vectors
assoc : (a b c : ℤ) → (a +ℤ b) +ℤ c ≡ a +ℤ (b +ℤ c)
assoc a b c = omega (arith, ints)

before_zero : (a : ℤ) → pos 0 +ℤ a ≡ a
before_zero a = omega (arith, ints)

no_area : (a b : ℤ) → a *ℤ b -ℤ b *ℤ a ≡ pos 0
no_area a b = omega (arith, ints)

pub plus_assoc : (a b c : Vector) → plus (plus a b) c ≡ plus a (plus b c)
plus_assoc a b c = same_vector _ _ _ _ _ _ (assoc a.x b.x c.x) (assoc a.y b.y c.y) (assoc a.z b.z c.z)

pub nowhere_plus : (a : Vector) → plus nowhere a ≡ a
nowhere_plus a = same_vector _ _ _ a.x a.y a.z (before_zero a.x) (before_zero a.y) (before_zero a.z)

pub cross_itself : (a : Vector) → cross_of a a ≡ nowhere
cross_itself a = same_vector _ _ _ (pos 0) (pos 0) (pos 0) (no_area a.y a.z) (no_area a.z a.x) (no_area a.x a.y)

-- ---- the last point of a list
abbrev pub last_of : Point → List Point → Point
last_of p [] = p
last_of p (q ∷ qs) = last_of q qs

pub last_push : (p : Point) (ps : List Point) (q : Point) → last_of p (ps ++ q ∷ []) ≡ q
last_push p [] q = refl
last_push p (r ∷ rs) q = last_push r rs q

-- one more point
pub along_push : (p : Point) (ps : List Point) (q : Point) → along (p ∷ (ps ++ q ∷ [])) ≡ plus (along (p ∷ ps)) (cross_of (vector_of (last_of p ps)) (vector_of q))
along_push p [] q = plus_comm_nowhere (cross_of (vector_of p) (vector_of q))
  where
    after_zero : (a : ℤ) → a +ℤ pos 0 ≡ pos 0 +ℤ a
    after_zero a = omega (arith, ints)

    plus_comm_nowhere : (a : Vector) → plus a nowhere ≡ plus nowhere a
    plus_comm_nowhere a = same_vector _ _ _ _ _ _ (after_zero a.x) (after_zero a.y) (after_zero a.z)
along_push p (r ∷ rs) q =
    ap (λ (v : Vector). plus (cross_of (vector_of p) (vector_of r)) v) (along_push r rs q)
    ∙ sym (plus_assoc (cross_of (vector_of p) (vector_of r)) (along (r ∷ rs)) (cross_of (vector_of (last_of r rs)) (vector_of q)))

-- a loop over the points
pub sum_more : (p : Point) (ps : List Point) (i : ℕ) (d : Point) (s t n : Vector) (l q : Point) → i < length ps → s ≡ along (p ∷ take i ps) → l ≡ last_of p (take i ps) → q ≡ get_or ps i d → n ≡ cross_of (vector_of l) (vector_of q) → t ≡ plus s n → t ≡ along (p ∷ take (i + 1) ps)
sum_more p ps i d s t n l q h e f g j k =
    k ∙ (ap (λ (v : Vector). plus v n) e ∙ (ap (λ (v : Vector). plus (along (p ∷ take i ps)) v) (j ∙ (ap (λ (r : Point). cross_of (vector_of r) (vector_of q)) f ∙ ap (λ (r : Point). cross_of (vector_of (last_of p (take i ps))) (vector_of r)) g))
    ∙ (sym (along_push p (take i ps) (get_or ps i d)) ∙ sym (ap (λ (rs : List Point). along (p ∷ rs)) (take_more ps i d h)))))

pub last_more : (p : Point) (ps : List Point) (i : ℕ) (d q : Point) → i < length ps → q ≡ get_or ps i d → q ≡ last_of p (take (i + 1) ps)
last_more p ps i d q h e = e ∙ (sym (last_push p (take i ps) (get_or ps i d)) ∙ sym (ap (last_of p) (take_more ps i d h)))

-- the loop's end, from the last point to the first
pub sum_all : (ps : List Point) (d : Point) (i : ℕ) (p l : Point) (s t n : Vector) → 0 < length ps → length ps ≤ i → p ≡ get_or ps 0 d → s ≡ along (p ∷ take i ps) → l ≡ last_of p (take i ps) → n ≡ cross_of (vector_of l) (vector_of p) → t ≡ plus s n → t ≡ normal_of ps
sum_all [] d i p l s t n h k e f g j m = absurd (omega arith)
sum_all (q ∷ qs) d i p l s t n h k e f g j m =
    m ∙ (ap (λ (v : Vector). plus v n) (f ∙ ap (λ (rs : List Point). along (p ∷ rs)) (take_all i (q ∷ qs) k))
    ∙ (ap (λ (v : Vector). plus (along (p ∷ q ∷ qs)) v) (j ∙ ap (λ (r : Point). cross_of (vector_of r) (vector_of p)) (g ∙ ap (last_of p) (take_all i (q ∷ qs) k)))
    ∙ (sym (along_push p (q ∷ qs) p)
    ∙ (ap (λ (r : Point). along (r ∷ q ∷ (qs ++ r ∷ []))) e ∙ (ap (λ (v : Vector). plus v (along (q ∷ (qs ++ q ∷ [])))) (cross_itself (vector_of q)) ∙ nowhere_plus (along (q ∷ (qs ++ q ∷ []))))))))
