-- The sum round a list of points, with a detour over a bridge round another loop and back.
use Rattle.std.proofs.Common.{◌≡◌, ◌∙◌, ap, sym, refl, ◌<◌, ◌+◌, ℕ, ℤ, pos, ◌+ℤ◌, List, [], ◌∷◌, ◌++◌, append_assoc, length, take, drop, get_or, arith}
use Rattle.std.specs.Prelude.{slice_index_or}
use Rattle.std.proofs.lemmas.Int.{ints}
use Rattle.std.proofs.lemmas.List.{append-nil, map-append, take_more, drop_more, take-append-drop}
use Rattle.bim_model.specs.declared.geometry.Point.{Point}
use Rattle.bim_model.specs.Points.{vector_of}
use Rattle.bim_model.specs.Polygons.{along, normal_of}
use Rattle.exact_arith.specs.Space.{Vector, nowhere, plus, cross_of}
use Rattle.ear_cut.specs.declared.corners.Corner.{Corner}
use Rattle.ear_cut.specs.Corners.{nobody}
use Rattle.ear_cut.proofs.Parts.{same_vector}
use Rattle.ear_cut.proofs.Newell.{plus_assoc}
use Rattle.ear_cut.proofs.AreaSum.{cross_back}
use Rattle.void_bridge.specs.HoleLoops.{points_of}
use Rattle.void_bridge.specs.Bridges.{joined_at}

-- ---- sums of vectors
after_zero : (a : ℤ) → a +ℤ pos 0 ≡ a
after_zero a = omega (arith, ints)

pub plus_nothing : (a : Vector) → plus a nowhere ≡ a
plus_nothing a = same_vector _ _ _ a.x a.y a.z (after_zero a.x) (after_zero a.y) (after_zero a.z)

turned : (a b : ℤ) → a +ℤ (b +ℤ pos 0) ≡ b +ℤ a
turned a b = omega (arith, ints)

plus_turned : (a b : Vector) → plus a (plus b nowhere) ≡ plus b a
plus_turned a b = same_vector _ _ _ _ _ _ (turned a.x b.x) (turned a.y b.y) (turned a.z b.z)

cancelled : (there back r c : ℤ) → there +ℤ back ≡ pos 0 → there +ℤ (r +ℤ (back +ℤ c)) ≡ c +ℤ r
cancelled there back r c h = omega (arith, ints, h)

-- a way there and back adds nothing
plus_cancelled : (there back r c : Vector) → plus there back ≡ nowhere → plus there (plus r (plus back c)) ≡ plus c r
plus_cancelled there back r c h =
    same_vector _ _ _ _ _ _ (cancelled there.x back.x r.x c.x (ap (λ (v : Vector). v.x) h)) (cancelled there.y back.y r.y c.y (ap (λ (v : Vector). v.y) h)) (cancelled there.z back.z r.z c.z (ap (λ (v : Vector). v.z) h))

-- ---- the sum along a list, in two parts
along_join : (p : Point) (ps : List Point) (q : Point) (rs : List Point) → along (p ∷ (ps ++ q ∷ rs)) ≡ plus (along (p ∷ (ps ++ q ∷ []))) (along (q ∷ rs))
along_join p [] q rs = ap (λ (v : Vector). plus v (along (q ∷ rs))) (sym (plus_nothing (cross_of (vector_of p) (vector_of q))))
along_join p (r ∷ ps) q rs =
    ap (λ (v : Vector). plus (cross_of (vector_of p) (vector_of r)) v) (along_join r ps q rs)
    ∙ sym (plus_assoc (cross_of (vector_of p) (vector_of r)) (along (r ∷ (ps ++ q ∷ []))) (along (q ∷ rs)))

-- from p to q, round from q to it again, and back to p
along_detour : (p q : Point) (ms ys : List Point) → along (p ∷ q ∷ (ms ++ q ∷ p ∷ ys)) ≡ plus (along (p ∷ ys)) (along (q ∷ (ms ++ q ∷ [])))
along_detour p q ms ys =
    ap (λ (v : Vector). plus (cross_of (vector_of p) (vector_of q)) v) (along_join q ms q (p ∷ ys))
    ∙ plus_cancelled (cross_of (vector_of p) (vector_of q)) (cross_of (vector_of q) (vector_of p)) (along (q ∷ (ms ++ q ∷ []))) (along (p ∷ ys)) (cross_back (vector_of p) (vector_of q))

-- ---- the sum round a closed list
-- the detour leaves from any of its points
normal_detour : (xs : List Point) (p q : Point) (ms ys : List Point) → normal_of (xs ++ p ∷ q ∷ (ms ++ q ∷ p ∷ ys)) ≡ plus (normal_of (xs ++ p ∷ ys)) (normal_of (q ∷ ms))
normal_detour [] p q ms ys =
    ap (λ (l : List Point). along (p ∷ q ∷ l)) (append_assoc ms (q ∷ p ∷ ys) (p ∷ []))
    ∙ along_detour p q ms (ys ++ p ∷ [])
normal_detour (x ∷ xs) p q ms ys =
    ap (λ (l : List Point). along (x ∷ l)) (append_assoc xs (p ∷ q ∷ (ms ++ q ∷ p ∷ ys)) (x ∷ []))
    ∙ (ap (λ (l : List Point). along (x ∷ (xs ++ p ∷ q ∷ l))) (append_assoc ms (q ∷ p ∷ ys) (x ∷ []))
    ∙ (along_join x xs p (q ∷ (ms ++ q ∷ p ∷ (ys ++ x ∷ [])))
    ∙ (ap (λ (v : Vector). plus (along (x ∷ (xs ++ p ∷ []))) v) (along_detour p q ms (ys ++ x ∷ []))
    ∙ (sym (plus_assoc (along (x ∷ (xs ++ p ∷ []))) (along (p ∷ (ys ++ x ∷ []))) (along (q ∷ (ms ++ q ∷ []))))
    ∙ (ap (λ (v : Vector). plus v (along (q ∷ (ms ++ q ∷ [])))) (sym (along_join x xs p (ys ++ x ∷ [])))
    ∙ ap (λ (l : List Point). plus (along (x ∷ l)) (along (q ∷ (ms ++ q ∷ [])))) (sym (append_assoc xs (p ∷ ys) (x ∷ []))))))))

-- the first point goes to the end
normal_turned : (x : Point) (ys : List Point) → normal_of (ys ++ x ∷ []) ≡ normal_of (x ∷ ys)
normal_turned x [] = refl
normal_turned x (y ∷ ys) =
    ap (λ (l : List Point). along (y ∷ l)) (append_assoc ys (x ∷ []) (y ∷ []))
    ∙ (along_join y ys x (y ∷ []) ∙ plus_turned (along (y ∷ (ys ++ x ∷ []))) (cross_of (vector_of x) (vector_of y)))

-- the sum is the same from wherever it begins
normal_rotated : (xs ys : List Point) → normal_of (ys ++ xs) ≡ normal_of (xs ++ ys)
normal_rotated [] ys = ap normal_of (append-nil ys)
normal_rotated (x ∷ xs) ys =
    ap normal_of (sym (append_assoc ys (x ∷ []) xs))
    ∙ (normal_rotated xs (ys ++ x ∷ [])
    ∙ (ap normal_of (sym (append_assoc xs ys (x ∷ []))) ∙ normal_turned x (xs ++ ys)))

-- ---- a loop that is put into a list of corners
pub split_at : {X : Type 0} (xs : List X) (i : ℕ) (d : X) → i < length xs → take i xs ++ get_or xs i d ∷ drop (i + 1) xs ≡ xs
split_at {X} xs i d h = ap (λ (l : List X). take i xs ++ l) (sym (drop_more xs i d h)) ∙ take-append-drop i xs

regrouped : (xs : List Corner) (p q : Corner) (zs ts ys : List Corner) → (xs ++ p ∷ []) ++ (q ∷ zs) ++ ts ++ q ∷ [] ++ p ∷ [] ++ ys ≡ xs ++ p ∷ q ∷ ((zs ++ ts) ++ q ∷ p ∷ ys)
regrouped [] p q zs ts ys =
    ap (λ (l : List Corner). p ∷ q ∷ l) (append_assoc ((zs ++ ts) ++ q ∷ []) (p ∷ []) ys ∙ append_assoc (zs ++ ts) (q ∷ []) (p ∷ ys))
regrouped (x ∷ xs) p q zs ts ys = ap (λ (l : List Corner). x ∷ l) (regrouped xs p q zs ts ys)

-- the list as it is gone: up to p, over to q, round the loop to q again, back to p and on
pub joined_way : (current loop : List Corner) (i j : ℕ) → i < length current → j < length loop
    → joined_at current i loop j ≡ take i current ++ slice_index_or current i nobody ∷ slice_index_or loop j nobody ∷ ((drop (j + 1) loop ++ take j loop) ++ slice_index_or loop j nobody ∷ slice_index_or current i nobody ∷ drop (i + 1) current)
unfolding joined_at
joined_way current loop i j h k =
    let p = slice_index_or current i nobody in let q = slice_index_or loop j nobody in let ys = drop (i + 1) current in
    ap (λ (l : List Corner). l ++ drop j loop ++ take j loop ++ q ∷ [] ++ p ∷ [] ++ ys) (take_more current i nobody h)
    ∙ (ap (λ (l : List Corner). (take i current ++ p ∷ []) ++ l ++ take j loop ++ q ∷ [] ++ p ∷ [] ++ ys) (drop_more loop j nobody k)
    ∙ regrouped (take i current) p q (drop (j + 1) loop) (take j loop) ys)

points_of_way : (xs : List Corner) (p q : Corner) (ms ys : List Corner) → points_of (xs ++ p ∷ q ∷ (ms ++ q ∷ p ∷ ys)) ≡ points_of xs ++ p.point ∷ q.point ∷ (points_of ms ++ q.point ∷ p.point ∷ points_of ys)
points_of_way xs p q ms ys =
    map-append (λ (c : Corner). c.point) xs (p ∷ q ∷ (ms ++ q ∷ p ∷ ys))
    ∙ ap (λ (l : List Point). points_of xs ++ p.point ∷ q.point ∷ l) (map-append (λ (c : Corner). c.point) ms (q ∷ p ∷ ys))

-- the loop's points from q on
normal_of_loop : (loop : List Corner) (j : ℕ) → j < length loop → normal_of ((slice_index_or loop j nobody).point ∷ points_of (drop (j + 1) loop ++ take j loop)) ≡ normal_of (points_of loop)
normal_of_loop loop j h =
    ap (λ (l : List Corner). normal_of (points_of (l ++ take j loop))) (sym (drop_more loop j nobody h))
    ∙ (ap normal_of (map-append (λ (c : Corner). c.point) (drop j loop) (take j loop))
    ∙ (normal_rotated (points_of (take j loop)) (points_of (drop j loop))
    ∙ (ap normal_of (sym (map-append (λ (c : Corner). c.point) (take j loop) (drop j loop)))
    ∙ ap (λ (l : List Corner). normal_of (points_of l)) (take-append-drop j loop))))

normal_of_current : (current : List Corner) (i : ℕ) → i < length current → normal_of (points_of (take i current) ++ (slice_index_or current i nobody).point ∷ points_of (drop (i + 1) current)) ≡ normal_of (points_of current)
normal_of_current current i h =
    ap normal_of (sym (map-append (λ (c : Corner). c.point) (take i current) (slice_index_or current i nobody ∷ drop (i + 1) current)))
    ∙ ap (λ (l : List Corner). normal_of (points_of l)) (split_at current i nobody h)

-- the area of the joined list is that of the list and of the loop together
pub normal_of_joined : (current loop : List Corner) (i j : ℕ) → i < length current → j < length loop → normal_of (points_of (joined_at current i loop j)) ≡ plus (normal_of (points_of current)) (normal_of (points_of loop))
normal_of_joined current loop i j h k =
    let p = slice_index_or current i nobody in let q = slice_index_or loop j nobody in
    let xs = take i current in let ys = drop (i + 1) current in let ms = drop (j + 1) loop ++ take j loop in
    ap (λ (l : List Corner). normal_of (points_of l)) (joined_way current loop i j h k)
    ∙ (ap normal_of (points_of_way xs p q ms ys)
    ∙ (normal_detour (points_of xs) p.point q.point (points_of ms) (points_of ys)
    ∙ (ap (λ (v : Vector). plus v (normal_of (q.point ∷ points_of ms))) (normal_of_current current i h)
    ∙ ap (λ (v : Vector). plus (normal_of (points_of current)) v) (normal_of_loop loop j k))))
