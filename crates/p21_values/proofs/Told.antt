-- What the heads of a table tell of the instances at their places.
use Rattle.std.proofs.Common.{◌≡◌, ℕ, zero, suc, ◌<◌, ◌+◌, List, [], ◌∷◌, length, get_or, drop, map, Some, refl, sym, ap, ◌∙◌, arith}
use Rattle.std.specs.List.{slice_get}
use Rattle.p21_values.specs.declared.value.Instance.{Instance}
use Rattle.p21_values.specs.declared.instance_head.Head.{Head}
use Rattle.p21_values.specs.Tables.{Tells, Holds}

-- the heads have the numbers of the instances
pub same_ids : (bytes starts : List ℕ) (heads : List Head) (world : List Instance) → Holds bytes starts heads world → map (λ (h : Head). h.id) heads ≡ map (λ (i : Instance). i.id) world
same_ids bytes starts [] [] h = refl
same_ids bytes starts [] (i ∷ world) h = absurd h
same_ids bytes starts (head ∷ heads) [] h = absurd h
same_ids bytes starts (head ∷ heads) (i ∷ world) h =
    ap (λ x. x ∷ map (λ (y : Head). y.id) heads) h.0.number ∙ ap (λ xs. i.id ∷ xs) (same_ids bytes starts heads world h.1)

-- there are as many heads as instances
pub same_count : (bytes starts : List ℕ) (heads : List Head) (world : List Instance) → Holds bytes starts heads world → length heads ≡ length world
same_count bytes starts [] [] h = refl
same_count bytes starts [] (i ∷ world) h = absurd h
same_count bytes starts (head ∷ heads) [] h = absurd h
same_count bytes starts (head ∷ heads) (i ∷ world) h = ap suc (same_count bytes starts heads world h.1)

-- the head at a place tells the instance there
pub told_at : (bytes starts : List ℕ) (heads : List Head) (world : List Instance) (at : ℕ) (d : Head) (e : Instance) → Holds bytes starts heads world → at < length world
    → Tells bytes starts (get_or heads at d) (get_or world at e)
told_at bytes starts [] [] at d e h lt = absurd (omega arith)
told_at bytes starts [] (i ∷ world) at d e h lt = absurd h
told_at bytes starts (head ∷ heads) [] at d e h lt = absurd h
told_at bytes starts (head ∷ heads) (i ∷ world) zero d e h lt = h.0
told_at bytes starts (head ∷ heads) (i ∷ world) (suc at) d e h lt = told_at bytes starts heads world at d e h.1 (omega (arith, lt))

-- what is left from a place on begins with what stands there
pub left_at : {A : Type 0} (xs : List A) (i : ℕ) (x : A) → slice_get xs i ≡ Some x → drop i xs ≡ x ∷ drop (i + 1) xs
left_at [] i x e = cc
left_at (y ∷ xs) zero x e = let k : y ≡ x = cc in ap (λ z. z ∷ xs) k
left_at (y ∷ xs) (suc i) x e = let k : suc i + 1 ≡ suc (i + 1) = omega arith in left_at xs i x e ∙ ap (λ z. x ∷ z) (ap (λ (n : ℕ). drop n (y ∷ xs)) (sym k))
