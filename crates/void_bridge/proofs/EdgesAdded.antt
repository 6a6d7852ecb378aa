-- The edges of loops, as they come one by one.
use Rattle.std.proofs.Common.{◌≡◌, ◌∙◌, ap, sym, refl, ℕ, zero, suc, ◌+◌, ◌-◌, ◌<◌, ◌≤◌, List, [], ◌∷◌, ◌++◌, append_assoc, length, take, arith}
use Rattle.std.specs.Prelude.{slice_index_or}
use Rattle.std.specs.List.{flat_map}
use Rattle.std.proofs.lemmas.List.{take_all, take_more, flat_map_more}
use Rattle.ear_cut.specs.declared.polygon_view.View.{View}
use Rattle.ear_cut.specs.declared.corners.Corner.{Corner}
use Rattle.ear_cut.specs.PolygonViews.{Spot}
use Rattle.ear_cut.specs.Corners.{nobody}
use Rattle.void_bridge.specs.LoopEdges.{Segment, segment, spot_of, edges_along, edges_round}

-- the spot of the i-th corner
abbrev pub spot_at : View → List Corner → ℕ → Spot
spot_at view cs i = spot_of view (slice_index_or cs i nobody)

along_more : (view : View) (cs : List Corner) (i : ℕ) → suc i < length cs → edges_along view (take (suc (suc i)) cs) ≡ edges_along view (take (suc i) cs) ++ segment (spot_at view cs i) (spot_at view cs (suc i)) ∷ []
along_more view [] i h = absurd (omega (arith, h))
along_more view (c ∷ []) i h = absurd (omega (arith, h))
along_more view (c ∷ d ∷ cs) zero h = refl
along_more view (c ∷ d ∷ cs) (suc i) h = ap (λ (l : List Segment). segment (spot_of view c) (spot_of view d) ∷ l) (along_more view (d ∷ cs) i (omega (arith, h)))

along_next : (view : View) (cs : List Corner) (i : ℕ) → 1 ≤ i → i < length cs → edges_along view (take (i + 1) cs) ≡ edges_along view (take i cs) ++ segment (spot_at view cs (i - 1)) (spot_at view cs i) ∷ []
along_next view cs zero h k = absurd (omega (arith, h))
along_next view cs (suc i) h k =
    let a : suc i + 1 ≡ suc (suc i) = omega arith in
    let b : suc i - 1 ≡ i = omega arith in
    ap (λ (n : ℕ). edges_along view (take n cs)) a
    ∙ (along_more view cs i k ∙ ap (λ (n : ℕ). edges_along view (take (suc i) cs) ++ segment (spot_at view cs n) (spot_at view cs (suc i)) ∷ []) (sym b))

along_push : (view : View) (c : Corner) (cs : List Corner) (d : Corner) → edges_along view (c ∷ (cs ++ d ∷ [])) ≡ edges_along view (c ∷ cs) ++ segment (spot_at view (c ∷ cs) (length cs)) (spot_of view d) ∷ []
along_push view c [] d = refl
along_push view c (e ∷ cs) d = ap (λ (l : List Segment). segment (spot_of view c) (spot_of view e) ∷ l) (along_push view e cs d)

round_last : (view : View) (cs : List Corner) (i : ℕ) → 0 < length cs → i ≡ length cs → edges_round view cs ≡ edges_along view (take i cs) ++ segment (spot_at view cs (i - 1)) (spot_at view cs 0) ∷ []
round_last view [] i h e = absurd (omega (arith, h))
round_last view (c ∷ cs) i h e =
    let n : i - 1 ≡ length cs = omega (arith, e) in
    along_push view c cs c
    ∙ (ap (λ (l : List Corner). edges_along view l ++ segment (spot_at view (c ∷ cs) (length cs)) (spot_of view c) ∷ []) (sym (take_all i (c ∷ cs) (omega (arith, e))))
    ∙ ap (λ (k : ℕ). edges_along view (take i (c ∷ cs)) ++ segment (spot_at view (c ∷ cs) k) (spot_of view c) ∷ []) (sym n))

-- an edge that comes behind others, by its spots
behind : (base old new done : List Segment) (p q a b : Spot) → p ≡ a → q ≡ b → old ≡ base ++ done → new ≡ old ++ segment p q ∷ [] → new ≡ base ++ (done ++ segment a b ∷ [])
behind base old new done p q a b e f h k =
    k ∙ (ap (λ (l : List Segment). l ++ segment p q ∷ []) h
    ∙ (append_assoc base done (segment p q ∷ [])
    ∙ (ap (λ (s : Spot). base ++ (done ++ segment s q ∷ [])) e ∙ ap (λ (s : Spot). base ++ (done ++ segment a s ∷ [])) f)))

-- .. the next edge of a loop
pub edge_more : (view : View) (cs : List Corner) (i : ℕ) (base old new : List Segment) (p q : Spot) → 1 ≤ i → i < length cs → p ≡ spot_at view cs (i - 1) → q ≡ spot_at view cs i
    → old ≡ base ++ edges_along view (take i cs) → new ≡ old ++ segment p q ∷ [] → new ≡ base ++ edges_along view (take (i + 1) cs)
edge_more view cs i base old new p q h k e f m n =
    behind base old new (edges_along view (take i cs)) p q (spot_at view cs (i - 1)) (spot_at view cs i) e f m n
    ∙ ap (λ (l : List Segment). base ++ l) (sym (along_next view cs i h k))

-- .. and its last one
pub edge_last : (view : View) (cs : List Corner) (i : ℕ) (base old new : List Segment) (p q : Spot) → 0 < length cs → i ≡ length cs → p ≡ spot_at view cs (i - 1) → q ≡ spot_at view cs 0
    → old ≡ base ++ edges_along view (take i cs) → new ≡ old ++ segment p q ∷ [] → new ≡ base ++ edges_round view cs
edge_last view cs i base old new p q h k e f m n =
    behind base old new (edges_along view (take i cs)) p q (spot_at view cs (i - 1)) (spot_at view cs 0) e f m n
    ∙ ap (λ (l : List Segment). base ++ l) (sym (round_last view cs i h k))

-- one loop more
pub loop_more : (view : View) (loops : List (List Corner)) (i : ℕ) (base old new : List Segment) (loop : List Corner) → i < length loops → loop ≡ slice_index_or loops i []
    → old ≡ base ++ flat_map (edges_round view) (take i loops) → new ≡ old ++ edges_round view loop → new ≡ base ++ flat_map (edges_round view) (take (i + 1) loops)
loop_more view loops i base old new loop h e f k =
    k ∙ (ap (λ (l : List Segment). l ++ edges_round view loop) f
    ∙ (flat_map_more (edges_round view) base (take i loops) loop
    ∙ (ap (λ (c : List Corner). base ++ flat_map (edges_round view) (take i loops ++ c ∷ [])) e
    ∙ ap (λ (l : List (List Corner)). base ++ flat_map (edges_round view) l) (sym (take_more loops i [] h)))))
