-- The nine pairs of corners of two faces say what the nine pairs of edges say
use Rattle.std.proofs.Common.{ℕ, ◌≡◌, ◌⊎◌, inl, inr, arith, ℤ, pos, ◌+ℤ◌, ◌-ℤ◌, ◌*ℤ◌, ◌≤ℤ◌, refl, sym, subst, [], ◌∷◌}
use Rattle.std.proofs.lemmas.Int.{ints, by_lt_z}
use Rattle.exact_arith.specs.Space.{Vector, minus, dot_of, Face}
use Rattle.tri_exact.specs.Within.{PointEdgeWithin, EdgesWithin}
use Rattle.clearance.specs.inner.EdgePairs.{EdgeNear, EdgesNear, CornerNear, RowNear}
use Rattle.tri_exact.specs.Edges.{Beside}
use Rattle.exact_arith.proofs.Ring.{ring, lit, ◌⊕◌, ◌⊖◌, ◌⊗◌}
use Rattle.exact_arith.proofs.Triples.{spot, ◌⊟◌, scalar}
use Rattle.tri_exact.proofs.PointEdge.{start_yes, inside_yes, start_exact, end_exact, inside_exact}
use Rattle.tri_exact.proofs.TwoEdges.{EdgesFound, lines, end_a, end_b, end_p, end_q, edges_found}
use Rattle.tri_exact.proofs.EdgesTest.{point_yes, point_no, found_edges, edges_yes, edges_no}
use Rattle.tri_exact.proofs.TwoFaces.{Corner, ca, cb, cc, corner, next}

-- a row of pairs of edges for each edge of t
abbrev pub RowsNear : Face → Face → ℕ → Type 0
RowsNear t s d = RowNear t.a t.b s d ⊎ (RowNear t.b t.c s d ⊎ RowNear t.c t.a s d)

found : (a b p q : Vector) (d : ℕ) → EdgesFound a b p q (pos d *ℤ pos d) → EdgesWithin a b p q d
found a b p q d f = edges_yes a b p q d (found_edges a b p q (pos d *ℤ pos d) f)

-- the way back
back_square : (a p : Vector) → dot_of (minus a p) (minus a p) ≡ dot_of (minus p a) (minus p a)
back_square a p = ring (a.x ∷ a.y ∷ a.z ∷ p.x ∷ p.y ∷ p.z ∷ []) (scalar (spot 0 ⊟ spot 3) (spot 0 ⊟ spot 3)) (scalar (spot 3 ⊟ spot 0) (spot 3 ⊟ spot 0)) refl

back_share : (a p v : Vector) → dot_of (minus a p) v ≡ pos 0 -ℤ dot_of (minus p a) v
back_share a p v = ring (a.x ∷ a.y ∷ a.z ∷ p.x ∷ p.y ∷ p.z ∷ v.x ∷ v.y ∷ v.z ∷ []) (scalar (spot 0 ⊟ spot 3) (spot 6)) (lit (pos 0) ⊖ scalar (spot 3 ⊟ spot 0) (spot 6)) refl

end_square : (p a b : Vector) → dot_of (minus p a) (minus p a) -ℤ pos 2 *ℤ dot_of (minus p a) (minus b a) +ℤ dot_of (minus b a) (minus b a) ≡ dot_of (minus p b) (minus p b)
end_square p a b =
    let tp = spot 0 in let ta = spot 3 in let tb = spot 6 in
    ring (p.x ∷ p.y ∷ p.z ∷ a.x ∷ a.y ∷ a.z ∷ b.x ∷ b.y ∷ b.z ∷ []) (scalar (tp ⊟ ta) (tp ⊟ ta) ⊖ lit (pos 2) ⊗ scalar (tp ⊟ ta) (tb ⊟ ta) ⊕ scalar (tb ⊟ ta) (tb ⊟ ta)) (scalar (tp ⊟ tb) (tp ⊟ tb)) refl

same_beside : (l w s m v r : ℤ) → w ≡ v → s ≡ r → Beside l w s m → Beside l v r m
same_beside l w s m v r e f c = subst (λ (x : ℤ). Beside l x r m) e (subst (λ (x : ℤ). Beside l w x m) f c)

beside_yes : (p a b : Vector) (d : ℕ) → Beside (dot_of (minus b a) (minus b a)) (dot_of (minus p a) (minus p a)) (dot_of (minus p a) (minus b a)) (pos d *ℤ pos d) → PointEdgeWithin p a b d
beside_yes p a b d c = inside_yes p a b d (omega (arith, ints, c.starts)) (omega (arith, ints, c.ends)) (omega (arith, ints, c.starts, c.ends)) c.low

-- ---- the pairs of corners say no more
pub corner_yes : (a b p q : Vector) (d : ℕ) → CornerNear a b p q d → EdgesWithin a b p q d
corner_yes a b p q d (inl h) = found a b p q d (end_p (point_no p a b d (start_yes p a b d h)))
corner_yes a b p q d (inr (inl c)) = found a b p q d (end_a (point_no a p q d (beside_yes a p q d (same_beside _ _ _ _ _ _ (sym (back_square a p)) (sym (back_share a p (minus q p))) c))))
corner_yes a b p q d (inr (inr (inl c))) = found a b p q d (end_p (point_no p a b d (beside_yes p a b d c)))
corner_yes a b p q d (inr (inr (inr c))) =
    found a b p q d (lines (record { slanted = c.slanted; along_in = c.along_in; along_end = c.along_end; across_in = c.across_in; across_end = c.across_end; low = c.low }))

-- ---- and no less
abbrev PointCases : Vector → Vector → Vector → ℕ → Type 0
PointCases p a b d =
    (dot_of (minus p a) (minus p a) ≤ℤ (pos d *ℤ pos d))
    ⊎ ((dot_of (minus p b) (minus p b) ≤ℤ (pos d *ℤ pos d))
    ⊎ Beside (dot_of (minus b a) (minus b a)) (dot_of (minus p a) (minus p a)) (dot_of (minus p a) (minus b a)) (pos d *ℤ pos d))

point_cases : (p a b : Vector) (d : ℕ) → PointEdgeWithin p a b d → PointCases p a b d
point_cases p a b d h =
    let s = dot_of (minus p a) (minus b a) in let l = dot_of (minus b a) (minus b a) in
    by_lt_z (pos 0) s
    (λ f. by_lt_z s l
    (λ g. inr (inr (record { starts = f; ends = g; low = (inside_exact p a b d f g).1 h })))
    (λ g. inr (inl (subst (λ (x : ℤ). x ≤ℤ (pos d *ℤ pos d)) (end_square p a b) ((end_exact p a b d g).1 h)))))
    (λ f. inl ((start_exact p a b d f).1 h))

abbrev pub SomeCorner : Face → Face → ℕ → Type 0
SomeCorner t s d = (i : Corner) × (j : Corner) × CornerNear (corner i t) (corner (next i) t) (corner j s) (corner (next j) s) d

turn_start : (a p : Vector) (m : ℤ) → dot_of (minus a p) (minus a p) ≤ℤ m → dot_of (minus p a) (minus p a) ≤ℤ m
turn_start a p m h = subst (λ (x : ℤ). x ≤ℤ m) (back_square a p) h

over_s : (t s : Face) (d : ℕ) (i j : Corner) → PointEdgeWithin (corner i t) (corner j s) (corner (next j) s) d → SomeCorner t s d
over_s t s d i j h =
    let a = corner i t in let p = corner j s in let q = corner (next j) s in
    elim (point_cases a p q d h) [
      | inl f ↦ (i, j, inl (turn_start a p (pos d *ℤ pos d) f))
      | inr z ↦ elim z [
        | inl f ↦ (i, next j, inl (turn_start a q (pos d *ℤ pos d) f))
        | inr c ↦ (i, j, inr (inl (same_beside _ _ _ _ _ _ (back_square a p) (back_share a p (minus q p)) c)))
      ]
    ]

over_t : (t s : Face) (d : ℕ) (i j : Corner) → PointEdgeWithin (corner j s) (corner i t) (corner (next i) t) d → SomeCorner t s d
over_t t s d i j h =
    elim (point_cases (corner j s) (corner i t) (corner (next i) t) d h) [
      | inl f ↦ (i, j, inl f)
      | inr z ↦ elim z [ inl f ↦ (next i, j, inl f) | inr c ↦ (i, j, inr (inr (inl c))) ]
    ]

pub corner_no : (t s : Face) (d : ℕ) (i j : Corner) → EdgesWithin (corner i t) (corner (next i) t) (corner j s) (corner (next j) s) d → SomeCorner t s d
corner_no t s d i j h =
    let a = corner i t in let b = corner (next i) t in let p = corner j s in let q = corner (next j) s in
    elim (edges_found a b p q (pos d *ℤ pos d) (edges_no a b p q d h)) [
      | lines c ↦ (i, j, inr (inr (inr (record { slanted = c.slanted; along_in = c.along_in; along_end = c.along_end; across_in = c.across_in; across_end = c.across_end; low = c.low }))))
      | end_a c ↦ over_s t s d i j (point_yes a p q d c)
      | end_b c ↦ over_s t s d (next i) j (point_yes b p q d c)
      | end_p c ↦ over_t t s d i j (point_yes p a b d c)
      | end_q c ↦ over_t t s d i (next j) (point_yes q a b d c)
    ]

row_in : (a b : Vector) (s : Face) (d : ℕ) (j : Corner) → CornerNear a b (corner j s) (corner (next j) s) d → RowNear a b s d
row_in a b s d ca c = inl c
row_in a b s d cb c = inr (inl c)
row_in a b s d cc c = inr (inr c)

rows_in : (t s : Face) (d : ℕ) → SomeCorner t s d → RowsNear t s d
rows_in t s d (ca, j, c) = inl (row_in t.a t.b s d j c)
rows_in t s d (cb, j, c) = inr (inl (row_in t.b t.c s d j c))
rows_in t s d (cc, j, c) = inr (inr (row_in t.c t.a s d j c))

row_some : (t s : Face) (d : ℕ) (i : Corner) → EdgeNear (corner i t) (corner (next i) t) s d → RowsNear t s d
row_some t s d i (inl c) = rows_in t s d (corner_no t s d i ca c)
row_some t s d i (inr (inl c)) = rows_in t s d (corner_no t s d i cb c)
row_some t s d i (inr (inr c)) = rows_in t s d (corner_no t s d i cc c)

pub rows_no : (t s : Face) (d : ℕ) → EdgesNear t s d → RowsNear t s d
rows_no t s d (inl c) = row_some t s d ca c
rows_no t s d (inr (inl c)) = row_some t s d cb c
rows_no t s d (inr (inr c)) = row_some t s d cc c

row_yes : (a b : Vector) (s : Face) (d : ℕ) → RowNear a b s d → EdgeNear a b s d
row_yes a b s d (inl c) = inl (corner_yes a b s.a s.b d c)
row_yes a b s d (inr (inl c)) = inr (inl (corner_yes a b s.b s.c d c))
row_yes a b s d (inr (inr c)) = inr (inr (corner_yes a b s.c s.a d c))

pub rows_yes : (t s : Face) (d : ℕ) → RowsNear t s d → EdgesNear t s d
rows_yes t s d (inl c) = inl (row_yes t.a t.b s d c)
rows_yes t s d (inr (inl c)) = inr (inl (row_yes t.b t.c s d c))
rows_yes t s d (inr (inr c)) = inr (inr (row_yes t.c t.a s d c))
