-- Surfaces that are placed, triangle by triangle and piece by piece.
use Rattle.std.proofs.Common.{◌≡◌, ℕ, zero, suc, ◌+◌, ◌<◌, List, [], ◌∷◌, ◌++◌, length, get_or, map, take, take_all, ◌≤◌, false, Option, Some, None, refl, sym, ap, ◌∙◌, subst, append_assoc, append-nil, Bool, arith}
use Rattle.std.specs.Bool.{OnTrue}
use Rattle.std.specs.List.{All}
use Rattle.std.specs.Option.{MatchOption, is_some}
use Rattle.std.proofs.lemmas.List.{take_more, map-append}
use Rattle.std.proofs.lemmas.List.Elements.{All-nil, All-cons, All-append}
use Rattle.std.proofs.lemmas.Grind.{flat_map-append}
use Rattle.bim_model.specs.declared.geometry.Point.{Point}
use Rattle.bim_model.specs.declared.geometry.Triangle.{Triangle}
use Rattle.bim_model.specs.Boxes.{corners_of}
use Rattle.bim_model.specs.Models.{IsInReach}
use Rattle.placement.specs.declared.frame.Frame.{Frame}
use Rattle.placement.specs.Frames.{carried}
use Rattle.ifc_elements.specs.Surfaces.{placed_by}
use Rattle.ifc_elements.proofs.OneSet.{same_triangle}
use Rattle.ifc_elements.proofs.OneSurface.{same_map}
use Rattle.ifc_elements.proofs.TrianglesMoved.{corners_append}
use Rattle.model_walk.specs.declared.set_pool.SetRows.{SetRows}
use Rattle.model_walk.specs.declared.shape_pieces.Piece.{Piece}
use Rattle.model_walk.specs.inner.SurfacePieces.{IsUnmapped, ArePlacedNear}
use Rattle.model_walk.specs.Sketches.{AreNearSets, rows_with, kept_triangles, piece_triangles, pieces_triangles}
use Rattle.model_walk.proofs.PiecesAdded.{placed_none}
use Rattle.walk_rows.specs.declared.triangle_rows.Row.{Row}
use Rattle.walk_rows.specs.Pools.{pooled}
use Rattle.walk_rows.specs.Rows.{triangle_at, triangles_at}

-- Corners.

pub near_point : (o : Option Point) (b : Bool) (p : Point) → b ≡ is_some o → MatchOption o (IsInReach p → ⊥) (λ q. (q ≡ p) × IsInReach q) → OnTrue b (IsInReach p)
near_point None b p e m = rw e tt
near_point (Some q) b p e m = rw e (subst IsInReach m.0 m.1)

pub near_three : (a b c : Point) → IsInReach a → IsInReach b → IsInReach c → All IsInReach (a ∷ b ∷ c ∷ [])
near_three a b c x y z = All-cons IsInReach a (b ∷ c ∷ []) x (All-cons IsInReach b (c ∷ []) y (All-cons IsInReach c [] z (All-nil IsInReach)))

near_first : (t : Triangle) (ts : List Triangle) → All IsInReach (corners_of (t ∷ ts)) → All IsInReach (corners_of (t ∷ []))
near_first t ts all = near_three t.a t.b t.c (all 0 t.a (omega arith)) (all 1 t.b (omega arith)) (all 2 t.c (omega arith))

near_rest : (t : Triangle) (ts : List Triangle) → All IsInReach (corners_of (t ∷ ts)) → All IsInReach (corners_of ts)
near_rest t ts all = λ j e l. all (suc (suc (suc j))) e (omega (arith, l))

near_left : (ts us : List Triangle) → All IsInReach (corners_of (ts ++ us)) → All IsInReach (corners_of ts)
near_left [] us all = All-nil IsInReach
near_left (t ∷ ts) us all =
    All-append IsInReach (corners_of (t ∷ [])) (corners_of ts) (near_first t (ts ++ us) all) (near_left ts us (near_rest t (ts ++ us) all))

near_right : (ts us : List Triangle) → All IsInReach (corners_of (ts ++ us)) → All IsInReach (corners_of us)
near_right [] us all = all
near_right (t ∷ ts) us all = near_right ts us (near_rest t (ts ++ us) all)

near_join : (frame : Option Frame) (ts us : List Triangle) → ArePlacedNear frame ts → ArePlacedNear frame us → ArePlacedNear frame (ts ++ us)
near_join frame ts us h k =
    subst (All IsInReach) (sym (ap corners_of (map-append (placed_by frame) ts us) ∙ corners_append (map (placed_by frame) ts) (map (placed_by frame) us)))
    (All-append IsInReach (corners_of (map (placed_by frame) ts)) (corners_of (map (placed_by frame) us)) h k)

parted : (frame : Option Frame) (ts us : List Triangle) → ArePlacedNear frame (ts ++ us) → All IsInReach (corners_of (map (placed_by frame) ts ++ map (placed_by frame) us))
parted frame ts us h = subst (λ (xs : List Triangle). All IsInReach (corners_of xs)) (map-append (placed_by frame) ts us) h

-- Rows.

-- the triangles of rows, carried by an operator
pub row_one : (frame operator : Option Frame) (points : List Point) (rows : List Row) (k : ℕ) (d : Row) → k < length rows → ArePlacedNear frame (map (placed_by operator) (triangles_at points rows))
    → ArePlacedNear frame (placed_by operator (triangle_at points (get_or rows k d)) ∷ [])
row_one frame operator points [] k d lt all = absurd (omega (arith, lt))
row_one frame operator points (r ∷ rows) zero d lt all =
    near_first (placed_by frame (placed_by operator (triangle_at points r))) (map (placed_by frame) (map (placed_by operator) (triangles_at points rows))) all
row_one frame operator points (r ∷ rows) (suc k) d lt all =
    row_one frame operator points rows k d (omega (arith, lt)) (near_rest (placed_by frame (placed_by operator (triangle_at points r))) (map (placed_by frame) (map (placed_by operator) (triangles_at points rows))) all)

pub own_one : (points : List Point) (rows : List Row) (k : ℕ) (d : Row) → k < length rows → All IsInReach (corners_of (triangles_at points rows)) → All IsInReach (corners_of (triangle_at points (get_or rows k d) ∷ []))
own_one points [] k d lt all = absurd (omega (arith, lt))
own_one points (r ∷ rows) zero d lt all = near_first (triangle_at points r) (triangles_at points rows) all
own_one points (r ∷ rows) (suc k) d lt all = own_one points rows k d (omega (arith, lt)) (near_rest (triangle_at points r) (triangles_at points rows) all)

rows_more : (operator : Option Frame) (points : List Point) (rows : List Row) (k : ℕ) (d : Row) → k < length rows
    → map (placed_by operator) (triangles_at points (take (k + 1) rows)) ≡ map (placed_by operator) (triangles_at points (take k rows)) ++ placed_by operator (triangle_at points (get_or rows k d)) ∷ []
rows_more operator points rows k d lt =
    ap (λ (rs : List Row). map (placed_by operator) (triangles_at points rs)) (take_more rows k d lt)
    ∙ ap (map (placed_by operator)) (map-append (triangle_at points) (take k rows) (get_or rows k d ∷ []))
    ∙ map-append (placed_by operator) (triangles_at points (take k rows)) (triangle_at points (get_or rows k d) ∷ [])

pub rows_near : (frame operator : Option Frame) (points : List Point) (rows : List Row) (k : ℕ) (d : Row) → k < length rows → ArePlacedNear frame (placed_by operator (triangle_at points (get_or rows k d)) ∷ [])
    → ArePlacedNear frame (map (placed_by operator) (triangles_at points (take k rows))) → ArePlacedNear frame (map (placed_by operator) (triangles_at points (take (k + 1) rows)))
rows_near frame operator points rows k d lt one all =
    subst (ArePlacedNear frame) (sym (rows_more operator points rows k d lt))
    (near_join frame (map (placed_by operator) (triangles_at points (take k rows))) (placed_by operator (triangle_at points (get_or rows k d)) ∷ []) all one)

pub rows_placed : (frame operator : Option Frame) (points : List Point) (rows : List Row) (k : ℕ) (d : Row) (start old new : List Triangle) → k < length rows
    → old ≡ start ++ map (placed_by frame) (map (placed_by operator) (triangles_at points (take k rows))) → new ≡ old ++ placed_by frame (placed_by operator (triangle_at points (get_or rows k d))) ∷ []
    → new ≡ start ++ map (placed_by frame) (map (placed_by operator) (triangles_at points (take (k + 1) rows)))
rows_placed frame operator points rows k d start old new lt so_far grown =
    let ts = map (placed_by operator) (triangles_at points (take k rows)) in
    let t = placed_by operator (triangle_at points (get_or rows k d)) in
    let all : map (placed_by frame) (map (placed_by operator) (triangles_at points (take (k + 1) rows))) ≡ map (placed_by frame) ts ++ placed_by frame t ∷ [] =
    ap (map (placed_by frame)) (rows_more operator points rows k d lt) ∙ map-append (placed_by frame) ts (t ∷ []) in
    grown ∙ ap (λ (xs : List Triangle). xs ++ placed_by frame t ∷ []) so_far ∙ append_assoc start (map (placed_by frame) ts) (placed_by frame t ∷ []) ∙ ap (λ (xs : List Triangle). start ++ xs) (sym all)

-- Pieces.

pieces_more : (points : List (Option (List Point))) (sets : List (Option SetRows)) (pieces : List Piece) (k : ℕ) (d : Piece) → k < length pieces
    → pieces_triangles points sets (take (k + 1) pieces) ≡ pieces_triangles points sets (take k pieces) ++ piece_triangles points sets (get_or pieces k d)
pieces_more points sets pieces k d lt =
    ap (pieces_triangles points sets) (take_more pieces k d lt) ∙ flat_map-append (piece_triangles points sets) (take k pieces) (get_or pieces k d ∷ [])
    ∙ ap (λ (ts : List Triangle). pieces_triangles points sets (take k pieces) ++ ts) (append-nil (piece_triangles points sets (get_or pieces k d)))

pub pieces_near : (frame : Option Frame) (points : List (Option (List Point))) (sets : List (Option SetRows)) (pieces : List Piece) (k : ℕ) (d : Piece) → k < length pieces
    → ArePlacedNear frame (piece_triangles points sets (get_or pieces k d)) → ArePlacedNear frame (pieces_triangles points sets (take k pieces)) → ArePlacedNear frame (pieces_triangles points sets (take (k + 1) pieces))
pieces_near frame points sets pieces k d lt one all =
    subst (ArePlacedNear frame) (sym (pieces_more points sets pieces k d lt)) (near_join frame (pieces_triangles points sets (take k pieces)) (piece_triangles points sets (get_or pieces k d)) all one)

pub piece_one : (frame : Option Frame) (points : List (Option (List Point))) (sets : List (Option SetRows)) (pieces : List Piece) (k : ℕ) (d : Piece) → k < length pieces → ArePlacedNear frame (pieces_triangles points sets pieces)
    → ArePlacedNear frame (piece_triangles points sets (get_or pieces k d))
piece_one frame points sets [] k d lt all = absurd (omega (arith, lt))
piece_one frame points sets (p ∷ pieces) zero d lt all =
    let ts = piece_triangles points sets p in
    let us = pieces_triangles points sets pieces in
    near_left (map (placed_by frame) ts) (map (placed_by frame) us) (parted frame ts us all)
piece_one frame points sets (p ∷ pieces) (suc k) d lt all =
    let ts = piece_triangles points sets p in
    let us = pieces_triangles points sets pieces in
    piece_one frame points sets pieces k d (omega (arith, lt)) (near_right (map (placed_by frame) ts) (map (placed_by frame) us) (parted frame ts us all))

pub pieces_placed : (frame : Option Frame) (points : List (Option (List Point))) (sets : List (Option SetRows)) (pieces : List Piece) (k : ℕ) (d : Piece) (old new : List Triangle) → k < length pieces
    → old ≡ map (placed_by frame) (pieces_triangles points sets (take k pieces)) → new ≡ old ++ map (placed_by frame) (piece_triangles points sets (get_or pieces k d))
    → new ≡ map (placed_by frame) (pieces_triangles points sets (take (k + 1) pieces))
pieces_placed frame points sets pieces k d old new lt so_far grown =
    let ts = pieces_triangles points sets (take k pieces) in
    let us = piece_triangles points sets (get_or pieces k d) in
    grown ∙ ap (λ (xs : List Triangle). xs ++ map (placed_by frame) us) so_far ∙ sym (ap (map (placed_by frame)) (pieces_more points sets pieces k d lt) ∙ map-append (placed_by frame) ts us)

-- Pieces that nothing carries.

kept_near : (points : List (Option (List Point))) (sets : List (Option SetRows)) (at : ℕ) → AreNearSets points sets → All IsInReach (corners_of (kept_triangles points (pooled sets at)))
kept_near points sets at near = by_case (pooled sets at) refl
  where
    by_case : (o : Option SetRows) → pooled sets at ≡ o → All IsInReach (corners_of (kept_triangles points o))
    by_case None e = All-nil IsInReach
    by_case (Some kept) e = near at kept e

unmapped_piece : (points : List (Option (List Point))) (sets : List (Option SetRows)) (piece : Piece) → AreNearSets points sets → IsUnmapped piece → ArePlacedNear None (piece_triangles points sets piece)
unmapped_piece points sets piece near plain =
    let ts = kept_triangles points (pooled sets piece.set) in
    let same : map (placed_by None) (piece_triangles points sets piece) ≡ ts = placed_none (piece_triangles points sets piece) ∙ ap (λ (o : Option Frame). map (placed_by o) ts) plain ∙ placed_none ts in
    subst (λ (us : List Triangle). All IsInReach (corners_of us)) (sym same) (kept_near points sets piece.set near)

pub unmapped_near : (points : List (Option (List Point))) (sets : List (Option SetRows)) (pieces : List Piece) → AreNearSets points sets → All IsUnmapped pieces → ArePlacedNear None (pieces_triangles points sets pieces)
unmapped_near points sets [] near all = All-nil IsInReach
unmapped_near points sets (p ∷ pieces) near all =
    near_join None (piece_triangles points sets p) (pieces_triangles points sets pieces) (unmapped_piece points sets p near (all 0 p (omega arith)))
    (unmapped_near points sets pieces near (λ k d lt. all (suc k) d (omega (arith, lt))))

-- a frame that leaves each point where it is carries triangles as none does
pub identity_near : (frame : Frame) (ts : List Triangle) → ((p : Point) → carried frame p ≡ p) → ArePlacedNear (Some frame) ts → ArePlacedNear None ts
identity_near frame ts stays h =
    let each : (t : Triangle) → placed_by (Some frame) t ≡ placed_by None t = λ t. same_triangle (placed_by (Some frame) t) (placed_by None t) (stays t.a) (stays t.b) (stays t.c) in
    subst (λ (us : List Triangle). All IsInReach (corners_of us)) (same_map (placed_by (Some frame)) (placed_by None) each ts) h

-- what is kept of a set is in reach
pub found_near : (points : List (Option (List Point))) (sets : List (Option SetRows)) (at : ℕ) (kept : SetRows) (found : List Point) → AreNearSets points sets → pooled sets at ≡ Some kept → pooled points kept.list ≡ Some found
    → All IsInReach (corners_of (triangles_at found kept.rows))
found_near points sets at kept found near e f = subst (λ (o : Option (List Point)). All IsInReach (corners_of (rows_with o kept))) f (near at kept e)

-- Pieces so far, and all of them.

pub unmapped_more : (pieces : List Piece) (k : ℕ) (d : Piece) → k < length pieces → is_some (get_or pieces k d).operator ≡ false → All IsUnmapped (take k pieces) → All IsUnmapped (take (k + 1) pieces)
unmapped_more pieces k d lt plain all =
    subst (All IsUnmapped) (sym (take_more pieces k d lt)) (All-append IsUnmapped (take k pieces) (get_or pieces k d ∷ []) all (All-cons IsUnmapped (get_or pieces k d) [] (none (get_or pieces k d).operator plain) (All-nil IsUnmapped)))
  where
    none : (o : Option Frame) → is_some o ≡ false → o ≡ None
    none None e = refl
    none (Some f) e = absurd (cc)

pub all_pieces : (P : List Piece → Type 0) (pieces : List Piece) (k : ℕ) → length pieces ≤ k → P (take k pieces) → P pieces
all_pieces P pieces k le h = subst P (take_all k pieces le) h

pub all_rows : (P : List Row → Type 0) (rows : List Row) (k : ℕ) → length rows ≤ k → P (take k rows) → P rows
all_rows P rows k le h = subst P (take_all k rows le) h
