-- The triangles of a whole set, and why there are none.
use Rattle.std.proofs.Common.{◌≡◌, ℕ, zero, suc, ◌<◌, Bool, true, false, List, [], ◌∷◌, length, map, sum_by, Option, Some, None, Result, Ok, Err, Vec, Global, IfOk, MatchOption, All, Any, Contains, ◌⊎◌, inl, inr, refl, sym, ◌∙◌, ap, subst, arith}
use Rattle.std.proofs.lemmas.Bool.{MatchBool-at_true, MatchBool-at_false}
use Rattle.std.specs.Prelude.{if◌then◌else◌}
use Rattle.std.specs.Bool.{MatchBool}
use Rattle.std.specs.Option.{IfSome, IfNone, unwrap_or}
use Rattle.std.proofs.lemmas.List.{length-map, get_or-map}
use Rattle.std.proofs.lemmas.List.Elements.{All-contains}
use Rattle.std.proofs.lemmas.Option.{get_or_from_slice_get}
use Rattle.p21_values.specs.declared.value.Value21.{Value21}
use Rattle.p21_values.specs.declared.value.Instance.{Instance}
use Rattle.bim_model.specs.declared.geometry.Point.{Point}
use Rattle.bim_model.specs.declared.geometry.Triangle.{Triangle}
use Rattle.p21_values.specs.InstanceLookup.{look}
use Rattle.faceset.specs.Indexes.{PointsNowhere}
use Rattle.p21_values.specs.Attributes.{listed, items_in, led_to}
use Rattle.faceset.specs.FaceSets.{all_corners, numbering, spelled_points, spelled_triangles, is_polygonal, faces_of, face_ids, rows_of, counted_by, HasBadNumber, HasBadIndex, IsMisnamed, AreCorners, IsOutlined, HasThree, IsSound, IsCut, IsStuck, HasStuck, IsTriangle, AreTriangles, Joined, SetTriangles, face_count, triangle_count}
use Rattle.faceset.specs.inner.Cuts.{IsLoose}
use Rattle.faceset.specs.FacePolygons.{face_points}
use Rattle.faceset.proofs.Zips.{zip_length}
use Rattle.faceset.proofs.Loops.{all_cornered}
use Rattle.faceset.proofs.Joins.{gives_one, contains_mapped, joined_at}
use Rattle.faceset.proofs.Unique.{named_well, cut_unstuck}

-- Bad indexes.

misnamed_bad : (numbers : Option (List Value21)) (count : ℕ) (v : Value21) → IsMisnamed numbers count v → HasBadNumber numbers count ⊎ PointsNowhere (counted_by numbers count) v
misnamed_bad None count v m = inr m
misnamed_bad (Some numbers) count v (inl m) = inr m
misnamed_bad (Some numbers) count v (inr m) = inl (m.0, m.2, m.1.within, get_or_from_slice_get numbers m.0 m.2 m.2 m.3, m.4)

row_bad : (numbers : Option (List Value21)) (count : ℕ) (row : List Value21) → Any (IsMisnamed numbers count) row → HasBadNumber numbers count ⊎ Any (PointsNowhere (counted_by numbers count)) row
row_bad numbers count row any = from numbers count row any (misnamed_bad numbers count any.1 any.4)
  where
    from : (numbers : Option (List Value21)) (count : ℕ) (row : List Value21) (any : Any (IsMisnamed numbers count) row) → HasBadNumber numbers count ⊎ PointsNowhere (counted_by numbers count) any.1
        → HasBadNumber numbers count ⊎ Any (PointsNowhere (counted_by numbers count)) row
    from numbers count row any (inl b) = inl b
    from numbers count row any (inr p) = inr (any.0, any.1, any.2, any.3, p)

set_bad : (world : List Instance) (points : List Point) (set : Instance) (row : List Value21) → length points ≡ length (spelled_points world set) → Contains (rows_of world set) row
    → HasBadNumber (numbering set) (length points) ⊎ Any (PointsNowhere (counted_by (numbering set) (length points))) row → HasBadIndex world set
set_bad world points set row count has (inl b) = inl (subst (λ (n : ℕ). HasBadNumber (numbering set) n) count b)
set_bad world points set row count has (inr a) = inr (has.0, row, has.1, has.2, subst (λ (n : ℕ). Any (PointsNowhere (counted_by (numbering set) n)) row) count a)

contains_map : {X Y : Type 0} (f : X → Y) (xs : List X) (x : X) → Contains xs x → Contains (map f xs) (f x)
contains_map f xs x has = (has.0, subst (λ (n : ℕ). has.0 < n) (sym (length-map xs f)) has.1, get_or-map f xs has.0 x (f x) has.1 ∙ ap f has.2)

in_first : {X : Type 0} (b : Bool) (xs ys : List X) (x : X) → b ≡ true → Contains xs x → Contains (if b then xs else ys) x
in_first true xs ys x is h = h
in_first false xs ys x is h = absurd (grind (arith, is))

in_second : {X : Type 0} (b : Bool) (xs ys : List X) (x : X) → b ≡ false → Contains ys x → Contains (if b then xs else ys) x
in_second true xs ys x is h = absurd (grind (arith, is))
in_second false xs ys x is h = h

be_first : (P Q : Type 0) (b : Bool) → b ≡ true → P → MatchBool b P Q
be_first P Q true is h = h
be_first P Q false is h = absurd (grind (arith, is))

be_second : (P Q : Type 0) (b : Bool) → b ≡ false → Q → MatchBool b P Q
be_second P Q true is h = absurd (grind (arith, is))
be_second P Q false is h = h

-- Polygonal sets.

-- in a sound set a face that isn't cut is stuck
stuck_by : (world : List Instance) (points : List Point) (set : Instance) → is_polygonal set ≡ true → IsSound world points set → (face : Instance) → Contains (faces_of world set) face
    → IsLoose (numbering set) points face → IsStuck (numbering set) points face
stuck_by world points set polygonal sound face has (inl stuck) = stuck
stuck_by world points set polygonal sound face has (inr unready) =
    let outlined = All-contains IsOutlined (faces_of world set) face (MatchBool-at_true (All IsOutlined (faces_of world set)) (All HasThree (spelled_triangles set)) polygonal sound.rows) has in
    let row = in_first (is_polygonal set) (map all_corners (faces_of world set)) (map items_in (spelled_triangles set)) (all_corners face) polygonal (contains_map all_corners (faces_of world set) face has) in
    absurd (sound.indexed (set_bad world points set (all_corners face) sound.count row (row_bad (numbering set) (length points) (all_corners face) (unready outlined))))

pub loose_stuck : (world : List Instance) (points : List Point) (set : Instance) → is_polygonal set ≡ true → IsSound world points set → Any (IsLoose (numbering set) points) (faces_of world set)
    → (id : ℕ) × HasStuck world points set id
unfolding faces_of face_ids
loose_stuck world points set polygonal sound any =
    let one = gives_one (look world) (IsLoose (numbering set) points) (face_ids set) any in
    let has = contains_mapped (look world) (face_ids set) one.item one.given one.listed one.gives in
    (one.item, record { polygonal = polygonal; listed = one.listed; face = one.given; found = one.gives; such = stuck_by world points set polygonal sound one.given has one.holds })

faces_are : (world : List Instance) (set : Instance) → faces_of world set ≡ led_to world (listed set 2)
unfolding faces_of
faces_are world set = refl

pub polygonal_made : {E : Type 0} (world : List Instance) (points : List Point) (set : Instance) (numbers : Option (List Value21)) (values : List Value21) (r : Result (Option (Vec Triangle Global)) E)
    → is_polygonal set ≡ true → numbers ≡ numbering set → values ≡ listed set 2
    → IfOk r (λ made. MatchOption made (Any (IsLoose numbers points) (led_to world values)) (λ ts. Joined (IsCut numbers points) (led_to world values) ts.items))
    → IfOk r (λ made. MatchOption made (IsSound world points set → (id : ℕ) × HasStuck world points set id) (λ ts. SetTriangles world points set ts.items))
polygonal_made world points set numbers values (Err e) polygonal same all h = h
polygonal_made world points set numbers values (Ok None) polygonal same all h = λ sound. loose_stuck world points set polygonal sound
    (rw (faces_are world set, sym all, sym same) h)
polygonal_made world points set numbers values (Ok (Some ts)) polygonal same all h =
    be_first (Joined (IsCut (numbering set) points) (faces_of world set) ts.items) (AreTriangles (numbering set) points (spelled_triangles set) ts.items) (is_polygonal set) polygonal
    (rw (faces_are world set, sym all, sym same) h)

counted_first : (b : Bool) (m n k : ℕ) → b ≡ true → k ≡ m → k ≡ (if b then m else n)
counted_first true m n k is h = h
counted_first false m n k is h = absurd (grind (arith, is))

counted_second : (b : Bool) (m n k : ℕ) → b ≡ false → k ≡ n → k ≡ (if b then m else n)
counted_second true m n k is h = absurd (grind (arith, is))
counted_second false m n k is h = h

pub polygonal_count : {E : Type 0} (world : List Instance) (set : Instance) (values : List Value21) (r : Result (Option (Vec Triangle Global)) E) → is_polygonal set ≡ true → values ≡ listed set 2
    → IfOk r (λ made. IfSome made (λ ts. length ts.items ≡ sum_by face_count (led_to world values)))
    → IfOk r (λ made. IfSome made (λ ts. length ts.items ≡ triangle_count world set))
polygonal_count world set values (Err e) polygonal all h = h
polygonal_count world set values (Ok None) polygonal all h = h
polygonal_count world set values (Ok (Some ts)) polygonal all h =
    counted_first (is_polygonal set) (sum_by face_count (faces_of world set)) (length (spelled_triangles set)) (length ts.items) polygonal (rw (faces_are world set, sym all) h)

-- Triangulated sets.

flat_sound : (world : List Instance) (points : List Point) (set : Instance) → is_polygonal set ≡ false → IsSound world points set
    → Any (λ row. HasThree row → Any (IsMisnamed (numbering set) (length points)) (items_in row)) (spelled_triangles set) → ⊥
flat_sound world points set flat sound any =
    let threes = MatchBool-at_false (All IsOutlined (faces_of world set)) (All HasThree (spelled_triangles set)) flat sound.rows in
    let three = subst HasThree any.3 (threes any.0 any.1 any.2) in
    let row = in_second (is_polygonal set) (map all_corners (faces_of world set)) (map items_in (spelled_triangles set)) (items_in any.1) flat (contains_map items_in (spelled_triangles set) any.1 (any.0, any.2, any.3)) in
    sound.indexed (set_bad world points set (items_in any.1) sound.count row (row_bad (numbering set) (length points) (items_in any.1) (any.4 three)))

pub flat_made : {E : Type 0} (world : List Instance) (points : List Point) (set : Instance) (numbers : Option (List Value21)) (rows : List Value21) (r : Result (Option (Vec Triangle Global)) E)
    → is_polygonal set ≡ false → numbers ≡ numbering set → rows ≡ spelled_triangles set
    → IfOk r (λ made. MatchOption made (Any (λ row. HasThree row → Any (IsMisnamed numbers (length points)) (items_in row)) rows) (λ ts. AreTriangles numbers points rows ts.items))
    → IfOk r (λ made. MatchOption made (IsSound world points set → (id : ℕ) × HasStuck world points set id) (λ ts. SetTriangles world points set ts.items))
flat_made world points set numbers rows (Err e) flat same all h = h
flat_made world points set numbers rows (Ok None) flat same all h = λ sound. absurd (flat_sound world points set flat sound (rw (sym all, sym same) h))
flat_made world points set numbers rows (Ok (Some ts)) flat same all h =
    be_second (Joined (IsCut (numbering set) points) (faces_of world set) ts.items) (AreTriangles (numbering set) points (spelled_triangles set) ts.items) (is_polygonal set) flat (rw (sym all, sym same) h)

pub flat_count : {E : Type 0} (world : List Instance) (points : List Point) (set : Instance) (numbers : Option (List Value21)) (rows : List Value21) (r : Result (Option (Vec Triangle Global)) E)
    → is_polygonal set ≡ false → rows ≡ spelled_triangles set
    → IfOk r (λ made. MatchOption made (Any (λ row. HasThree row → Any (IsMisnamed numbers (length points)) (items_in row)) rows) (λ ts. AreTriangles numbers points rows ts.items))
    → IfOk r (λ made. IfSome made (λ ts. length ts.items ≡ triangle_count world set))
flat_count world points set numbers rows (Err e) flat all h = h
flat_count world points set numbers rows (Ok None) flat all h = tt
flat_count world points set numbers rows (Ok (Some ts)) flat all h =
    counted_second (is_polygonal set) (sum_by face_count (faces_of world set)) (length (spelled_triangles set)) (length ts.items) flat (sym (zip_length (IsTriangle numbers points) rows ts.items h) ∙ ap length all)

-- Where nothing is made there is nothing.

-- indexes that are corners name points
well_cornered : (numbers : Option (List Value21)) (points : List Point) (indexes : List Value21) (cs : List Point) → AreCorners numbers points indexes cs → Any (IsMisnamed numbers (length points)) indexes → ⊥
well_cornered numbers points [] cs all any = absurd (let lt = any.2 in omega (arith, lt))
well_cornered numbers points (v ∷ vs) [] all any = absurd all
well_cornered numbers points (v ∷ vs) (c ∷ cs) all (zero, x, lt, at, m) = named_well numbers (length points) v all.0.place all.0.names (subst (IsMisnamed numbers (length points)) (sym at) m)
well_cornered numbers points (v ∷ vs) (c ∷ cs) all (suc k, x, lt, at, m) = well_cornered numbers points vs cs all.1 (k, x, omega (arith, lt), at, m)

loose_uncut : (numbers : Option (List Value21)) (points : List Point) (face : Instance) → IsLoose numbers points face → (ts : List Triangle) → IsCut numbers points face ts → ⊥
loose_uncut numbers points face (inl stuck) ts cut = cut_unstuck numbers points face ts cut stuck
loose_uncut numbers points face (inr lacks) ts cut = well_cornered numbers points (all_corners face) (face_points cut.outer cut.inner) (all_cornered numbers points face cut.outer cut.inner cut.are_loops) (lacks cut.outlined)

never_joined : (numbers : Option (List Value21)) (points : List Point) (faces : List Instance) → Any (IsLoose numbers points) faces → (ts : List Triangle) → Joined (IsCut numbers points) faces ts → ⊥
never_joined numbers points faces any ts joined =
    let part = joined_at (IsCut numbers points) faces ts any.0 any.1 any.2 any.3 joined in
    loose_uncut numbers points any.1 any.4 part.0 part.1

pub polygonal_none : {E : Type 0} (world : List Instance) (points : List Point) (set : Instance) (numbers : Option (List Value21)) (values : List Value21) (r : Result (Option (Vec Triangle Global)) E)
    → is_polygonal set ≡ true → numbers ≡ numbering set → values ≡ listed set 2
    → IfOk r (λ made. MatchOption made (Any (IsLoose numbers points) (led_to world values)) (λ ts. Joined (IsCut numbers points) (led_to world values) ts.items))
    → IfOk r (λ made. IfNone made ((ts : List Triangle) → SetTriangles world points set ts → ⊥))
polygonal_none world points set numbers values (Err e) polygonal same all h = h
polygonal_none world points set numbers values (Ok (Some ts)) polygonal same all h = tt
polygonal_none world points set numbers values (Ok None) polygonal same all h = λ ts made.
    never_joined (numbering set) points (faces_of world set) (rw (faces_are world set, sym all, sym same) h) ts
    (MatchBool-at_true (Joined (IsCut (numbering set) points) (faces_of world set) ts) (AreTriangles (numbering set) points (spelled_triangles set) ts) polygonal made)

-- a row that is a triangle is three indexes of points
row_named : (numbers : Option (List Value21)) (points : List Point) (row : Value21) (t : Triangle) → IsTriangle numbers points row t → (HasThree row → Any (IsMisnamed numbers (length points)) (items_in row)) → ⊥
row_named numbers points row t is lacks =
    let items : items_in row ≡ is.a ∷ is.b ∷ is.c ∷ [] = ap (λ (o : Option (List Value21)). unwrap_or o []) is.three in
    well_cornered numbers points (is.a ∷ is.b ∷ is.c ∷ []) (t.a ∷ t.b ∷ t.c ∷ []) (is.first, (is.second, (is.third, tt)))
    (subst (Any (IsMisnamed numbers (length points))) items (lacks (is.a, is.b, is.c, is.three)))

never_rows : (numbers : Option (List Value21)) (points : List Point) (rows : List Value21) → Any (λ row. HasThree row → Any (IsMisnamed numbers (length points)) (items_in row)) rows
    → (ts : List Triangle) → AreTriangles numbers points rows ts → ⊥
never_rows numbers points [] any ts all = absurd (let lt = any.2 in omega (arith, lt))
never_rows numbers points (row ∷ rows) any [] all = absurd all
never_rows numbers points (row ∷ rows) (zero, x, lt, at, lacks) (t ∷ ts) all =
    row_named numbers points row t all.0 (subst (λ (r : Value21). HasThree r → Any (IsMisnamed numbers (length points)) (items_in r)) (sym at) lacks)
never_rows numbers points (row ∷ rows) (suc k, x, lt, at, lacks) (t ∷ ts) all = never_rows numbers points rows (k, x, omega (arith, lt), at, lacks) ts all.1

pub flat_none : {E : Type 0} (world : List Instance) (points : List Point) (set : Instance) (numbers : Option (List Value21)) (rows : List Value21) (r : Result (Option (Vec Triangle Global)) E)
    → is_polygonal set ≡ false → numbers ≡ numbering set → rows ≡ spelled_triangles set
    → IfOk r (λ made. MatchOption made (Any (λ row. HasThree row → Any (IsMisnamed numbers (length points)) (items_in row)) rows) (λ ts. AreTriangles numbers points rows ts.items))
    → IfOk r (λ made. IfNone made ((ts : List Triangle) → SetTriangles world points set ts → ⊥))
flat_none world points set numbers rows (Err e) flat same all h = h
flat_none world points set numbers rows (Ok (Some ts)) flat same all h = tt
flat_none world points set numbers rows (Ok None) flat same all h = λ ts made.
    never_rows (numbering set) points (spelled_triangles set) (rw (sym all, sym same) h) ts
    (MatchBool-at_false (Joined (IsCut (numbering set) points) (faces_of world set) ts) (AreTriangles (numbering set) points (spelled_triangles set) ts) flat made)
