-- The inner loops as they are read: their places, the way round, one loop after another.
use Rattle.std.proofs.Common.{◌≡◌, ◌∙◌, ap, sym, refl, ℕ, zero, suc, ◌+◌, ◌-◌, ◌<◌, ◌≤◌, ℤ, pos, ◌-ℤ◌, Bool, true, false, List, [], ◌∷◌, ◌++◌, length, map, take, drop, get_or, Vec, Global, arith}
use Rattle.std.specs.Prelude.{slice_index_or, reverse, int_lt}
use Rattle.std.proofs.lemmas.Int.{ints}
use Rattle.std.proofs.lemmas.List.{append-nil, take_more, take_rest, drop_all, length-take-le, length-drop, map_push, get_or-map}
use Rattle.bim_model.specs.declared.geometry.Point.{Point}
use Rattle.ear_cut.specs.declared.polygon_view.View.{View}
use Rattle.ear_cut.specs.declared.corners.Corner.{Corner}
use Rattle.ear_cut.specs.PolygonViews.{signed}
use Rattle.ear_cut.specs.Corners.{corners_from}
use Rattle.ear_cut.proofs.Places.{corner, corners_push}
use Rattle.void_bridge.specs.HoleLoops.{loops_from, corner_count, oriented}

-- ---- places
pub corners_next : (n : ℕ) (ps : List Point) (i : ℕ) (d : Point) → i < length ps → corners_from n (take i ps) ++ corner (n + i) (get_or ps i d) ∷ [] ≡ corners_from n (take (i + 1) ps)
corners_next n ps i d h =
    let m : length (take i ps) ≡ i = length-take-le i ps (omega (arith, h)) in
    sym (ap (corners_from n) (take_more ps i d h) ∙ (corners_push n (take i ps) (get_or ps i d) ∙ ap (λ (k : ℕ). corners_from n (take i ps) ++ corner (n + k) (get_or ps i d) ∷ []) m))

-- ---- the way round
same_test : (b c : Bool) → (b ≡ true → c ≡ false → ⊥) → (b ≡ false → c ≡ true → ⊥) → b ≡ c
same_test true true h k = refl
same_test true false h k = absurd (h refl refl)
same_test false true h k = absurd (k refl refl)
same_test false false h k = refl

turned_sign : (x : ℤ) → int_lt x (pos 0) ≡ int_lt (pos 0) (pos 0 -ℤ x)
turned_sign x = same_test (int_lt x (pos 0)) (int_lt (pos 0) (pos 0 -ℤ x)) (λ e f. omega (arith, ints, e, f)) (λ e f. omega (arith, ints, e, f))

pub below_reversed : (r : Bool) (x y : ℤ) → r ≡ true → x ≡ y → int_lt x (pos 0) ≡ int_lt (pos 0) (signed r y)
below_reversed true x y e f = ap (λ (z : ℤ). int_lt z (pos 0)) f ∙ turned_sign y
below_reversed false x y e f = absurd (cc e)

pub above_kept : (r : Bool) (x y : ℤ) → r ≡ false → x ≡ y → int_lt (pos 0) x ≡ int_lt (pos 0) (signed r y)
above_kept true x y e f = absurd (cc e)
above_kept false x y e f = ap (λ (z : ℤ). int_lt (pos 0) z) f

-- ---- how many corners
count_push : (loops : List (List Point)) (loop : List Point) → corner_count (loops ++ loop ∷ []) ≡ corner_count loops + length loop
count_push [] loop = omega arith
count_push (l ∷ ls) loop = let e = count_push ls loop in omega (arith, e)

pub count_more : (loops : List (List Point)) (i : ℕ) → i < length loops → corner_count (take (i + 1) loops) ≡ corner_count (take i loops) + length (slice_index_or loops i [])
count_more loops i h = ap corner_count (take_more loops i [] h) ∙ count_push (take i loops) (slice_index_or loops i [])

pub count_within : (loops : List (List Point)) (i : ℕ) → i < length loops → corner_count (take i loops) + length (slice_index_or loops i []) ≤ corner_count loops
count_within [] i h = absurd (omega (arith, h))
count_within (l ∷ ls) zero h = omega arith
count_within (l ∷ ls) (suc i) h = let e = count_within ls i (omega (arith, h)) in omega (arith, e)

-- ---- loop after loop
loops_push : (n : ℕ) (loops : List (List Point)) (loop : List Point) → loops_from n (loops ++ loop ∷ []) ≡ loops_from n loops ++ corners_from (n + corner_count loops) loop ∷ []
loops_push n [] loop = let e : n ≡ n + 0 = omega arith in ap (λ (m : ℕ). corners_from m loop ∷ []) e
loops_push n (l ∷ ls) loop =
    let e : (n + length l) + corner_count ls ≡ n + (length l + corner_count ls) = omega arith in
    ap (λ (t : List (List Corner)). corners_from n l ∷ t)
    (loops_push (n + length l) ls loop ∙ ap (λ (m : ℕ). loops_from (n + length l) ls ++ corners_from m loop ∷ []) e)

holes_more : (view : View) (n : ℕ) (loops : List (List Point)) (i : ℕ) → i < length loops
    → map (oriented view) (loops_from n (take (i + 1) loops)) ≡ map (oriented view) (loops_from n (take i loops)) ++ oriented view (corners_from (n + corner_count (take i loops)) (slice_index_or loops i [])) ∷ []
holes_more view n loops i h =
    ap (λ (l : List (List Point)). map (oriented view) (loops_from n l)) (take_more loops i [] h)
    ∙ (ap (map (oriented view)) (loops_push n (take i loops) (slice_index_or loops i []))
    ∙ map_push (oriented view) (loops_from n (take i loops)) (corners_from (n + corner_count (take i loops)) (slice_index_or loops i [])))

abbrev pub items_of : {X : Type 0} → List (Vec X Global) → List (List X)
items_of vs = map (λ v. v.items) vs

-- what an item of vectors holds
pub item_at : {X : Type 0} (vs : List (Vec X Global)) (k : ℕ) (v : Vec X Global) → k < length vs → v ≡ get_or vs k v → v.items ≡ slice_index_or (items_of vs) k []
item_at {X} vs k v h e = ap (λ (w : Vec X Global). w.items) e ∙ sym (get_or-map (λ (w : Vec X Global). w.items) vs k v [] h)

pub hole_more : (view : View) (n next : ℕ) (loops : List (List Point)) (i : ℕ) (before now : List (List Corner)) (points : List Point) (hole : List Corner) → i < length loops → points ≡ slice_index_or loops i [] → next ≡ n + corner_count (take i loops)
    → hole ≡ oriented view (corners_from next points) → before ≡ map (oriented view) (loops_from n (take i loops)) → now ≡ before ++ hole ∷ [] → now ≡ map (oriented view) (loops_from n (take (i + 1) loops))
hole_more view n next loops i before now points hole h p e f g k =
    k ∙ (ap (λ (l : List (List Corner)). l ++ hole ∷ []) g
    ∙ (ap (λ (l : List Corner). map (oriented view) (loops_from n (take i loops)) ++ l ∷ []) (f ∙ (ap (λ (m : ℕ). oriented view (corners_from m points)) e ∙ ap (λ (q : List Point). oriented view (corners_from (n + corner_count (take i loops)) q)) p))
    ∙ sym (holes_more view n loops i h)))

pub next_more : (n next : ℕ) (loops : List (List Point)) (i : ℕ) (points : List Point) → i < length loops → points ≡ slice_index_or loops i [] → next ≡ n + corner_count (take i loops) → next + length points ≡ n + corner_count (take (i + 1) loops)
next_more n next loops i points h p e =
    let a = count_more loops i h in let b = ap length p in omega (arith, a, b, e)

pub next_within : (n next : ℕ) (loops : List (List Point)) (i most : ℕ) (points : List Point) → i < length loops → points ≡ slice_index_or loops i [] → next ≡ n + corner_count (take i loops) → n + corner_count loops ≤ most → next + length points ≤ most
next_within n next loops i most points h p e f =
    let a = count_within loops i h in let b = ap length p in omega (arith, a, b, e, f)

-- ---- a part that is turned round
pub turned_round : (cs part : List Corner) → part ≡ reverse (take (length cs - 1) (drop 1 cs)) → take 1 cs ++ (part ++ drop (length cs - 1) (drop 1 cs)) ≡ take 1 cs ++ reverse (drop 1 cs)
turned_round cs part e =
    let n : length (drop 1 cs) ≤ length cs - 1 = omega (arith, length-drop 1 cs) in
    ap (λ (l : List Corner). take 1 cs ++ l)
    (ap (λ (l : List Corner). part ++ l) (drop_all (length cs - 1) (drop 1 cs) n) ∙ (append-nil part ∙ (e ∙ ap (λ (l : List Corner). reverse l) (take_rest cs 1))))
