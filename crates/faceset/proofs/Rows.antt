-- Rows of values, gone over one after another.
use Rattle.std.proofs.Common.{◌≡◌, ℕ, ◌+◌, ◌<◌, ◌≤◌, List, [], ◌∷◌, ◌++◌, length, take, drop, get_or, map, sum_by, refl, sym, ap, ◌∙◌, arith}
use Rattle.std.proofs.lemmas.List.{length-append, map-append, take_more, take-append-drop, append-nil}
use Rattle.std.proofs.lemmas.List.Concat.{flat_map-append}
use Rattle.std.proofs.lemmas.List.Sums.{sum_by-append, sum_by-cons}
use Rattle.p21_values.specs.declared.value.Value21.{Value21}
use Rattle.p21_values.specs.Attributes.{items_in}
use Rattle.faceset.specs.FaceSets.{loop_count}
use Rattle.faceset.specs.inner.Cuts.{corner_total}
use Rattle.faceset.proofs.Loops.{flat}

-- what rows hold, one after another
abbrev pub held : List Value21 → List Value21
held rows = flat (map items_in rows)

pub held_append : (rows more : List Value21) → held (rows ++ more) ≡ held rows ++ held more
held_append rows more = ap flat (map-append items_in rows more) ∙ flat_map-append (λ (xs : List Value21). xs) (map items_in rows) (map items_in more)

-- one row more
pub held_more : (rows : List Value21) (row : Value21) → held (rows ++ row ∷ []) ≡ held rows ++ items_in row
held_more rows row = held_append rows (row ∷ []) ∙ ap (λ (vs : List Value21). held rows ++ vs) (append-nil (items_in row))

-- the rows so far and the next one are a front of all
pub front_of : (rows given : List Value21) (row : Value21) → given ≡ take (length given) rows → length given < length rows → row ≡ get_or rows (length given) row
    → (given ++ row ∷ []) ++ drop (length given + 1) rows ≡ rows
front_of rows given row front lt at =
    let more : take (length given + 1) rows ≡ given ++ row ∷ [] = take_more rows (length given) row lt ∙ (ap (λ (vs : List Value21). vs ++ get_or rows (length given) row ∷ []) (sym front) ∙ ap (λ (v : Value21). given ++ v ∷ []) (sym at)) in
    ap (λ (vs : List Value21). vs ++ drop (length given + 1) rows) (sym more) ∙ take-append-drop (length given + 1) rows

pub held_front : (rows given : List Value21) (row : Value21) → given ≡ take (length given) rows → length given < length rows → row ≡ get_or rows (length given) row
    → held rows ≡ (held given ++ items_in row) ++ held (drop (length given + 1) rows)
held_front rows given row front lt at =
    ap held (sym (front_of rows given row front lt at)) ∙ (held_append (given ++ row ∷ []) (drop (length given + 1) rows) ∙ ap (λ (vs : List Value21). vs ++ held (drop (length given + 1) rows)) (held_more given row))

-- how many they hold

pub total_front : (rows given : List Value21) (row : Value21) → given ≡ take (length given) rows → length given < length rows → row ≡ get_or rows (length given) row
    → corner_total given + length (items_in row) ≤ corner_total rows
total_front rows given row front lt at =
    let whole = ap length (held_front rows given row front lt at) in
    let a = length-append (held given ++ items_in row) (held (drop (length given + 1) rows)) in
    let b = length-append (held given) (items_in row) in
    omega (arith, whole, a, b)

-- what they add to the triangles of a face

abbrev pub added : List Value21 → ℕ
added rows = sum_by loop_count (map items_in rows)

pub added_more : (rows : List Value21) (row : Value21) → added (rows ++ row ∷ []) ≡ added rows + (length (items_in row) + 2)
added_more rows row =
    let e = ap (sum_by loop_count) (map-append items_in rows (row ∷ [])) ∙ sum_by-append loop_count (map items_in rows) (items_in row ∷ []) in
    let one = sum_by-cons loop_count (items_in row) [] in
    let nil : sum_by loop_count [] ≡ 0 = refl in
    omega (arith, e, one, nil)

pub added_front : (rows given : List Value21) (row : Value21) → given ≡ take (length given) rows → length given < length rows → row ≡ get_or rows (length given) row
    → added given + (length (items_in row) + 2) ≤ added rows
added_front rows given row front lt at =
    let rest = drop (length given + 1) rows in
    let whole = ap added (sym (front_of rows given row front lt at)) ∙ (ap (sum_by loop_count) (map-append items_in (given ++ row ∷ []) rest) ∙ sum_by-append loop_count (map items_in (given ++ row ∷ [])) (map items_in rest)) in
    let more = added_more given row in
    omega (arith, whole, more)
