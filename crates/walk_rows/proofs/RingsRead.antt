-- The loops of a face that were read, one more.
use Rattle.std.proofs.Common.{◌≡◌, ℕ, ◌+◌, ◌<◌, ◌≤◌, List, [], ◌∷◌, ◌++◌, append_assoc, length, map, take, get_or, Option, Vec, Global, sym, ap, ◌∙◌, subst, arith}
use Rattle.std.specs.List.{All, AllZip}
use Rattle.std.proofs.lemmas.List.{length-append, map-append, append-nil, take_more}
use Rattle.std.proofs.lemmas.List.Elements.{All-push}
use Rattle.std.proofs.lemmas.List.Concat.{flat_map-append}
use Rattle.bim_model.specs.declared.geometry.Point.{Point}
use Rattle.ear_cut.specs.Areas.{point_at}
use Rattle.p21_values.specs.declared.value.Value21.{Value21}
use Rattle.p21_values.specs.Attributes.{items_in}
use Rattle.faceset.specs.FaceSets.{NamesPoint, most_corners}
use Rattle.faceset.proofs.Zips.{zip_push}
use Rattle.walk_rows.specs.inner.LoopRows.{AreRings}
use Rattle.walk_rows.proofs.EarRows.{flat}

abbrev pub items_of : {X : Type 0} → List (Vec X Global) → List (List X)
items_of vs = map (λ v. v.items) vs

pub items_push : {X : Type 0} (old new : List (Vec X Global)) (v : Vec X Global) → new ≡ old ++ v ∷ [] → items_of new ≡ items_of old ++ v.items ∷ []
items_push {X} old new v e = ap items_of e ∙ map-append (λ (w : Vec X Global). w.items) old (v ∷ [])

pub named_more : (names : Option (List Value21)) (count : ℕ) (rows : List Value21) (row : Value21) (old new : List (Vec ℕ Global)) (made : Vec ℕ Global) → new ≡ old ++ made ∷ []
    → AllZip (AllZip (NamesPoint names count)) (map items_in rows) (items_of old) → AllZip (NamesPoint names count) (items_in row) made.items
    → AllZip (AllZip (NamesPoint names count)) (map items_in (rows ++ row ∷ [])) (items_of new)
named_more names count rows row old new made grown before here =
    let R = AllZip (NamesPoint names count) in
    subst (λ (us : List (List ℕ)). AllZip R (map items_in (rows ++ row ∷ [])) us) (sym (items_push old new made grown))
    (subst (λ (vs : List (List Value21)). AllZip R vs (items_of old ++ made.items ∷ [])) (sym (map-append items_in rows (row ∷ []))) (zip_push R (map items_in rows) (items_of old) (items_in row) made.items before here))

pub total_more : (old new : List (Vec ℕ Global)) (made : Vec ℕ Global) → new ≡ old ++ made ∷ [] → length (flat (items_of new)) ≡ length (flat (items_of old)) + length made.items
total_more old new made grown =
    let e = ap (λ (xss : List (List ℕ)). length (flat xss)) (items_push old new made grown) in
    let f = ap length (flat_map-append (λ (xs : List ℕ). xs) (items_of old) (made.items ∷ [])) in
    let a = length-append (flat (items_of old)) (flat (made.items ∷ [])) in
    let n = ap length (append-nil made.items) in
    omega (arith, e, f, a, n)

pub rings_more : (before : ℕ) (old new : List (Vec ℕ Global)) (made : Vec ℕ Global) → new ≡ old ++ made ∷ [] → AreRings before (items_of old) → 2 < length made.items
    → before + length (flat (items_of old)) + length made.items ≤ most_corners → AreRings before (items_of new)
rings_more before old new made grown are three few = record {
  three = subst (λ (xss : List (List ℕ)). All (λ (xs : List ℕ). 2 < length xs) xss) (sym (items_push old new made grown)) (All-push (λ (xs : List ℕ). 2 < length xs) (items_of old) made.items are.three three);
  few = (let t = total_more old new made grown in omega (arith, t, few));
}

-- ---- the places of all loops, one loop more
places_more : (vs : List (Vec ℕ Global)) (i : ℕ) (v : Vec ℕ Global) → i < length vs → v ≡ get_or vs i v → flat (items_of (take (i + 1) vs)) ≡ flat (items_of (take i vs)) ++ v.items
places_more vs i v lt at =
    let e : take (i + 1) vs ≡ take i vs ++ v ∷ [] = take_more vs i v lt ∙ ap (λ (u : Vec ℕ Global). take i vs ++ u ∷ []) (sym at) in
    ap (λ (us : List (Vec ℕ Global)). flat (items_of us)) e
    ∙ (ap flat (map-append (λ (u : Vec ℕ Global). u.items) (take i vs) (v ∷ []))
    ∙ (flat_map-append (λ (xs : List ℕ). xs) (items_of (take i vs)) (v.items ∷ []) ∙ ap (λ (ps : List ℕ). flat (items_of (take i vs)) ++ ps) (append-nil v.items)))

pub places_added : (first old new ring : List ℕ) (vs : List (Vec ℕ Global)) (i : ℕ) (v : Vec ℕ Global) → i < length vs → v ≡ get_or vs i v → ring ≡ v.items → new ≡ old ++ ring
    → old ≡ first ++ flat (items_of (take i vs)) → new ≡ first ++ flat (items_of (take (i + 1) vs))
places_added first old new ring vs i v lt at is grown before =
    grown ∙ (ap (λ (ps : List ℕ). old ++ ps) is ∙ (ap (λ (ps : List ℕ). ps ++ v.items) before
    ∙ (append_assoc first (flat (items_of (take i vs))) v.items ∙ ap (λ (ps : List ℕ). first ++ ps) (sym (places_more vs i v lt at)))))

-- ---- the points of loops, one loop more
pub rings_added : (points : List Point) (vs : List (Vec ℕ Global)) (i : ℕ) (v : Vec ℕ Global) (old new : List (Vec Point Global)) (made : Vec Point Global) (ring : List ℕ) → i < length vs → v ≡ get_or vs i v → ring ≡ v.items
    → made.items ≡ map (point_at points) ring → new ≡ old ++ made ∷ [] → items_of old ≡ map (map (point_at points)) (items_of (take i vs)) → items_of new ≡ map (map (point_at points)) (items_of (take (i + 1) vs))
rings_added points vs i v old new made ring lt at is are grown before =
    let e : take (i + 1) vs ≡ take i vs ++ v ∷ [] = take_more vs i v lt ∙ ap (λ (u : Vec ℕ Global). take i vs ++ u ∷ []) (sym at) in
    let f : items_of (take (i + 1) vs) ≡ items_of (take i vs) ++ v.items ∷ [] = ap items_of e ∙ map-append (λ (u : Vec ℕ Global). u.items) (take i vs) (v ∷ []) in
    let g : made.items ≡ map (point_at points) v.items = are ∙ ap (map (point_at points)) is in
    items_push old new made grown
    ∙ (ap (λ (ps : List (List Point)). ps ++ made.items ∷ []) before
    ∙ (ap (λ (ps : List Point). map (map (point_at points)) (items_of (take i vs)) ++ ps ∷ []) g
    ∙ (sym (map-append (map (point_at points)) (items_of (take i vs)) (v.items ∷ [])) ∙ ap (map (map (point_at points))) (sym f))))
