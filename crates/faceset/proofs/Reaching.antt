-- From which count on indexes count something.
use Rattle.std.proofs.Common.{◌≡◌, ◌≢◌, ℕ, zero, suc, ◌+◌, ◌<◌, ◌≤◌, Bool, true, List, [], ◌∷◌, ◌++◌, map, get_or, if◌then◌else◌, ◌⊎◌, inl, inr, Some, Result, IfOk, refl, sym, ◌∙◌, ap, subst, arith}
use Rattle.std.specs.Bool.{MatchBool}
use Rattle.std.specs.List.{All, Any}
use Rattle.std.proofs.lemmas.List.Elements.{All-push, All-append}
use Rattle.std.proofs.lemmas.Option.{same_Some}
use Rattle.p21_values.specs.declared.value.Value21.{Value21}
use Rattle.p21_values.specs.declared.value.Instance.{Instance}
use Rattle.p21_values.specs.InstanceLookup.{look}
use Rattle.p21_values.specs.Values.{reference_of}
use Rattle.faceset.specs.Indexes.{PointsAt, PointsNowhere}
use Rattle.faceset.specs.FaceSets.{all_corners, faces_of, spelled_triangles, is_polygonal, rows_of}
use Rattle.p21_values.specs.Attributes.{led_to, items_in, listed}
use Rattle.faceset.specs.Reaches.{CountsFrom, AreReaches, IsWithin, PutsKept, kept_in}
use Rattle.ifc_instances.proofs.LedTo.{led_one}

-- one value more
pub reach_more : (vs : List Value21) (v : Value21) (count place old new : ℕ) → PointsAt count v place → old ≤ new → place + 1 ≤ new → All (CountsFrom old) vs → All (CountsFrom new) (vs ++ v ∷ [])
reach_more vs v count place old new p first second all = All-push (CountsFrom new) vs v higher here
  where
    higher : All (CountsFrom new) vs
    higher = λ k d l n le. all k d l n (omega (arith, first, le))

    here : CountsFrom new v
    here = λ n le nowhere. nowhere place (record { bytes = p.bytes; number = p.number; within = omega (arith, second, le); written = p.written })

-- one row more
pub rows_more : (vs row : List Value21) (old here new : ℕ) → old ≤ new → here ≤ new → All (CountsFrom old) vs → All (CountsFrom here) row → All (CountsFrom new) (vs ++ row)
rows_more vs row old here new first second all more =
    All-append (CountsFrom new) vs row (λ k d lt n le. all k d lt n (omega (arith, first, le))) (λ k d lt n le. more k d lt n (omega (arith, second, le)))

-- One face.

face_rows : (world : List Instance) (v : Value21) (id : ℕ) (face : Instance) → reference_of v ≡ Some id → look world id ≡ Some face → map all_corners (led_to world (v ∷ [])) ≡ all_corners face ∷ []
face_rows world v id face refers found = ap (map all_corners) (led_one world v id face refers found)

pub face_bad : (world : List Instance) (v : Value21) (id : ℕ) (face : Instance) (count : ℕ) → reference_of v ≡ Some id → look world id ≡ Some face → Any (PointsNowhere count) (all_corners face)
    → Any (Any (PointsNowhere count)) (map all_corners (led_to world (v ∷ [])))
face_bad world v id face count refers found bad = subst (Any (Any (PointsNowhere count))) (sym (face_rows world v id face refers found)) (0, all_corners face, omega arith, refl, bad)

only : (P : List Value21 → Type 0) (x : List Value21) → Any P (x ∷ []) → P x
only P x any = first any.0 any.1 any.2 any.3 any.4
  where
    first : (k : ℕ) (y : List Value21) → k < 1 → get_or (x ∷ []) k y ≡ y → P y → P x
    first zero y lt at h = subst P (sym at) h
    first (suc k) y lt at h = absurd (omega (arith, lt))

face_well : (world : List Instance) (v : Value21) (id : ℕ) (face : Instance) (count : ℕ) → reference_of v ≡ Some id → look world id ≡ Some face → (Any (PointsNowhere count) (all_corners face) → ⊥)
    → Any (Any (PointsNowhere count)) (map all_corners (led_to world (v ∷ []))) → ⊥
face_well world v id face count refers found well any = well (only (Any (PointsNowhere count)) (all_corners face) (subst (Any (Any (PointsNowhere count))) (face_rows world v id face refers found) any))

never_bad : (vs : List Value21) (reach count : ℕ) → reach ≤ count → All (CountsFrom reach) vs → Any (PointsNowhere count) vs → ⊥
never_bad vs reach count le all any = all any.0 any.1 any.2 count le (subst (PointsNowhere count) (sym any.3) any.4)

pub face_reached : (world : List Instance) (v : Value21) (id : ℕ) (face : Instance) (count reach : ℕ) → reference_of v ≡ Some id → look world id ≡ Some face → reach ≤ count → All (CountsFrom reach) (all_corners face)
    → Any (Any (PointsNowhere count)) (map all_corners (led_to world (v ∷ []))) → ⊥
face_reached world v id face count reach refers found le all = face_well world v id face count refers found (never_bad (all_corners face) reach count le all)

pub face_within : (world : List Instance) (entries : List (ℕ × ℕ)) (v : Value21) (id : ℕ) (face : Instance) (count : ℕ) → reference_of v ≡ Some id → look world id ≡ Some face → AreReaches world entries → IsWithin entries id count
    → Any (Any (PointsNowhere count)) (map all_corners (led_to world (v ∷ []))) → ⊥
face_within world entries v id face count refers found are w =
    let f = are id w.reach w.kept in
    let same : f.face ≡ face = same_Some f.face face (sym f.found ∙ found) in
    face_reached world v id face count w.reach refers found w.within (subst (λ i. All (CountsFrom w.reach) (all_corners i)) same f.reaches)

-- one face more
pub reaches_more : (world : List Instance) (old new : List (ℕ × ℕ)) (id : ℕ) (face : Instance) (reach : ℕ) → look world id ≡ Some face → All (CountsFrom reach) (all_corners face) → PutsKept (kept_in old) (kept_in new) id reach
    → AreReaches world old → AreReaches world new
reaches_more world old new id face reach found all p are other kept there = elim (same_or other id) [
  | inl s ↦ record {
    face = face;
    found = ap (look world) s ∙ found;
    reaches = subst (λ (n : ℕ). All (CountsFrom n) (all_corners face)) (same_Some reach kept (sym p.here ∙ ap (kept_in new) (sym s) ∙ there)) all;
  }
  | inr n ↦ are other kept (sym (p.others other n) ∙ there)
]
  where
    same_or : (a b : ℕ) → (a ≡ b) ⊎ (a ≢ b)
    same_or a b = grind arith

-- The rows of a polygonal set.

polygonal_rows : (world : List Instance) (set : Instance) (b : Bool) → b ≡ true → (if b then map all_corners (faces_of world set) else map items_in (spelled_triangles set)) ≡ map all_corners (led_to world (listed set 2))
unfolding faces_of
polygonal_rows world set b is = rw is refl

pub rows_told : {E : Type 0} (world : List Instance) (set : Instance) (vs : List Value21) (count : ℕ) (r : Result Bool E) → is_polygonal set ≡ true → vs ≡ listed set 2
    → IfOk r (λ b. MatchBool b (Any (Any (PointsNowhere count)) (map all_corners (led_to world vs))) (Any (Any (PointsNowhere count)) (map all_corners (led_to world vs)) → ⊥))
    → IfOk r (λ b. MatchBool b (Any (Any (PointsNowhere count)) (rows_of world set)) (Any (Any (PointsNowhere count)) (rows_of world set) → ⊥))
rows_told world set vs count r polygonal all h =
    let e : rows_of world set ≡ map all_corners (led_to world (listed set 2)) = polygonal_rows world set (is_polygonal set) polygonal in
    let same : map all_corners (led_to world vs) ≡ rows_of world set = ap (λ (us : List Value21). map all_corners (led_to world us)) all ∙ sym e in
    subst (λ (rows : List (List Value21)). IfOk r (λ b. MatchBool b (Any (Any (PointsNowhere count)) rows) (Any (Any (PointsNowhere count)) rows → ⊥))) same h
