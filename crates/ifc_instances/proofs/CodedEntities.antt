-- An instance's entity is told by the number of its keyword.
use Rattle.std.proofs.Common.{◌≡◌, ℕ, zero, suc, ◌+◌, ◌<◌, nat_lt, inl, inr, Bool, true, false, ◌&&◌, cond, List, [], ◌∷◌, length, get_or, Option, Some, None, option_and_then, arith, refl, sym, ap, subst, ◌∙◌}
use Rattle.std.proofs.lemmas.Bool.{cases_Bool, and_parts}
use Rattle.std.specs.List.{list_any, find}
use Rattle.std.specs.Str.{bytes_eq}
use Rattle.ifc_keywords.specs.Codes.{known, code_of, code_at}
use Rattle.ifc_keywords.proofs.Numbered.{is_same, a_number}
use Rattle.ifc_keywords.specs.declared.known_words.TheConstants.{KEYWORDS}
use Rattle.ifc_instances.specs.declared.entity.Entity.{Entity}
use Rattle.ifc_instances.specs.declared.entity.Entity.TheVariants.{Project, UnitAssignment, SiUnit, Storey, Aggregates, Containment, ProductShape, Representation, Placement, AxisPlacement, Point, Direction, PointList, TriangulatedFaceSet, PolygonalFaceSet, Face, FaceWithVoids, MappedItem, RepresentationMap, Operator, ConvertedUnit, Measure, Subject}
use Rattle.ifc_instances.specs.Entities.{keywords_of, subjects, is_of, entities, entity_of}
use Rattle.ifc_instances.specs.EntityLookup.{is_keyword_of}
use Rattle.ifc_instances.specs.inner.Coded.{has_code, by_code}

-- Each known keyword is one of an entity's exactly where its number is.

abbrev alike : Bool → Bool → Bool
alike true true = true
alike false false = true
alike _ _ = false

alike_is : (a b : Bool) → alike a b ≡ true → a ≡ b
alike_is true true e = refl
alike_is false false e = refl
alike_is true false e = cc
alike_is false true e = cc

abbrev agrees : Entity → ℕ → List (List ℕ) → Bool
agrees e n [] = true
agrees e n (w ∷ ws) = alike (is_of e w) (has_code e n) && agrees e (n + 1) ws

agrees_at : (e : Entity) (n : ℕ) (ws : List (List ℕ)) (k : ℕ) → agrees e n ws ≡ true → k < length ws → is_of e (get_or ws k []) ≡ has_code e (n + k)
agrees_at e n [] k h lt = absurd (omega (arith, lt))
agrees_at e n (w ∷ ws) zero h lt =
    let p = and_parts (alike (is_of e w) (has_code e n)) (agrees e (n + 1) ws) h in
    let z : n ≡ n + 0 = omega arith in
    alike_is (is_of e w) (has_code e n) p.0 ∙ ap (λ (m : ℕ). has_code e m) z
agrees_at e n (w ∷ ws) (suc k) h lt =
    let p = and_parts (alike (is_of e w) (has_code e n)) (agrees e (n + 1) ws) h in
    let z : (n + 1) + k ≡ n + suc k = omega arith in
    agrees_at e (n + 1) ws k p.1 (omega (arith, lt)) ∙ ap (λ (m : ℕ). has_code e m) z

all_agree : (e : Entity) → agrees e 0 known ≡ true
unfolding known is_of has_code subjects
all_agree Project = refl
all_agree UnitAssignment = refl
all_agree SiUnit = refl
all_agree Storey = refl
all_agree Aggregates = refl
all_agree Containment = refl
all_agree ProductShape = refl
all_agree Representation = refl
all_agree Placement = refl
all_agree AxisPlacement = refl
all_agree Point = refl
all_agree Direction = refl
all_agree PointList = refl
all_agree TriangulatedFaceSet = refl
all_agree PolygonalFaceSet = refl
all_agree Face = refl
all_agree FaceWithVoids = refl
all_agree MappedItem = refl
all_agree RepresentationMap = refl
all_agree Operator = refl
all_agree ConvertedUnit = refl
all_agree Measure = refl
all_agree Subject = refl

known_many : length known ≡ KEYWORDS
unfolding known
known_many = refl

-- A word that isn't known is none of an entity's.

abbrev all_known : List (List ℕ) → Bool
all_known [] = true
all_known (w ∷ ws) = nat_lt (code_of w) 255 && all_known ws

none_of : (ws : List (List ℕ)) (k : List ℕ) → all_known ws ≡ true → code_of k ≡ 255 → list_any (bytes_eq k) ws ≡ false
none_of [] k h e = refl
none_of (w ∷ ws) k h e =
    let p = and_parts (nat_lt (code_of w) 255) (all_known ws) h in
    elim (cases_Bool (bytes_eq k w)) [
      | inl t ↦ (let same : nat_lt 255 255 ≡ true = sym (ap (λ (n : ℕ). nat_lt n 255) (sym (ap code_of (is_same k w t)) ∙ e)) ∙ p.0 in cc)
      | inr f ↦ rw f (none_of ws k p.1 e)
    ]

entities_known : (e : Entity) → all_known (keywords_of e) ≡ true
unfolding known code_of subjects
entities_known Project = refl
entities_known UnitAssignment = refl
entities_known SiUnit = refl
entities_known Storey = refl
entities_known Aggregates = refl
entities_known Containment = refl
entities_known ProductShape = refl
entities_known Representation = refl
entities_known Placement = refl
entities_known AxisPlacement = refl
entities_known Point = refl
entities_known Direction = refl
entities_known PointList = refl
entities_known TriangulatedFaceSet = refl
entities_known PolygonalFaceSet = refl
entities_known Face = refl
entities_known FaceWithVoids = refl
entities_known MappedItem = refl
entities_known RepresentationMap = refl
entities_known Operator = refl
entities_known ConvertedUnit = refl
entities_known Measure = refl
entities_known Subject = refl

no_entity : (e : Entity) → has_code e 255 ≡ false
unfolding has_code
no_entity Project = refl
no_entity UnitAssignment = refl
no_entity SiUnit = refl
no_entity Storey = refl
no_entity Aggregates = refl
no_entity Containment = refl
no_entity ProductShape = refl
no_entity Representation = refl
no_entity Placement = refl
no_entity AxisPlacement = refl
no_entity Point = refl
no_entity Direction = refl
no_entity PointList = refl
no_entity TriangulatedFaceSet = refl
no_entity PolygonalFaceSet = refl
no_entity Face = refl
no_entity FaceWithVoids = refl
no_entity MappedItem = refl
no_entity RepresentationMap = refl
no_entity Operator = refl
no_entity ConvertedUnit = refl
no_entity Measure = refl
no_entity Subject = refl

-- Whether a keyword is one of an entity's.

agreed : (e : Entity) (k : ℕ) → k < KEYWORDS → is_of e (get_or known k []) ≡ has_code e k
agreed e k lt = let z : 0 + k ≡ k = omega arith in agrees_at e 0 known k (all_agree e) (omega (arith, lt, known_many)) ∙ ap (λ (m : ℕ). has_code e m) z

is_of_coded : (e : Entity) (k : List ℕ) → has_code e (code_of k) ≡ is_of e k
unfolding is_of
is_of_coded e k = elim (a_number k) [
  | inl c ↦ ap (λ (n : ℕ). has_code e n) c.number ∙ sym (agreed e c.at c.within) ∙ ap (λ (w : List ℕ). is_of e w) (sym c.word)
  | inr n ↦ ap (λ (m : ℕ). has_code e m) n ∙ no_entity e ∙ sym (none_of (keywords_of e) k (entities_known e) n)
]

pub is_a_coded : (e : Entity) (k : Option (List ℕ)) → has_code e (code_at k) ≡ is_keyword_of e k
is_a_coded e None = no_entity e
is_a_coded e (Some k) = is_of_coded e k

-- The entity of a keyword.

find_same : (f g : Entity → Bool) → ((e : Entity) → f e ≡ g e) → (es : List Entity) → find f es ≡ find g es
find_same f g h [] = refl
find_same f g h (e ∷ es) = ap (λ (b : Bool). cond b (Some e) (find f es)) (h e) ∙ ap (λ (o : Option Entity). cond (g e) (Some e) o) (find_same f g h es)

abbrev Found : ℕ → ℕ → Type 0
Found n zero = Unit {0}
Found n (suc m) = (by_code n ≡ find (λ e. has_code e n) entities) × Found (n + 1) m

found_at : (n m k : ℕ) → Found n m → k < m → by_code (n + k) ≡ find (λ e. has_code e (n + k)) entities
found_at n zero k h lt = absurd (omega (arith, lt))
found_at n (suc m) zero h lt = let z : n ≡ n + 0 = omega arith in subst (λ (x : ℕ). by_code x ≡ find (λ e. has_code e x) entities) z h.0
found_at n (suc m) (suc k) h lt =
    let z : (n + 1) + k ≡ n + suc k = omega arith in subst (λ (x : ℕ). by_code x ≡ find (λ e. has_code e x) entities) z (found_at (n + 1) m k h.1 (omega (arith, lt)))

all_found : Found 0 KEYWORDS
unfolding has_code by_code
all_found = (refl, (refl, (refl, (refl, (refl, (refl, (refl, (refl, (refl, (refl, (refl, (refl, (refl, (refl, (refl, (refl, (refl, (refl, (refl, (refl, (refl, (refl, (refl, (refl, (refl, (refl, (refl, (refl, (refl, (refl, (refl, (refl, (refl, (refl, (refl, (refl, (refl, (refl, (refl, (refl, (refl, (refl, (refl, (refl, (refl, (refl, (refl, (refl, (refl, (refl, (refl, (refl, (refl, (refl, (refl, (refl, (refl, (refl, (refl, (refl, (refl, (refl, (refl, (refl, (refl, (refl, (refl, (refl, (refl, (refl, (refl, (refl, (refl, (refl, (refl, (refl, (refl, tt)))))))))))))))))))))))))))))))))))))))))))))))))))))))))))))))))))))))))))))

none_found : by_code 255 ≡ find (λ e. has_code e 255) entities
unfolding has_code by_code
none_found = refl

found : (k : ℕ) → k < KEYWORDS → by_code k ≡ find (λ e. has_code e k) entities
found k lt = let z : 0 + k ≡ k = omega arith in subst (λ (x : ℕ). by_code x ≡ find (λ e. has_code e x) entities) z (found_at 0 KEYWORDS k all_found lt)

by_code_is : (k : List ℕ) → by_code (code_of k) ≡ find (λ e. has_code e (code_of k)) entities
by_code_is k = elim (a_number k) [
  | inl c ↦ subst (λ (x : ℕ). by_code x ≡ find (λ e. has_code e x) entities) (sym c.number) (found c.at c.within)
  | inr n ↦ subst (λ (x : ℕ). by_code x ≡ find (λ e. has_code e x) entities) (sym n) none_found
]

pub entity_coded : (k : Option (List ℕ)) → by_code (code_at k) ≡ option_and_then entity_of k
unfolding by_code entity_of
entity_coded None = refl
entity_coded (Some k) = by_code_is k ∙ find_same (λ e. has_code e (code_of k)) (λ e. is_of e k) (λ e. is_of_coded e k) entities
