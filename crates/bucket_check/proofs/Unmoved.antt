-- A cell with members of the same keys, classes, storeys and surfaces owns the same clashes, by their places.
use Rattle.std.proofs.Common.{◌≡◌, ℕ, ◌+◌, ◌<◌, ◌&&◌, ltb, Bool, cond, List, [], ◌∷◌, length, get_or, Option, Some, None, refl, sym, ap, ap₂, subst, arith, ◌∙◌}
use Rattle.std.specs.List.{flat_map}
use Rattle.std.specs.Str.{bytes_eq}
use Rattle.std.proofs.lemmas.List.{length-map, get_or-map}
use Rattle.bim_model.specs.declared.geometry.Extent.{Extent}
use Rattle.bim_model.specs.declared.element.Element.{Element}
use Rattle.bim_model.specs.declared.keys.ElementKey.{ElementKey}
use Rattle.bim_model.specs.declared.rules.Rule.{Rule}
use Rattle.bim_model.specs.declared.rules.Meeting.{Meeting}
use Rattle.bim_model.specs.declared.rules.Meeting.TheVariants.{Within, Through}
use Rattle.bim_model.specs.declared.rules.Found.{Found}
use Rattle.bim_model.specs.Distances.{in_grid_numbers}
use Rattle.bim_model.specs.Rules.{passes_classes, passes_storeys, passes_level, passes_models, fits, decided, rule_from}
use Rattle.bim_model.specs.Boxes.{IsExtentOf}
use Rattle.bim_model.specs.Keys.{Subject, subjects_of}
use Rattle.bim_model.specs.declared.geometry.Triangle.{Triangle}
use Rattle.bim_model.proofs.Unique.{extent_same}
use Rattle.clearance.specs.Decided.{is_near_lists, is_near}
use Rattle.tri_pierce.specs.PiercingSigns.{is_piercing_lists, is_piercing}
use Rattle.box_lanes.specs.BoxPlaces.{box_at, nowhere}
use Rattle.bucket_grid.specs.declared.cell.Cell.{Cell}
use Rattle.bucket_grid.specs.Cells.{holds, members, owner_of}
use Rattle.bucket_grid.specs.Subjects.{subject_at, nobody, IsBoxOf, AreBoxes}
use Rattle.bucket_grid.specs.Grids.{GridValue}
use Rattle.bucket_grid.specs.BucketTable.{upto}
use Rattle.bucket_grid.proofs.Zips.{zip_at, zip_length}
use Rattle.bucket_grid.proofs.Parts.{all_upto}
use Rattle.bucket_grid.proofs.Rising.{places_within}
use Rattle.bucket_check.proofs.Lists.{flat_same}
use Rattle.bucket_check.specs.Clashes.{meet_by, rule_between, clash_by, clash_of, is_cell, pair_if, pairs_by}
use Rattle.bucket_check.specs.ClashSets.{rule_at, number_at, own_places, IsSame, subjects_at, IsUnmoved}

-- rules that agree below n list the same pairs
pairs_like : (n : ℕ) (f g : ℕ → ℕ → Option ℕ) → ((a b : ℕ) → a < n → b < n → f a b ≡ g a b) → pairs_by n f ≡ pairs_by n g
pairs_like n f g h =
    flat_same (λ a. flat_map (λ b. cond (ltb a b) (pair_if a b (f a b)) []) (upto n)) (λ a. flat_map (λ b. cond (ltb a b) (pair_if a b (g a b)) []) (upto n)) (upto n)
    (all_upto (λ a. flat_map (λ b. cond (ltb a b) (pair_if a b (f a b)) []) (upto n) ≡ flat_map (λ b. cond (ltb a b) (pair_if a b (g a b)) []) (upto n)) n (λ a k.
    flat_same (λ b. cond (ltb a b) (pair_if a b (f a b)) []) (λ b. cond (ltb a b) (pair_if a b (g a b)) []) (upto n)
    (all_upto (λ b. cond (ltb a b) (pair_if a b (f a b)) [] ≡ cond (ltb a b) (pair_if a b (g a b)) []) n (λ b l. ap (λ o. cond (ltb a b) (pair_if a b o) []) (h a b k l)))))

-- ---- elements of the same class, storey and surface
record Like (x y : Element) : Type 0 where
  class : x.class ≡ y.class
  storey : x.storey ≡ y.storey
  triangles : x.triangles ≡ y.triangles

like : (s t : Subject) → IsSame s t → Like s.element t.element
like s t h = record { class = h.class; storey = h.storey; triangles = h.triangles }

abbrev fits_by : Rule → Bool → List ℕ → List ℕ → Option (List ℕ) → Option (List ℕ) → Bool
fits_by rule same a b s t = passes_classes rule a b && passes_storeys rule.storey s t && passes_level rule.level s t && passes_models rule.models same

fits_like : (rule : Rule) (x y u v : Element) (same : Bool) → Like x u → Like y v → fits rule x y same ≡ fits rule u v same
fits_like rule x y u v same h k =
    ap (λ c. fits_by rule same c y.class x.storey y.storey) h.class ∙ ap (λ c. fits_by rule same u.class c x.storey y.storey) k.class
    ∙ ap (λ s. fits_by rule same u.class v.class s y.storey) h.storey ∙ ap (λ s. fits_by rule same u.class v.class u.storey s) k.storey

rule_like : (rules : List Rule) (n : ℕ) (x y u v : Element) (same : Bool) → Like x u → Like y v → rule_from n rules x y same ≡ rule_from n rules u v same
rule_like [] n x y u v same h k = refl
rule_like (r ∷ rules) n x y u v same h k =
    ap₂ (λ b o. cond b (decided r.kind n) o) (fits_like r x y u v same h k) (rule_like rules (n + 1) x y u v same h k)

near_like : (x y u v : Element) (d : ℕ) → Like x u → Like y v → is_near x y d ≡ is_near u v d
unfolding is_near
near_like x y u v d h k = ap₂ (λ ps qs. is_near_lists ps qs d) h.triangles k.triangles

pierce_like : (x y u v : Element) → Like x u → Like y v → is_piercing x y ≡ is_piercing u v
unfolding is_piercing
pierce_like x y u v h k = ap₂ (λ ps qs. is_piercing_lists ps qs) h.triangles k.triangles

meet_like : (m : Meeting) (d : ℕ) (x y u v : Element) → Like x u → Like y v → meet_by m d x y ≡ meet_by m d u v
meet_like Within d x y u v h k = near_like x y u v (in_grid_numbers d) h k
meet_like Through d x y u v h k = pierce_like x y u v h k

by_like : (o : Option Found) (x y u v : Element) → Like x u → Like y v → clash_by o x y ≡ clash_by o u v
by_like None x y u v h k = refl
by_like (Some f) x y u v h k = ap (λ b. cond b (Some f.rule) None) (meet_like f.meeting f.distance x y u v h k)

name_of : (s t : Subject) → IsSame s t → s.name ≡ t.name
name_of s t h = ap (λ (k : ElementKey). k.model) h.key

clash_like : (rules other : List Rule) (s t u v : Subject) → rules ≡ other → IsSame s u → IsSame t v → clash_of rules s t ≡ clash_of other u v
clash_like rules other s t u v e h k =
    by_like (rule_between rules s t) s.element t.element u.element v.element (like s u h) (like t v k)
    ∙ ap (λ o. clash_by o u.element v.element)
    (rule_like rules 0 s.element t.element u.element v.element (bytes_eq s.name t.name) (like s u h) (like t v k)
    ∙ ap₂ (λ m n. rule_from 0 rules u.element v.element (bytes_eq m n)) (name_of s u h) (name_of t v k)
    ∙ ap (λ rs. rule_from 0 rs u.element v.element (bytes_eq u.name v.name)) e)

-- one surface has one box
box_like : (s t : Subject) (k m : Extent) → IsSame s t → IsBoxOf s k → IsBoxOf t m → k ≡ m
box_like s t k m h a b = extent_same t.element.triangles k m (subst (λ (ts : List Triangle). IsExtentOf ts k) h.triangles a) b

module _ (g h : GridValue) (cell : Cell) (first : AreBoxes (subjects_of g.version.models) g.boxes) (second : AreBoxes (subjects_of h.version.models) h.boxes) (same : IsUnmoved g h cell) where
  abbrev before : List ℕ
  before = members g.boxes cell

  abbrev after : List ℕ
  after = members h.boxes cell

  count : length before ≡ length after
  count =
      sym (length-map before (subject_at (subjects_of g.version.models))) ∙ zip_length IsSame (subjects_at g before) (subjects_at h after) same.members
      ∙ length-map after (subject_at (subjects_of h.version.models))

  alike : (i : ℕ) → i < length before → IsSame (subject_at (subjects_of g.version.models) (number_at before i)) (subject_at (subjects_of h.version.models) (number_at after i))
  alike i l =
      let k : i < length (subjects_at g before) = omega (arith, l, length-map before (subject_at (subjects_of g.version.models))) in
      let m : i < length after = omega (arith, l, count) in
      let z = zip_at IsSame (subjects_at g before) (subjects_at h after) i nobody nobody same.members k in
      subst (λ s. IsSame s (subject_at (subjects_of h.version.models) (number_at after i))) (get_or-map (subject_at (subjects_of g.version.models)) before i 0 nobody l)
      (subst (λ t. IsSame (get_or (subjects_at g before) i nobody) t) (get_or-map (subject_at (subjects_of h.version.models)) after i 0 nobody m) z)

  boxed : (i : ℕ) → i < length before → box_at g.boxes (number_at before i) ≡ box_at h.boxes (number_at after i)
  boxed i l =
      let m : i < length after = omega (arith, l, count) in
      let a : number_at before i < length g.boxes = places_within (holds cell) g.boxes before refl i 0 l in
      let b : number_at after i < length h.boxes = places_within (holds cell) h.boxes after refl i 0 m in
      box_like (subject_at (subjects_of g.version.models) (number_at before i)) (subject_at (subjects_of h.version.models) (number_at after i)) _ _ (alike i l)
      (zip_at IsBoxOf (subjects_of g.version.models) g.boxes (number_at before i) nobody nowhere first (omega (arith, a, zip_length IsBoxOf (subjects_of g.version.models) g.boxes first)))
      (zip_at IsBoxOf (subjects_of h.version.models) h.boxes (number_at after i) nobody nowhere second (omega (arith, b, zip_length IsBoxOf (subjects_of h.version.models) h.boxes second)))

  rules_like : (i j : ℕ) → i < length before → j < length before → rule_at g.version g.boxes cell before i j ≡ rule_at h.version h.boxes cell after i j
  rules_like i j k l =
      ap₂ (λ c o. cond c o None) (ap₂ (λ a b. is_cell (owner_of a b) cell) (boxed i k) (boxed j l))
      (clash_like g.version.rules h.version.rules _ _ _ _ same.rules (alike i k) (alike j l))

  pub unmoved : own_places g cell ≡ own_places h cell
  unmoved =
      pairs_like (length before) (λ i j. rule_at g.version g.boxes cell before i j) (λ i j. rule_at h.version h.boxes cell after i j) rules_like
      ∙ ap (λ n. pairs_by n (λ i j. rule_at h.version h.boxes cell after i j)) count
