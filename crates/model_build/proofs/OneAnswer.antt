-- Instances have one first fault at most, and make one model at most; bytes have one answer.
use Rattle.std.proofs.Common.{◌≡◌, ℕ, zero, suc, ◌⊎◌, inl, inr, List, [], ◌∷◌, get_or, Contains, IsPermutation, Option, Some, None, Result, Ok, Err, refl, sym, ap, ◌∙◌, subst, arith}
use Rattle.std.specs.Prelude.{drop}
use Rattle.std.specs.Bool.{IsTrue}
use Rattle.std.specs.List.{AllPairs, AllZip}
use Rattle.std.specs.Ordering.{nat_cmp, is_lt, ordering_reverse}
use Rattle.std.specs.Cmp.Lexicographic.{slice_cmp}
use Rattle.std.specs.declared.cmp.Ordering.{Ordering}
use Rattle.std.specs.declared.cmp.Ordering.TheVariants.{Less, Equal, Greater}
use Rattle.std.proofs.lemmas.Cmp.{nat_list_cmp_total}
use Rattle.std.proofs.lemmas.List.Sorted.{IsPermutation-sym, Contains-permutation}
use Rattle.bim_model.specs.declared.upload.Mode.{Mode}
use Rattle.bim_model.specs.declared.upload.UploadFault.{UploadFault}
use Rattle.bim_model.specs.declared.upload.UploadFault.TheVariants as faults
use Rattle.bim_model.specs.declared.guid.Guid.{Guid}
use Rattle.bim_model.specs.declared.element.Element.{Element}
use Rattle.bim_model.specs.Models.{is_below}
use Rattle.p21_values.specs.declared.value.Instance.{Instance}
use Rattle.p21_reader.proofs.OneAnswer.{one_exchange, refused, one_fault}
use Rattle.p21_values.proofs.PlaceLemmas.{trichotomy}
use Rattle.ifc_schema.specs.Surveys.{IsModelElement}
use Rattle.ifc_schema.specs.Used.{Used}
use Rattle.ifc_schema.proofs.OneFlaw.{one_survey_fault}
use Rattle.ifc_units.specs.declared.scale.Scale.{Scale}
use Rattle.ifc_units.specs.declared.length_error.GridFault.{GridFault}
use Rattle.ifc_units.specs.Lengths.{InstanceRefused}
use Rattle.ifc_units.proofs.UnitFacts.{one_unit, one_unit_fault}
use Rattle.ifc_units.proofs.InstanceFacts.{one_instance_fault}
use Rattle.spatial_tree.proofs.OneStorey.{one_storey, one_tree_fault}
use Rattle.model_build.specs.StageFaults.{Stage, first_fault, LeastFault}
use Rattle.model_build.specs.Stages.{LoopFault, ItemStage, LengthStage, StuckFault, StuckStage, ReachFault, ReachStage, InUnit, stages, FileFault}
use Rattle.model_build.specs.DuplicateGuids.{GuidFault}
use Rattle.ifc_elements.specs.ElementTexts.{name_at}
use Rattle.model_build.specs.NamedPlacements.{IsNamed}
use Rattle.model_build.specs.FaultyInstances.{IsBadSet, IsOblique}
use Rattle.model_build.specs.Unsupported.{IsUnsupported}
use Rattle.model_build.specs.Faces.{IsStuckFace}
use Rattle.model_build.specs.LengthFaults.{LengthFault, told_of}
use Rattle.ifc_elements.specs.Storeys.{IsStoreyName}
use Rattle.ifc_elements.specs.Surfaces.{IsSurface}
use Rattle.ifc_elements.specs.Elements.{IsElement}
use Rattle.model_build.specs.Profile.{IsModelOf, Profile}
use Rattle.ifc_elements.proofs.OneSurface.{one_surface}
use Rattle.model_build.proofs.OneList.{same_lists}

-- A stage has one fault at most.

abbrev pub One : Stage → Type 0
One S = (f g : UploadFault) → S f → S g → f ≡ g

abbrev AllOne : List Stage → Type 0
AllOne [] = Unit {0}
AllOne (S ∷ rest) = One S × AllOne rest

-- stages in their order have one first fault at most
first_one : (stages : List Stage) → AllOne stages → One (first_fault stages)
first_one [] all f g h k = absurd h
first_one (S ∷ rest) all f g (inl h) (inl k) = all.0 f g h k
first_one (S ∷ rest) all f g (inl h) (inr k) = absurd (k.0 f h)
first_one (S ∷ rest) all f g (inr h) (inl k) = absurd (h.0 g k)
first_one (S ∷ rest) all f g (inr h) (inr k) = first_one rest all.1 f g h.1 k.1

-- a stage has one least fault at most
pub least_one : (Of : ℕ → Type 0) (FaultOf : ℕ → UploadFault → Type 0) → ((id : ℕ) (f g : UploadFault) → FaultOf id f → FaultOf id g → f ≡ g) → One (LeastFault Of FaultOf)
least_one Of FaultOf one f g h k = elim (trichotomy h.id k.id) [
  | inl below ↦ absurd (k.lower h.id below h.of f h.here)
  | inr rest ↦ elim rest [
    | inl same ↦ one k.id f g (subst (λ (id : ℕ). FaultOf id f) same h.here) k.here
    | inr above ↦ absurd (h.lower k.id above k.of g k.here)
  ]
]

length_one : (world : List Instance) (scale : Scale) (mode : Mode) (id : ℕ) (f g : UploadFault) → LengthFault world scale mode id f → LengthFault world scale mode id g → f ≡ g
length_one world scale mode id f g h k =
    let same : h.2.instance ≡ k.2.instance = (let a = h.2.found in let b = k.2.found in cc) in
    let one : h.0 ≡ k.0 = one_instance_fault scale mode k.2.instance h.0 k.0 (subst (λ (i : Instance). InstanceRefused scale mode i h.0) same h.2.holds) k.2.holds in
    h.1 ∙ ap (λ (r : GridFault). told_of id r) one ∙ sym k.1

unit_one : (world : List Instance) (S : Scale → Stage) → ((scale : Scale) → One (S scale)) → One (InUnit world S)
unit_one world S one f g h k = one k.0 f g (subst (λ (s : Scale). S s f) (one_unit world h.0 k.0 h.1 k.1) h.2) k.2

stuck_one : (world : List Instance) (mode : Mode) (scale : Scale) (id : ℕ) (f g : UploadFault) → StuckFault world mode scale id f → StuckFault world mode scale id g → f ≡ g
stuck_one world mode scale id f g (inl h) (inl k) = h.1 ∙ sym k.1
stuck_one world mode scale id f g (inl h) (inr k) = absurd (k.0 h.0)
stuck_one world mode scale id f g (inr h) (inl k) = absurd (h.0 k.0)
stuck_one world mode scale id f g (inr h) (inr k) = h.1 ∙ sym k.1

pub one_file_fault : (world : List Instance) (mode : Mode) (f g : UploadFault) → FileFault world mode f → FileFault world mode g → f ≡ g
one_file_fault world mode =
    let reach : AllOne (drop 12 (stages world mode)) = (unit_one world (ReachStage world mode) (λ scale. least_one (IsModelElement world) (ReachFault world mode scale) (λ id f g h k. h.0 ∙ sym k.0)), tt) in
    let triangles : AllOne (drop 11 (stages world mode)) = ((λ f g h k. h.0 ∙ sym k.0), reach) in
    let stuck : AllOne (drop 10 (stages world mode)) = (unit_one world (StuckStage world mode) (λ scale. least_one (IsStuckFace world scale mode) (StuckFault world mode scale) (stuck_one world mode scale)), triangles) in
    let corners : AllOne (drop 9 (stages world mode)) = ((λ f g h k. h.0 ∙ sym k.0), stuck) in
    let lengths : AllOne (drop 8 (stages world mode)) = (unit_one world (LengthStage world mode) (λ scale. least_one (Used world) (LengthFault world scale mode) (length_one world scale mode)), corners) in
    let indexes : AllOne (drop 7 (stages world mode)) = (least_one (Used world) (λ id fault. (fault ≡ faults.BadIndex id) × IsBadSet world id) (λ id f g h k. h.0 ∙ sym k.0), lengths) in
    let items : AllOne (drop 6 (stages world mode)) = (unit_one world (ItemStage world mode) (λ scale. least_one (IsUnsupported world scale mode) (λ id fault. fault ≡ faults.UnsupportedItem id) (λ id f g h k. h ∙ sym k)), indexes) in
    let axes : AllOne (drop 5 (stages world mode)) = (least_one (Used world) (λ id fault. (fault ≡ faults.Oblique id) × IsOblique world id) (λ id f g h k. h.0 ∙ sym k.0), items) in
    let loops : AllOne (drop 4 (stages world mode)) = (least_one (IsNamed world (IsModelElement world)) (LoopFault world) (λ id f g h k. h.0 ∙ sym k.0), axes) in
    let guids : AllOne (drop 3 (stages world mode)) = (least_one (IsModelElement world) (GuidFault world (IsModelElement world)) (λ id f g h k. h.0 ∙ sym k.0), loops) in
    first_one (stages world mode) (one_survey_fault world, (one_unit_fault world, (one_tree_fault world, guids)))

-- A number has one element at most.

one_some : {A : Type 0} (o : Option A) (a b : A) → o ≡ Some a → o ≡ Some b → a ≡ b
one_some o a b h k = let e : Some a ≡ Some b = sym h ∙ k in cc

one_storey_name : (world : List Instance) (id : ℕ) (a b : Option (List ℕ)) → IsStoreyName world id a → IsStoreyName world id b → a ≡ b
one_storey_name world id None None h k = refl
one_storey_name world id None (Some b) h k = absurd (h k.0 k.1)
one_storey_name world id (Some a) None h k = absurd (k h.0 h.1)
one_storey_name world id (Some a) (Some b) h k =
    let e = one_storey world id h.0 k.0 h.1 k.1 in
    ap Some (one_some (name_at world k.0) a b (subst (λ (n : ℕ). name_at world n ≡ Some a) e h.2) k.2)

same_guid : (g h : Guid) → g.chars ≡ h.chars → g ≡ h
same_guid g h e = let r : record { chars = g.chars } ≡ h = rw e refl in r

same_element : (e f : Element) → e.guid ≡ f.guid → e.class ≡ f.class → e.name ≡ f.name → e.storey ≡ f.storey → e.triangles ≡ f.triangles → e ≡ f
same_element e f g c n s t = let r : record { guid = e.guid; class = e.class; name = e.name; storey = e.storey; triangles = e.triangles } ≡ f = rw (g, c, n, s, t) refl in r

one_element : (world : List Instance) (scale : Scale) (mode : Mode) (id : ℕ) (e f : Element) → IsElement world scale mode id e → IsElement world scale mode id f → e ≡ f
one_element world scale mode id e f h k =
    let same : h.instance ≡ k.instance = (let a = h.found in let b = k.found in cc) in
    same_element e f
    (same_guid e.guid f.guid (let a = h.guid in let b = k.guid in cc))
    (let a = h.class in let b = k.class in cc)
    (let a = h.name in let b = k.name in cc)
    (one_storey_name world id e.storey f.storey h.storey k.storey)
    (one_surface world scale mode k.instance e.triangles f.triangles (subst (λ (i : Instance). IsSurface world scale mode i e.triangles) same h.surface) k.surface)

one_zip : {A B : Type 0} (R : A → B → Type 0) → ((a : A) (b c : B) → R a b → R a c → b ≡ c) → (xs : List A) (bs cs : List B) → AllZip R xs bs → AllZip R xs cs → bs ≡ cs
one_zip R one [] [] [] h k = refl
one_zip R one [] [] (c ∷ cs) h k = absurd k
one_zip R one [] (b ∷ bs) cs h k = absurd h
one_zip R one (a ∷ xs) [] cs h k = absurd h
one_zip R one (a ∷ xs) (b ∷ bs) [] h k = absurd k
one_zip R one (a ∷ xs) (b ∷ bs) (c ∷ cs) h k = ap (λ x. x ∷ bs) (one a b c h.0 k.0) ∙ ap (λ ys. c ∷ ys) (one_zip R one xs bs cs h.1 k.1)

-- Lists of the same items that rise strictly are one list.

abbrev IsStrict : {X : Type 0} → (X → X → Type 0) → Type 0
IsStrict {X} R = (x y : X) → R x y → R y x → ⊥

rest : {X : Type 0} (R : X → X → Type 0) (x : X) (xs : List X) → AllPairs R (x ∷ xs) → AllPairs R xs
rest R x xs h = λ i j d lt le. h (suc i) (suc j) d (omega arith) (omega arith)

above : {X : Type 0} (R : X → X → Type 0) (x : X) (xs : List X) (n : X) → AllPairs R (x ∷ xs) → Contains xs n → R x n
above R x xs n h c = let l : R x (get_or xs c.0 n) = h 0 (suc c.0) n (omega arith) (let m = c.1 in omega arith) in subst (λ m. R x m) c.2 l

first : {X : Type 0} (x : X) (xs : List X) → Contains (x ∷ xs) x
first x xs = (0, omega arith, refl)

later : {X : Type 0} (x : X) (xs : List X) (n : X) → Contains xs n → Contains (x ∷ xs) n
later x xs n c = (suc c.0, (let m = c.1 in omega arith), c.2)

either : {X : Type 0} (x : X) (xs : List X) (n : X) → Contains (x ∷ xs) n → (x ≡ n) ⊎ Contains xs n
either x xs n (zero, lt, e) = inl e
either x xs n (suc k, lt, e) = inr (k, omega arith, e)

heads : {X : Type 0} (R : X → X → Type 0) → IsStrict R → (x y : X) (xs ys : List X) → AllPairs R (x ∷ xs) → AllPairs R (y ∷ ys) → Contains (y ∷ ys) x → Contains (x ∷ xs) y → x ≡ y
heads R strict x y xs ys r s c d = elim (either y ys x c) [
  | inl e ↦ sym e
  | inr a ↦ elim (either x xs y d) [
    | inl e ↦ e
    | inr b ↦ absurd (strict x y (above R x xs y r b) (above R y ys x s a))
  ]
]

tails : {X : Type 0} (R : X → X → Type 0) → IsStrict R → (x y : X) (xs ys : List X) → x ≡ y → AllPairs R (x ∷ xs) → ((n : X) → Contains (x ∷ xs) n → Contains (y ∷ ys) n) → (n : X) → Contains xs n → Contains ys n
tails R strict x y xs ys e r f n c = elim (either y ys n (f n (later x xs n c))) [
  | inl g ↦ absurd (let l = above R x xs n r c in let q : R n n = subst (λ m. R m n) (e ∙ g) l in strict n n q q)
  | inr a ↦ a
]

one_order : {X : Type 0} (R : X → X → Type 0) → IsStrict R → (xs ys : List X) → AllPairs R xs → AllPairs R ys → ((n : X) → Contains xs n → Contains ys n) → ((n : X) → Contains ys n → Contains xs n) → xs ≡ ys
one_order R strict [] [] r s f g = refl
one_order R strict [] (y ∷ ys) r s f g = absurd (let c = g y (first y ys) in let l = c.1 in omega arith)
one_order R strict (x ∷ xs) [] r s f g = absurd (let c = f x (first x xs) in let l = c.1 in omega arith)
one_order R strict (x ∷ xs) (y ∷ ys) r s f g =
    let e = heads R strict x y xs ys r s (f x (first x xs)) (g y (first y ys)) in
    let t = one_order R strict xs ys (rest R x xs r) (rest R y ys s) (tails R strict x y xs ys e r f) (tails R strict y x ys xs (sym e) s g) in
    rw (e, t) refl

-- Identifiers are ordered strictly.

not_both : (o : Ordering) → IsTrue (is_lt o) → IsTrue (is_lt (ordering_reverse o)) → ⊥
not_both Less h k = cc
not_both Equal h k = cc
not_both Greater h k = cc

guids_strict : (a b : List ℕ) → IsTrue (is_below a b) → IsTrue (is_below b a) → ⊥
guids_strict a b h k = not_both (slice_cmp nat_cmp a b) h (subst (λ o. IsTrue (is_lt o)) (nat_list_cmp_total.antisymm b a) k)

-- The model.

pub one_model : (world : List Instance) (mode : Mode) (a b : List Element) → IsModelOf world mode a → IsModelOf world mode b → a ≡ b
one_model world mode a b h k =
    let scales = one_unit world h.scale k.scale h.unit k.unit in
    let ids = same_lists (IsModelElement world) h.ids k.ids h.lists k.lists in
    let each : AllZip (IsElement world k.scale mode) k.ids h.made = subst (λ is. AllZip (IsElement world k.scale mode) is h.made) ids (subst (λ s. AllZip (IsElement world s mode) h.ids h.made) scales h.each) in
    let made = one_zip (IsElement world k.scale mode) (one_element world k.scale mode) k.ids h.made k.made each k.each in
    let q : IsPermutation h.made b = subst (λ m. IsPermutation m b) (sym made) k.order in
    one_order (λ (e f : Element). IsTrue (is_below e.guid.chars f.guid.chars)) (λ e f. guids_strict e.guid.chars f.guid.chars) a b h.rising k.rising
    (λ n c. Contains-permutation h.made b n q (Contains-permutation a h.made n (IsPermutation-sym h.made a h.order) c))
    (λ n c. Contains-permutation h.made a n h.order (Contains-permutation b h.made n (IsPermutation-sym h.made b q) c))

-- The bytes.

pub one_answer : (bytes : List ℕ) (mode : Mode) (a b : Result (List Element) UploadFault) → Profile bytes mode a → Profile bytes mode b → a ≡ b
unfolding Profile
one_answer bytes mode (Ok a) (Ok b) h k =
    let same = one_exchange bytes h.0 k.0 h.1 k.1 in
    ap Ok (one_model k.0 mode a b (subst (λ (w : List Instance). IsModelOf w mode a) same h.3) k.3)
one_answer bytes mode (Ok a) (Err g) h (inl k) = absurd (refused bytes g h.0 k h.1)
one_answer bytes mode (Ok a) (Err g) h (inr k) =
    absurd (h.2 g (subst (λ (w : List Instance). FileFault w mode g) (one_exchange bytes k.0 h.0 k.1 h.1) k.2))
one_answer bytes mode (Err f) (Ok b) (inl h) k = absurd (refused bytes f k.0 h k.1)
one_answer bytes mode (Err f) (Ok b) (inr h) k =
    absurd (k.2 f (subst (λ (w : List Instance). FileFault w mode f) (one_exchange bytes h.0 k.0 h.1 k.1) h.2))
one_answer bytes mode (Err f) (Err g) (inl h) (inl k) = ap Err (one_fault bytes f g h k)
one_answer bytes mode (Err f) (Err g) (inl h) (inr k) = absurd (refused bytes f k.0 h k.1)
one_answer bytes mode (Err f) (Err g) (inr h) (inl k) = absurd (refused bytes g h.0 k h.1)
one_answer bytes mode (Err f) (Err g) (inr h) (inr k) =
    ap Err (one_file_fault k.0 mode f g (subst (λ (w : List Instance). FileFault w mode f) (one_exchange bytes h.0 k.0 h.1 k.1) h.2) k.2)
