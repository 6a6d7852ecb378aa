-- An instance has one flaw at most, and a file one fault of its survey.
use Rattle.std.proofs.Common.{◌≡◌, ℕ, inl, inr, Bool, true, false, List, [], ◌∷◌, length, get_or, Option, Some, None, arith, refl, sym, ap, ◌∙◌, subst}
use Rattle.std.specs.Bool.{MatchBool}
use Rattle.std.specs.Option.{MatchOption, is_some}
use Rattle.std.specs.List.{slice_get}
use Rattle.bim_model.specs.declared.upload.UploadFault.{UploadFault}
use Rattle.p21_values.specs.declared.value.Value21.{Value21}
use Rattle.p21_values.specs.declared.value.Instance.{Instance}
use Rattle.p21_values.proofs.PlaceLemmas.{trichotomy}
use Rattle.p21_values.specs.Values.{number_of, words_of, reference_of, items_of, is_enumeration, measure_of}
use Rattle.ifc_instances.specs.EntityLookup.{some_passes}
use Rattle.ifc_schema.specs.declared.flaw.Flaw.{Flaw}
use Rattle.ifc_schema.specs.declared.flaw.Flaw.TheVariants.{Dangling, BadShape}
use Rattle.ifc_schema.specs.declared.form.Attribute.{Attribute}
use Rattle.ifc_schema.specs.declared.form.Leaf.{Leaf}
use Rattle.ifc_schema.specs.declared.form.Leaf.TheVariants as leaf
use Rattle.ifc_schema.specs.declared.form.Count.{Count}
use Rattle.ifc_schema.specs.declared.form.Shape.{Shape}
use Rattle.ifc_schema.specs.declared.form.Shape.TheVariants as shape
use Rattle.ifc_schema.specs.declared.outcome.Survey.{Survey}
use Rattle.ifc_schema.specs.AttributeWords.{says_guid}
use Rattle.ifc_schema.specs.Forms.{fits, allows_missing}
use Rattle.ifc_schema.specs.AttributeTable.{row_at}
use Rattle.ifc_schema.specs.BodyRepresentations.{applies}
use Rattle.ifc_schema.specs.Used.{IsMapped}
use Rattle.ifc_schema.specs.Surveys.{UsedFlaw, SurveyFault, Surveyed, fault_of}
use Rattle.ifc_schema.specs.Flaws.{NumberFlaw, WholeFlaw, LeafFlaw, FirstFlaw, ItemsFlaw, ListFlaw, ShapeFlaw, ValueFlaw, PlaceFlaw, AttributeFlaw, InstanceFlaw, absent_stands, bad_unless, wanted_flaw, any_flaw, reference_flaw}
use Rattle.ifc_schema.proofs.Apart.{Apart, leaf_apart, list_apart, attribute_apart, one_test, used_apart}

-- A thing has one flaw at most.
abbrev One : (Option Flaw → Type 0) → Type 0
One P = (f g : Flaw) → P (Some f) → P (Some g) → f ≡ g

told : (o : Option Flaw) → One (λ f. f ≡ o)
told o f g h k = let e : Some f ≡ Some g = h ∙ sym k in cc

by_bool : (b : Bool) (P Q : Option Flaw → Type 0) → One P → One Q → One (λ f. MatchBool b (P f) (Q f))
by_bool true P Q p q = p
by_bool false P Q p q = q

by_option : {X : Type 0} (o : Option X) (P : Option Flaw → Type 0) (Q : X → Option Flaw → Type 0) → One P → ((x : X) → One (Q x)) → One (λ f. MatchOption o (P f) (λ x. Q x f))
by_option None P Q p q = p
by_option (Some x) P Q p q = q x

-- Leaves.

number_one : (bs : List ℕ) → One (NumberFlaw bs)
number_one bs BadShape BadShape h k = refl
number_one bs BadShape (Dangling to) h k = absurd k
number_one bs (Dangling to) g h k = absurd h

whole_one : (bs : List ℕ) → One (WholeFlaw bs)
whole_one bs BadShape BadShape h k = refl
whole_one bs BadShape (Dangling to) h k = absurd k
whole_one bs (Dangling to) g h k = absurd h

leaf_one : (world : List Instance) (l : Leaf) (v : Value21) → One (LeafFlaw world l v)
leaf_one world leaf.Number v = by_option (number_of v) (λ f. f ≡ Some BadShape) NumberFlaw (told (Some BadShape)) number_one
leaf_one world leaf.Whole v = by_option (number_of v) (λ f. f ≡ Some BadShape) WholeFlaw (told (Some BadShape)) whole_one
leaf_one world leaf.Measure v = by_option (measure_of v) (λ f. f ≡ Some BadShape) NumberFlaw (told (Some BadShape)) number_one
leaf_one world leaf.Text v = told (bad_unless (is_some (words_of v)))
leaf_one world leaf.Enumeration v = told (bad_unless (is_enumeration v))
leaf_one world (leaf.Reference t) v = told (reference_flaw (wanted_flaw t world) (reference_of v))
leaf_one world (leaf.AnyReference t) v = told (reference_flaw (any_flaw world) (reference_of v))
leaf_one world leaf.Anything v = told None

-- Lists.

first_one : {X : Type 0} (F : X → Option Flaw → Type 0) → ((x : X) → Apart (F x)) → ((x : X) → One (F x)) → (xs : List X) → One (FirstFlaw F xs)
first_one F apart one [] f g h k = absurd (let l = h.within in omega arith)
first_one F apart one (x ∷ xs) f g h k = elim (trichotomy h.place k.place) [
  | inl before ↦ absurd (apart (get_or (x ∷ xs) h.place x) f (k.before h.place before x) (h.here x))
  | inr rest ↦ elim rest [
    | inl same ↦ one (get_or (x ∷ xs) k.place x) f g (subst (λ (p : ℕ). F (get_or (x ∷ xs) p x) (Some f)) same (h.here x)) (k.here x)
    | inr behind ↦ absurd (apart (get_or (x ∷ xs) k.place x) g (h.before k.place behind x) (k.here x))
  ]
]

list_one : (count : Count) (F : Value21 → Option Flaw → Type 0) → ((v : Value21) → Apart (F v)) → ((v : Value21) → One (F v)) → (v : Value21) → One (ListFlaw count F v)
list_one count F apart one v =
    by_option (items_of v) (λ f. f ≡ Some BadShape) (ItemsFlaw count F) (told (Some BadShape))
    (λ vs. by_bool (fits count (length vs)) (FirstFlaw F vs) (λ f. f ≡ Some BadShape) (first_one F apart one vs) (told (Some BadShape)))

shape_one : (world : List Instance) (l : Leaf) (s : Shape) (v : Value21) → One (ShapeFlaw world l s v)
shape_one world l shape.One v = leaf_one world l v
shape_one world l shape.Identifier v = told (bad_unless (some_passes says_guid (words_of v)))
shape_one world l (shape.List count) v = list_one count (LeafFlaw world l) (leaf_apart world l) (leaf_one world l) v
shape_one world l (shape.Table outer inner) v =
    list_one outer (ListFlaw inner (LeafFlaw world l)) (list_apart inner (LeafFlaw world l) (leaf_apart world l)) (list_one inner (LeafFlaw world l) (leaf_apart world l) (leaf_one world l)) v

-- Attributes and instances.

value_one : (world : List Instance) (a : Attribute) (v : Value21) → One (ValueFlaw world a v)
value_one world a v = by_bool (absent_stands a.need v) (λ f. f ≡ None) (ShapeFlaw world a.leaf a.shape v) (told None) (shape_one world a.leaf a.shape v)

place_one : (world : List Instance) (a : Attribute) (o : Option Value21) → One (PlaceFlaw world a o)
place_one world a None = told (bad_unless (allows_missing a.need))
place_one world a (Some v) = value_one world a v

attribute_one : (world : List Instance) (m : Bool) (i : Instance) (a : Attribute) → One (AttributeFlaw world m i a)
attribute_one world m i a = by_bool (applies world m i a.when) (PlaceFlaw world a (slice_get i.values a.at)) (λ f. f ≡ None) (place_one world a (slice_get i.values a.at)) (told None)

instance_one : (world : List Instance) (m : Bool) (i : Instance) → One (InstanceFlaw world m i)
instance_one world m i = first_one (AttributeFlaw world m i) (attribute_apart world m i) (attribute_one world m i) (row_at i)

used_one : (world : List Instance) (id : ℕ) → One (UsedFlaw world id)
used_one world id f g h k =
    let i : h.instance ≡ k.instance = (let a = h.found in let b = k.found in cc) in
    let m : h.mapped ≡ k.mapped = one_test h.mapped k.mapped (IsMapped world id) h.is_mapped k.is_mapped in
    instance_one world k.mapped k.instance f g (subst (λ (b : Bool). InstanceFlaw world b k.instance (Some f)) m (subst (λ (j : Instance). InstanceFlaw world h.mapped j (Some f)) i h.flawed)) k.flawed

-- Files.

pub one_survey_fault : (world : List Instance) (f g : UploadFault) → SurveyFault world f → SurveyFault world g → f ≡ g
one_survey_fault world f g h k = elim (trichotomy h.id k.id) [
  | inl below ↦ absurd (used_apart world h.id h.flaw (k.least h.id below h.used) h.flawed)
  | inr rest ↦ elim rest [
    | inl same ↦ (let one = used_one world k.id h.flaw k.flaw (subst (λ (id : ℕ). UsedFlaw world id (Some h.flaw)) same h.flawed) k.flawed in
        h.told ∙ ap (λ (id : ℕ). fault_of id h.flaw) same ∙ ap (λ (w : Flaw). fault_of k.id w) one ∙ sym k.told)
    | inr above ↦ absurd (used_apart world k.id k.flaw (h.least k.id above k.used) k.flawed)
  ]
]

pub surveyed_apart : (world : List Instance) (survey : Survey) (f : UploadFault) → Surveyed world survey → SurveyFault world f → ⊥
surveyed_apart world survey f s h = used_apart world h.id h.flaw (s.shaped h.id h.used) h.flawed
