-- An instance that has a flaw lacks the form of its row.
use Rattle.std.proofs.Common.{◌≡◌, inl, inr, Bool, true, false, List, [], ◌∷◌, length, get_or, Option, Some, None, arith, ℕ, ◌↔◌, IsTrue, refl, sym, subst}
use Rattle.std.specs.Bool.{MatchBool}
use Rattle.std.specs.Option.{MatchOption}
use Rattle.std.specs.List.{slice_get}
use Rattle.bim_text.proofs.Unique.{not_whole}
use Rattle.p21_values.specs.declared.value.Value21.{Value21}
use Rattle.p21_values.specs.declared.value.Instance.{Instance}
use Rattle.ifc_schema.specs.declared.flaw.Flaw.{Flaw}
use Rattle.ifc_schema.specs.declared.flaw.Flaw.TheVariants.{Dangling, BadShape}
use Rattle.ifc_schema.specs.declared.form.Attribute.{Attribute}
use Rattle.ifc_schema.specs.declared.form.Leaf.{Leaf}
use Rattle.ifc_schema.specs.declared.form.Leaf.TheVariants as leaf
use Rattle.ifc_schema.specs.declared.form.Count.{Count}
use Rattle.ifc_schema.specs.declared.form.Shape.{Shape}
use Rattle.ifc_schema.specs.declared.form.Shape.TheVariants as shape
use Rattle.ifc_schema.specs.Forms.{fits}
use Rattle.p21_values.specs.Values.{number_of, items_of, measure_of}
use Rattle.ifc_schema.specs.AttributeTable.{row_at}
use Rattle.ifc_schema.specs.BodyRepresentations.{applies}
use Rattle.ifc_schema.specs.Used.{IsMapped}
use Rattle.ifc_schema.specs.Surveys.{UsedFlaw}
use Rattle.ifc_schema.specs.Flaws.{NumberFlaw, WholeFlaw, LeafFlaw, FirstFlaw, ItemsFlaw, ListFlaw, ShapeFlaw, ValueFlaw, PlaceFlaw, AttributeFlaw, InstanceFlaw, absent_stands}

-- A thing that has no flaw has no flaw that is one.
abbrev pub Apart : (Option Flaw → Type 0) → Type 0
Apart P = (flaw : Flaw) → P None → P (Some flaw) → ⊥

-- An equation tells one answer.
told : (o : Option Flaw) → Apart (λ f. f ≡ o)
told o flaw h k = cc

-- Of two things of which one is told, both keep them apart.

by_bool : (b : Bool) (P Q : Option Flaw → Type 0) → Apart P → Apart Q → Apart (λ f. MatchBool b (P f) (Q f))
by_bool true P Q p q = p
by_bool false P Q p q = q

by_option : {X : Type 0} (o : Option X) (P : Option Flaw → Type 0) (Q : X → Option Flaw → Type 0) → Apart P → ((x : X) → Apart (Q x)) → Apart (λ f. MatchOption o (P f) (λ x. Q x f))
by_option None P Q p q = p
by_option (Some x) P Q p q = q x

-- Leaves.

number_apart : (bs : List ℕ) → Apart (NumberFlaw bs)
number_apart bs BadShape h k = k h.1.spelling h.1.read
number_apart bs (Dangling to) h k = k

whole_apart : (bs : List ℕ) → Apart (WholeFlaw bs)
whole_apart bs BadShape h (inl k) = k h.1.spelling h.1.read
whole_apart bs BadShape h (inr k) = not_whole bs k.0 h.0 k.1 h.1 k.2
whole_apart bs (Dangling to) h k = k

pub leaf_apart : (world : List Instance) (l : Leaf) (v : Value21) → Apart (LeafFlaw world l v)
leaf_apart world leaf.Number v = by_option (number_of v) (λ f. f ≡ Some BadShape) NumberFlaw (told (Some BadShape)) number_apart
leaf_apart world leaf.Whole v = by_option (number_of v) (λ f. f ≡ Some BadShape) WholeFlaw (told (Some BadShape)) whole_apart
leaf_apart world leaf.Measure v = by_option (measure_of v) (λ f. f ≡ Some BadShape) NumberFlaw (told (Some BadShape)) number_apart
leaf_apart world leaf.Text v = λ flaw h k. cc
leaf_apart world leaf.Enumeration v = λ flaw h k. cc
leaf_apart world (leaf.Reference t) v = λ flaw h k. cc
leaf_apart world (leaf.AnyReference t) v = λ flaw h k. cc
leaf_apart world leaf.Anything v = λ flaw h k. cc

-- Lists.

pub first_apart : {X : Type 0} (F : X → Option Flaw → Type 0) → ((x : X) → Apart (F x)) → (xs : List X) → Apart (FirstFlaw F xs)
first_apart F apart [] flaw all f = absurd (let l = f.within in omega arith)
first_apart F apart (x ∷ xs) flaw all f = apart (get_or (x ∷ xs) f.place x) flaw (all f.place x f.within) (f.here x)

pub list_apart : (count : Count) (F : Value21 → Option Flaw → Type 0) → ((v : Value21) → Apart (F v)) → (v : Value21) → Apart (ListFlaw count F v)
list_apart count F apart v =
    by_option (items_of v) (λ f. f ≡ Some BadShape) (ItemsFlaw count F) (told (Some BadShape))
    (λ vs. by_bool (fits count (length vs)) (FirstFlaw F vs) (λ f. f ≡ Some BadShape) (first_apart F apart vs) (told (Some BadShape)))

shape_apart : (world : List Instance) (l : Leaf) (s : Shape) (v : Value21) → Apart (ShapeFlaw world l s v)
shape_apart world l shape.One v = leaf_apart world l v
shape_apart world l shape.Identifier v = λ flaw h k. cc
shape_apart world l (shape.List count) v = list_apart count (LeafFlaw world l) (leaf_apart world l) v
shape_apart world l (shape.Table outer inner) v = list_apart outer (ListFlaw inner (LeafFlaw world l)) (list_apart inner (LeafFlaw world l) (leaf_apart world l)) v

-- Attributes and instances.

value_apart : (world : List Instance) (a : Attribute) (v : Value21) → Apart (ValueFlaw world a v)
value_apart world a v = by_bool (absent_stands a.need v) (λ f. f ≡ None) (ShapeFlaw world a.leaf a.shape v) (told None) (shape_apart world a.leaf a.shape v)

place_apart : (world : List Instance) (a : Attribute) (o : Option Value21) → Apart (PlaceFlaw world a o)
place_apart world a None = λ flaw h k. cc
place_apart world a (Some v) = value_apart world a v

pub attribute_apart : (world : List Instance) (m : Bool) (i : Instance) (a : Attribute) → Apart (AttributeFlaw world m i a)
attribute_apart world m i a = by_bool (applies world m i a.when) (PlaceFlaw world a (slice_get i.values a.at)) (λ f. f ≡ None) (place_apart world a (slice_get i.values a.at)) (told None)

instance_apart : (world : List Instance) (m : Bool) (i : Instance) → Apart (InstanceFlaw world m i)
instance_apart world m i = first_apart (AttributeFlaw world m i) (attribute_apart world m i) (row_at i)

-- two tests of one thing give one answer
pub one_test : (a b : Bool) (P : Type 0) → IsTrue a ↔ P → IsTrue b ↔ P → a ≡ b
one_test true true P f g = refl
one_test true false P f g = sym (g.1 (f.0 refl))
one_test false true P f g = f.1 (g.0 refl)
one_test false false P f g = refl

-- an instance that is used and has a flaw lacks the form of its row
pub used_apart : (world : List Instance) (id : ℕ) → Apart (UsedFlaw world id)
used_apart world id flaw h k =
    let i : h.instance ≡ k.instance = (let f = h.found in let g = k.found in cc) in
    let m : h.mapped ≡ k.mapped = one_test h.mapped k.mapped (IsMapped world id) h.is_mapped k.is_mapped in
    instance_apart world k.mapped k.instance flaw (subst (λ (b : Bool). InstanceFlaw world b k.instance None) m (subst (λ (j : Instance). InstanceFlaw world h.mapped j None) i h.flawed)) k.flawed
