-- What is wrong first with an instance.
use Rattle.std.specs.Prelude.{◌≡◌, ℕ, ◌<◌, ◌&&◌, Bool, if◌then◌else◌, List, length, Option, Some, None, is_some, MatchOption, All}
use Rattle.std.specs.Bool.{MatchBool}
use Rattle.std.specs.List.{HoldsAt, slice_get}
use Rattle.p21_values.specs.declared.value.Value21.{Value21}
use Rattle.p21_values.specs.declared.value.Instance.{Instance}
use Rattle.ifc_schema.specs.declared.flaw.Flaw.{Flaw}
use Rattle.ifc_schema.specs.declared.flaw.Flaw.TheVariants.{Dangling, BadShape}
use Rattle.ifc_schema.specs.declared.form.Attribute.{Attribute}
use Rattle.ifc_schema.specs.declared.form.Targets.{Targets}
use Rattle.ifc_schema.specs.declared.form.Leaf.{Leaf}
use Rattle.ifc_schema.specs.declared.form.Leaf.TheVariants.{Number, Whole, Measure, Text, Enumeration, Reference, AnyReference, Anything}
use Rattle.ifc_schema.specs.declared.form.Count.{Count}
use Rattle.ifc_schema.specs.declared.form.Shape.{Shape}
use Rattle.ifc_schema.specs.declared.form.Shape.TheVariants as shape
use Rattle.ifc_schema.specs.declared.form.Need.{Need}
use Rattle.ifc_schema.specs.AttributeWords.{IsNumber, IsNoNumber, IsWhole, IsNotWhole, says_guid}
use Rattle.ifc_schema.specs.Forms.{fits, holds, allows_absent, allows_missing}
use Rattle.p21_values.specs.Values.{number_of, words_of, reference_of, items_of, measure_of, is_enumeration, is_absent}
use Rattle.p21_values.specs.InstanceLookup.{look}
use Rattle.ifc_instances.specs.EntityLookup.{some_passes}
use Rattle.ifc_schema.specs.AttributeTable.{row_at}
use Rattle.ifc_schema.specs.BodyRepresentations.{applies}

-- Of a single value.

-- what is wrong with a number: nothing, or that it is none
abbrev pub NumberFlaw : List ℕ → Option Flaw → Type 0
NumberFlaw bs None = IsNumber bs
NumberFlaw bs (Some BadShape) = IsNoNumber bs
NumberFlaw bs (Some (Dangling to)) = ⊥

-- what is wrong with a whole number: nothing, or that it is none
abbrev pub WholeFlaw : List ℕ → Option Flaw → Type 0
WholeFlaw bs None = IsWhole bs
WholeFlaw bs (Some BadShape) = IsNotWhole bs
WholeFlaw bs (Some (Dangling to)) = ⊥

-- a bad shape, unless it is good
abbrev pub bad_unless : Bool → Option Flaw
bad_unless good = if good then None else Some BadShape

-- what is wrong with a reference by what stands at its number: nothing stands there, or another kind
abbrev pub target_flaw : Targets → ℕ → Option Instance → Option Flaw
target_flaw wanted to None = Some (Dangling to)
target_flaw wanted to (Some i) = bad_unless (holds wanted i.keyword)

-- a reference to an instance of certain entities
abbrev pub wanted_flaw : Targets → List Instance → ℕ → Option Flaw
wanted_flaw wanted world to = target_flaw wanted to (look world to)

-- a reference to any instance
abbrev pub any_flaw : List Instance → ℕ → Option Flaw
any_flaw world to = if is_some (look world to) then None else Some (Dangling to)

-- a value that refers to nothing has a bad shape; of another, its flaw
abbrev pub reference_flaw : (ℕ → Option Flaw) → Option ℕ → Option Flaw
reference_flaw flaw None = Some BadShape
reference_flaw flaw (Some to) = flaw to

-- what is wrong with a value where this leaf is wanted
abbrev pub LeafFlaw : List Instance → Leaf → Value21 → Option Flaw → Type 0
LeafFlaw world Number v f = MatchOption (number_of v) (f ≡ Some BadShape) (λ bs. NumberFlaw bs f)
LeafFlaw world Whole v f = MatchOption (number_of v) (f ≡ Some BadShape) (λ bs. WholeFlaw bs f)
LeafFlaw world Measure v f = MatchOption (measure_of v) (f ≡ Some BadShape) (λ bs. NumberFlaw bs f)
LeafFlaw world Text v f = f ≡ bad_unless (is_some (words_of v))
LeafFlaw world Enumeration v f = f ≡ bad_unless (is_enumeration v)
LeafFlaw world (Reference wanted) v f = f ≡ reference_flaw (wanted_flaw wanted world) (reference_of v)
LeafFlaw world (AnyReference _) v f = f ≡ reference_flaw (any_flaw world) (reference_of v)
LeafFlaw world Anything v f = f ≡ None

-- Of things in a row: the flaw of the first that has one.

-- the flaw of the first one that has one, at its place
pub record FirstAt {X : Type 0} (FlawOf : X → Option Flaw → Type 0) (xs : List X) (flaw : Flaw) : Type 0 where
  pub place : ℕ
  pub within : place < length xs
  pub here : HoldsAt (λ x. FlawOf x (Some flaw)) xs place
  pub before : (k : ℕ) → k < place → HoldsAt (λ x. FlawOf x None) xs k

-- the first flaw of all, or none where none has one
abbrev pub FirstFlaw : {X : Type 0} → (X → Option Flaw → Type 0) → List X → Option Flaw → Type 0
FirstFlaw FlawOf xs None = All (λ x. FlawOf x None) xs
FirstFlaw FlawOf xs (Some flaw) = FirstAt FlawOf xs flaw

-- Of a list: first its number of items is looked at, then its items.

-- the first flaw of the values of a list, or its shape where their count doesn't fit
abbrev pub ItemsFlaw : Count → (Value21 → Option Flaw → Type 0) → List Value21 → Option Flaw → Type 0
ItemsFlaw count FlawOf vs f = MatchBool (fits count (length vs)) (FirstFlaw FlawOf vs f) (f ≡ Some BadShape)

-- the flaw of a value that is to be a list
abbrev pub ListFlaw : Count → (Value21 → Option Flaw → Type 0) → Value21 → Option Flaw → Type 0
ListFlaw count FlawOf v f = MatchOption (items_of v) (f ≡ Some BadShape) (λ vs. ItemsFlaw count FlawOf vs f)

-- the flaw of a value by the shape that it is to have
abbrev pub ShapeFlaw : List Instance → Leaf → Shape → Value21 → Option Flaw → Type 0
ShapeFlaw world leaf shape.One v f = LeafFlaw world leaf v f
ShapeFlaw world leaf shape.Identifier v f = f ≡ bad_unless (some_passes says_guid (words_of v))
ShapeFlaw world leaf (shape.List count) v f = ListFlaw count (LeafFlaw world leaf) v f
ShapeFlaw world leaf (shape.Table outer inner) v f = ListFlaw outer (ListFlaw inner (LeafFlaw world leaf)) v f

-- Of an attribute that is followed.

-- a value that is left out where it may be
abbrev pub absent_stands : Need → Value21 → Bool
absent_stands need v = allows_absent need && is_absent v

-- the flaw of a value of an attribute
abbrev pub ValueFlaw : List Instance → Attribute → Value21 → Option Flaw → Type 0
ValueFlaw world a v f = MatchBool (absent_stands a.need v) (f ≡ None) (ShapeFlaw world a.leaf a.shape v f)

-- the flaw of an attribute by the value at its place, or by there being none
abbrev pub PlaceFlaw : List Instance → Attribute → Option Value21 → Option Flaw → Type 0
PlaceFlaw world a v f = MatchOption v (f ≡ bad_unless (allows_missing a.need)) (λ v. ValueFlaw world a v f)

-- Of an attribute of the instance; whether the instance is mapped is given.
abbrev pub AttributeFlaw : List Instance → Bool → Instance → Attribute → Option Flaw → Type 0
AttributeFlaw world mapped i a f =
    MatchBool (applies world mapped i a.when) (PlaceFlaw world a (slice_get i.values a.at) f) (f ≡ None)

-- Of the instance: the flaw of its first attribute that has one. None where the instance has the form of its row.
abbrev pub InstanceFlaw : List Instance → Bool → Instance → Option Flaw → Type 0
InstanceFlaw world mapped i f = FirstFlaw (AttributeFlaw world mapped i) (row_at i) f
