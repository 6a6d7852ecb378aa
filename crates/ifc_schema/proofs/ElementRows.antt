-- The attributes of an element, one by one, of which two are followed.
use Rattle.std.proofs.Common.{◌≡◌, ◌⊎◌, inl, inr, ℕ, zero, suc, ◌<◌, Bool, true, false, List, [], ◌∷◌, get_or, Option, Some, None, is_some, Any, refl, sym, subst, arith}
use Rattle.bim_model.specs.Guids.{IsGuid}
use Rattle.bim_text.proofs.PlainGuids.{guid_is}
use Rattle.p21_values.specs.declared.value.Value21.{Value21}
use Rattle.p21_values.specs.declared.value.Instance.{Instance}
use Rattle.p21_values.specs.Values.{words_of}
use Rattle.ifc_instances.specs.declared.entity.Entity.{Entity}
use Rattle.ifc_instances.specs.declared.entity.Entity.TheVariants as entity
use Rattle.ifc_instances.specs.EntityLookup.{some_passes}
use Rattle.ifc_schema.specs.declared.flaw.Flaw.{Flaw}
use Rattle.ifc_schema.specs.declared.form.Attribute.{Attribute}
use Rattle.ifc_schema.specs.declared.form.Targets.TheVariants as targets
use Rattle.ifc_schema.specs.declared.form.Leaf.TheVariants as leaf
use Rattle.ifc_schema.specs.declared.form.Shape.TheVariants as shape
use Rattle.ifc_schema.specs.declared.form.Need.TheVariants.{Must, OrAbsent}
use Rattle.ifc_schema.specs.declared.form.When.TheVariants.{Always, WithBody}
use Rattle.ifc_schema.specs.Forms.{holds, followed}
use Rattle.ifc_schema.specs.Used.{NamesBy}
use Rattle.ifc_schema.specs.AttributeTable.{row_of, attribute, row_or_none}
use Rattle.ifc_schema.specs.AttributeWords.{says_guid}
use Rattle.ifc_schema.specs.Flaws.{FirstFlaw, bad_unless}
use Rattle.ifc_schema.proofs.Firsts.{first_here, first_behind, first_only}

abbrev pub identifier : Attribute
identifier = attribute 0 Always Must shape.Identifier leaf.Text

abbrev pub named : Attribute
named = attribute 2 Always OrAbsent shape.One leaf.Text

abbrev pub placed : Attribute
placed = attribute 5 WithBody OrAbsent shape.One (leaf.Reference (targets.One entity.Placement))

abbrev pub shaped : Attribute
shaped = attribute 6 Always OrAbsent shape.One (leaf.Reference (targets.One entity.ProductShape))

abbrev pub tagged : Attribute
tagged = attribute 7 Always Must shape.One leaf.Anything

-- An identifier without escapes says itself.

abbrev no_flaw : Option Flaw
no_flaw = None

guid_good : (bs : List ℕ) → IsGuid bs → no_flaw ≡ bad_unless (says_guid bs)
unfolding says_guid
guid_good bs g = subst (λ (b : Bool). no_flaw ≡ bad_unless b) (sym (guid_is bs g.0 g.1)) refl

pub guid_passes : (v : Value21) (bs : List ℕ) → IsGuid bs → words_of v ≡ Some bs → no_flaw ≡ bad_unless (some_passes says_guid (words_of v))
guid_passes v bs g e = subst (λ (o : Option (List ℕ)). no_flaw ≡ bad_unless (some_passes says_guid o)) (sym e) (guid_good bs g)

-- What is said of the row of an instance is said of its entity's.

pub same_row : (P : List Attribute → Type 0) (e : Option Entity) → e ≡ Some entity.Subject → P (row_of entity.Subject) → P (row_or_none e)
same_row P e h p = subst (λ o. P (row_or_none o)) (sym h) p

pub row_same : (P : List Attribute → Type 0) (e : Option Entity) → e ≡ Some entity.Subject → P (row_or_none e) → P (row_of entity.Subject)
row_same P e h p = subst (λ o. P (row_or_none o)) h p

-- The first flaw is that of the first attribute that has one.

pub second : (R : Attribute → Option Flaw → Type 0) (f g : Option Flaw) → is_some f ≡ false → R identifier f → is_some g ≡ true → R named g → FirstFlaw R (row_of entity.Subject) g
unfolding row_of
second R f g s h t k = first_behind R identifier (named ∷ placed ∷ shaped ∷ tagged ∷ []) f g s h (first_here R named (placed ∷ shaped ∷ tagged ∷ []) g t k)

pub first : (R : Attribute → Option Flaw → Type 0) (f : Option Flaw) → is_some f ≡ true → R identifier f → FirstFlaw R (row_of entity.Subject) f
unfolding row_of
first R f s h = first_here R identifier (named ∷ placed ∷ shaped ∷ tagged ∷ []) f s h

behind_two : (R : Attribute → Option Flaw → Type 0) (a b f : Option Flaw) → is_some a ≡ false → R identifier a → is_some b ≡ false → R named b → FirstFlaw R (placed ∷ shaped ∷ tagged ∷ []) f
    → FirstFlaw R (row_of entity.Subject) f
unfolding row_of
behind_two R a b f sa ha sb hb h = first_behind R identifier (named ∷ placed ∷ shaped ∷ tagged ∷ []) a f sa ha (first_behind R named (placed ∷ shaped ∷ tagged ∷ []) b f sb hb h)

pub third : (R : Attribute → Option Flaw → Type 0) (a b f : Option Flaw) → is_some a ≡ false → R identifier a → is_some b ≡ false → R named b → is_some f ≡ true → R placed f
    → FirstFlaw R (row_of entity.Subject) f
third R a b f sa ha sb hb s h = behind_two R a b f sa ha sb hb (first_here R placed (shaped ∷ tagged ∷ []) f s h)

pub fourth : (R : Attribute → Option Flaw → Type 0) (a b c f : Option Flaw) → is_some a ≡ false → R identifier a → is_some b ≡ false → R named b → is_some c ≡ false → R placed c
    → is_some f ≡ true → R shaped f → FirstFlaw R (row_of entity.Subject) f
fourth R a b c f sa ha sb hb sc hc s h =
    behind_two R a b f sa ha sb hb (first_behind R placed (shaped ∷ tagged ∷ []) c f sc hc (first_here R shaped (tagged ∷ []) f s h))

pub last : (R : Attribute → Option Flaw → Type 0) (a b c d f : Option Flaw) → is_some a ≡ false → R identifier a → is_some b ≡ false → R named b → is_some c ≡ false → R placed c
    → is_some d ≡ false → R shaped d → R tagged f → FirstFlaw R (row_of entity.Subject) f
last R a b c d f sa ha sb hb sc hc sd hd h =
    behind_two R a b f sa ha sb hb (first_behind R placed (shaped ∷ tagged ∷ []) c f sc hc (first_behind R shaped (tagged ∷ []) d f sd hd (first_only R tagged f h)))

-- Only two attributes name something.

nothing : (k : Option (List ℕ)) → holds targets.Nothing k ≡ true → ⊥
nothing None h = cc
nothing (Some k) h = cc

away : (world : List Instance) (m : Bool) (i : Instance) (a : Attribute) (to : ℕ) → followed a.leaf ≡ targets.Nothing → NamesBy world m i a to → ⊥
away world m i a to e n = nothing n.leads.target.keyword (subst (λ t. holds t n.leads.target.keyword ≡ true) e n.leads.meant)

names_one : (world : List Instance) (m : Bool) (i : Instance) (to k : ℕ) (x : Attribute) → k < 5 → x ≡ get_or (identifier ∷ named ∷ placed ∷ shaped ∷ tagged ∷ []) k x → NamesBy world m i x to
    → NamesBy world m i placed to ⊎ NamesBy world m i shaped to
names_one world m i to zero x l e n = absurd (away world m i identifier to refl (subst (λ (y : Attribute). NamesBy world m i y to) e n))
names_one world m i to (suc zero) x l e n = absurd (away world m i named to refl (subst (λ (y : Attribute). NamesBy world m i y to) e n))
names_one world m i to (suc (suc zero)) x l e n = inl (subst (λ (y : Attribute). NamesBy world m i y to) e n)
names_one world m i to (suc (suc (suc zero))) x l e n = inr (subst (λ (y : Attribute). NamesBy world m i y to) e n)
names_one world m i to (suc (suc (suc (suc zero)))) x l e n = absurd (away world m i tagged to refl (subst (λ (y : Attribute). NamesBy world m i y to) e n))
names_one world m i to (suc (suc (suc (suc (suc k))))) x l e n = absurd (omega arith)

pub element_names : (world : List Instance) (m : Bool) (i : Instance) (to : ℕ) → Any (λ (a : Attribute). NamesBy world m i a to) (row_of entity.Subject)
    → NamesBy world m i placed to ⊎ NamesBy world m i shaped to
unfolding row_of
element_names world m i to a = names_one world m i to a.0 a.1 a.2 (sym a.3) a.4

pub placed_names : (world : List Instance) (m : Bool) (i : Instance) (to : ℕ) → NamesBy world m i placed to → Any (λ (a : Attribute). NamesBy world m i a to) (row_of entity.Subject)
unfolding row_of
placed_names world m i to n = (2, placed, omega arith, refl, n)

pub shaped_names : (world : List Instance) (m : Bool) (i : Instance) (to : ℕ) → NamesBy world m i shaped to → Any (λ (a : Attribute). NamesBy world m i a to) (row_of entity.Subject)
unfolding row_of
shaped_names world m i to n = (3, shaped, omega arith, refl, n)
