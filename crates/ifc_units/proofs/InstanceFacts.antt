-- An instance is a point or a list of points, and has one fault.
use Rattle.std.proofs.Common.{◌≡◌, inl, inr, ℕ, Bool, true, false, List, ◌||◌, codes, Some, None, Option, MatchOption, Decides, refl, subst}
use Rattle.std.specs.List.{slice_get}
use Rattle.std.specs.Str.{bytes_eq}
use Rattle.std.proofs.lemmas.Slice.Eq.{bytes_eq-Decides}
use Rattle.bim_model.specs.declared.upload.Mode.{Mode}
use Rattle.p21_values.specs.declared.value.Value21.{Value21}
use Rattle.p21_values.specs.declared.value.Instance.{Instance}
use Rattle.ifc_instances.specs.declared.entity.Entity.TheVariants as entity
use Rattle.ifc_instances.specs.Entities.{is_of}
use Rattle.p21_values.specs.Values.{items_of}
use Rattle.ifc_instances.specs.EntityLookup.{is_a, is_keyword_of}
use Rattle.ifc_units.specs.declared.scale.Scale.{Scale}
use Rattle.ifc_units.specs.declared.length_error.GridFault.{GridFault}
use Rattle.ifc_units.specs.Lengths.{PointRefused, PointsRefused, ListRefused, InstanceRefused}
use Rattle.ifc_units.proofs.PointFacts.{one_point_fault, one_points_fault}

same_bytes : (a b : List ℕ) (t : Bool) → Decides t (a ≡ b) → t ≡ true → a ≡ b
same_bytes a b true d e = d.0 e
same_bytes a b false d e = cc

one_word : (a b : List ℕ) → (bytes_eq a b || false) ≡ true → a ≡ b
one_word a b h = same_bytes a b (bytes_eq a b) (bytes_eq-Decides a b) (bare (bytes_eq a b) h)
  where
    bare : (t : Bool) → (t || false) ≡ true → t ≡ true
    bare true h = refl
    bare false h = h

point_word : (word : List ℕ) → is_of entity.Point word ≡ true → word ≡ codes "IFCCARTESIANPOINT"
unfolding is_of
point_word word h = one_word word (codes "IFCCARTESIANPOINT") h

point_no_list : is_of entity.PointList (codes "IFCCARTESIANPOINT") ≡ false
unfolding is_of
point_no_list = refl

not_both_words : (word : Option (List ℕ)) → is_keyword_of entity.Point word ≡ true → is_keyword_of entity.PointList word ≡ true → ⊥
not_both_words None h k = cc
not_both_words (Some word) h k =
    let e : is_of entity.PointList (codes "IFCCARTESIANPOINT") ≡ true = subst (λ w. is_of entity.PointList w ≡ true) (point_word word h) k in
    let f = point_no_list in
    cc

pub not_both : (i : Instance) → is_a entity.Point i ≡ true → is_a entity.PointList i ≡ true → ⊥
not_both i h k = not_both_words i.keyword h k

pub point_told : (s : Scale) (mode : Mode) (i : Instance) (v : Value21) (r : Option GridFault) → slice_get i.values 0 ≡ Some v → is_a entity.Point i ≡ true
    → MatchOption r ((f : GridFault) → PointRefused s mode v f → ⊥) (PointRefused s mode v)
    → MatchOption r ((f : GridFault) → InstanceRefused s mode i f → ⊥) (InstanceRefused s mode i)
point_told s mode i v (Some f) there is h = inl (is, rw there h)
point_told s mode i v None there is h = λ f k. elim k [
  | inl a ↦ h f (subst (λ o. MatchOption o ⊥ (λ u. PointRefused s mode u f)) there a.1)
  | inr b ↦ not_both i is b.0
]

at_value : (P Q : Value21 → Type 0) (R : Type 0) (o : Option Value21) → ((v : Value21) → P v → Q v → R) → MatchOption o ⊥ P → MatchOption o ⊥ Q → R
at_value P Q R None f h k = absurd h
at_value P Q R (Some v) f h k = f v h k

at_items : (P Q : List Value21 → Type 0) (R : Type 0) (o : Option (List Value21)) → ((vs : List Value21) → P vs → Q vs → R) → MatchOption o ⊥ P → MatchOption o ⊥ Q → R
at_items P Q R None f h k = absurd h
at_items P Q R (Some vs) f h k = f vs h k

one_list_fault : (s : Scale) (mode : Mode) (v : Value21) (f g : GridFault) → ListRefused s mode v f → ListRefused s mode v g → f ≡ g
one_list_fault s mode v f g h k =
    at_items (λ vs. PointsRefused s mode vs f) (λ vs. PointsRefused s mode vs g) (f ≡ g) (items_of v) (λ vs a b. one_points_fault s mode vs f g a b) h k

pub one_instance_fault : (s : Scale) (mode : Mode) (i : Instance) (f g : GridFault) → InstanceRefused s mode i f → InstanceRefused s mode i g → f ≡ g
one_instance_fault s mode i f g (inl h) (inl k) =
    at_value (λ v. PointRefused s mode v f) (λ v. PointRefused s mode v g) (f ≡ g) (slice_get i.values 0) (λ v a b. one_point_fault s mode v f g a b) h.1 k.1
one_instance_fault s mode i f g (inl h) (inr k) = absurd (not_both i h.0 k.0)
one_instance_fault s mode i f g (inr h) (inl k) = absurd (not_both i k.0 h.0)
one_instance_fault s mode i f g (inr h) (inr k) =
    at_value (λ v. ListRefused s mode v f) (λ v. ListRefused s mode v g) (f ≡ g) (slice_get i.values 0) (λ v a b. one_list_fault s mode v f g a b) h.1 k.1
