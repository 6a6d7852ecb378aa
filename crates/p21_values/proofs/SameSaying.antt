-- Values that say the same are one value, and so are instances.
use Rattle.std.proofs.Common.{◌≡◌, ℕ, List, [], ◌∷◌, map, Option, refl, sym, ap, subst, ◌∙◌}
use Rattle.p21_values.specs.declared.value.Value21.{Value21}
use Rattle.p21_values.specs.declared.value.Value21.TheOpen.{Value21-F}
use Rattle.p21_values.specs.declared.value.Value21.TheOpen as layer
use Rattle.p21_values.specs.declared.value.Value21.TheViews.{roll-Value21}
use Rattle.p21_values.specs.declared.value.Value21.TheFolds.{fold-roll-Value21, ind-Value21, map-Value21}
use Rattle.p21_values.specs.declared.value.Instance.{Instance}
use Rattle.p21_values.specs.inner.Saying.{Content, Contents, Absent, Derived, Number, Words, Enumeration, Bits, Reference, Listed, Typed, nothing, and, content, content_step, contents, saying}

-- The value that says that.

abbrev mutual
  pub value_back : Content → Value21
  value_back Absent = roll-Value21 layer.Absent
  value_back Derived = roll-Value21 layer.Derived
  value_back (Number bs) = roll-Value21 (layer.Number bs)
  value_back (Words bs) = roll-Value21 (layer.Words bs)
  value_back (Enumeration bs) = roll-Value21 (layer.Enumeration bs)
  value_back (Bits bs) = roll-Value21 (layer.Bits bs)
  value_back (Reference n) = roll-Value21 (layer.Reference n)
  value_back (Listed vs) = roll-Value21 (layer.List (values_back vs))
  value_back (Typed w v) = roll-Value21 (layer.Typed w (value_back v))

  pub values_back : Contents → List Value21
  values_back nothing = []
  values_back (and v vs) = value_back v ∷ values_back vs

abbrev Back : Type 0
Back = (v : Value21) × (value_back (content v) ≡ v)

each_back : (vs : List Back) → values_back (contents (map content (map (λ e. e.0) vs))) ≡ map (λ e. e.0) vs
each_back [] = refl
each_back (v ∷ vs) = ap (λ z. z ∷ values_back (contents (map content (map (λ e. e.0) vs)))) v.1 ∙ ap (λ z. v.0 ∷ z) (each_back vs)

layer_back : (y : Value21-F Back) → value_back (content_step (map-Value21 _ _ content (map-Value21 _ _ (λ e. e.0) y))) ≡ roll-Value21 (map-Value21 _ _ (λ e. e.0) y)
layer_back layer.Absent = refl
layer_back layer.Derived = refl
layer_back (layer.Number bs) = refl
layer_back (layer.Words bs) = refl
layer_back (layer.Enumeration bs) = refl
layer_back (layer.Bits bs) = refl
layer_back (layer.Reference n) = refl
layer_back (layer.List vs) = ap (λ z. roll-Value21 (layer.List z)) (each_back vs)
layer_back (layer.Typed w v) = ap (λ z. roll-Value21 (layer.Typed w z)) v.1

pub back : (v : Value21) → value_back (content v) ≡ v
back = ind-Value21 (λ v. value_back (content v) ≡ v) (λ x y is.
    ap value_back (fold-roll-Value21 Content content_step x)
    ∙ subst (λ z. value_back (content_step (map-Value21 _ _ content z)) ≡ roll-Value21 z) is (layer_back y))

pub all_back : (vs : List Value21) → values_back (contents (map content vs)) ≡ vs
all_back [] = refl
all_back (v ∷ vs) = ap (λ z. z ∷ values_back (contents (map content vs))) (back v) ∙ ap (λ z. v ∷ z) (all_back vs)

-- Lists and instances.

same_list : (vs ws : List Value21) → contents (map content vs) ≡ contents (map content ws) → vs ≡ ws
same_list vs ws e = sym (all_back vs) ∙ ap values_back e ∙ all_back ws

abbrev made : ℕ → Option (List ℕ) → List Value21 → Instance
made id keyword values = record { id = id; keyword = keyword; values = values }

same_instance : (i j : Instance) → saying i ≡ saying j → i ≡ j
same_instance i j e =
    let id : i.id ≡ j.id = ap (λ (s : ℕ × Option (List ℕ) × Contents). s.0) e in
    let keyword : i.keyword ≡ j.keyword = ap (λ (s : ℕ × Option (List ℕ) × Contents). s.1) e in
    let values = same_list i.values j.values (ap (λ (s : ℕ × Option (List ℕ) × Contents). s.2) e) in
    ap (λ (x : ℕ). made x i.keyword i.values) id ∙ ap (λ (x : Option (List ℕ)). made j.id x i.values) keyword ∙ ap (λ (x : List Value21). made j.id j.keyword x) values

pub same_instances : (a b : List Instance) → map saying a ≡ map saying b → a ≡ b
same_instances [] [] h = refl
same_instances [] (j ∷ b) h = cc
same_instances (i ∷ a) [] h = cc
same_instances (i ∷ a) (j ∷ b) h =
    let s : saying i ≡ saying j = cc in
    let e : map saying a ≡ map saying b = cc in
    ap (λ z. z ∷ a) (same_instance i j s) ∙ ap (λ z. j ∷ z) (same_instances a b e)
