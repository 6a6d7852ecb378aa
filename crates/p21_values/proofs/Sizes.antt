-- How many values a value is, by what it says.
use Rattle.std.proofs.Common.{◌≡◌, ℕ, ◌+◌, List, [], ◌∷◌, map, sum, sum_by, refl, sym, ap, subst, ◌∙◌}
use Rattle.std.proofs.lemmas.List.Sums.{sum_by-cons}
use Rattle.p21_values.specs.declared.value.Value21.{Value21}
use Rattle.p21_values.specs.declared.value.Value21.TheOpen.{Value21-F}
use Rattle.p21_values.specs.declared.value.Value21.TheOpen as layer
use Rattle.p21_values.specs.declared.value.Value21.TheFolds.{fold-roll-Value21, ind-Value21, map-Value21}
use Rattle.p21_values.specs.Counting.{size, size_step}
use Rattle.p21_values.specs.inner.Saying.{Content, Contents, Listed, Typed, nothing, and, content, content_step, contents}

-- How many values a value is, of what it says.

abbrev mutual
  pub sized : Content → ℕ
  sized (Listed vs) = sized_all vs + 1
  sized (Typed w v) = sized v + 1
  sized _ = 1

  pub sized_all : Contents → ℕ
  sized_all nothing = 0
  sized_all (and v vs) = sized v + sized_all vs

abbrev Sized : Type 0
Sized = (v : Value21) × (size v ≡ sized (content v))

all_sized : (vs : List Sized) → sum (map size (map (λ e. e.0) vs)) ≡ sized_all (contents (map content (map (λ e. e.0) vs)))
all_sized [] = refl
all_sized (v ∷ vs) =
    sum_by-cons (λ x. x) (size v.0) (map size (map (λ e. e.0) vs)) ∙ ap (λ z. z + sum (map size (map (λ e. e.0) vs))) v.1 ∙ ap (λ z. sized (content v.0) + z) (all_sized vs)

layer_is : (y : Value21-F Sized) → size_step (map-Value21 _ _ size (map-Value21 _ _ (λ e. e.0) y)) ≡ sized (content_step (map-Value21 _ _ content (map-Value21 _ _ (λ e. e.0) y)))
layer_is layer.Absent = refl
layer_is layer.Derived = refl
layer_is (layer.Number bs) = refl
layer_is (layer.Words bs) = refl
layer_is (layer.Enumeration bs) = refl
layer_is (layer.Bits bs) = refl
layer_is (layer.Reference n) = refl
layer_is (layer.List vs) = ap (λ z. z + 1) (all_sized vs)
layer_is (layer.Typed w v) = ap (λ z. z + 1) v.1

pub size_is : (v : Value21) → size v ≡ sized (content v)
size_is = ind-Value21 (λ v. size v ≡ sized (content v)) (λ x y is.
    fold-roll-Value21 ℕ size_step x
    ∙ subst (λ z. size_step (map-Value21 _ _ size z) ≡ sized (content_step (map-Value21 _ _ content z))) is (layer_is y)
    ∙ sym (ap sized (fold-roll-Value21 Content content_step x)))

pub sizes_are : (vs : List Value21) → sum_by size vs ≡ sized_all (contents (map content vs))
sizes_are [] = refl
sizes_are (v ∷ vs) = sum_by-cons size v vs ∙ ap (λ z. z + sum_by size vs) (size_is v) ∙ ap (λ z. sized (content v) + z) (sizes_are vs)
