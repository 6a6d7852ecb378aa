-- Two lists that agree at each place: joined, and read.
use Rattle.std.proofs.Common.{◌≡◌, ℕ, zero, suc, ◌+◌, ◌<◌, ◌≤◌, List, [], ◌∷◌, ◌++◌, length, get_or, take, drop, refl, sym, ap, subst, arith, ◌∙◌}
use Rattle.std.specs.List.{AllZip}
use Rattle.std.proofs.lemmas.List.{take_more, get_or_default, append_assoc, take_all, length-take-le, append-nil, length-append, take-append-drop}
use Rattle.bim_model.specs.declared.element.Element.{Element}
use Rattle.bim_model.specs.declared.named_model.NamedModel.{NamedModel}
use Rattle.bucket_grid.specs.declared.subjects.Member.{Member}
use Rattle.bim_model.specs.Keys.{Subject, in_model, subjects_from, subjects_of}
use Rattle.bucket_grid.specs.Subjects.{nobody}
use Rattle.bucket_grid.specs.ElementPlaces.{IsPlace}

module _ {A B : Type 0} (R : A → B → Type 0) where
  pub zip_append : (xs : List A) (ys : List B) (us : List A) (vs : List B) → AllZip R xs ys → AllZip R us vs → AllZip R (xs ++ us) (ys ++ vs)
  zip_append [] [] us vs h k = k
  zip_append [] (y ∷ ys) us vs h k = absurd h
  zip_append (x ∷ xs) [] us vs h k = absurd h
  zip_append (x ∷ xs) (y ∷ ys) us vs h k = (h.0, zip_append xs ys us vs h.1 k)

  pub zip_push : (xs : List A) (ys : List B) (x : A) (y : B) → AllZip R xs ys → R x y → AllZip R (xs ++ x ∷ []) (ys ++ y ∷ [])
  zip_push xs ys x y h r = zip_append xs ys (x ∷ []) (y ∷ []) h (r, tt)

  pub zip_length : (xs : List A) (ys : List B) → AllZip R xs ys → length xs ≡ length ys
  zip_length [] [] h = refl
  zip_length [] (y ∷ ys) h = absurd h
  zip_length (x ∷ xs) [] h = absurd h
  zip_length (x ∷ xs) (y ∷ ys) h = ap suc (zip_length xs ys h.1)

  pub zip_at : (xs : List A) (ys : List B) (i : ℕ) (d : A) (e : B) → AllZip R xs ys → i < length xs → R (get_or xs i d) (get_or ys i e)
  zip_at [] ys i d e h l = absurd (omega arith)
  zip_at (x ∷ xs) [] i d e h l = absurd h
  zip_at (x ∷ xs) (y ∷ ys) zero d e h l = h.0
  zip_at (x ∷ xs) (y ∷ ys) (suc i) d e h l = zip_at xs ys i d e h.1 (omega arith)

-- one more element of a model
in_model-append : (n : ℕ) (name : List ℕ) (xs ys : List Element) → in_model n name (xs ++ ys) ≡ in_model n name xs ++ in_model n name ys
in_model-append n name [] ys = refl
in_model-append n name (x ∷ xs) ys = ap (λ l. record { model = n; name = name; element = x } ∷ l) (in_model-append n name xs ys)

pub in_model_more : (n : ℕ) (name : List ℕ) (es : List Element) (i : ℕ) (d : Element) → i < length es
    → in_model n name (take (i + 1) es) ≡ in_model n name (take i es) ++ record { model = n; name = name; element = get_or es i d } ∷ []
in_model_more n name es i d h = ap (in_model n name) (take_more es i d h) ∙ in_model-append n name (take i es) (get_or es i d ∷ [])

-- the elements of a model up to a place
abbrev pub upto_place : ℕ → NamedModel → ℕ → List Subject
upto_place n m k = in_model n m.name (take k m.model)

-- one more place
pub placed_more : (models : List NamedModel) (n k : ℕ) (d named : NamedModel) (s : List Subject) (old new : List Member) → n < length models → named ≡ get_or models n named → k < length named.model
    → AllZip (IsPlace models) (s ++ upto_place n (get_or models n d) k) old → new ≡ old ++ record { model = n; element = k } ∷ [] → AllZip (IsPlace models) (s ++ upto_place n (get_or models n d) (k + 1)) new
placed_more models n k d named s old new h is l before made =
    let m : get_or models n d ≡ named = get_or_default models n d named h ∙ sym is in
    let e = get_or named.model k nobody.element in
    let place : IsPlace models (record { model = n; name = named.name; element = e }) (record { model = n; element = k }) =
    record { named = named; model_in = h; model_is = sym is; element_in = l; element_is = get_or_default named.model k e nobody.element l; same = refl; name_is = refl } in
    let before' : AllZip (IsPlace models) (s ++ upto_place n named k) old = subst (λ (x : NamedModel). AllZip (IsPlace models) (s ++ upto_place n x k) old) m before in
    let split : s ++ upto_place n named k ++ record { model = n; name = named.name; element = e } ∷ [] ≡ s ++ upto_place n named (k + 1) =
    append_assoc s (upto_place n named k) _ ∙ ap (λ t. s ++ t) (sym (in_model_more n named.name named.model k nobody.element l)) in
    subst (λ (x : NamedModel). AllZip (IsPlace models) (s ++ upto_place n x (k + 1)) new) (sym m)
    (subst (λ t. AllZip (IsPlace models) t new) split (subst (λ t. AllZip (IsPlace models) (s ++ upto_place n named k ++ record { model = n; name = named.name; element = e } ∷ []) t) (sym made) (zip_push (IsPlace models) _ _ _ _ before' place)))

-- all places
pub placed_all : (models : List NamedModel) (n k : ℕ) (d named : NamedModel) (s : List Subject) (new : List Member) → n < length models → named ≡ get_or models n named → length named.model ≤ k
    → AllZip (IsPlace models) (s ++ upto_place n (get_or models n d) k) new → AllZip (IsPlace models) (s ++ in_model n (get_or models n d).name (get_or models n d).model) new
placed_all models n k d named s new h is l before =
    let m : get_or models n d ≡ named = get_or_default models n d named h ∙ sym is in
    let whole : take k (get_or models n d).model ≡ (get_or models n d).model = take_all k (get_or models n d).model (subst (λ (x : NamedModel). length x.model ≤ k) (sym m) l) in
    subst (λ t. AllZip (IsPlace models) (s ++ in_model n (get_or models n d).name t) new) whole before

-- one more model
from_append : (n : ℕ) (xs ys : List NamedModel) → subjects_from n (xs ++ ys) ≡ subjects_from n xs ++ subjects_from (n + length xs) ys
from_append n [] ys = ap (λ m. subjects_from m ys) (omega arith)
from_append n (x ∷ xs) ys =
    let shift : n + 1 + length xs ≡ n + suc (length xs) = omega arith in
    ap (λ l. in_model n x.name x.model ++ l) (from_append (n + 1) xs ys ∙ ap (λ m. subjects_from (n + 1) xs ++ subjects_from m ys) shift) ∙ sym (append_assoc (in_model n x.name x.model) (subjects_from (n + 1) xs) _)

pub subjects_more : (models : List NamedModel) (i : ℕ) (d : NamedModel) → i < length models
    → subjects_of (take i models) ++ in_model i (get_or models i d).name (get_or models i d).model ≡ subjects_of (take (i + 1) models)
subjects_more models i d h =
    let n : 0 + length (take i models) ≡ i = omega (arith, length-take-le i models (omega arith)) in
    let last : ℕ → List Subject = λ m. in_model m (get_or models i d).name (get_or models i d).model in
    ap (λ l. subjects_of (take i models) ++ l) (sym (append-nil (last i)) ∙ ap (λ m. last m ++ []) (sym n))
    ∙ sym (ap subjects_of (take_more models i d h) ∙ from_append 0 (take i models) (get_or models i d ∷ []))

-- how many elements there are
length-in_model : (n : ℕ) (name : List ℕ) (es : List Element) → length (in_model n name es) ≡ length es
length-in_model n name [] = refl
length-in_model n name (e ∷ es) = ap suc (length-in_model n name es)

pub count_more : (models : List NamedModel) (i : ℕ) (d : NamedModel) → i < length models
    → length (subjects_of (take (i + 1) models)) ≡ length (subjects_of (take i models)) + length (get_or models i d).model
count_more models i d h =
    ap length (sym (subjects_more models i d h)) ∙ length-append (subjects_of (take i models)) (in_model i (get_or models i d).name (get_or models i d).model)
    ∙ ap (λ n. length (subjects_of (take i models)) + n) (length-in_model i (get_or models i d).name (get_or models i d).model)

-- some models have no more elements than all
pub count_some : (models : List NamedModel) (i : ℕ) → length (subjects_of (take i models)) ≤ length (subjects_of models)
count_some models i =
    let all = ap length (ap subjects_of (sym (take-append-drop i models)) ∙ from_append 0 (take i models) (drop i models)) ∙ length-append (subjects_of (take i models)) (subjects_from (0 + length (take i models)) (drop i models)) in
    omega (arith, all)
