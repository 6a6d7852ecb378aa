-- A model put in its place by name leaves the list rising.
use Rattle.std.proofs.Common.{◌≡◌, ℕ, Bool, true, false, List, [], ◌∷◌, ◌++◌, filter, cond, suc, zero, refl, sym, true≢false, append_assoc, arith, IsTrue, not, Ordering, Less, Equal, Greater}
use Rattle.std.specs.List.{All, AllPairs}
use Rattle.std.specs.Ordering.{nat_cmp, is_lt}
use Rattle.std.specs.Cmp.Lexicographic.{slice_cmp}
use Rattle.std.proofs.lemmas.Cmp.{nat_list_cmp_total}
use Rattle.std.proofs.lemmas.List.Elements.{All-append, All-cons, All-nil, All-weaker, All-head, All-tail, All-filter}
use Rattle.std.proofs.lemmas.List.Kept.{AllPairs-cons, AllPairs-filter}
use Rattle.std.specs.Str.{bytes_eq}
use Rattle.bim_model.specs.Models.{is_below, IsModel}
use Rattle.bim_model.specs.declared.named_model.NamedModel.{NamedModel}
use Rattle.bim_model.specs.Snapshots.{with_model, without_model, IsSnapshot}

one_passed : {X : Type 0} (P : X → Type 0) (b : Bool) (x : X) (us : List X) → (b ≡ true → P x) → All P us → All P (cond b (x ∷ us) us)
one_passed P true x us f h = All-cons P x us (f refl) h
one_passed P false x us f h = h

all_passed : {X : Type 0} (p : X → Bool) (xs : List X) → All (λ x. IsTrue (p x)) (filter p xs)
all_passed p [] = All-nil (λ x. IsTrue (p x))
all_passed p (x ∷ xs) = one_passed (λ y. IsTrue (p y)) (p x) x (filter p xs) (λ h. h) (all_passed p xs)

pub pairs_append : {X : Type 0} (R : X → X → Type 0) (xs ys : List X) → AllPairs R xs → AllPairs R ys → All (λ x. All (R x) ys) xs → AllPairs R (xs ++ ys)
pairs_append R [] ys h k across = k
pairs_append R (x ∷ xs) ys h k across =
    AllPairs-cons R x (xs ++ ys)
    (All-append (R x) xs ys (λ i d within. h zero (suc i) d (omega arith) (omega arith)) (All-head (λ y. All (R y) ys) x xs across))
    (pairs_append R xs ys (λ i j d below within. h (suc i) (suc j) d (omega arith) (omega arith)) k (All-tail (λ y. All (R y) ys) x xs across))

pub less : (o : Ordering) → is_lt o ≡ true → o ≡ Less
less Less h = refl
less Equal h = absurd (true≢false (sym h))
less Greater h = absurd (true≢false (sym h))

pub below_trans : (a b c : List ℕ) → IsTrue (is_below a b) → IsTrue (is_below b c) → IsTrue (is_below a c)
below_trans a b c h k =
    rw (nat_list_cmp_total.trans a b c (less (slice_cmp nat_cmp a b) h) (less (slice_cmp nat_cmp b c) k)) refl

abbrev IsBefore : NamedModel → NamedModel → Type 0
IsBefore m n = IsTrue (is_below m.name n.name)

-- the names rise with the model put in its place
names_rise : (model : NamedModel) (models : List NamedModel) → AllPairs IsBefore models → AllPairs IsBefore (with_model model models)
names_rise model models h =
    let lower : NamedModel → Bool = λ m. is_below m.name model.name in
    let higher : NamedModel → Bool = λ m. is_below model.name m.name in
    pairs_append IsBefore (filter lower models) (model ∷ filter higher models)
    (AllPairs-filter IsBefore lower models h)
    (AllPairs-cons IsBefore model (filter higher models) (all_passed higher models) (AllPairs-filter IsBefore higher models h))
    (All-weaker (λ (m : NamedModel). IsTrue (is_below m.name model.name)) (λ m. All (IsBefore m) (model ∷ filter higher models))
    (λ m below. All-cons (IsBefore m) model (filter higher models) below
    (All-weaker (λ (n : NamedModel). IsTrue (is_below model.name n.name)) (IsBefore m) (λ n above. below_trans m.name model.name n.name below above)
    (filter higher models) (all_passed higher models)))
    (filter lower models) (all_passed lower models))

pub with_model_rises : (model : NamedModel) (models : List NamedModel) → IsModel model.model → IsSnapshot models → IsSnapshot (with_model model models)
with_model_rises model models new h =
    let P : NamedModel → Type 0 = λ m. IsModel m.model in
    let lower : NamedModel → Bool = λ m. is_below m.name model.name in
    let higher : NamedModel → Bool = λ m. is_below model.name m.name in
    record {
      rising = names_rise model models h.rising;
      modelled = All-append P (filter lower models) (model ∷ filter higher models) (All-filter lower P models h.modelled)
          (All-cons P model (filter higher models) new (All-filter higher P models h.modelled));
    }

pub without_model_rises : (name : List ℕ) (models : List NamedModel) → IsSnapshot models → IsSnapshot (without_model name models)
without_model_rises name models h = record {
  rising = AllPairs-filter IsBefore (λ (m : NamedModel). not (bytes_eq m.name name)) models h.rising;
  modelled = All-filter (λ (m : NamedModel). not (bytes_eq m.name name)) (λ (m : NamedModel). IsModel m.model) models h.modelled;
}

pub put_in_place : {X : Type 0} (xs ys : List X) (m : X) → (xs ++ m ∷ []) ++ ys ≡ xs ++ m ∷ ys
put_in_place xs ys m = append_assoc xs (m ∷ []) ys
