-- Lists made for each number below a bound: one more.
use Rattle.std.proofs.Common.{◌≡◌, ℕ, ◌+◌, List, [], ◌∷◌, ◌++◌, sym, ap, ◌∙◌, add-one, append-nil, append_assoc}
use Rattle.std.specs.List.{flat_map}
use Rattle.std.proofs.lemmas.List.Concat.{flat_map-append}
use Rattle.bucket_grid.specs.BucketTable.{upto}

pub flat_upto : {A : Type 0} (f : ℕ → List A) (n : ℕ) → flat_map f (upto (n + 1)) ≡ flat_map f (upto n) ++ f n
flat_upto f n = ap (λ m. flat_map f (upto m)) (add-one n) ∙ flat_map-append f (upto n) (n ∷ []) ∙ ap (λ l. flat_map f (upto n) ++ l) (append-nil (f n))

-- a loop's step: what is made for n goes to the end
pub upto_more : {A : Type 0} (f : ℕ → List A) (n : ℕ) (first before after made : List A) → before ≡ first ++ flat_map f (upto n) → after ≡ before ++ made → made ≡ f n → after ≡ first ++ flat_map f (upto (n + 1))
upto_more f n first before after made b a m = a ∙ ap (λ l. l ++ made) b ∙ append_assoc first (flat_map f (upto n)) made ∙ ap (λ l. first ++ (flat_map f (upto n) ++ l)) m ∙ ap (λ l. first ++ l) (sym (flat_upto f n))
