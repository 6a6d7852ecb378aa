-- The places that pass rise, and are places.
use Rattle.std.proofs.Common.{◌≡◌, ℕ, zero, suc, ◌<◌, Bool, List, length, filter, All, sym, ap, subst, arith, ◌∙◌}
use Rattle.std.specs.List.{AllPairs}
use Rattle.std.proofs.Math.Seq.{take-length}
use Rattle.std.proofs.lemmas.List.Quantifiers.{all_pairs_push}
use Rattle.std.proofs.lemmas.List.Kept.{AllPairs-filter}
use Rattle.std.proofs.lemmas.List.Elements.{All-filter}
use Rattle.bim_model.specs.declared.geometry.Extent.{Extent}
use Rattle.box_lanes.specs.BoxPlaces.{places_from, box_at}
use Rattle.bucket_grid.specs.BucketTable.{upto}
use Rattle.bucket_grid.proofs.Parts.{all_upto}
use Rattle.bucket_grid.proofs.Tables.{places_upto}

upto_rises : (n : ℕ) → AllPairs (λ (x y : ℕ). x < y) (upto n)
upto_rises zero = λ i j d a b. absurd (omega (arith, b))
upto_rises (suc n) = all_pairs_push (λ (x y : ℕ). x < y) (upto n) n (upto_rises n) (λ k d lt. all_upto (λ i. i < n) n (λ i h. h) k d lt)

places_are : (p : Extent → Bool) (xs : List Extent) → places_from 0 p xs ≡ filter (λ i. p (box_at xs i)) (upto (length xs))
places_are p xs = ap (places_from 0 p) (sym (take-length xs)) ∙ places_upto p xs (length xs) (omega arith)

pub places_rise : (p : Extent → Bool) (xs : List Extent) (l : List ℕ) → l ≡ places_from 0 p xs → AllPairs (λ (x y : ℕ). x < y) l
places_rise p xs l e = subst (AllPairs (λ (x y : ℕ). x < y)) (sym (e ∙ places_are p xs)) (AllPairs-filter (λ (x y : ℕ). x < y) (λ i. p (box_at xs i)) (upto (length xs)) (upto_rises (length xs)))

pub places_within : (p : Extent → Bool) (xs : List Extent) (l : List ℕ) → l ≡ places_from 0 p xs → All (λ n. n < length xs) l
places_within p xs l e = subst (All (λ n. n < length xs)) (sym (e ∙ places_are p xs)) (All-filter (λ i. p (box_at xs i)) (λ n. n < length xs) (upto (length xs)) (all_upto (λ n. n < length xs) (length xs) (λ i h. h)))
