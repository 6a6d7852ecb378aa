-- Each refusal of an upload has its cause.
use Rattle.std.proofs.Common.{◌≡◌, ℕ, ◌≤◌, ◌==◌, ◌⊎◌, inl, inr, List, cond, length, sum_by, IsPermutation, Result, Ok, Err, arith, refl, sym, subst}
use Rattle.std.specs.Prelude.{IsErrAnd, IfErr}
use Rattle.std.proofs.lemmas.List.Sorted.{length_permutation, sum_by-IsPermutation}
use Rattle.bim_model.specs.declared.upload.UploadFault.{UploadFault}
use Rattle.bim_model.specs.declared.upload.UploadFault.TheVariants as uploads
use Rattle.bim_model.specs.declared.upload.Many.TheVariants as many
use Rattle.bim_model.specs.declared.upload.BuildError.{BuildError}
use Rattle.bim_model.specs.declared.upload.BuildError.TheVariants as errors
use Rattle.p21_values.specs.declared.value.Instance.{Instance}
use Rattle.p21_values.specs.Counting.{size, values_of, times}
use Rattle.p21_reader.specs.Uploads.{IsIfc4Upload, IsLeastDouble, IsTooMany, SpellsExchange, HasFault, IsCause}
use Rattle.p21_values.specs.InstancePlaces.{Rises}
use Rattle.p21_values.specs.declared.limits.TheConstants.{MOST_VALUES, MOST_INSTANCES}
use Rattle.p21_reader.proofs.OneAnswer.{refused}

-- What is answered for an upload.

pub many_cause : (bytes : List ℕ) (found : List Instance) (f : UploadFault) → IsIfc4Upload bytes found → IsTooMany found f → HasFault bytes f
many_cause bytes found (uploads.TooMany many.Instances) h k = (found, h, k)
many_cause bytes found (uploads.TooMany many.Values) h k = (found, h, k.0, k.1)
many_cause bytes found (uploads.TooMany m) h k = absurd k
many_cause bytes found f h k = absurd k

pub double_cause : (bytes : List ℕ) (found sorted : List Instance) (id : ℕ) → IsIfc4Upload bytes found → length found ≤ MOST_INSTANCES → values_of found ≤ MOST_VALUES → IsPermutation found sorted → IsLeastDouble id sorted → HasFault bytes (uploads.DoubleId id)
double_cause bytes found sorted id h n v p d = (
  found,
  h,
  n,
  v,
  (omega (arith, d.0, same id), λ other lt. omega (arith, d.1 other lt, same other)),
)
  where
    same : (x : ℕ) → times x sorted ≡ times x found
    same x = sum_by-IsPermutation (λ (i : Instance). cond (i.id == x) 1 0) found sorted p

pub few_sorted : (found sorted : List Instance) → IsPermutation found sorted → length found ≤ MOST_INSTANCES → length sorted ≤ MOST_INSTANCES
few_sorted found sorted p n = omega (arith, n, length_permutation found sorted p)

pub small_sorted : (found sorted : List Instance) → IsPermutation found sorted → values_of found ≤ MOST_VALUES → values_of sorted ≤ MOST_VALUES
small_sorted found sorted p v = omega (arith, v, sum_by-IsPermutation (λ (i : Instance). sum_by size i.values) found sorted p)

pub spelled_exchange : (bytes : List ℕ) (found sorted : List Instance) → IsIfc4Upload bytes found → length found ≤ MOST_INSTANCES → values_of found ≤ MOST_VALUES → IsPermutation found sorted → Rises sorted → SpellsExchange bytes sorted
spelled_exchange bytes found sorted h n v p r = (found, h, p, few_sorted found sorted p n, small_sorted found sorted p v, r)

pub cause_refused : (bytes : List ℕ) (e : BuildError) → IsCause bytes e → (e ≡ errors.Memory) ⊎ ((instances : List Instance) → SpellsExchange bytes instances → ⊥)
cause_refused bytes (errors.Fault f) h = inr (λ a x. refused bytes f a h x)
cause_refused bytes errors.Memory h = inl refl

-- what a `?` returns
pub if_err : {A E : Type 0} (r : Result A E) (P : E → Type 0) (e : E) → IsErrAnd r (λ x. x ≡ e) → P e → IfErr r P
if_err (Ok a) P e h p = tt
if_err (Err x) P e h p = subst P (sym h) p
