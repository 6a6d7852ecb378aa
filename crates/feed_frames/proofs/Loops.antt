-- Reading items one after another, as a loop does.
use Rattle.std.proofs.Common.{◌≡◌, ℕ, suc, ◌-◌, ◌+◌, ◌≤◌, ◌<◌, List, [], ◌∷◌, ◌++◌, Option, Some, None, refl, sym, ap, ◌∙◌, append_assoc, arith}
use Rattle.std.proofs.lemmas.List.{append-nil}
use Rattle.feed_frames.specs.declared.read_error.ReadError.{ReadError}
use Rattle.feed_frames.specs.declared.read_error.ReadError.TheVariants.{NotSpelled, Memory}
use Rattle.feed_frames.specs.inner.Readers.{Reader, option_then, items_at, Fails}

-- what was read before, and what is still read
abbrev pub with_front : {A : Type 0} → List A → Option (List A × List ℕ) → Option (List A × List ℕ)
with_front front read = option_then read (λ x. Some (front ++ x.0, x.1))

regroup : {A : Type 0} (front : List A) (x : A) (read : Option (List A × List ℕ)) → with_front front (option_then read (λ xs. Some (x ∷ xs.0, xs.1))) ≡ with_front (front ++ x ∷ []) read
regroup front x None = refl
regroup {A} front x (Some xs) = ap (λ (l : List A). Some (l, xs.1)) (sym (append_assoc front (x ∷ []) xs.0))

-- one more item
pub goes_on : {A : Type 0} (r : Reader A) (front : List A) (count i : ℕ) (bytes : List ℕ) (x : A) (after : List ℕ) (total : Option (List A × List ℕ)) → i < count → r bytes ≡ Some (x, after) → with_front front (items_at r (count - i) bytes) ≡ total → with_front (front ++ x ∷ []) (items_at r (count - (i + 1)) after) ≡ total
goes_on {A} r front count i bytes x after total lt found so_far =
    let k : count - i ≡ suc (count - (i + 1)) = omega arith in
    let one : with_front front (items_at r (count - i) bytes) ≡ with_front (front ++ x ∷ []) (items_at r (count - (i + 1)) after) =
    ap (λ (n : ℕ). with_front front (items_at r n bytes)) k
    ∙ ap (λ o. with_front front (option_then o (λ y. option_then (items_at r (count - (i + 1)) y.1) (λ ys. Some (y.0 ∷ ys.0, ys.1))))) found
    ∙ regroup front x (items_at r (count - (i + 1)) after)
    in
    sym one ∙ so_far

-- no item follows where one should
pub ends : {A : Type 0} (r : Reader A) (e : ReadError) (front : List A) (count i : ℕ) (bytes : List ℕ) (total : Option (List A × List ℕ)) → i < count → Fails e (r bytes) → with_front front (items_at r (count - i) bytes) ≡ total → Fails e total
ends r Memory front count i bytes total lt failed so_far = tt
ends {A} r NotSpelled front count i bytes total lt failed so_far =
    let k : count - i ≡ suc (count - (i + 1)) = omega arith in
    sym so_far
    ∙ ap (λ (n : ℕ). with_front front (items_at r n bytes)) k
    ∙ ap (λ o. with_front front (option_then o (λ y. option_then (items_at r (count - (i + 1)) y.1) (λ ys. Some (y.0 ∷ ys.0, ys.1))))) failed

-- all are read
pub is_done : {A : Type 0} (r : Reader A) (front : List A) (count i : ℕ) (bytes : List ℕ) (total : Option (List A × List ℕ)) → count ≤ i → with_front front (items_at r (count - i) bytes) ≡ total → total ≡ Some (front, bytes)
is_done {A} r front count i bytes total le so_far =
    let k : count - i ≡ 0 = omega arith in
    sym so_far
    ∙ ap (λ (n : ℕ). with_front front (items_at r n bytes)) k
    ∙ ap (λ (l : List A). Some (l, bytes)) (append-nil front)
