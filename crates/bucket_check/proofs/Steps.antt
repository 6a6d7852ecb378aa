-- Steps of the loops over a bucket's members.
use Rattle.std.proofs.Common.{◌≡◌, ℕ, zero, suc, ◌+◌, ◌-◌, ◌*◌, ◌<◌, ◌≤◌, ◌⊎◌, inl, inr, List, [], ◌∷◌, ◌++◌, length, get_or, take, Option, All, refl, sym, ap, ap₂, subst, arith, ◌∙◌, append-nil}
use Rattle.std.specs.List.{flat_map}
use Rattle.std.proofs.Math.Nat.{mul-le-mul}
use Rattle.std.proofs.lemmas.Bool.{cases_lt}
use Rattle.std.proofs.lemmas.List.{take_more, append_assoc}
use Rattle.std.proofs.lemmas.List.Concat.{flat_map-append}
use Rattle.bim_model.specs.declared.geometry.Extent.{Extent}
use Rattle.bucket_grid.specs.declared.cell.Cell.{Cell}
use Rattle.bucket_grid.specs.Cells.{holds, members, IsBucket}
use Rattle.bucket_grid.specs.Grids.{GridValue}
use Rattle.bucket_grid.proofs.Rising.{places_within}
use Rattle.bucket_check.specs.declared.pair.SetPair.{SetPair}
use Rattle.bucket_check.specs.Clashes.{pairs_by}
use Rattle.bucket_check.specs.ClashSets.{rule_at, found_among, own_places}
use Rattle.bucket_check.proofs.Row.{count_places, triangle}

-- what was made for one more place
pub row_more : (f : ℕ → List SetPair) (places : List ℕ) (i : ℕ) (first before after made : List SetPair) → i < length places → before ≡ first ++ flat_map f (take i places) → after ≡ before ++ made → made ≡ f (get_or places i 0)
    → after ≡ first ++ flat_map f (take (i + 1) places)
row_more f places i first before after made h b a m =
    let more : flat_map f (take (i + 1) places) ≡ flat_map f (take i places) ++ f (get_or places i 0) =
    ap (flat_map f) (take_more places i 0 h) ∙ flat_map-append f (take i places) (get_or places i 0 ∷ []) ∙ ap (λ l. flat_map f (take i places) ++ l) (append-nil (f (get_or places i 0))) in
    a ∙ ap₂ (λ l k. l ++ k) b m ∙ append_assoc first (flat_map f (take i places)) (f (get_or places i 0)) ∙ ap (λ l. first ++ l) (sym more)

-- the members of a cell, which are none where it is no bucket
pub record AreMembers (boxes : List Extent) (cell : Cell) (numbers : List ℕ) : Type 0 where
  pub within : All (λ n. n < length boxes) numbers
  pub few : length numbers ≤ length boxes
  pub no_more : length numbers ≤ length (members boxes cell)
  pub are : (numbers ≡ members boxes cell) ⊎ ((numbers ≡ []) × (length (members boxes cell) ≤ 1))

some_members : (boxes : List Extent) (cell : Cell) (numbers : List ℕ) → numbers ≡ members boxes cell → AreMembers boxes cell numbers
some_members boxes cell numbers e = record {
  within = places_within (holds cell) boxes numbers e;
  few = omega (arith, ap length e, count_places (holds cell) 0 boxes);
  no_more = omega (arith, ap length e);
  are = inl e;
}

no_members : (boxes : List Extent) (cell : Cell) (numbers : List ℕ) → numbers ≡ [] → length (members boxes cell) ≤ 1 → AreMembers boxes cell numbers
no_members boxes cell numbers e h = record {
  within = subst (All (λ n. n < length boxes)) (sym e) (λ i d l. absurd (omega arith));
  few = omega (arith, ap length e);
  no_more = omega (arith, ap length e);
  are = inr (e, h);
}

pub members_are : (boxes : List Extent) (cell : Cell) (numbers : List ℕ) → (IsBucket boxes cell → numbers ≡ members boxes cell) → ((IsBucket boxes cell → ⊥) → numbers ≡ []) → AreMembers boxes cell numbers
members_are boxes cell numbers some none = by (cases_lt (length (members boxes cell)) 2)
  where
    by : (length (members boxes cell) < 2) ⊎ (2 ≤ length (members boxes cell)) → AreMembers boxes cell numbers
    by (inl lt) = no_members boxes cell numbers (none (λ b. omega (arith, b, lt))) (omega (arith, lt))
    by (inr ge) = some_members boxes cell numbers (some ge)

-- fewer than two have no pairs
few_pairs : (n : ℕ) (rule : ℕ → ℕ → Option ℕ) → n ≤ 1 → pairs_by n rule ≡ []
few_pairs zero rule h = refl
few_pairs (suc zero) rule h = refl
few_pairs (suc (suc n)) rule h = absurd (omega arith)

-- all rows are made
pub all_rows : (grid : GridValue) (cell : Cell) (numbers : List ℕ) (pairs : List SetPair) → AreMembers grid.boxes cell numbers → pairs ≡ found_among grid.version grid.boxes cell numbers → pairs ≡ own_places grid cell
all_rows grid cell numbers pairs m e = by m.are
  where
    by : (numbers ≡ members grid.boxes cell) ⊎ ((numbers ≡ []) × (length (members grid.boxes cell) ≤ 1)) → pairs ≡ own_places grid cell
    by (inl f) = e ∙ ap (found_among grid.version grid.boxes cell) f
    by (inr f) =
        e ∙ ap (found_among grid.version grid.boxes cell) f.0
        ∙ sym (few_pairs (length (members grid.boxes cell)) (rule_at grid.version grid.boxes cell (members grid.boxes cell)) f.1)

-- fewer members have no more pairs
pub fewer_pairs : (m n : ℕ) → m ≤ n → m * (m - 1) ≤ n * (n - 1)
fewer_pairs m n h = let k : m - 1 ≤ n - 1 = omega arith in mul-le-mul h k

-- ---- the bound on steps, row by row
-- no row yet
pub no_row : (m : ℕ) → (m - 0) * (m - 0 - 1) ≡ m * (m - 1)
no_row m = let e : m - 0 ≡ m = omega arith in ap (λ n. n * (n - 1)) e

fewer_by : (k d old new row bound : ℕ) → d ≡ k + 1 → row ≤ k → new ≤ old + row → 2 * old + d * (d - 1) ≤ bound → 2 * new + k * (k - 1) ≤ bound
fewer_by k d old new row bound e r s b =
    let same : d * (d - 1) ≡ (k + 1) * (k + 1 - 1) = ap (λ n. n * (n - 1)) e in
    let t = triangle k in
    omega (arith, same, t)

-- one row fewer to go
pub fewer : (m i old new row bound : ℕ) → i < m → row ≤ m - (i + 1) → new ≤ old + row → 2 * old + (m - i) * (m - i - 1) ≤ bound → 2 * new + (m - (i + 1)) * (m - (i + 1) - 1) ≤ bound
fewer m i old new row bound h r s b = fewer_by (m - (i + 1)) (m - i) old new row bound (omega arith) r s b

-- and no more than all
pub stopped : (m i old new row bound : ℕ) → i < m → row ≤ m - (i + 1) → new ≤ old + row → 2 * old + (m - i) * (m - i - 1) ≤ bound → 2 * new ≤ bound
stopped m i old new row bound h r s b = let t = fewer m i old new row bound h r s b in omega (arith, t)
