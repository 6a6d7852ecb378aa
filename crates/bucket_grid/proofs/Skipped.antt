-- What has no two members makes no bucket, and is passed over.
use Rattle.std.proofs.Common.{◌≡◌, ℕ, zero, suc, ◌<◌, ◌≤◌, ◌⊎◌, inl, inr, Bool, true, false, cond, leb, List, [], ◌∷◌, ◌++◌, length, get_or, refl, sym, ap, arith, ◌∙◌, append-nil}
use Rattle.std.specs.List.{flat_map}
use Rattle.std.proofs.lemmas.Bool.{cases_lt, leb-true}
use Rattle.std.proofs.lemmas.List.Sums.{length-filter, count_by-le-length}
use Rattle.bucket_grid.specs.declared.cell.Cell.{Cell}
use Rattle.bucket_grid.specs.declared.lists.Span.{Span}
use Rattle.bucket_grid.specs.declared.bucket_table.Bucket.{Bucket}
use Rattle.bucket_grid.specs.Dealt.{covers, span_at, AreDealt}
use Rattle.bucket_grid.specs.BucketTable.{upto, among, if_bucket, with_x, with_y, with_z, column, slab, table}
use Rattle.bucket_grid.proofs.Parts.{flat_suc}

flat_step : {A : Type 0} (f : ℕ → List A) (n t : ℕ) → n ≤ suc t → ((k : ℕ) → n ≤ k → k < suc t → f k ≡ []) → (n ≤ t → flat_map f (upto t) ≡ flat_map f (upto n)) → (n < suc t) ⊎ (suc t ≤ n) → flat_map f (upto (suc t)) ≡ flat_map f (upto n)
flat_step f n t le none before (inl lt) = flat_suc f t ∙ ap (λ l. flat_map f (upto t) ++ l) (none t (omega arith) (omega arith)) ∙ append-nil (flat_map f (upto t)) ∙ before (omega arith)
flat_step f n t le none before (inr ge) = let e : suc t ≡ n = omega (arith, le, ge) in ap (λ m. flat_map f (upto m)) e

-- numbers for which nothing is made are passed over
pub flat_skip : {A : Type 0} (f : ℕ → List A) (n t : ℕ) → n ≤ t → ((k : ℕ) → n ≤ k → k < t → f k ≡ []) → flat_map f (upto t) ≡ flat_map f (upto n)
flat_skip f n zero le none = let e : 0 ≡ n = omega (arith, le) in ap (λ m. flat_map f (upto m)) e
flat_skip f n (suc t) le none = flat_step f n t le none (λ h. flat_skip f n t h (λ k low high. none k low (omega arith))) (cases_lt n (suc t))

flat_none : {A : Type 0} (f : ℕ → List A) (n : ℕ) → ((k : ℕ) → k < n → f k ≡ []) → flat_map f (upto n) ≡ []
flat_none f n none = flat_skip f 0 n (omega arith) (λ k low high. none k high)

-- a cell with fewer than two members is no bucket
pub no_bucket : (c : Cell) (ns : List ℕ) → length ns < 2 → if_bucket c ns ≡ []
no_bucket c ns few = chosen (leb 2 (length ns)) refl
  where
    one : List Bucket
    one = record { cell = c; members = ns } ∷ []

    chosen : (b : Bool) → leb 2 (length ns) ≡ b → cond b one [] ≡ []
    chosen true h = absurd (omega (arith, few, leb-true 2 (length ns) h))
    chosen false h = refl

still_few : (spans : List Span) (k : ℕ) (ns : List ℕ) → length ns < 2 → length (among spans k ns) < 2
still_few spans k ns few = let p : ℕ → Bool = λ n. covers k (span_at spans n) in omega (arith, few, length-filter p ns, count_by-le-length p ns)

pub no_column : (zs : List Span) (low : Cell) (depth : ℕ) (ns : List ℕ) → length ns < 2 → column zs low depth ns ≡ []
no_column zs low depth ns few = flat_none (λ k. if_bucket (with_z low k) (among zs k ns)) depth (λ k lt. no_bucket (with_z low k) (among zs k ns) (still_few zs k ns few))

pub no_slab : (ys zs : List Span) (low : Cell) (width depth : ℕ) (ns : List ℕ) → length ns < 2 → slab ys zs low width depth ns ≡ []
no_slab ys zs low width depth ns few = flat_none (λ k. column zs (with_y low k) depth (among ys k ns)) width (λ k lt. no_column zs (with_y low k) depth (among ys k ns) (still_few ys k ns few))

-- nothing is added
pub none_more : {A : Type 0} (first made : List A) → made ≡ [] → first ≡ first ++ made
none_more first made e = sym (append-nil first) ∙ ap (λ l. first ++ l) (sym e)

-- a loop's step to a later number: what lies between makes nothing
upto_skip : {A : Type 0} (f : ℕ → List A) (n t : ℕ) (first now : List A) → n ≤ t → ((k : ℕ) → n ≤ k → k < t → f k ≡ []) → now ≡ first ++ flat_map f (upto n) → now ≡ first ++ flat_map f (upto t)
upto_skip f n t first now le none is = is ∙ ap (λ l. first ++ l) (sym (flat_skip f n t le none))

-- the lists from n to before t are empty
abbrev pub NoneFrom : List (List ℕ) → ℕ → ℕ → Type 0
NoneFrom lists n t = (k : ℕ) → n ≤ k → k < t → get_or lists k [] ≡ []

none_among : (spans : List Span) (ns : List ℕ) (count n t k : ℕ) (lists : List (List ℕ)) → AreDealt spans ns count lists → t ≤ length lists → NoneFrom lists n t → n ≤ k → k < t → among spans k ns ≡ []
none_among spans ns count n t k lists dealt end none low high = sym (dealt.each k (omega (arith, end, high, dealt.count_is))) ∙ none k low high

pub skip_column : (zs : List Span) (low : Cell) (ns : List ℕ) (count n t : ℕ) (lists : List (List ℕ)) (first now : List Bucket) → AreDealt zs ns count lists → n ≤ t → t ≤ length lists → NoneFrom lists n t
    → now ≡ first ++ column zs low n ns → now ≡ first ++ column zs low t ns
skip_column zs low ns count n t lists first now dealt le end none is =
    upto_skip (λ k. if_bucket (with_z low k) (among zs k ns)) n t first now le (λ k a b. ap (if_bucket (with_z low k)) (none_among zs ns count n t k lists dealt end none a b)) is

pub skip_slab : (ys zs : List Span) (low : Cell) (depth : ℕ) (ns : List ℕ) (count n t : ℕ) (lists : List (List ℕ)) (first now : List Bucket) → AreDealt ys ns count lists → n ≤ t → t ≤ length lists → NoneFrom lists n t
    → now ≡ first ++ slab ys zs low n depth ns → now ≡ first ++ slab ys zs low t depth ns
skip_slab ys zs low depth ns count n t lists first now dealt le end none is =
    upto_skip (λ k. column zs (with_y low k) depth (among ys k ns)) n t first now le
    (λ k a b. ap (column zs (with_y low k) depth) (none_among ys ns count n t k lists dealt end none a b) ∙ no_column zs (with_y low k) depth [] (omega arith)) is

pub skip_table : (xs ys zs : List Span) (low : Cell) (width depth : ℕ) (ns : List ℕ) (count n t : ℕ) (lists : List (List ℕ)) (now : List Bucket) → AreDealt xs ns count lists → n ≤ t → t ≤ length lists → NoneFrom lists n t
    → now ≡ table xs ys zs low n width depth ns → now ≡ table xs ys zs low t width depth ns
skip_table xs ys zs low width depth ns count n t lists now dealt le end none is =
    upto_skip (λ k. slab ys zs (with_x low k) width depth (among xs k ns)) n t [] now le
    (λ k a b. ap (slab ys zs (with_x low k) width depth) (none_among xs ns count n t k lists dealt end none a b) ∙ no_slab ys zs (with_x low k) width depth [] (omega arith)) is
