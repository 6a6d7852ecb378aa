-- Whole numbers of few digits are numbers that are read.
use Rattle.std.proofs.Common.{◌≡◌, ℕ, suc, ◌+◌, ◌<◌, ◌≤◌, rules, List, [], ◌∷◌, ◌++◌, length, get_or, drop, refl, sym, ap, ◌∙◌, arith, drop-cons, Some, None, pos}
use Rattle.std.proofs.lemmas.List.{append-nil, drop_all}
use Rattle.p21_lexer.specs.Spelling.{value_after}
use Rattle.bim_text.specs.NumberSpellings.{Unsigned, significant}
use Rattle.bim_text.specs.Decimals.{WritesWhole}
use Rattle.bim_text.specs.inner.NumberScanning.{front}
use Rattle.bim_text.proofs.Parts.{front_whole, front_digits}
use Rattle.bim_text.proofs.Significant.{significant_most, length_first}

few_digits : (ds : List ℕ) → length ds ≤ 34 → significant ds ≤ 34
few_digits ds h = omega (arith, significant_most ds, length_first ds)

-- digits alone
pub bare : (bs : List ℕ) (n : ℕ) → n ≡ value_after 0 (front bs) → 0 < length (front bs) → length (front bs) ≤ 34 → length (front bs) ≡ length bs → WritesWhole bs (pos n)
bare bs n e some few all =
    let whole : bs ≡ front bs ++ [] = front_whole bs ∙ ap (λ (l : List ℕ). front bs ++ l) (drop_all (length (front bs)) bs (omega (arith, all))) in
    let nil = append-nil (front bs) in
    record {
      spelling = record { sign = Unsigned; whole = front bs; fraction = None; exponent = None };
      read = record {
        number = record { whole = whole; digits = front_digits bs; some = some; fraction = refl; exponent = tt };
        short = omega (arith, few, all);
        few = rw nil (few_digits (front bs) few);
        low = search rules;
        high = search rules;
      };
      value = rw (nil, e) refl;
    }

last_one : (bs : List ℕ) (i : ℕ) → i + 1 ≡ length bs → get_or bs i 0 ≡ 46 → drop i bs ≡ 46 ∷ []
last_one bs i e h =
    let lt : i < length bs = omega (arith, e) in
    rw (drop-cons bs i 0 lt, h) (ap (λ (l : List ℕ). 46 ∷ l) (drop_all (suc i) bs (omega (arith, e))))

-- digits and a point
pub pointed : (bs : List ℕ) (n i : ℕ) → n ≡ value_after 0 (front bs) → i ≡ length (front bs) → 0 < i → i ≤ 34 → i + 1 ≡ length bs → get_or bs i 0 ≡ 46 → WritesWhole bs (pos n)
pointed bs n i e f some few all point =
    let whole : bs ≡ front bs ++ (46 ∷ []) = front_whole bs ∙ ap (λ (l : List ℕ). front bs ++ l) (ap (λ (k : ℕ). drop k bs) (sym f) ∙ last_one bs i all point) in
    let nil = append-nil (front bs) in
    record {
      spelling = record { sign = Unsigned; whole = front bs; fraction = Some []; exponent = None };
      read = record {
        number = record { whole = whole; digits = front_digits bs; some = omega (arith, some, f); fraction = refl; exponent = tt };
        short = omega (arith, few, all);
        few = rw nil (few_digits (front bs) (omega (arith, few, f)));
        low = search rules;
        high = search rules;
      };
      value = rw (nil, e) refl;
    }
