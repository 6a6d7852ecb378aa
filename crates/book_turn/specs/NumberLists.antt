-- Lists of numbers: of passes, and of turns.
use Rattle.std.specs.Prelude.{ℕ, zero, suc, ◌+◌, max, List, [], ◌∷◌, Bool, false, if◌then◌else◌, eqb, ◌||◌}

-- 1 where the numbers are one, and else 0
abbrev pub same : ℕ → ℕ → ℕ
same x y = if eqb x y then 1 else 0

-- how often x is in the list
abbrev pub times : ℕ → List ℕ → ℕ
times x [] = 0
times x (y ∷ ys) = same x y + times x ys

-- whether x is in the list
abbrev pub has : ℕ → List ℕ → Bool
has x [] = false
has x (y ∷ ys) = eqb x y || has x ys

-- the greatest number of the list, or 0
abbrev pub greatest : List ℕ → ℕ
greatest [] = 0
greatest (x ∷ xs) = max x (greatest xs)

-- the numbers a, a + 1 .., n of them
abbrev pub numbers_from : ℕ → ℕ → List ℕ
numbers_from a zero = []
numbers_from a (suc n) = a ∷ numbers_from (suc a) n

-- the first number alone
abbrev pub first_only : List ℕ → List ℕ
first_only [] = []
first_only (p ∷ ps) = p ∷ []

-- all numbers but the first
abbrev pub all_but_first : List ℕ → List ℕ
all_but_first [] = []
all_but_first (p ∷ ps) = ps
