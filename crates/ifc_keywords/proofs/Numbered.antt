-- Each known keyword has its number, and stands in the table at its hash.
use Rattle.std.proofs.Common.{◌⊎◌, false, ◌≡◌, ℕ, zero, suc, ◌+◌, ◌<◌, ◌≤◌, ◌==◌, inl, inr, Bool, true, ◌&&◌, nat_le, List, [], ◌∷◌, length, get_or, map, Option, Some, None, arith, refl, sym, ap, ◌∙◌}
use Rattle.std.proofs.lemmas.Bool.{cases_Bool, eqb-true, and_parts}
use Rattle.std.proofs.lemmas.Bool.Decides.{nat_tests}
use Rattle.std.proofs.lemmas.Slice.Eq.{bytes_eq-Decides}
use Rattle.std.specs.Char.{to_ascii_uppercase}
use Rattle.std.specs.Str.{bytes_eq}
use Rattle.ifc_keywords.specs.declared.known_words.TheConstants.{KEYWORDS}
use Rattle.ifc_keywords.specs.Codes.{known, code_among, code_of, code_at, hash_of}

-- bytes that are alike

pub is_same : (a b : List ℕ) → bytes_eq a b ≡ true → a ≡ b
is_same a b e = (bytes_eq-Decides a b).0 e

pub same_is : (a b : List ℕ) → a ≡ b → bytes_eq a b ≡ true
same_is a b e = (bytes_eq-Decides a b).1 e

-- Each keyword stands at its hash.

abbrev pub entered : List ℕ → ℕ → List (List ℕ) → Bool
entered table n [] = true
entered table n (w ∷ ws) = (get_or table (hash_of w) 0 == n) && entered table (n + 1) ws

entered_at : (table : List ℕ) (n : ℕ) (ws : List (List ℕ)) (k : ℕ) → entered table n ws ≡ true → k < length ws → get_or table (hash_of (get_or ws k [])) 0 ≡ n + k
entered_at table n [] k h lt = absurd (omega (arith, lt))
entered_at table n (w ∷ ws) zero h lt = let p = and_parts (get_or table (hash_of w) 0 == n) (entered table (n + 1) ws) h in eqb-true (get_or table (hash_of w) 0) n p.0 ∙ omega arith
entered_at table n (w ∷ ws) (suc k) h lt = let p = and_parts (get_or table (hash_of w) 0 == n) (entered table (n + 1) ws) h in entered_at table (n + 1) ws k p.1 (omega (arith, lt)) ∙ omega arith

known_many : length known ≡ KEYWORDS
unfolding known
known_many = refl

pub entry_is : (table : List ℕ) (hash k : ℕ) → entered table 0 known ≡ true → k < KEYWORDS → hash_of (get_or known k []) ≡ hash → get_or table hash 0 ≡ k
entry_is table hash k t lt e = ap (λ (n : ℕ). get_or table n 0) (sym e) ∙ entered_at table 0 known k t (omega (arith, lt, known_many)) ∙ omega arith

-- Each keyword is in upper case.

abbrev uppers : List (List ℕ) → Bool
uppers [] = true
uppers (w ∷ ws) = bytes_eq (map to_ascii_uppercase w) w && uppers ws

upper_at : (ws : List (List ℕ)) (k : ℕ) → uppers ws ≡ true → k < length ws → map to_ascii_uppercase (get_or ws k []) ≡ get_or ws k []
upper_at [] k h lt = absurd (omega (arith, lt))
upper_at (w ∷ ws) zero h lt = is_same _ _ (and_parts (bytes_eq (map to_ascii_uppercase w) w) (uppers ws) h).0
upper_at (w ∷ ws) (suc k) h lt = upper_at ws k (and_parts (bytes_eq (map to_ascii_uppercase w) w) (uppers ws) h).1 (omega (arith, lt))

all_upper : uppers known ≡ true
unfolding known
all_upper = refl

pub in_upper : (n : ℕ) → n < KEYWORDS → map to_ascii_uppercase (get_or known n []) ≡ get_or known n []
in_upper n lt = upper_at known n all_upper (omega (arith, lt, known_many))

-- Each keyword has its number.

abbrev numbered : ℕ → List (List ℕ) → Bool
numbered n [] = true
numbered n (w ∷ ws) = (code_of w == n) && numbered (n + 1) ws

numbered_at : (n : ℕ) (ws : List (List ℕ)) (k : ℕ) → numbered n ws ≡ true → k < length ws → code_of (get_or ws k []) ≡ n + k
numbered_at n [] k h lt = absurd (omega (arith, lt))
numbered_at n (w ∷ ws) zero h lt = let p = and_parts (code_of w == n) (numbered (n + 1) ws) h in eqb-true (code_of w) n p.0 ∙ omega arith
numbered_at n (w ∷ ws) (suc k) h lt = let p = and_parts (code_of w == n) (numbered (n + 1) ws) h in numbered_at (n + 1) ws k p.1 (omega (arith, lt)) ∙ omega arith

all_numbered : numbered 0 known ≡ true
unfolding known code_of
all_numbered = refl

-- a word that is the keyword of a number has it
pub has_number : (k : List ℕ) (n : ℕ) → n < KEYWORDS → k ≡ get_or known n [] → n ≡ code_of k
has_number k n lt e = sym (ap code_of e ∙ numbered_at 0 known n all_numbered (omega (arith, lt, known_many)) ∙ omega arith)

-- A word that is none of them has none.

among_none : (n : ℕ) (ws : List (List ℕ)) (k : List ℕ) → ((j : ℕ) → j < length ws → k ≡ get_or ws j [] → ⊥) → code_among n ws k ≡ 255
among_none n [] k h = refl
among_none n (w ∷ ws) k h = elim (cases_Bool (bytes_eq k w)) [
  | inl t ↦ absurd (h 0 (omega arith) (is_same k w t))
  | inr f ↦ rw f (among_none (n + 1) ws k (λ j lt. h (suc j) (omega (arith, lt))))
]

pub no_number : (k : List ℕ) → ((j : ℕ) → j < KEYWORDS → k ≡ get_or known j [] → ⊥) → 255 ≡ code_of k
unfolding code_of
no_number k h = sym (among_none 0 known k (λ j lt. h j (omega (arith, lt, known_many))))

abbrev long : List (List ℕ) → Bool
long [] = true
long (w ∷ ws) = nat_le 4 (length w) && long ws

long_at : (ws : List (List ℕ)) (k : ℕ) → long ws ≡ true → k < length ws → 4 ≤ length (get_or ws k [])
long_at [] k h lt = absurd (omega (arith, lt))
long_at (w ∷ ws) zero h lt = let p = and_parts (nat_le 4 (length w)) (long ws) h in grind (arith, nat_tests)
long_at (w ∷ ws) (suc k) h lt = let p = and_parts (nat_le 4 (length w)) (long ws) h in long_at ws k p.1 (omega (arith, lt))

all_long : long known ≡ true
unfolding known
all_long = refl

-- a short word is none of them
pub short_none : (k : List ℕ) → length k < 4 → 255 ≡ code_of k
short_none k lt = no_number k (λ j l e. let n = ap (λ (xs : List ℕ). length xs) e in let m = long_at known j all_long (omega (arith, l, known_many)) in omega (arith, lt, n, m))

-- A word's number, from the other side.

-- a word is the keyword of its number
pub record CodedAs (k : List ℕ) : Type 0 where
  pub at : ℕ
  pub within : at < KEYWORDS
  pub word : k ≡ get_or known at []
  pub number : code_of k ≡ at

-- the place of a word in a list, or it is none of them
abbrev Among : List (List ℕ) → List ℕ → Type 0
Among ws k = ((j : ℕ) × (j < length ws) × (k ≡ get_or ws j [])) ⊎ ((j : ℕ) → j < length ws → k ≡ get_or ws j [] → ⊥)

among : (ws : List (List ℕ)) (k : List ℕ) → Among ws k
among [] k = inr (λ j lt e. omega (arith, lt))
among (w ∷ ws) k = elim (cases_Bool (bytes_eq k w)) [
  | inl t ↦ inl (0, omega arith, is_same k w t)
  | inr f ↦ elim (among ws k) [
    | inl p ↦ inl (suc p.0, omega (arith, p.1), p.2)
    | inr n ↦ inr (λ j. other j f n)
  ]
]
  where
    other : (j : ℕ) → bytes_eq k w ≡ false → ((i : ℕ) → i < length ws → k ≡ get_or ws i [] → ⊥) → j < length (w ∷ ws) → k ≡ get_or (w ∷ ws) j [] → ⊥
    other zero f n lt e = (let t = same_is k w e in cc)
    other (suc j) f n lt e = n j (omega (arith, lt)) e

pub a_number : (k : List ℕ) → CodedAs k ⊎ (code_of k ≡ 255)
a_number k = elim (among known k) [
  | inl p ↦ (let lt : p.0 < KEYWORDS = omega (arith, p.1, known_many) in inl (record { at = p.0; within = lt; word = p.2; number = sym (has_number k p.0 lt p.2) }))
  | inr n ↦ inr (sym (no_number k (λ j lt e. n j (omega (arith, lt, known_many)) e)))
]

-- the keyword of a number below their count is the one that stands there
pub keyword_of : (keyword : Option (List ℕ)) (n : ℕ) → n < KEYWORDS → code_at keyword ≡ n → keyword ≡ Some (get_or known n [])
keyword_of None n lt e = absurd (omega (arith, lt, e))
keyword_of (Some k) n lt e = elim (a_number k) [
  | inl r ↦ (let same : r.at ≡ n = sym r.number ∙ e in ap (λ (w : List ℕ). Some w) (r.word ∙ ap (λ (i : ℕ). get_or known i []) same))
  | inr f ↦ absurd (omega (arith, lt, e, f))
]
