-- What is left of bytes after some, and what stands there.
use Rattle.std.proofs.Common.{◌≡◌, ℕ, zero, suc, ◌+◌, ◌<◌, ◌≤◌, List, [], ◌∷◌, length, get_or, drop, take, nat_lt, true, false, refl, ap, arith, add-one, lt-ltb, le-ltb}

pub skip_more : (bs cs : List ℕ) (b i : ℕ) → drop i bs ≡ b ∷ cs → drop (i + 1) bs ≡ cs
skip_more bs cs b i e = rw (add-one i) (step bs i e)
  where
    step : (bs : List ℕ) (i : ℕ) → drop i bs ≡ b ∷ cs → drop (suc i) bs ≡ cs
    step [] zero e = cc
    step [] (suc i) e = cc
    step (c ∷ bs) zero e = cc
    step (c ∷ bs) (suc i) e = step bs i e

pub skip_none : (bs : List ℕ) (i n : ℕ) → drop i bs ≡ [] → i ≤ n → drop n bs ≡ []
skip_none [] i zero e l = refl
skip_none [] i (suc n) e l = refl
skip_none (b ∷ bs) zero n e l = cc
skip_none (b ∷ bs) (suc i) zero e l = absurd (omega (arith, l))
skip_none (b ∷ bs) (suc i) (suc n) e l = skip_none bs i n e (omega (arith, l))

pub ruleset skips = (skip_more, skip_none)

pub place_there : (bs cs : List ℕ) (b i : ℕ) → drop i bs ≡ b ∷ cs → get_or bs i 0 ≡ b
place_there [] cs b zero e = cc
place_there [] cs b (suc i) e = cc
place_there (c ∷ bs) cs b zero e = cc
place_there (c ∷ bs) cs b (suc i) e = place_there bs cs b i e

pub place_past : (bs : List ℕ) (i : ℕ) → drop i bs ≡ [] → get_or bs i 0 ≡ 0
place_past [] i e = refl
place_past (c ∷ bs) zero e = cc
place_past (c ∷ bs) (suc i) e = place_past bs i e

before : (bs cs : List ℕ) (b i : ℕ) → drop i bs ≡ b ∷ cs → i < length bs
before [] cs b zero e = cc
before [] cs b (suc i) e = cc
before (c ∷ bs) cs b zero e = omega arith
before (c ∷ bs) cs b (suc i) e = omega (arith, before bs cs b i e)

behind : (bs : List ℕ) (i : ℕ) → drop i bs ≡ [] → length bs ≤ i
behind [] i e = omega arith
behind (c ∷ bs) zero e = cc
behind (c ∷ bs) (suc i) e = omega (arith, behind bs i e)

pub within_there : (bs cs : List ℕ) (b i : ℕ) → drop i bs ≡ b ∷ cs → nat_lt i (length bs) ≡ true
within_there bs cs b i e = lt-ltb _ _ (before bs cs b i e)

pub within_past : (bs : List ℕ) (i : ℕ) → drop i bs ≡ [] → nat_lt i (length bs) ≡ false
within_past bs i e = le-ltb _ _ (behind bs i e)

pub ruleset places = (place_there, place_past, within_there, within_past)

same_front : (xs ys : List ℕ) (n : ℕ) → n ≤ length xs → n ≤ length ys → ((k : ℕ) → k < n → get_or xs k 0 ≡ get_or ys k 0) → take n xs ≡ take n ys
same_front xs ys zero l m h = refl
same_front [] ys (suc n) l m h = absurd (omega (arith, l))
same_front (x ∷ xs) [] (suc n) l m h = absurd (omega (arith, m))
same_front (x ∷ xs) (y ∷ ys) (suc n) l m h =
    let e : x ≡ y = h 0 (omega arith) in
    rw e (ap (λ (zs : List ℕ). y ∷ zs) (same_front xs ys n (omega (arith, l)) (omega (arith, m)) (λ k lt. h (suc k) (omega (arith, lt)))))

pub front_there : (bs : List ℕ) (a b c d n : ℕ) → a ≡ get_or bs 0 0 → b ≡ get_or bs 1 0 → c ≡ get_or bs 2 0 → d ≡ get_or bs 3 0 → n ≤ 4 → n ≤ length bs → take n (a ∷ b ∷ c ∷ d ∷ []) ≡ take n bs
front_there bs a b c d n ea eb ec ed l m = same_front (a ∷ b ∷ c ∷ d ∷ []) bs n l m (λ k lt. at k (omega (arith, lt, l)))
  where
    at : (k : ℕ) → k < 4 → get_or (a ∷ b ∷ c ∷ d ∷ []) k 0 ≡ get_or bs k 0
    at zero lt = ea
    at (suc zero) lt = eb
    at (suc (suc zero)) lt = ec
    at (suc (suc (suc zero))) lt = ed
    at (suc (suc (suc (suc k)))) lt = absurd (omega (arith, lt))

pub ruleset fronts = (front_there)
