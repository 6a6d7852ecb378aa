-- Any and All of a list, over a loop and over parts of the list
use Rattle.std.proofs.Common.{ℕ, ◌≡◌, ◌≤◌, ◌<◌, ◌+◌, ◌-◌, ◌⊎◌, inl, inr, List, [], length, All, take, drop, take_all, sym, subst, ◌∙◌, min, arith, pos}
use Rattle.std.specs.Prelude.{Any, slice_index_or}
use Rattle.std.proofs.lemmas.List.{get_or_default, get_or-take, get_or-drop, length-take, length-drop}
use Rattle.std.proofs.lemmas.Int.{ints, by_lt_z}

pub no_any : {X : Type 0} (P : X → Type 0) (xs : List X) → All (λ x. P x → ⊥) xs → Any P xs → ⊥
no_any P xs none (k, x, lt, e, p) = none k x lt (subst P (sym e) p)

pub none_any : {X : Type 0} (P : X → Type 0) (xs : List X) → xs ≡ [] → Any P xs → ⊥
none_any P xs e (k, x, lt, f, p) = absurd (omega (arith, subst (λ (ys : List _). k < length ys) e lt))

pub finished : {X : Type 0} (P : X → Type 0) (xs : List X) (i : ℕ) → length xs ≤ i → All P (take i xs) → All P xs
finished P xs i h a = subst (All P) (take_all i xs h) a

pub some_any : {X : Type 0} (P : X → Type 0) (xs : List X) (i : ℕ) (d : X) → i < length xs → P (slice_index_or xs i d) → Any P xs
some_any P xs i d lt p = (i, slice_index_or xs i d, lt, get_or_default xs i (slice_index_or xs i d) d lt, p)

pub any_map : {X : Type 0} (P Q : X → Type 0) (xs : List X) → ((x : X) → P x → Q x) → Any P xs → Any Q xs
any_map P Q xs f (k, x, lt, e, p) = (k, x, lt, e, f x p)

-- ---- the first n of a list, and those after them
pub by_lt : {P : Type 0} (a b : ℕ) → (a < b → P) → (b ≤ a → P) → P
by_lt a b f g = by_lt_z (pos a) (pos b) (λ h. f (omega (arith, ints, h))) (λ h. g (omega (arith, ints, h)))

below : (k n m l : ℕ) → m ≡ min n l → k < m → k < n
below k n m l e h = omega (arith, e, h)

within : (k n m l : ℕ) → m ≡ min n l → k < m → k < l
within k n m l e h = omega (arith, e, h)

both : (k n m l : ℕ) → m ≡ min n l → k < n → k < l → k < m
both k n m l e f h = omega (arith, e, f, h)

behind : (k n m l : ℕ) → m ≡ l - n → k < m → n + k < l
behind k n m l e h = omega (arith, e, h)

before : (k n m l : ℕ) → m ≡ l - n → n ≤ k → k < l → k - n < m
before k n m l e f h = omega (arith, e, f, h)

back : (k n : ℕ) → n ≤ k → n + (k - n) ≡ k
back k n h = omega (arith, h)

pub any_front : {X : Type 0} (P : X → Type 0) (n : ℕ) (xs : List X) → Any P (take n xs) → Any P xs
any_front P n xs (k, x, lt, e, p) =
    let h = below k n (length (take n xs)) (length xs) (length-take n xs) lt in
    (k, x, within k n (length (take n xs)) (length xs) (length-take n xs) lt, sym (get_or-take n xs k x h) ∙ e, p)

pub any_behind : {X : Type 0} (P : X → Type 0) (n : ℕ) (xs : List X) → Any P (drop n xs) → Any P xs
any_behind P n xs (k, x, lt, e, p) = (n + k, x, behind k n (length (drop n xs)) (length xs) (length-drop n xs) lt, sym (get_or-drop n xs k x) ∙ e, p)

pub any_parts : {X : Type 0} (P : X → Type 0) (n : ℕ) (xs : List X) → Any P xs → Any P (take n xs) ⊎ Any P (drop n xs)
any_parts {X} P n xs (k, x, lt, e, p) =
    by_lt k n
    (λ h. inl (k, x, both k n (length (take n xs)) (length xs) (length-take n xs) h lt, get_or-take n xs k x h ∙ e, p))
    (λ h. inr (k - n, x, before k n (length (drop n xs)) (length xs) (length-drop n xs) h lt, get_or-drop n xs (k - n) x ∙ subst (λ (j : ℕ). slice_index_or xs j x ≡ x) (sym (back k n h)) e, p))
