-- A length lies less than a millionth from so many millionths exactly if it lies between their two neighbours.
use Rattle.std.proofs.Common.{◌≡◌, ℕ, zero, suc, ◌+◌, ◌-◌, ◌*◌, ◌^◌, ◌<◌, ◌≤◌, ◌==◌, nat_lt, Bool, true, false, ℤ, pos, negsuc, ◌*ℤ◌, sym, ap, subst, ◌∙◌, arith}
use Rattle.std.specs.Prelude.{unsigned_abs}
use Rattle.std.specs.declared.cmp.Ordering.{Ordering}
use Rattle.std.specs.declared.cmp.Ordering.TheVariants.{Less, Equal, Greater}
use Rattle.std.specs.Ordering.{nat_cmp, ordering_index}
use Rattle.std.proofs.lemmas.Cmp.{ranked}
use Rattle.std.proofs.lemmas.Bool.{lt-ltb, le-ltb}
use Rattle.bim_text.specs.ScaledNumbers.{Scaled, signed, above, below, size_order}
use Rattle.ifc_units.specs.inner.RoundedLengths.{distance}
use Rattle.ifc_units.specs.Conversions.{is_about}
use Rattle.ifc_units.proofs.Signs.{gap_same, gap_other}

-- a length, and so many millionths
abbrev pub length : Bool → ℕ → ℤ → Scaled
length negative digits power = record { number = signed negative digits; power = power }

abbrev pub millionths : ℕ → Scaled
millionths n = record { number = pos n; power = negsuc 5 }

-- their order, in whole numbers
size_is : (d n : ℕ) (p : ℤ) → size_order (length false d p) (millionths n) ≡ nat_cmp (1000000 * (d * 10 ^ above p)) (n * 10 ^ below p)
size_is d n p =
    ap (λ (x : ℕ). nat_cmp x (unsigned_abs (pos n *ℤ pos (10 ^ 0)) * 10 ^ below p)) (left (d * 10 ^ above p))
    ∙ ap (λ (x : ℕ). nat_cmp (1000000 * (d * 10 ^ above p)) x) (right n (10 ^ below p))
  where
    left : (x : ℕ) → x * 10 ^ 6 ≡ 1000000 * x
    left x = omega arith

    right : (n k : ℕ) → unsigned_abs (pos n *ℤ pos (10 ^ 0)) * k ≡ n * k
    right n k = omega arith

-- what an order says
is_greater : (x y : ℕ) (r : Ordering) → r ≡ nat_cmp x y → (ordering_index r == 2) ≡ true → y < x
is_greater x y Less e is = cc
is_greater x y Equal e is = cc
is_greater x y Greater e is = ranked x y Greater e

not_greater : (x y : ℕ) (r : Ordering) → r ≡ nat_cmp x y → (ordering_index r == 2) ≡ false → x ≤ y
not_greater x y Less e is = let lt : x < y = ranked x y Less e in omega (arith, lt)
not_greater x y Equal e is = let same : x ≡ y = ranked x y Equal e in omega (arith, same)
not_greater x y Greater e is = cc

-- the distance is less exactly between the neighbours
between : (x m k : ℕ) → 0 < m → (m - 1) * k < x → x < (m + 1) * k → distance x (m * k) < k
between x zero k some low high = absurd (omega (arith, some))
between x (suc m) k some low high =
    let same : suc m - 1 ≡ m = omega arith in
    let over : m * k < x = subst (λ (n : ℕ). n * k < x) same low in
    omega (arith, over, high)

not_above : (x m k : ℕ) → 0 < m → x ≤ (m - 1) * k → k ≤ distance x (m * k)
not_above x zero k some low = absurd (omega (arith, some))
not_above x (suc m) k some low =
    let same : suc m - 1 ≡ m = omega arith in
    let under : x ≤ m * k = subst (λ (n : ℕ). x ≤ n * k) same low in
    omega (arith, under)

not_under : (x m k : ℕ) → (m + 1) * k ≤ x → k ≤ distance x (m * k)
not_under x m k high = omega (arith, high)

is_less : (x m k : ℕ) (s : Ordering) → 0 < m → (m - 1) * k < x → s ≡ nat_cmp x ((m + 1) * k) → (ordering_index s == 0) ≡ nat_lt (distance x (m * k)) k
is_less x m k Less some low e = let lt : x < (m + 1) * k = ranked x ((m + 1) * k) Less e in sym (lt-ltb _ _ (between x m k some low lt))
is_less x m k Equal some low e = let same : x ≡ (m + 1) * k = ranked x ((m + 1) * k) Equal e in sym (le-ltb _ _ (not_under x m k (omega (arith, same))))
is_less x m k Greater some low e = let lt : (m + 1) * k < x = ranked x ((m + 1) * k) Greater e in sym (le-ltb _ _ (not_under x m k (omega (arith, lt))))

-- a negative length is never there
least : (x m k : ℕ) → 0 < m → k ≤ x + m * k
least x zero k some = absurd (omega (arith, some))
least x (suc m) k some = omega arith

pub never_about : (b : Bool) (d m : ℕ) (p : ℤ) → b ≡ true → 0 < m → false ≡ is_about m (length b d p)
unfolding is_about
never_about false d m p is some = cc
never_about true d m p is some =
    sym (le-ltb _ _ (subst (λ (n : ℕ). 10 ^ below p ≤ n) (sym (gap_other 1000000 true d m p)) (least (1000000 * (d * 10 ^ above p)) m (10 ^ below p) some)))

-- another one is, between the neighbours

pub not_about : (b : Bool) (d m : ℕ) (p : ℤ) (r : Ordering) → b ≡ false → 0 < m → r ≡ size_order (length b d p) (millionths (m - 1)) → (ordering_index r == 2) ≡ false → false ≡ is_about m (length b d p)
unfolding is_about
not_about true d m p r is some e low = cc
not_about false d m p r is some e low =
    let x = 1000000 * (d * 10 ^ above p) in
    let k = 10 ^ below p in
    sym (le-ltb _ _ (subst (λ (n : ℕ). k ≤ n) (sym (gap_same 1000000 false d m p)) (not_above x m k some (not_greater x ((m - 1) * k) r (e ∙ size_is d (m - 1) p) low))))

pub about_below : (b : Bool) (d m : ℕ) (p : ℤ) (r s : Ordering) → b ≡ false → 0 < m → r ≡ size_order (length b d p) (millionths (m - 1)) → (ordering_index r == 2) ≡ true
    → s ≡ size_order (length b d p) (millionths (m + 1)) → (ordering_index s == 0) ≡ is_about m (length b d p)
unfolding is_about
about_below true d m p r s is some e low f = cc
about_below false d m p r s is some e low f =
    let x = 1000000 * (d * 10 ^ above p) in
    let k = 10 ^ below p in
    subst (λ (n : ℕ). (ordering_index s == 0) ≡ nat_lt n k) (sym (gap_same 1000000 false d m p))
    (is_less x m k s some (is_greater x ((m - 1) * k) r (e ∙ size_is d (m - 1) p) low) (f ∙ size_is d (m + 1) p))
