-- The pairs of numbers that have a rule, in order.
use Rattle.std.proofs.Common.{◌≡◌, ℕ, ◌<◌, inl, inr, Bool, true, false, cond, ltb, List, [], get_or, true≢false, Option, Some, None, refl, sym, ap, ap₂, subst, arith, ◌∙◌}
use Rattle.std.specs.List.{AllPairs, All, Any, Contains, flat_map}
use Rattle.std.proofs.lemmas.Bool.{lt-ltb, ltb-true}
use Rattle.std.proofs.lemmas.List.Elements.{All-nil, All-cons, All-contains}
use Rattle.bucket_grid.specs.BucketTable.{upto}
use Rattle.bucket_grid.proofs.Parts.{flat_all, flat_any, flat_pairs}
use Rattle.bucket_check.specs.declared.pair.SetPair.{SetPair}
use Rattle.bucket_check.specs.Clashes.{pair_if, pairs_by, IsBefore}
use Rattle.bucket_check.proofs.Lists.{Lists}

-- no pair comes before another that comes before it
pub once : (p q : SetPair) → IsBefore p q → IsBefore q p → ⊥
once p q (inl h) (inl k) = omega arith
once p q (inl h) (inr k) = omega (arith, k.0)
once p q (inr h) (inl k) = omega (arith, h.0)
once p q (inr h) (inr k) = omega (arith, h.1, k.1)

-- a pair of numbers below n with their rule
pub record IsPairBy (n : ℕ) (rule : ℕ → ℕ → Option ℕ) (p : SetPair) : Type 0 where
  pub below : p.a < p.b
  pub within : p.b < n
  pub decided : rule p.a p.b ≡ Some p.rule

abbrev one : (ℕ → ℕ → Option ℕ) → ℕ → ℕ → List SetPair
one rule a b = cond (ltb a b) (pair_if a b (rule a b)) []

abbrev row : ℕ → (ℕ → ℕ → Option ℕ) → ℕ → List SetPair
row n rule a = flat_map (one rule a) (upto n)

-- what is listed for two numbers
record IsOne (rule : ℕ → ℕ → Option ℕ) (a b : ℕ) (p : SetPair) : Type 0 where
  first : p.a ≡ a
  second : p.b ≡ b
  below : a < b
  decided : rule a b ≡ Some p.rule

some_one : (rule : ℕ → ℕ → Option ℕ) (a b : ℕ) (o : Option ℕ) → rule a b ≡ o → a < b → All (IsOne rule a b) (pair_if a b o)
some_one rule a b None e h = All-nil (IsOne rule a b)
some_one rule a b (Some r) e h = All-cons (IsOne rule a b) (record { a = a; b = b; rule = r }) [] (record { first = refl; second = refl; below = h; decided = e }) (All-nil (IsOne rule a b))

each_one : (rule : ℕ → ℕ → Option ℕ) (a b : ℕ) → All (IsOne rule a b) (one rule a b)
each_one rule a b = chosen (ltb a b) refl
  where
    chosen : (t : Bool) → ltb a b ≡ t → All (IsOne rule a b) (cond t (pair_if a b (rule a b)) [])
    chosen true e = some_one rule a b (rule a b) refl (ltb-true a b e)
    chosen false e = All-nil (IsOne rule a b)

short : (a b : ℕ) (o : Option ℕ) → AllPairs IsBefore (pair_if a b o)
short a b None = λ i j d below within. absurd (omega (arith, within))
short a b (Some r) = λ i j d below within. absurd (omega (arith, below, within))

one_rises : (rule : ℕ → ℕ → Option ℕ) (a b : ℕ) → AllPairs IsBefore (one rule a b)
one_rises rule a b = chosen (ltb a b)
  where
    chosen : (t : Bool) → AllPairs IsBefore (cond t (pair_if a b (rule a b)) [])
    chosen true = short a b (rule a b)
    chosen false = λ i j d below within. absurd (omega (arith, within))

firsts : (n : ℕ) (rule : ℕ → ℕ → Option ℕ) (a : ℕ) → All (λ (p : SetPair). p.a ≡ a) (row n rule a)
firsts n rule a = flat_all (λ (p : SetPair). p.a ≡ a) (one rule a) n (λ b h i d k. (each_one rule a b i d k).first)

row_rises : (n : ℕ) (rule : ℕ → ℕ → Option ℕ) (a : ℕ) → AllPairs IsBefore (row n rule a)
row_rises n rule a =
    flat_pairs IsBefore (λ b (p : SetPair). (p.a ≡ a) × (p.b ≡ b)) (one rule a) n
    (λ j k p q h x y. inr (x.0 ∙ sym y.0, omega (arith, h, x.1, y.1)))
    (λ b i d k. let o = each_one rule a b i d k in (o.first, o.second))
    (λ b h. one_rises rule a b)

placed : (n : ℕ) (rule : ℕ → ℕ → Option ℕ) (a b : ℕ) (p : SetPair) → b < n → IsOne rule a b p → IsPairBy n rule p
placed n rule a b p h o = record {
  below = omega (arith, o.first, o.second, o.below);
  within = omega (arith, o.second);
  decided = ap₂ rule o.first o.second ∙ o.decided;
}

-- a pair that is listed for its numbers
here : (rule : ℕ → ℕ → Option ℕ) (p : SetPair) (t : Bool) (o : Option ℕ) → t ≡ true → o ≡ Some p.rule → Any (λ (q : SetPair). q ≡ p) (cond t (pair_if p.a p.b o) [])
here rule p true None e f = cc
here rule p true (Some r) e f =
    let same : r ≡ p.rule = cc in
    (0, record { a = p.a; b = p.b; rule = r }, omega arith, refl, ap (λ x. let q : SetPair = record { a = p.a; b = p.b; rule = x } in q) same)
here rule p false o e f = absurd (true≢false (sym e))

any_in : (xs : List SetPair) (p : SetPair) → Any (λ (q : SetPair). q ≡ p) xs → Contains xs p
any_in xs p a = subst (Contains xs) a.4 (a.0, a.2, a.3)

pub pairs_list : (n : ℕ) (rule : ℕ → ℕ → Option ℕ) → Lists IsBefore (IsPairBy n rule) (pairs_by n rule)
pairs_list n rule = record {
  rising =
      flat_pairs IsBefore (λ a (p : SetPair). p.a ≡ a) (row n rule) n (λ j k p q h x y. inl (omega (arith, h, x, y))) (firsts n rule) (λ a h. row_rises n rule a);
  each = λ p c.
      All-contains (IsPairBy n rule) (pairs_by n rule) p
      (flat_all (IsPairBy n rule) (row n rule) n (λ a h. flat_all (IsPairBy n rule) (one rule a) n (λ b k i d l. placed n rule a b (get_or (one rule a b) i d) k (each_one rule a b i d l)))) c;
  all = λ p h.
      any_in (pairs_by n rule) p
      (flat_any (λ (q : SetPair). q ≡ p) (row n rule) n p.a (omega (arith, h.below, h.within))
      (flat_any (λ (q : SetPair). q ≡ p) (one rule p.a) n p.b h.within (here rule p (ltb p.a p.b) (rule p.a p.b) (lt-ltb p.a p.b h.below) h.decided)));
}
