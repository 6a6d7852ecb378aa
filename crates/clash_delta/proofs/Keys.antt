-- The elements of a version in the order of their keys.
use Rattle.std.proofs.Common.{◌≡◌, ◌↔◌, ℕ, ◌<◌, ◌⊎◌, inl, inr, List, length, get_or, Bool, true, false, IsTrue, true≢false, refl, sym, ap, subst, arith, ◌∙◌}
use Rattle.std.specs.Cmp.{IsTotalOrder}
use Rattle.std.specs.List.{AllPairs}
use Rattle.std.specs.Ordering.{is_lt, is_eq, ordering_then, nat_cmp}
use Rattle.std.specs.Cmp.Lexicographic.{slice_cmp}
use Rattle.std.specs.declared.cmp.Ordering.{Ordering}
use Rattle.std.specs.declared.cmp.Ordering.TheVariants.{Less, Equal, Greater}
use Rattle.std.proofs.lemmas.Cmp.{nat_list_cmp_total, on_total, then_total, tied_itself}
use Rattle.std.proofs.lemmas.Map.Lookups.{exact_bytes}
use Rattle.std.proofs.lemmas.Bool.{cases_order}
use Rattle.bim_model.specs.declared.element.Element.{Element}
use Rattle.bim_model.specs.declared.keys.ElementKey.{ElementKey}
use Rattle.bim_model.specs.Keys.{Subject, key_of, key_cmp, IsBelow}
use Rattle.bim_model.proofs.Versions.{less}
use Rattle.bucket_grid.specs.Subjects.{subject_at, nobody}
use Rattle.bucket_check.specs.ClashSets.{IsSame}
use Rattle.clash_delta.specs.inner.Same.{IsLike}
use Rattle.clash_delta.specs.inner.ElementNumbers.{HadNumber, AllBelow, IsReached}

keys_total : IsTotalOrder key_cmp
keys_total = then_total (on_total (λ (k : ElementKey). k.model) nat_list_cmp_total) (on_total (λ (k : ElementKey). k.guid.chars) nat_list_cmp_total)

pub below_trans : (s t u : Subject) → IsBelow s t → IsBelow t u → IsBelow s u
below_trans s t u h k =
    let both : key_cmp (key_of s) (key_of u) ≡ Less = keys_total.trans (key_of s) (key_of t) (key_of u) (less (key_cmp (key_of s) (key_of t)) h) (less (key_cmp (key_of t) (key_of u)) k) in
    ap is_lt both

equal_itself : (k : ElementKey) → key_cmp k k ≡ Equal
equal_itself k = ap (λ o. ordering_then o (slice_cmp nat_cmp k.guid.chars k.guid.chars)) (tied_itself nat_list_cmp_total k.model) ∙ tied_itself nat_list_cmp_total k.guid.chars

-- elements of one key aren't below each other
pub one_key : (s t : Subject) → key_of s ≡ key_of t → IsBelow s t → ⊥
one_key s t e h =
    let same : key_cmp (key_of s) (key_of t) ≡ Equal = ap (λ k. key_cmp k (key_of t)) e ∙ equal_itself (key_of t) in
    true≢false (sym h ∙ ap is_lt same)

both_equal : (o p : Ordering) → ordering_then o p ≡ Equal → (o ≡ Equal) × (p ≡ Equal)
both_equal Less p e = cc
both_equal Equal p e = (refl, e)
both_equal Greater p e = cc

-- keys of one order are one
pub equal_keys : (k l : ElementKey) → key_cmp k l ≡ Equal → k ≡ l
equal_keys k l e =
    let p = both_equal (slice_cmp nat_cmp k.model l.model) (slice_cmp nat_cmp k.guid.chars l.guid.chars) e in
    ap (λ m. let q : ElementKey = record { model = m; guid = k.guid } in q) (exact_bytes k.model l.model p.0)
    ∙ ap (λ c. let q : ElementKey = record { model = l.model; guid = record { chars = c } } in q) (exact_bytes k.guid.chars l.guid.chars p.1)

module _ (before : List Subject) (rising : AllPairs IsBelow before) where
  -- two numbers of one key are one
  pub one_number : (m n : ℕ) → m < length before → n < length before → key_of (subject_at before m) ≡ key_of (subject_at before n) → (m ≡ n) ⊎ ((m < n) ⊎ (n < m)) → m ≡ n
  one_number m n h k e (inl same) = same
  one_number m n h k e (inr (inl lt)) = absurd (one_key (subject_at before m) (subject_at before n) e (rising m n nobody lt k))
  one_number m n h k e (inr (inr gt)) = absurd (one_key (subject_at before n) (subject_at before m) (sym e) (rising n m nobody gt h))

  module _ (s : Subject) (old : ℕ) (reached : IsReached before s old) where
    -- an element that isn't the one that is reached had no number
    pub none_before : (old < length before → IsSame (subject_at before old) s → ⊥) → (n : ℕ) → HadNumber before s n → ⊥
    none_before never n had = by (cases_order n old)
      where
        by : (n ≡ old) ⊎ ((n < old) ⊎ (old < n)) → ⊥
        by (inl e) = never (omega (arith, e, had.within)) (subst (λ m. IsSame (subject_at before m) s) e had.same)
        by (inr (inl lt)) = one_key (subject_at before n) s had.same.key (reached.below n lt)
        by (inr (inr gt)) =
            let up : IsBelow (subject_at before old) (subject_at before n) = rising old n nobody gt had.within in
            reached.first (omega (arith, had.within)) (higher (key_of (subject_at before n)) (key_of s) had.same.key up)
          where
            higher : (k l : ElementKey) → k ≡ l → is_lt (key_cmp (key_of (subject_at before old)) k) ≡ true → is_lt (key_cmp (key_of (subject_at before old)) l) ≡ true
            higher k l e h = subst (λ m. is_lt (key_cmp (key_of (subject_at before old)) m) ≡ true) e h

-- ---- what is told of two elements by their keys and by what else decides
is_equal : (o : Ordering) → is_eq o ≡ true → o ≡ Equal
is_equal Less e = absurd (true≢false (sym e))
is_equal Equal e = refl
is_equal Greater e = absurd (true≢false (sym e))

-- of one key
pub same_key : (s t : Subject) (x y : Element) (o : Ordering) (b r : Bool) → x ≡ s.element → y ≡ t.element → o ≡ key_cmp (key_of s) (key_of t) → b ≡ is_eq o → b ≡ true → (IsTrue r ↔ IsLike x y) → IsTrue r ↔ IsSame s t
same_key s t x y o b r e f g h i like =
    let key : key_of s ≡ key_of t = equal_keys (key_of s) (key_of t) (sym g ∙ is_equal o (sym h ∙ i)) in (
      λ yes.
          let l : IsLike s.element t.element = subst (λ u. IsLike u t.element) e (subst (λ u. IsLike x u) f (like.0 yes)) in
          record { key = key; class = l.class; storey = l.storey; triangles = l.triangles },
      λ same.
          let l : IsLike s.element t.element = record { class = same.class; storey = same.storey; triangles = same.triangles } in
          like.1 (subst (λ u. IsLike u y) (sym e) (subst (λ u. IsLike s.element u) (sym f) l)),
    )

-- of two keys
pub other_key : (s t : Subject) (o : Ordering) (r : Bool) → o ≡ key_cmp (key_of s) (key_of t) → r ≡ is_eq o → r ≡ false → IsTrue r ↔ IsSame s t
other_key s t o r g h e = (
  λ yes. absurd (true≢false (sym yes ∙ e)),
  λ same.
      let equal : o ≡ Equal = g ∙ ap (λ k. key_cmp k (key_of t)) same.key ∙ equal_itself (key_of t) in
      h ∙ ap is_eq equal,
)

-- the element that is reached isn't below
pub not_below : (s t : Subject) (o : Ordering) (b : Bool) → o ≡ key_cmp (key_of s) (key_of t) → b ≡ is_lt o → b ≡ false → IsBelow s t → ⊥
not_below s t o b g h e below = true≢false (sym below ∙ ap is_lt (sym g) ∙ sym h ∙ e)
