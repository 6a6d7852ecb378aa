-- Boxes that lie in some cells of an axis.
use Rattle.std.proofs.Common.{◌≡◌, ℕ, ◌+◌, ◌<◌, ◌≤◌, ℤ, pos, ◌+ℤ◌, ◌-ℤ◌, ◌≤ℤ◌, List, All, length, get_or, take, sym, subst, arith, ◌∙◌}
use Rattle.std.proofs.lemmas.Int.{ints}
use Rattle.std.proofs.lemmas.Bool.{cases_eq}
use Rattle.std.proofs.lemmas.List.{take_all, get_or_push, get_or_append_left, length_push}
use Rattle.std.proofs.Common.{◌⊎◌, inl, inr, ◌++◌, ◌∷◌, [], ap}
use Rattle.bucket_grid.specs.declared.lists.Span.{Span}
use Rattle.bucket_grid.specs.Dealt.{span_at}
use Rattle.bucket_grid.specs.BucketTable.{AreSpans}
use Rattle.std.proofs.lemmas.List.Elements.{All-more, All-weaker}
use Rattle.bim_model.specs.declared.geometry.Extent.{Extent}
use Rattle.bucket_grid.specs.declared.axis_cells.Axis.{Axis}
use Rattle.bucket_grid.specs.Cells.{first_cell, last_cell}
use Rattle.bucket_grid.specs.declared.cell.TheConstants.{GROWTH}
use Rattle.bucket_grid.specs.inner.Axes.{low_on, high_on, LieIn}
use Rattle.bucket_grid.proofs.Owners.{cell_of_rises}

through : (a b c : ℤ) → a ≤ℤ b → b ≤ℤ c → a ≤ℤ c
through a b c x y = omega (arith, ints)

-- no box starts below a side, with one box more
pub above_more : (axis : Axis) (least l f : ℤ) (xs : List Extent) (i : ℕ) (d : Extent) → i < length xs → All (λ (e : Extent). least ≤ℤ low_on axis e) (take i xs) → l ≤ℤ least → f ≡ low_on axis (get_or xs i d) → l ≤ℤ f → All (λ (e : Extent). l ≤ℤ low_on axis e) (take (i + 1) xs)
above_more axis least l f xs i d lt all a e c =
    All-more (λ (e : Extent). l ≤ℤ low_on axis e) xs i d lt
    (All-weaker (λ (e : Extent). least ≤ℤ low_on axis e) (λ (e : Extent). l ≤ℤ low_on axis e) (λ e t. through _ _ _ a t) (take i xs) all) (subst (λ z. l ≤ℤ z) e c)

-- none ends above a side
pub below_more : (axis : Axis) (greatest h t : ℤ) (xs : List Extent) (i : ℕ) (d : Extent) → i < length xs → All (λ (e : Extent). high_on axis e ≤ℤ greatest) (take i xs) → greatest ≤ℤ h → t ≡ high_on axis (get_or xs i d) → t ≤ℤ h → All (λ (e : Extent). high_on axis e ≤ℤ h) (take (i + 1) xs)
below_more axis greatest h t xs i d lt all b e c =
    All-more (λ (e : Extent). high_on axis e ≤ℤ h) xs i d lt
    (All-weaker (λ (e : Extent). high_on axis e ≤ℤ greatest) (λ (e : Extent). high_on axis e ≤ℤ h) (λ e u. through _ _ _ u b) (take i xs) all) (subst (λ z. z ≤ℤ h) e c)

shifted : (a b : ℤ) → a ≤ℤ b → (a -ℤ GROWTH) ≤ℤ (b -ℤ GROWTH)
shifted a b h = omega (arith, ints)

grown : (a b : ℤ) → a ≤ℤ b → (a +ℤ GROWTH) ≤ℤ (b +ℤ GROWTH)
grown a b h = omega (arith, ints)

-- boxes between two sides lie in the cells from that of the one to that of the other
pub lie_between : (axis : Axis) (least greatest l h : ℤ) (xs : List Extent) (i : ℕ) → length xs ≤ i → All (λ (e : Extent). least ≤ℤ low_on axis e) (take i xs) → All (λ (e : Extent). high_on axis e ≤ℤ greatest) (take i xs) → l ≤ℤ first_cell least → last_cell greatest ≤ℤ h → LieIn axis l h xs
lie_between axis least greatest l h xs i n above below a b = record {
  above = All-weaker (λ (e : Extent). least ≤ℤ low_on axis e) (λ (e : Extent). l ≤ℤ first_cell (low_on axis e)) (λ e t. through _ _ _ a (cell_of_rises (least -ℤ GROWTH) (low_on axis e -ℤ GROWTH) (shifted _ _ t))) xs
      (subst (All (λ (e : Extent). least ≤ℤ low_on axis e)) (take_all i xs n) above);
  below = All-weaker (λ (e : Extent). high_on axis e ≤ℤ greatest) (λ (e : Extent). last_cell (high_on axis e) ≤ℤ h) (λ e t. through _ _ _ (cell_of_rises (high_on axis e +ℤ GROWTH) (greatest +ℤ GROWTH) (grown _ _ t)) b) xs
      (subst (All (λ (e : Extent). high_on axis e ≤ℤ greatest)) (take_all i xs n) below);
}

spans_by : (low : ℤ) (first last : ℕ → ℤ) (n : ℕ) (old : List Span) (s : Span) (i : ℕ) → AreSpans low first last n old → low +ℤ pos s.first ≡ first n → low +ℤ pos s.last ≡ last n → i < n + 1 → (i ≡ n) ⊎ (i ≡ n → ⊥) → (low +ℤ pos (span_at (old ++ s ∷ []) i).first ≡ first i) × (low +ℤ pos (span_at (old ++ s ∷ []) i).last ≡ last i)
spans_by low first last n old s i are f l lt (inl e) =
    let here : s ≡ span_at (old ++ s ∷ []) i = sym (get_or_push old s (record { first = 0; last = 0 }) i (are.length_is ∙ sym e)) in
    (ap (λ (t : Span). low +ℤ pos t.first) (sym here) ∙ f ∙ ap first (sym e), ap (λ (t : Span). low +ℤ pos t.last) (sym here) ∙ l ∙ ap last (sym e))
spans_by low first last n old s i are f l lt (inr ne) =
    let b : i < n = omega (arith, ne) in
    let there : span_at old i ≡ span_at (old ++ s ∷ []) i = sym (get_or_append_left old (s ∷ []) (record { first = 0; last = 0 }) i (omega (arith, are.length_is))) in
    (ap (λ (t : Span). low +ℤ pos t.first) (sym there) ∙ are.first_is i b, ap (λ (t : Span). low +ℤ pos t.last) (sym there) ∙ are.last_is i b)

-- one more span
pub spans_more : (low : ℤ) (first last : ℕ → ℤ) (n : ℕ) (old new : List Span) (s : Span) → AreSpans low first last n old → new ≡ old ++ s ∷ [] → low +ℤ pos s.first ≡ first n → low +ℤ pos s.last ≡ last n → AreSpans low first last (n + 1) new
spans_more low first last n old new s are made f l = subst (AreSpans low first last (n + 1)) (sym made) (record {
  length_is = length_push old s ∙ ap (λ m. m + 1) are.length_is;
  first_is = λ i lt. (spans_by low first last n old s i are f l lt (cases_eq i n)).0;
  last_is = λ i lt. (spans_by low first last n old s i are f l lt (cases_eq i n)).1;
})
