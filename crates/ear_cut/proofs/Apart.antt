-- What a triangle of positive area holds lies in each frame round its corners.
use Rattle.std.proofs.Common.{◌≡◌, ◌∙◌, ap, sym, refl, subst, inl, inr, ◌⊎◌, ℤ, pos, negsuc, zero, suc, ◌+ℤ◌, ◌-ℤ◌, ◌*ℤ◌, ◌≤ℤ◌, ◌<ℤ◌, Bool, true, false, not, ◌&&◌, ◌||◌, [], ◌∷◌, Some, arith}
use Rattle.std.specs.Prelude.{int_lt}
use Rattle.std.proofs.lemmas.Int.{ints}
use Rattle.exact_arith.proofs.Ring.{ring, at, lit, ◌⊕◌, ◌⊖◌, ◌⊗◌}
use Rattle.exact_arith.proofs.Order.{mul_nonneg, from_rest, nonneg_by}
use Rattle.ear_cut.specs.declared.polygon_view.View.{View}
use Rattle.ear_cut.specs.declared.corners.Corner.{Corner}
use Rattle.ear_cut.specs.declared.corners.Turn.{Turn}
use Rattle.ear_cut.specs.declared.corners.Angle.TheVariants.{Convex}
use Rattle.ear_cut.specs.declared.corner_frames.Frame.{Frame}
use Rattle.ear_cut.specs.PolygonViews.{Spot, seen, bend, signed, area, is_corner, holds}
use Rattle.ear_cut.specs.Corners.{by_sign, angle_of}
use Rattle.ear_cut.specs.Removal.{is_free}
use Rattle.ear_cut.specs.inner.CornerFrames.{IsIn, is_apart}
use Rattle.ear_cut.proofs.Spokes.{bent}

-- weights that are not negative, one of them above zero, don't balance distances to one side
grows : (x d : ℤ) → pos 0 ≤ℤ x → pos 0 <ℤ d → x ≤ℤ (x *ℤ d)
grows x d h k = from_rest x (x *ℤ d) (nonneg_by (x *ℤ d -ℤ x) (x *ℤ (d -ℤ pos 1)) (ring (x ∷ d ∷ []) (at 0 ⊗ at 1 ⊖ at 0) (at 0 ⊗ (at 1 ⊖ lit (pos 1))) refl) (mul_nonneg x (d -ℤ pos 1) h (omega (arith, ints, k))))

unbalanced : (x y z d e f : ℤ) → pos 0 ≤ℤ x → pos 0 ≤ℤ y → pos 0 ≤ℤ z → pos 0 <ℤ ((x +ℤ y) +ℤ z) → pos 0 <ℤ d → pos 0 <ℤ e → pos 0 <ℤ f → (x *ℤ d +ℤ y *ℤ e) +ℤ z *ℤ f ≡ pos 0 → ⊥
unbalanced x y z d e f h k l s m n o b = by_sums x y z (x *ℤ d) (y *ℤ e) (z *ℤ f) (grows x d h m) (grows y e k n) (grows z f l o) s b
  where
    by_sums : (x y z p q r : ℤ) → x ≤ℤ p → y ≤ℤ q → z ≤ℤ r → pos 0 <ℤ ((x +ℤ y) +ℤ z) → (p +ℤ q) +ℤ r ≡ pos 0 → ⊥
    by_sums x y z p q r h k l s b = omega (arith, ints, h, k, l, s, b)

-- the same, to the other side
turned_balance : (x y z d e f : ℤ) → (x *ℤ d +ℤ y *ℤ e) +ℤ z *ℤ f ≡ pos 0 → (x *ℤ (pos 0 -ℤ d) +ℤ y *ℤ (pos 0 -ℤ e)) +ℤ z *ℤ (pos 0 -ℤ f) ≡ pos 0
turned_balance x y z d e f b =
    ring (x ∷ y ∷ z ∷ d ∷ e ∷ f ∷ []) ((at 0 ⊗ (lit (pos 0) ⊖ at 3) ⊕ at 1 ⊗ (lit (pos 0) ⊖ at 4)) ⊕ at 2 ⊗ (lit (pos 0) ⊖ at 5)) (lit (pos 0) ⊖ ((at 0 ⊗ at 3 ⊕ at 1 ⊗ at 4) ⊕ at 2 ⊗ at 5)) refl
    ∙ ap (λ (t : ℤ). pos 0 -ℤ t) b

-- .. or of weights of the other sign
negative_balance : (x y z d e f : ℤ) → (x *ℤ d +ℤ y *ℤ e) +ℤ z *ℤ f ≡ pos 0 → ((pos 0 -ℤ x) *ℤ d +ℤ (pos 0 -ℤ y) *ℤ e) +ℤ (pos 0 -ℤ z) *ℤ f ≡ pos 0
negative_balance x y z d e f b =
    ring (x ∷ y ∷ z ∷ d ∷ e ∷ f ∷ []) (((lit (pos 0) ⊖ at 0) ⊗ at 3 ⊕ (lit (pos 0) ⊖ at 1) ⊗ at 4) ⊕ (lit (pos 0) ⊖ at 2) ⊗ at 5) (lit (pos 0) ⊖ ((at 0 ⊗ at 3 ⊕ at 1 ⊗ at 4) ⊕ at 2 ⊗ at 5)) refl
    ∙ ap (λ (t : ℤ). pos 0 -ℤ t) b

negative_sum : (x y z w : ℤ) → (x +ℤ y) +ℤ z ≡ w → ((pos 0 -ℤ x) +ℤ (pos 0 -ℤ y)) +ℤ (pos 0 -ℤ z) ≡ pos 0 -ℤ w
negative_sum x y z w e = omega (arith, ints, e)

-- a triangle's area is that of its three parts, by which p lies between its corners
module _ (a b c p : Spot) where
  sum_of_bends : (bend b c p +ℤ bend c a p) +ℤ bend a b p ≡ bend a b c
  sum_of_bends =
      ring (a.u ∷ a.v ∷ b.u ∷ b.v ∷ c.u ∷ c.v ∷ p.u ∷ p.v ∷ [])
      ((bent (at 2) (at 3) (at 4) (at 5) (at 6) (at 7) ⊕ bent (at 4) (at 5) (at 0) (at 1) (at 6) (at 7)) ⊕ bent (at 0) (at 1) (at 2) (at 3) (at 6) (at 7))
      (bent (at 0) (at 1) (at 2) (at 3) (at 4) (at 5)) refl

  bends_u : (bend b c p *ℤ (a.u -ℤ p.u) +ℤ bend c a p *ℤ (b.u -ℤ p.u)) +ℤ bend a b p *ℤ (c.u -ℤ p.u) ≡ pos 0
  bends_u =
      ring (a.u ∷ a.v ∷ b.u ∷ b.v ∷ c.u ∷ c.v ∷ p.u ∷ p.v ∷ [])
      ((bent (at 2) (at 3) (at 4) (at 5) (at 6) (at 7) ⊗ (at 0 ⊖ at 6) ⊕ bent (at 4) (at 5) (at 0) (at 1) (at 6) (at 7) ⊗ (at 2 ⊖ at 6)) ⊕ bent (at 0) (at 1) (at 2) (at 3) (at 6) (at 7) ⊗ (at 4 ⊖ at 6))
      (lit (pos 0)) refl

  bends_v : (bend b c p *ℤ (a.v -ℤ p.v) +ℤ bend c a p *ℤ (b.v -ℤ p.v)) +ℤ bend a b p *ℤ (c.v -ℤ p.v) ≡ pos 0
  bends_v =
      ring (a.u ∷ a.v ∷ b.u ∷ b.v ∷ c.u ∷ c.v ∷ p.u ∷ p.v ∷ [])
      ((bent (at 2) (at 3) (at 4) (at 5) (at 6) (at 7) ⊗ (at 1 ⊖ at 7) ⊕ bent (at 4) (at 5) (at 0) (at 1) (at 6) (at 7) ⊗ (at 3 ⊖ at 7)) ⊕ bent (at 0) (at 1) (at 2) (at 3) (at 6) (at 7) ⊗ (at 5 ⊖ at 7))
      (lit (pos 0)) refl

  signed_sum : (r : Bool) → (signed r (bend b c p) +ℤ signed r (bend c a p)) +ℤ signed r (bend a b p) ≡ signed r (bend a b c)
  signed_sum true = negative_sum (bend b c p) (bend c a p) (bend a b p) (bend a b c) sum_of_bends
  signed_sum false = sum_of_bends

  signed_balance : (r : Bool) (d e f : ℤ) → (bend b c p *ℤ d +ℤ bend c a p *ℤ e) +ℤ bend a b p *ℤ f ≡ pos 0 → (signed r (bend b c p) *ℤ d +ℤ signed r (bend c a p) *ℤ e) +ℤ signed r (bend a b p) *ℤ f ≡ pos 0
  signed_balance true d e f h = negative_balance (bend b c p) (bend c a p) (bend a b p) d e f h
  signed_balance false d e f h = h

-- p lies on no outer side of an edge of abc, whose area is above zero
record IsWithin (view : View) (a b c p : Spot) : Type 0 where
  ab : pos 0 ≤ℤ area view a b p
  bc : pos 0 ≤ℤ area view b c p
  ca : pos 0 ≤ℤ area view c a p
  convex : pos 0 <ℤ area view a b c

-- .. so its corners don't lie to one side of it
to_no_side : (view : View) (a b c p : Spot) (d e f : ℤ) → IsWithin view a b c p → (bend b c p *ℤ d +ℤ bend c a p *ℤ e) +ℤ bend a b p *ℤ f ≡ pos 0 → pos 0 <ℤ d → pos 0 <ℤ e → pos 0 <ℤ f → ⊥
unfolding area
to_no_side view a b c p d e f w h k l m =
    unbalanced (signed view.reversed (bend b c p)) (signed view.reversed (bend c a p)) (signed view.reversed (bend a b p)) d e f w.bc w.ca w.ab
    (subst (λ (x : ℤ). pos 0 <ℤ x) (sym (signed_sum a b c p view.reversed)) w.convex) k l m (signed_balance a b c p view.reversed d e f h)

above : (x y l h : ℤ) → x ≤ℤ h → h <ℤ l → l ≤ℤ y → pos 0 <ℤ (y -ℤ x)
above x y l h e f g = omega (arith, ints, e, f, g)

below : (x y l h : ℤ) → y ≤ℤ h → h <ℤ l → l ≤ℤ x → pos 0 <ℤ (pos 0 -ℤ (y -ℤ x))
below x y l h e f g = omega (arith, ints, e, f, g)

less : (x y : ℤ) → int_lt x y ≡ true → x <ℤ y
less x y e = omega (arith, ints, e)

one_of : (x y : Bool) → x || y ≡ true → (x ≡ true) ⊎ (y ≡ true)
one_of true y h = inl refl
one_of false y h = inr h

-- a triangle whose frame ends before another begins, or the other way round, holds nothing in that one
nothing_within : (view : View) (f g : Frame) (a b c p : Spot) → is_apart f g ≡ true → IsIn f p → IsIn g a → IsIn g b → IsIn g c → IsWithin view a b c p → ⊥
nothing_within view f g a b c p s h k l m w =
    elim (one_of (int_lt f.high_u g.low_u) (int_lt g.high_u f.low_u || (int_lt f.high_v g.low_v || int_lt g.high_v f.low_v)) s) [
      | inl e ↦ let x = less f.high_u g.low_u e in
          to_no_side view a b c p (a.u -ℤ p.u) (b.u -ℤ p.u) (c.u -ℤ p.u) w (bends_u a b c p)
          (above p.u a.u g.low_u f.high_u h.high_u x k.low_u) (above p.u b.u g.low_u f.high_u h.high_u x l.low_u) (above p.u c.u g.low_u f.high_u h.high_u x m.low_u)
      | inr t ↦ elim (one_of (int_lt g.high_u f.low_u) (int_lt f.high_v g.low_v || int_lt g.high_v f.low_v) t) [
        | inl e ↦ let x = less g.high_u f.low_u e in
            to_no_side view a b c p (pos 0 -ℤ (a.u -ℤ p.u)) (pos 0 -ℤ (b.u -ℤ p.u)) (pos 0 -ℤ (c.u -ℤ p.u)) w
            (turned_balance (bend b c p) (bend c a p) (bend a b p) (a.u -ℤ p.u) (b.u -ℤ p.u) (c.u -ℤ p.u) (bends_u a b c p))
            (below p.u a.u f.low_u g.high_u k.high_u x h.low_u) (below p.u b.u f.low_u g.high_u l.high_u x h.low_u) (below p.u c.u f.low_u g.high_u m.high_u x h.low_u)
        | inr t ↦ elim (one_of (int_lt f.high_v g.low_v) (int_lt g.high_v f.low_v) t) [
          | inl e ↦ let x = less f.high_v g.low_v e in
              to_no_side view a b c p (a.v -ℤ p.v) (b.v -ℤ p.v) (c.v -ℤ p.v) w (bends_v a b c p)
              (above p.v a.v g.low_v f.high_v h.high_v x k.low_v) (above p.v b.v g.low_v f.high_v h.high_v x l.low_v) (above p.v c.v g.low_v f.high_v h.high_v x m.low_v)
          | inr e ↦ let x = less g.high_v f.low_v e in
              to_no_side view a b c p (pos 0 -ℤ (a.v -ℤ p.v)) (pos 0 -ℤ (b.v -ℤ p.v)) (pos 0 -ℤ (c.v -ℤ p.v)) w
              (turned_balance (bend b c p) (bend c a p) (bend a b p) (a.v -ℤ p.v) (b.v -ℤ p.v) (c.v -ℤ p.v) (bends_v a b c p))
              (below p.v a.v f.low_v g.high_v k.high_v x h.low_v) (below p.v b.v f.low_v g.high_v l.high_v x h.low_v) (below p.v c.v f.low_v g.high_v m.high_v x h.low_v)
        ]
      ]
    ]

both_of : (x y : Bool) → not x && y ≡ true → (x ≡ false) × (y ≡ true)
both_of true y h = absurd (cc h)
both_of false y h = (refl, h)

not_below : (x : ℤ) → int_lt x (pos 0) ≡ false → pos 0 ≤ℤ x
not_below x e = omega (arith, ints, e)

within : (view : View) (a b c p : Spot) → pos 0 <ℤ area view a b c → holds view a b c p ≡ true → IsWithin view a b c p
unfolding holds
within view a b c p s h =
    let x = both_of (int_lt (area view a b p) (pos 0)) (not (int_lt (area view b c p) (pos 0)) && (not (int_lt (area view c a p) (pos 0)) && not (is_corner a b c p))) h in
    let y = both_of (int_lt (area view b c p) (pos 0)) (not (int_lt (area view c a p) (pos 0)) && not (is_corner a b c p)) x.1 in
    let z = both_of (int_lt (area view c a p) (pos 0)) (not (is_corner a b c p)) y.1 in
    record { ab = not_below (area view a b p) x.0; bc = not_below (area view b c p) y.0; ca = not_below (area view c a p) z.0; convex = s }

sign_convex : (x : ℤ) → by_sign x ≡ Convex → pos 0 <ℤ x
sign_convex (pos (suc n)) h = omega (arith, ints)
sign_convex (pos zero) h = absurd (cc h)
sign_convex (negsuc n) h = absurd (cc h)

convex_area : (view : View) (t : Turn) → angle_of (Some view) t ≡ Convex → pos 0 <ℤ area view (seen view.axis t.before.point) (seen view.axis t.corner.point) (seen view.axis t.after.point)
unfolding angle_of
convex_area view t h = sign_convex (area view (seen view.axis t.before.point) (seen view.axis t.corner.point) (seen view.axis t.after.point)) h

false_by : (b : Bool) → (b ≡ true → ⊥) → not b ≡ true
false_by true h = absurd (h refl)
false_by false h = refl

-- a corner in a frame that is apart from one round a convex corner's triangle
pub apart_free : (view : View) (f g : Frame) (t : Turn) (c : Corner) → angle_of (Some view) t ≡ Convex → is_apart f g ≡ true → IsIn f (seen view.axis c.point)
    → IsIn g (seen view.axis t.before.point) → IsIn g (seen view.axis t.corner.point) → IsIn g (seen view.axis t.after.point) → is_free (Some view) t c ≡ true
apart_free view f g t c e s h k l m =
    let a = seen view.axis t.before.point in let b = seen view.axis t.corner.point in let d = seen view.axis t.after.point in let p = seen view.axis c.point in
    false_by (holds view a b d p) (λ o. nothing_within view f g a b d p s h k l m (within view a b d p (convex_area view t e) o))
