-- The box round triangles of the grid has its corners at points of the grid, and what is beside it is beside what lies in it
use Rattle.std.proofs.Common.{◌⊎◌, inl, inr, ℤ, ◌≤ℤ◌, List, [], ◌∷◌, map, All, subst}
use Rattle.std.specs.Prelude.{Contains}
use Rattle.std.proofs.lemmas.List.Elements.{All-head, All-tail, All-nil, All-cons}
use Rattle.exact_arith.proofs.Order.{le_trans}
use Rattle.bim_model.specs.Boxes.{corners_of, IsExtentOf}
use Rattle.bim_model.specs.Points.{IsGridPoint, IsInGrid}
use Rattle.bim_model.specs.declared.geometry.Point.{Point}
use Rattle.bim_model.specs.declared.geometry.Triangle.{Triangle}
use Rattle.bim_model.specs.declared.geometry.Extent.{Extent}
use Rattle.clearance.specs.inner.BoxContainment.{IsExtent}
use Rattle.tri_pierce.specs.inner.TouchingBoxes.{Before}
use Rattle.tri_pierce.proofs.Coordinates.{Small}

-- ---- each coordinate of a box is one of a corner
all_small : (f : Point → ℤ) → ((p : Point) → IsGridPoint p → Small (f p)) → (ts : List Triangle) → All IsInGrid ts → All Small (map f (corners_of ts))
all_small f h [] a = All-nil Small
all_small f h (t ∷ ts) a =
    let g = All-head IsInGrid t ts a in
    All-cons Small (f t.a) (f t.b ∷ f t.c ∷ map f (corners_of ts)) (h t.a g.a_in)
    (All-cons Small (f t.b) (f t.c ∷ map f (corners_of ts)) (h t.b g.b_in)
    (All-cons Small (f t.c) (map f (corners_of ts)) (h t.c g.c_in) (all_small f h ts (All-tail IsInGrid t ts a))))

reached : (ns : List ℤ) (n : ℤ) → All Small ns → Contains ns n → Small n
reached ns n a (k, lt, e) = subst Small e (a k n lt)

pub is_extent : (ts : List Triangle) (k : Extent) → IsExtentOf ts k → All IsInGrid ts → IsExtent k
is_extent ts k b a =
    let x = all_small (λ (p : Point). p.x) (λ p g. g.x_in) ts a in
    let y = all_small (λ (p : Point). p.y) (λ p g. g.y_in) ts a in
    let z = all_small (λ (p : Point). p.z) (λ p g. g.z_in) ts a in
    record {
      low_in = record { x_in = reached _ k.low.x x b.low_x.reached; y_in = reached _ k.low.y y b.low_y.reached; z_in = reached _ k.low.z z b.low_z.reached };
      high_in = record { x_in = reached _ k.high.x x b.high_x.reached; y_in = reached _ k.high.y y b.high_y.reached; z_in = reached _ k.high.z z b.high_z.reached };
    }

-- ---- beside a span, and so beside what lies in it
turned : {A B : Type 0} → A ⊎ B → B ⊎ A
turned (inl a) = inr a
turned (inr b) = inl b

pub spanned : (a b c low high p q r : ℤ) → low ≤ℤ p → low ≤ℤ q → low ≤ℤ r → p ≤ℤ high → q ≤ℤ high → r ≤ℤ high →
    Before a b c low high high ⊎ Before low high high a b c → Before a b c p q r ⊎ Before p q r a b c
spanned a b c low high p q r lp lq lr hp hq hr (inl k) =
    let m = k.between in
    inl (record { between = m; a_in = k.a_in; b_in = k.b_in; c_in = k.c_in; p_in = le_trans m low p k.p_in lp; q_in = le_trans m low q k.p_in lq; r_in = le_trans m low r k.p_in lr })
spanned a b c low high p q r lp lq lr hp hq hr (inr k) =
    let m = k.between in
    inr (record { between = m; a_in = le_trans p high m hp k.b_in; b_in = le_trans q high m hq k.b_in; c_in = le_trans r high m hr k.b_in; p_in = k.p_in; q_in = k.q_in; r_in = k.r_in })

-- two spans beside each other, and so what lies in the one beside what lies in the other
pub both_spanned : (l h low high a b c p q r : ℤ) → l ≤ℤ a → l ≤ℤ b → l ≤ℤ c → a ≤ℤ h → b ≤ℤ h → c ≤ℤ h → low ≤ℤ p → low ≤ℤ q → low ≤ℤ r → p ≤ℤ high → q ≤ℤ high → r ≤ℤ high →
    Before l h h low high high ⊎ Before low high high l h h → Before a b c p q r ⊎ Before p q r a b c
both_spanned l h low high a b c p q r la lb lc ha hb hc lp lq lr hp hq hr k =
    spanned a b c low high p q r lp lq lr hp hq hr (turned (spanned low high high l h a b c la lb lc ha hb hc (turned k)))
