use Rattle.std.proofs.Common.{◌≡◌, ◌↔◌, ℤ, inl, inr, refl, subst, ◌∙◌, ◌≤◌, unsigned_abs}
use Rattle.tri_exact.specs.Pierce.{Rises}
use Rattle.tri_exact.proofs.Choice.{not_both}
use Rattle.exact_arith.proofs.Ranges.{value_kept, kept_128, in_128}
use Rattle.tri_exact.proofs.crossing.edge_pierces.Goals as goal

rises_is : {P : Type 0} {h k u v w h' k' : ℤ} → h ≡ h' → k ≡ k' → P ↔ Rises h k u v w → P ↔ Rises h' k' u v w
rises_is {P} {h} {k} {u} {v} {w} {h'} {k'} e f q = subst (λ (x : ℤ). P ↔ Rises h' x u v w) f (subst (λ (x : ℤ). P ↔ Rises x k u v w) e q)

named : (x y : ℤ) → unsigned_abs x ≤ 24576000000000000000000 → x ≡ y → in_128 x ≡ y
named x y h e = (kept_128 (value_kept x h) tt).same ∙ e

pub returns-then-rises : goal.returns-then-rises
returns-then-rises c =
    let q = rises_is (named _ _ c.requires.from_in c.requires.from_is) (named _ _ c.requires.to_in c.requires.to_is) c.rises.ensures in
    (λ x. inl (q.0 c.if-rises.true), λ x. refl)

pub returns : goal.returns
returns c =
    let f = named _ _ c.requires.from_in c.requires.from_is in
    let t = named _ _ c.requires.to_in c.requires.to_is in
    let q = rises_is f t c.rises.ensures in
    let r = rises_is t f c.rises-2.ensures in (
      λ x. inr (r.0 x),
      λ x. elim x [ inl y ↦ not_both c.if-rises.false (q.1 y) | inr y ↦ r.1 y ],
    )
