-- The code's tests of heights in the names of the definitions
use Rattle.std.proofs.Common.{◌≡◌, ◌≤◌, ◌↔◌, ℤ, pos, ◌<ℤ◌, sym, subst, ap, ◌∙◌}
use Rattle.std.specs.Prelude.{unsigned_abs}
use Rattle.exact_arith.specs.Space.{Face}
use Rattle.exact_arith.proofs.Ranges.{in_128, bounded}
use Rattle.tri_exact.specs.Pierce.{height}
use Rattle.tri_pierce.specs.inner.LoneCorners.{turn_of, Split, Lone, AloneOver, LoneOver, AreHeights}
use Rattle.tri_pierce.specs.declared.heights.Heights.{Heights}
use Rattle.tri_pierce.proofs.PlaneSides.{turned_height}
use Rattle.tri_pierce.proofs.Registers.{kept, seen}

abbrev Small : ℤ → Type 0
Small a = unsigned_abs a ≤ 24576000000000000000000

-- the test of three heights, as the callee saw them, by their names
pub lone_named : {P : Type 0} (a b c p q r : ℤ) → Small a → Small b → Small c → a ≡ p → b ≡ q → c ≡ r → P ↔ Lone (in_128 a) (in_128 b) (in_128 c) → P ↔ Lone p q r
lone_named {P} a b c p q r f g h i j k t =
    subst (λ (z : ℤ). P ↔ Lone p q z) k (subst (λ (y : ℤ). P ↔ Lone p y c) j (subst (λ (x : ℤ). P ↔ Lone x b c) i
    (seen (λ (z : ℤ). P ↔ Lone a b z) c h (seen (λ (y : ℤ). P ↔ Lone a y (in_128 c)) b g (seen (λ (x : ℤ). P ↔ Lone x (in_128 b) (in_128 c)) a f t)))))

pub above_named : {P : Type 0} (a p : ℤ) → Small a → a ≡ p → P ↔ (pos 0 <ℤ in_128 a) → P ↔ (pos 0 <ℤ p)
above_named {P} a p f i t = subst (λ (x : ℤ). P ↔ (pos 0 <ℤ x)) i (seen (λ (x : ℤ). P ↔ (pos 0 <ℤ x)) a f t)

pub split_named : (a b c p q r : ℤ) → a ≡ p → b ≡ q → c ≡ r → Split a b c → Split p q r
split_named a b c p q r i j k t = subst (λ (z : ℤ). Split p q z) k (subst (λ (y : ℤ). Split p y c) j (subst (λ (x : ℤ). Split x b c) i t))

-- faces in other names
pub lone_at : (t s p q : Face) → p ≡ t → q ≡ s → LoneOver t s → LoneOver p q
lone_at t s p q e f h = subst (λ (x : Face). LoneOver p x) (sym f) (subst (λ (x : Face). LoneOver x s) (sym e) h)

pub alone_at : (t s p q : Face) → p ≡ t → q ≡ s → AloneOver t s → AloneOver p q
alone_at t s p q e f h = subst (λ (x : Face). AloneOver p x) (sym f) (subst (λ (x : Face). AloneOver x s) (sym e) h)

pub above_at : {P : Type 0} (t s p q : Face) → p ≡ t → q ≡ s → P ↔ (pos 0 <ℤ height s.a t) → P ↔ (pos 0 <ℤ height q.a p)
above_at {P} t s p q e f h = subst (λ (x : Face). P ↔ (pos 0 <ℤ height x.a p)) (sym f) (subst (λ (x : Face). P ↔ (pos 0 <ℤ height s.a x)) (sym e) h)

pub above_turned : {P : Type 0} (t s : Face) → P ↔ (pos 0 <ℤ height s.a t) → P ↔ (pos 0 <ℤ height s.a (turn_of t))
above_turned {P} t s h = subst (λ (x : ℤ). P ↔ (pos 0 <ℤ x)) (sym (turned_height s.a t)) h

pub heights_turned : (h : Heights) (t s : Face) → AreHeights h t s → AreHeights h (turn_of t) s
heights_turned h t s k = record { a_is = k.a_is ∙ sym (turned_height s.a t); b_is = k.b_is ∙ sym (turned_height s.b t); c_is = k.c_is ∙ sym (turned_height s.c t) }

pub heights_at : (h : Heights) (t s p q : Face) → p ≡ t → q ≡ s → AreHeights h t s → AreHeights h p q
heights_at h t s p q e f k = subst (λ (x : Face). AreHeights h p x) (sym f) (subst (λ (x : Face). AreHeights h x s) (sym e) k)

pub twice_turned : (t p q : Face) → p ≡ turn_of t → q ≡ turn_of p → q ≡ turn_of (turn_of t)
twice_turned t p q e f = f ∙ ap (λ (x : Face). turn_of x) e

-- what a test requires of the heights that it is given
pub held : (a : ℤ) → Small a → Small (in_128 a)
held a h = bounded (kept a h)

pub split_held : (a b c : ℤ) → Small a → Small b → Small c → Split a b c → Split (in_128 a) (in_128 b) (in_128 c)
split_held a b c f g h t = split_named a b c (in_128 a) (in_128 b) (in_128 c) (sym (kept a f).same) (sym (kept b g).same) (sym (kept c h).same) t
