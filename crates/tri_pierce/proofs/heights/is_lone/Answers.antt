use Rattle.std.proofs.Common.{◌↔◌, Bool, IsTrue, ℤ, pos, ◌≤ℤ◌, ◌<ℤ◌}
use Rattle.tri_exact.proofs.Choice.{not_both}
use Rattle.exact_arith.proofs.Ranges.{in_128}
use Rattle.tri_pierce.proofs.Registers.{seen}
use Rattle.tri_pierce.proofs.LoneSigns.{above_told, below_told, level_never}
use Rattle.tri_pierce.proofs.heights.is_lone.Goals as goal

abbrev Above : Bool → ℤ → Type 0
Above r x = IsTrue r ↔ (pos 0 <ℤ x)

abbrev Below : Bool → ℤ → Type 0
Below r x = IsTrue r ↔ (x <ℤ pos 0)

pub returns-then-is_above : goal.returns-then-is_above
returns-then-is_above c =
    let a = c.args in let r = c.requires in
    above_told a.a a.b a.c r.split ((seen (Above c.is_above.result) a.a r.a_in c.is_above.ensures).0 c.if-is_above.true)
    (seen (λ (z : ℤ). IsTrue c.none_above.result ↔ ((a.b ≤ℤ pos 0) × (z ≤ℤ pos 0))) a.c r.c_in (seen (λ (y : ℤ). IsTrue c.none_above.result ↔ ((y ≤ℤ pos 0) × (in_128 a.c ≤ℤ pos 0))) a.b r.b_in c.none_above.ensures))

pub returns-then-is_below : goal.returns-then-is_below
returns-then-is_below c =
    let a = c.args in let r = c.requires in
    below_told a.a a.b a.c r.split ((seen (Below c.is_below.result) a.a r.a_in c.is_below.ensures).0 c.if-is_below.true)
    (seen (λ (z : ℤ). IsTrue c.none_below.result ↔ ((pos 0 ≤ℤ a.b) × (pos 0 ≤ℤ z))) a.c r.c_in (seen (λ (y : ℤ). IsTrue c.none_below.result ↔ ((pos 0 ≤ℤ y) × (pos 0 ≤ℤ in_128 a.c))) a.b r.b_in c.none_below.ensures))

pub returns : goal.returns
returns c =
    let a = c.args in let r = c.requires in (
      λ x. absurd (cc x),
      λ y. absurd (level_never a.a a.b a.c (λ h. not_both c.if-is_above.false ((seen (Above c.is_above.result) a.a r.a_in c.is_above.ensures).1 h)) (λ h. not_both c.if-is_below.false ((seen (Below c.is_below.result) a.a r.a_in c.is_below.ensures).1 h)) y),
    )
