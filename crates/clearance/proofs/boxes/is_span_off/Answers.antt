use Rattle.std.proofs.Common.{◌↔◌, ◌≤◌, ℕ, ℤ, pos, ◌+ℤ◌, ◌<ℤ◌, unsigned_abs, inl, inr, refl, subst}
use Rattle.tri_exact.proofs.Choice.{not_both}
use Rattle.clearance.proofs.Words.{in_32, same_32}
use Rattle.clearance.proofs.Spans.{off_above, off_below, sides}
use Rattle.clearance.proofs.boxes.is_span_off.Goals as goal

-- the test of two arguments, as the callee saw them
seen : {P : Type 0} (h l : ℤ) (d : ℕ) → unsigned_abs h ≤ 8000000 → unsigned_abs l ≤ 8000000 → P ↔ ((in_32 h +ℤ pos d) <ℤ in_32 l) → P ↔ ((h +ℤ pos d) <ℤ l)
seen {P} h l d f g q = subst (λ (x : ℤ). P ↔ ((h +ℤ pos d) <ℤ x)) (same_32 l g) (subst (λ (x : ℤ). P ↔ ((x +ℤ pos d) <ℤ in_32 l)) (same_32 h f) q)

pub returns-then-is_past : goal.returns-then-is_past
returns-then-is_past c =
    let a = c.args in let r = c.requires in
    let q = seen a.high a.other_low a.d r.high_in r.other_low_in c.is_past.ensures in
    (λ x. off_above a.low a.high a.other_low a.other_high a.d (q.0 c.if-is_past.true), λ x. refl)

pub returns : goal.returns
returns c =
    let a = c.args in let r = c.requires in
    let q = seen a.high a.other_low a.d r.high_in r.other_low_in c.is_past.ensures in
    let p = seen a.other_high a.low a.d r.other_high_in r.low_in c.is_past-2.ensures in (
      λ x. off_below a.low a.high a.other_low a.other_high a.d (p.0 x),
      λ x. elim (sides a.low a.high a.other_low a.other_high a.d x) [ inl y ↦ not_both c.if-is_past.false (q.1 y) | inr y ↦ p.1 y ],
    )
