use Rattle.std.proofs.Common.{◌↔◌, ◌<◌, ◌≤◌, ℕ, ℤ, unsigned_abs, subst}
use Rattle.bim_model.specs.Gaps.{gap}
use Rattle.tri_exact.proofs.Choice.{first_yes, second_yes, third}
use Rattle.clearance.proofs.Words.{in_32, same_32}
use Rattle.clearance.proofs.boxes.is_off.Goals as goal

abbrev Small : ℤ → Type 0
Small a = unsigned_abs a ≤ 8000000

-- the test of four arguments, as the callee saw them
seen : {P : Type 0} (l h ol oh : ℤ) (d : ℕ) → Small l → Small h → Small ol → Small oh → P ↔ (d < gap (in_32 l) (in_32 h) (in_32 ol) (in_32 oh)) → P ↔ (d < gap l h ol oh)
seen {P} l h ol oh d f g i j q =
    subst (λ (x : ℤ). P ↔ (d < gap l h ol x)) (same_32 oh j) (subst (λ (x : ℤ). P ↔ (d < gap l h x (in_32 oh))) (same_32 ol i)
    (subst (λ (x : ℤ). P ↔ (d < gap l x (in_32 ol) (in_32 oh))) (same_32 h g) (subst (λ (x : ℤ). P ↔ (d < gap x (in_32 h) (in_32 ol) (in_32 oh))) (same_32 l f) q)))

pub returns-then-is_span_off : goal.returns-then-is_span_off
returns-then-is_span_off c =
    let k = c.args.first in let m = c.args.second in let a = c.requires.first_in in let b = c.requires.second_in in
    first_yes (seen k.low.x k.high.x m.low.x m.high.x c.args.d a.low_in.x_in a.high_in.x_in b.low_in.x_in b.high_in.x_in c.is_span_off.ensures) c.if-is_span_off.true

pub returns-then-is_span_off-2 : goal.returns-then-is_span_off-2
returns-then-is_span_off-2 c =
    let k = c.args.first in let m = c.args.second in let a = c.requires.first_in in let b = c.requires.second_in in
    second_yes (seen k.low.y k.high.y m.low.y m.high.y c.args.d a.low_in.y_in a.high_in.y_in b.low_in.y_in b.high_in.y_in c.is_span_off-2.ensures) c.if-is_span_off-2.true

pub returns : goal.returns
returns c =
    let k = c.args.first in let m = c.args.second in let a = c.requires.first_in in let b = c.requires.second_in in
    third (seen k.low.x k.high.x m.low.x m.high.x c.args.d a.low_in.x_in a.high_in.x_in b.low_in.x_in b.high_in.x_in c.is_span_off.ensures) c.if-is_span_off.false
    (seen k.low.y k.high.y m.low.y m.high.y c.args.d a.low_in.y_in a.high_in.y_in b.low_in.y_in b.high_in.y_in c.is_span_off-2.ensures) c.if-is_span_off-2.false
    (seen k.low.z k.high.z m.low.z m.high.z c.args.d a.low_in.z_in a.high_in.z_in b.low_in.z_in b.high_in.z_in c.is_span_off-3.ensures)
