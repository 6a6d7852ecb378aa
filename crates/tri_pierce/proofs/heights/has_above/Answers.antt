use Rattle.std.proofs.Common.{◌↔◌, Bool, IsTrue, ℤ, pos, ◌<ℤ◌}
use Rattle.tri_exact.proofs.Choice.{first_yes, second_yes, third}
use Rattle.tri_pierce.proofs.Registers.{seen}
use Rattle.tri_pierce.proofs.heights.has_above.Goals as goal

abbrev Tells : Bool → ℤ → Type 0
Tells r x = IsTrue r ↔ (pos 0 <ℤ x)

pub returns-then-is_above : goal.returns-then-is_above
returns-then-is_above c = first_yes (seen (Tells c.is_above.result) c.args.h.a c.requires.a_in c.is_above.ensures) c.if-is_above.true

pub returns-then-is_above-2 : goal.returns-then-is_above-2
returns-then-is_above-2 c = second_yes (seen (Tells c.is_above-2.result) c.args.h.b c.requires.b_in c.is_above-2.ensures) c.if-is_above-2.true

pub returns : goal.returns
returns c =
    let h = c.args.h in
    third (seen (Tells c.is_above.result) h.a c.requires.a_in c.is_above.ensures) c.if-is_above.false (seen (Tells c.is_above-2.result) h.b c.requires.b_in c.is_above-2.ensures) c.if-is_above-2.false (seen (Tells c.is_above-3.result) h.c c.requires.c_in c.is_above-3.ensures)
