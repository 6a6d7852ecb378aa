use Rattle.std.proofs.Common.{◌↔◌, Bool, IsTrue, ℤ, pos, ◌<ℤ◌}
use Rattle.tri_exact.proofs.Choice.{first_yes, second_yes, third}
use Rattle.tri_pierce.proofs.Registers.{seen}
use Rattle.tri_pierce.proofs.heights.has_below.Goals as goal

abbrev Tells : Bool → ℤ → Type 0
Tells r x = IsTrue r ↔ (x <ℤ pos 0)

pub returns-then-is_below : goal.returns-then-is_below
returns-then-is_below c = first_yes (seen (Tells c.is_below.result) c.args.h.a c.requires.a_in c.is_below.ensures) c.if-is_below.true

pub returns-then-is_below-2 : goal.returns-then-is_below-2
returns-then-is_below-2 c = second_yes (seen (Tells c.is_below-2.result) c.args.h.b c.requires.b_in c.is_below-2.ensures) c.if-is_below-2.true

pub returns : goal.returns
returns c =
    let h = c.args.h in
    third (seen (Tells c.is_below.result) h.a c.requires.a_in c.is_below.ensures) c.if-is_below.false (seen (Tells c.is_below-2.result) h.b c.requires.b_in c.is_below-2.ensures) c.if-is_below-2.false (seen (Tells c.is_below-3.result) h.c c.requires.c_in c.is_below-3.ensures)
