use Rattle.std.proofs.Common.{sym, subst, List, ◌∙◌}
use Rattle.ear_cut.specs.declared.corners.Corner.{Corner}
use Rattle.ear_cut.specs.Corners.{AreInGrid}
use Rattle.ear_cut.proofs.Taken.{still_in_grid}
use Rattle.ear_cut.proofs.corner_notes.remove_at.Goals as goal

pub update-requires-clause-left_in : goal.update-requires-clause-left_in
update-requires-clause-left_in c = subst (λ (cs : List Corner). AreInGrid cs) (sym (c.deref.ensures.value ∙ c.remove.ensures.items)) (still_in_grid c.args.left.now.items c.args.i c.requires.i_in c.requires.left_in)

pub returns-clause-left_in : goal.returns-clause-left_in
returns-clause-left_in c = subst (λ (cs : List Corner). AreInGrid cs) (sym c.remove.ensures.items) (still_in_grid c.args.left.now.items c.args.i c.requires.i_in c.requires.left_in)
