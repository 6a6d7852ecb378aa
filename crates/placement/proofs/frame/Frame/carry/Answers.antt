use Rattle.std.proofs.Common.{sym, subst}
use Rattle.placement.specs.declared.frame.Offset.{Offset}
use Rattle.placement.specs.Frames.{AreWithin}
use Rattle.ifc_units.specs.Lengths.{reach}
use Rattle.placement.proofs.Numbers.{reach_within}
use Rattle.placement.proofs.frame.Frame.carry.Goals as goal

pub short_point-requires : goal.short_point-requires
short_point-requires c = c.moved.ensures.within reach reach c.requires.within (subst (λ (o : Offset). AreWithin reach o) (sym c.lengths_of.ensures.value) (reach_within c.args.point c.requires.reach))
