use Rattle.placement.specs.Frames.{point_at}
use Rattle.ifc_units.proofs.PointFacts.{same_point}
use Rattle.placement.proofs.Numbers.{fits_cast, shortened}
use Rattle.placement.proofs.frame.short_point.Goals as goal

pub overflow_cast-result : goal.overflow_cast-result
overflow_cast-result c = fits_cast c.args.at.x c.requires.x

pub overflow_cast-result-2 : goal.overflow_cast-result-2
overflow_cast-result-2 c = fits_cast c.args.at.y c.requires.y

pub overflow_cast-result-3 : goal.overflow_cast-result-3
overflow_cast-result-3 c = fits_cast c.args.at.z c.requires.z

pub returns : goal.returns
returns c = same_point _ (point_at c.args.at) (shortened c.args.at.x c.requires.x) (shortened c.args.at.y c.requires.y) (shortened c.args.at.z c.requires.z)
