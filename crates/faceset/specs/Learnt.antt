-- What was learnt of the faces and of the lists of points of a file.
use Rattle.std.specs.Prelude.{List}
use Rattle.p21_values.specs.declared.value.Instance.{Instance}
use Rattle.faceset.specs.declared.learnt.Learnt.{Learnt}
use Rattle.faceset.specs.Reaches.{AreReaches}
use Rattle.faceset.specs.PointCounts.{AreCounts}

-- all that was learnt is so in a world
pub record IsLearnt (world : List Instance) (learnt : Learnt) : Type 0 where
  pub faces : AreReaches world learnt.faces
  pub lists : AreCounts world learnt.lists
