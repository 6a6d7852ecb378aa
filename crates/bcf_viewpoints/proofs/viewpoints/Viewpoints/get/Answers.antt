use Rattle.bcf_viewpoints.specs.Viewpoints.{view_of}
use Rattle.bcf_viewpoints.proofs.Kept.{lent_kept}
use Rattle.bcf_viewpoints.proofs.viewpoints.Viewpoints.get.Goals as goal

pub returns-clause-good : goal.returns-clause-good
unfolding view_of
returns-clause-good c =
    lent_kept c.args.topic c.args.serial c.self.inside.views.entries c.get.result c.get.ensures.value c.self.invariant
