use Rattle.bcf_viewpoints.specs.Viewpoints.{views_but}
use Rattle.bcf_viewpoints.proofs.Kept.{but_kept}
use Rattle.bcf_viewpoints.proofs.viewpoints.remove.Goals as goal

pub returns-clause-kept : goal.returns-clause-kept
unfolding views_but
returns-clause-kept c =
    but_kept c.args.topic c.args.serial c.args.views.now.entries c.remove.new.self.entries c.remove.ensures.entries c.requires
