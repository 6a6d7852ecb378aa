use Rattle.std.proofs.Common.{sym, subst}
use Rattle.bcf_viewpoints.specs.Viewpoints.{Views, AreViews, views_with}
use Rattle.bcf_viewpoints.proofs.Kept.{with_kept}
use Rattle.bcf_viewpoints.proofs.viewpoints.insert.Goals as goal

pub returns-clause-kept : goal.returns-clause-kept
unfolding views_with
returns-clause-kept c =
    with_kept c.args.topic c.args.serial c.args.body c.args.views.now.entries c.insert.new.self.entries c.in_ok-insert.ensures.entries
    c.requires.kept c.requires.body

pub returns-in_err-insert-clause-kept : goal.returns-in_err-insert-clause-kept
returns-in_err-insert-clause-kept c =
    let P : Views → Type 0 = λ views. AreViews views in
    subst P (sym c.in_err-insert.ensures.err) c.requires.kept
