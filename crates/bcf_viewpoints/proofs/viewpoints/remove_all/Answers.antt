use Rattle.std.proofs.Common.{◌==◌, not, rules}
use Rattle.std.proofs.lemmas.Map.Made.{filter_same_pairs}
use Rattle.bcf_viewpoints.specs.Viewpoints.{views_off}
use Rattle.bcf_viewpoints.proofs.Kept.{off_kept}
use Rattle.bcf_viewpoints.proofs.viewpoints.remove_all.Goals as goal

pub returns : goal.returns
unfolding views_off
returns c =
    let e = filter_same_pairs _ (λ e. not (e.0.0 == c.args.topic)) _ (λ k v b w f t. search rules) _ _ c.retain.ensures.filtered in
    record { after = e; kept = rw e (off_kept c.args.topic c.args.views.now.entries c.requires) }
