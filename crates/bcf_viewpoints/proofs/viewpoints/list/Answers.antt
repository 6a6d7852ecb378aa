use Rattle.std.proofs.Common.{map, ap, ◌∙◌}
use Rattle.bcf_topics.proofs.Ranges.{of_topic}
use Rattle.bcf_viewpoints.specs.Viewpoints.{views_of}
use Rattle.bcf_viewpoints.proofs.viewpoints.list.Goals as goal

pub loop-place-init : goal.loop-place-init
unfolding views_of
loop-place-init c =
    rw c.new-list.ensures.items
    (ap (map (λ e. e.0.1))
    (c.into_iter-place-iterator.ensures.into_iter_gives ∙ c.range-place-items.ensures.between tt
    ∙ of_topic c.args.topic c.args.views.now.entries))
