use Rattle.std.proofs.Common.{◌==◌, not, rules}
use Rattle.std.proofs.lemmas.Map.Made.{filter_same_pairs}
use Rattle.bcf_topics.specs.Comments.{comments_off}
use Rattle.bcf_topics.proofs.comment_list.remove_all.Goals as goal

pub returns : goal.returns
unfolding comments_off
returns c =
    filter_same_pairs _ (λ e. not (e.0.0 == c.args.topic)) _ (λ k v b w f t. search rules) _ _ c.retain.ensures.filtered
