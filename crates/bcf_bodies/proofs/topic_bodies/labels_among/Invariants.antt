use Rattle.std.proofs.Common.{◌≡◌, drop}
use Rattle.serde_json.specs.View.{items_view}
use Rattle.bcf_topics.specs.declared.limits.TheConstants.{MOST_LABEL}
use Rattle.bcf_bodies.specs.Members.{short_text, all_of}
use Rattle.bcf_bodies.proofs.Lists.{front}
use Rattle.bcf_bodies.proofs.topic_bodies.labels_among.Given as goal

abbrev pub invariant-loop-item : goal.invariant-loop-item
invariant-loop-item l =
    front l.labels (all_of (short_text MOST_LABEL) (items_view (drop l.item-index l.items))) ≡ all_of (short_text MOST_LABEL) (items_view l.items)
