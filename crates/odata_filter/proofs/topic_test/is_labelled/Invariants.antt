use Rattle.std.proofs.Common.{◌≡◌, drop}
use Rattle.std.specs.Prelude.{bytes_eq}
use Rattle.std.specs.List.{list_any}
use Rattle.odata_filter.proofs.topic_test.is_labelled.Given as goal

abbrev pub invariant-loop-label : goal.invariant-loop-label
invariant-loop-label l =
    list_any (λ label. bytes_eq label l.literal) (drop l.label-index l.labels)
    ≡ list_any (λ label. bytes_eq label l.literal) l.labels
