use Rattle.std.proofs.Common.{◌≡◌, drop}
use Rattle.odata_filter.specs.TopicOrders.{by_keys}
use Rattle.odata_filter.proofs.topic_order.by_keys.Given as goal

abbrev pub invariant-loop-key : goal.invariant-loop-key
invariant-loop-key l = by_keys (drop l.key-index l.keys) l.x l.y ≡ by_keys l.keys l.x l.y
