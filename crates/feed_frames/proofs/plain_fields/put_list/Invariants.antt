use Rattle.std.proofs.Common.{◌≡◌, ◌++◌, length, take}
use Rattle.std.specs.List.{flat_map}
use Rattle.feed_frames.specs.FieldBytes.{long_bytes}
use Rattle.feed_frames.proofs.plain_fields.put_list.Given as goal

abbrev pub invariant-loop-item : goal.invariant-loop-item
invariant-loop-item g l =
    l.out.items
    ≡ (l.fn.out.items ++ long_bytes (length l.items)) ++ flat_map g.T.Field.spelling (take l.item-index l.items)
