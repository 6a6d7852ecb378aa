use Rattle.walk_rows.proofs.Pooled.{none_yet}
use Rattle.walk_rows.proofs.pool.Pool.new.Goals as goal

pub returns : goal.returns
returns g c = none_yet _ c.args.places _ (c.in_ok-slots.ensures.items_if_clones_equal (λ y h. h))
