use Rattle.std.proofs.Common.{◌<◌, length, ap, sym, subst}
use Rattle.walk_rows.proofs.Pooled.{put_one}
use Rattle.walk_rows.proofs.pool.Pool.put.Goals as goal

pub returns : goal.returns
returns g c =
    rw (← c.self.view_is)
    (put_one c.self.inside.kept.items c.push.new.self.items c.self.inside.slots.items c.args.at (length c.as_slice-count.result.now) c.args.item (c.in_ok-push.ensures.items) (ap length c.as_slice-count.ensures.value)
    (subst (λ xs. c.args.at < length xs) (sym c.self.view_is) c.requires) c.self.invariant)
