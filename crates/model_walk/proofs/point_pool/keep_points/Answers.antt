use Rattle.std.proofs.Common.{◌≡◌, true, sym, ◌∙◌, subst}
use Rattle.ifc_instances.specs.declared.entity.Entity.TheVariants.{PointList}
use Rattle.ifc_instances.specs.EntityLookup.{is_a}
use Rattle.walk_rows.specs.Pools.{Pools}
use Rattle.model_walk.proofs.PointsPooled.{kept_none, kept_some}
use Rattle.model_walk.proofs.point_pool.keep_points.Goals as goal

pub returns-then-not-includes : goal.returns-then-not-includes
returns-then-not-includes c = kept_none (is_a PointList c.args.list.now) _ _ (sym c.includes.ensures ∙ c.if-not-includes.true) (cc)

pub returns : goal.returns
returns c =
    let found = rw c.in-Some.is at c.in_ok-found.ensures in
    let points = c.in-Some.found.items in
    let kind : is_a PointList c.args.list.now ≡ true = sym c.includes.ensures ∙ c.if-not-includes.false in
    kept_some (is_a PointList c.args.list.now) _ _ kind (points, (record { kind = kind; are = found.0 }, found.1), subst (λ ps. Pools c.args.pool.now c.put.new.self c.args.at ps) c.from_vec.ensures c.in_ok-put.ensures)
