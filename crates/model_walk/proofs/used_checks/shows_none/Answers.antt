use Rattle.std.proofs.Common.{◌≡◌, Bool, true, false}
use Rattle.std.specs.Bool.{OnTrue}
use Rattle.std.proofs.lemmas.Bool.{OnTrue_at}
use Rattle.ifc_instances.specs.declared.entity.Entity.TheVariants.{Point}
use Rattle.ifc_instances.specs.EntityLookup.{is_a}
use Rattle.ifc_units.specs.declared.length_error.GridFault.{GridFault}
use Rattle.ifc_units.specs.Lengths.{InstanceRefused}
use Rattle.model_walk.specs.Clean.{ShowsNone}
use Rattle.model_walk.proofs.used_checks.shows_none.Goals as goal

pub returns : goal.returns
returns c = by_test c.is_measured.result c.is_measured.ensures
  where
    by_test : (b : Bool) → OnTrue b (is_a Point c.args.instance.now ≡ true → (fault : GridFault) → InstanceRefused c.args.scale c.args.mode c.args.instance.now fault → ⊥)
        → OnTrue b (ShowsNone c.args.exchange.now c.args.scale c.args.mode c.args.mapped c.args.instance.now)
    by_test true point = record {
      items = OnTrue_at c.if-not-shows_items.false c.shows_items.ensures;
      square = OnTrue_at c.if-not-shows_axes.false c.shows_axes.ensures;
      carries = OnTrue_at c.if-not-shows_operator_axes.false c.shows_operator_axes.ensures;
      operator = OnTrue_at c.if-not-shows_operator.false c.shows_operator.ensures;
      origin = OnTrue_at c.if-not-shows_origin.false c.shows_origin.ensures;
      few = OnTrue_at c.if-not-has_few_corners.false c.has_few_corners.ensures;
      point = point;
    }
    by_test false point = tt
