use Rattle.std.proofs.Common.{eqb, ap₂, subst, ◌∙◌}
use Rattle.bim_model.specs.Snapshots.{IsSnapshot}
use Rattle.bucket_grid.proofs.Found.{same_names}
use Rattle.bucket_grid.proofs.grid.Grid.same_model.Goals as goal

pub returns : goal.returns
returns c =
    ap₂ eqb c.model_of.ensures.model c.model_of-2.ensures.model
    ∙ same_names c.args.self.now.version.models c.args.a c.args.b (subst IsSnapshot c.models.ensures.same c.models.ensures.snapshot) c.model_of.ensures.within c.model_of-2.ensures.within
