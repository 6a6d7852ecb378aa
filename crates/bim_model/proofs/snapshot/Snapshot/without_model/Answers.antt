use Rattle.std.proofs.Common.{rules, ◌≡◌, sym, subst, ap}
use Rattle.bim_model.specs.Snapshots.{without_model, IsSnapshot, Version}
use Rattle.bim_model.proofs.Versions.{without_model_rises}
use Rattle.bim_model.proofs.snapshot.Snapshot.without_model.Goals as goal

pub invariant_of-result : goal.invariant_of-result
invariant_of-result c =
    let e : c.in_ok-models.models.items ≡ without_model c.args.name.now c.args.self.now.models = search rules in
    subst IsSnapshot (sym e) (without_model_rises _ _ (subst IsSnapshot (ap (λ (v : Version). v.models) c.self.view_is) c.self.invariant))
