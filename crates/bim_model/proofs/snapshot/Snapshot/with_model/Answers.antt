use Rattle.std.proofs.Common.{rules, ◌≡◌, ◌∙◌, sym, subst, ap}
use Rattle.bim_model.specs.Models.{IsModel}
use Rattle.bim_model.specs.Snapshots.{with_model, IsSnapshot, Version}
use Rattle.bim_model.proofs.Versions.{with_model_rises, put_in_place}
use Rattle.bim_model.proofs.snapshot.Snapshot.with_model.Goals as goal

pub returns-clause-models : goal.returns-clause-models
returns-clause-models c = search (rules, put_in_place)

pub invariant_of-result : goal.invariant_of-result
invariant_of-result c =
    let e : c.push_above.new.made.items ≡ with_model c.args.model c.args.self.now.models = search (rules, put_in_place) in
    let new : IsModel c.args.model.model = subst IsModel (c.elements.ensures.same ∙ c.get.ensures) c.elements.ensures.model in
    subst IsSnapshot (sym e)
    (with_model_rises _ _ new (subst IsSnapshot (ap (λ (v : Version). v.models) c.self.view_is) c.self.invariant))
