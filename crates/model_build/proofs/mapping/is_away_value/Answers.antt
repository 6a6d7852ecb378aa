use Rattle.std.proofs.Common.{Bool, Some, ap, sym, ◌∙◌, subst}
use Rattle.std.specs.Bool.{MatchBool}
use Rattle.model_build.specs.Unsupported.{IsAwayValue}
use Rattle.model_build.proofs.LocationsAway.{away_told}
use Rattle.model_build.proofs.mapping.is_away_value.Goals as goal

pub returns-in-Some-three : goal.returns-in-Some-three
returns-in-Some-three c =
    let t = c.in-Some-three.found in
    subst (λ (b : Bool). MatchBool b (IsAwayValue c.args.scale c.args.mode c.args.value.now) (IsAwayValue c.args.scale c.args.mode c.args.value.now → ⊥)) (sym c.are_away.ensures)
    (away_told c.args.scale c.args.mode c.args.value.now t.x t.y t.z c.where_it_lies.result c.where_it_lies-in-Some-three.result c.where_it_lies-in-Some-three-2.result (sym c.in-Some.ensures ∙ ap Some c.in-Some-three.ensures)
    c.where_it_lies.ensures c.where_it_lies-in-Some-three.ensures c.where_it_lies-in-Some-three-2.ensures)
