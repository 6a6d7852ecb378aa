use Rattle.std.proofs.Common.{◌≡◌, ℕ, Option, Some, List, [], ◌∷◌, length, drop, option_copied, ap, ◌∙◌, subst, arith}
use Rattle.std.specs.List.{All}
use Rattle.std.proofs.lemmas.Bool.{OnTrue_at}
use Rattle.std.proofs.lemmas.List.{map-append}
use Rattle.std.proofs.lemmas.List.Elements.{All-push}
use Rattle.p21_values.specs.declared.value.Value21.{Value21}
use Rattle.p21_values.specs.Attributes.{led_to}
use Rattle.p21_values.proofs.Turns.{ended}
use Rattle.faceset.specs.FaceSets.{IsCut, Joined}
use Rattle.faceset.proofs.FaceLists.{joined_more}
use Rattle.p21_values.specs.Values.{reference_of}
use Rattle.walk_rows.specs.Rows.{AreNumbers, triangle_at, triangles_at}
use Rattle.walk_rows.specs.SetRows.{LeadsToFace}
use Rattle.walk_rows.proofs.FacesAgain.{last_kept, leads_again, kept_again}
use Rattle.walk_rows.proofs.face_rows.rows_of_faces.Goals as goal

pub loop-value-preserved : goal.loop-value-preserved
loop-value-preserved c = record {
  rows = λ names are. (
      let points = c.args.points.now in
      let old = c.loop-value.rows.items in
      let added = OnTrue_at c.if-not-added.false (c.in_ok-added.ensures.rows names are) in
      joined_more (IsCut names points) c.args.exchange.now c.loop-value.yielded c.in-Some.value (triangles_at points old) (triangles_at points added.0) (triangles_at points c.add_listed.new.rows.items)
      (ap (triangles_at points) added.2 ∙ map-append (triangle_at points) old added.0) (c.loop-value.invariant.rows names are) added.1);
  leads = All-push (LeadsToFace c.args.exchange.now) c.loop-value.yielded c.in-Some.value c.loop-value.invariant.leads (OnTrue_at c.if-not-added.false c.in_ok-added.ensures.leads);
  kept = last_kept c.last_of-last.result (λ face. (v : Value21) → reference_of v ≡ Some face.id → (names : Option (List Value21)) → AreNumbers (length c.args.points.now) names (option_copied c.args.numbers)
      → Joined (IsCut names c.args.points.now) (led_to c.args.exchange.now (v ∷ [])) (triangles_at c.args.points.now (drop face.first c.add_listed.new.rows.items))) c.last_of-last.ensures
      (λ face of v e names are. (
      let added = OnTrue_at c.if-not-added.false (c.in_ok-added.ensures.rows names are) in
      let first : length c.loop-value.rows.items ≡ face.first = omega (arith, of.1, c.len-first.ensures, c.loop-value.rows.ok.0) in
      subst (λ (n : ℕ). Joined (IsCut names c.args.points.now) (led_to c.args.exchange.now (v ∷ [])) (triangles_at c.args.points.now (drop n c.add_listed.new.rows.items))) first
      (kept_again (IsCut names c.args.points.now) c.args.exchange.now c.args.points.now v c.in-Some.value face.id c.loop-value.rows.items added.0 c.add_listed.new.rows.items added.2 e of.0 added.1)));
  kept_leads = last_kept c.last_of-last.result (λ face. (v : Value21) → reference_of v ≡ Some face.id → LeadsToFace c.args.exchange.now v) c.last_of-last.ensures
      (λ face of v e. leads_again c.args.exchange.now v c.in-Some.value face.id e of.0 (OnTrue_at c.if-not-added.false c.in_ok-added.ensures.leads));
}

pub returns-clause-rows : goal.returns-clause-rows
returns-clause-rows c = λ names are. (
    let all = ended c.args.values.now c.loop-value.yielded (cc) _ c.loop-value.yielded_by _ c.in-None.is c.next.ensures.steps in
    subst (λ (vs : List Value21). Joined (IsCut names c.args.points.now) (led_to c.args.exchange.now vs) (triangles_at c.args.points.now c.loop-value.rows.items)) all (c.loop-value.invariant.rows names are))

pub returns-clause-leads : goal.returns-clause-leads
returns-clause-leads c =
    let all = ended c.args.values.now c.loop-value.yielded (cc) _ c.loop-value.yielded_by _ c.in-None.is c.next.ensures.steps in
    subst (λ (vs : List Value21). All (LeadsToFace c.args.exchange.now) vs) all c.loop-value.invariant.leads
