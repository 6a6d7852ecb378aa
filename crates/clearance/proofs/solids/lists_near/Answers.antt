use Rattle.std.proofs.Common.{◌≡◌, ◌≤◌, ◌==◌, ◌↔◌, IsTrue, true, false, List, length, All, ap, ◌∙◌, subst, sym, refl, arith}
use Rattle.std.proofs.lemmas.List.{length-take, length-drop}
use Rattle.std.proofs.lemmas.List.Elements.{All-drop, All-take}
use Rattle.std.proofs.lemmas.Bool.Decides.{nat_tests}
use Rattle.bim_model.specs.declared.geometry.Triangle.{Triangle}
use Rattle.bim_model.specs.Points.{IsInGrid}
use Rattle.clearance.specs.Near.{ListsNear}
use Rattle.tri_exact.proofs.Choice.{not_both}
use Rattle.clearance.proofs.Parts.{left_none, empty_list, left_found, left_more, second_parts, at_most_front, fewer_left}
use Rattle.clearance.proofs.Decided.{lists_told}
use Rattle.clearance.proofs.solids.lists_near.Goals as goal

pub block_near-requires-clause-few : goal.block_near-requires-clause-few
block_near-requires-clause-few c = at_most_front _ 512 (length c.loop-rest.rest.now) (ap length c.split_front.ensures.front ∙ length-take 512 c.loop-rest.rest.now)

pub loop-rest-smaller : goal.loop-rest-smaller
loop-rest-smaller c =
    fewer_left (length c.loop-rest.rest.now) _ 512 (ap length c.split_front.ensures.behind ∙ length-drop 512 c.loop-rest.rest.now) (omega arith) (sym c.is_empty.ensures ∙ c.loop-rest-test.true)

found : (c : goal.Then-block_near) → IsTrue true ↔ ListsNear c.args.ps.now c.args.qs.now c.args.d
found c = (
  λ x. left_found (λ (ts : List Triangle). ListsNear c.args.ps.now ts c.args.d) (second_parts c.args.ps.now c.args.d) 512 c.args.qs.now c.loop-rest.rest.now c.split_front.result.0.now c.split_front.ensures.front c.loop-rest.invariant.1 (c.block_near.ensures.0 c.if-block_near.true),
  λ x. refl,
)

pub returns-then-block_near-clause-near : goal.returns-then-block_near-clause-near
returns-then-block_near-clause-near c = found c

pub returns-then-block_near-clause-value : goal.returns-then-block_near-clause-value
returns-then-block_near-clause-value c = lists_told true c.args.ps.now c.args.qs.now c.args.d (found c)

pub loop-rest-preserved : goal.loop-rest-preserved
loop-rest-preserved c =
    let F : List Triangle → Type 0 = λ (ts : List Triangle). ListsNear c.args.ps.now ts c.args.d in
    let b = c.split_front.ensures.behind in (
      subst (All IsInGrid) (sym b) (All-drop IsInGrid 512 c.loop-rest.rest.now c.loop-rest.invariant.0),
      left_more F (second_parts c.args.ps.now c.args.d) 512 c.args.qs.now c.loop-rest.rest.now c.split_front.result.0.now c.split_front.result.1.now c.split_front.ensures.front b c.loop-rest.invariant.1 (λ y. not_both c.if-block_near.false (c.block_near.ensures.1 y)),
    )

pub block_near-requires-clause-qs_in : goal.block_near-requires-clause-qs_in
block_near-requires-clause-qs_in c = subst (All IsInGrid) (sym c.split_front.ensures.front) (All-take IsInGrid 512 c.loop-rest.rest.now c.loop-rest.invariant.0)

pub returns-then-qs-le-RUN-clause-value : goal.returns-then-qs-le-RUN-clause-value
returns-then-qs-le-RUN-clause-value c = lists_told _ c.args.ps.now c.args.qs.now c.args.d c.pairs_near.ensures

no_item : {X : Type 0} (xs : List X) → (length xs == 0) ≡ true → length xs ≤ 0
no_item xs e = grind (arith, nat_tests, e)

missed : (c : goal.After-loop-rest) → IsTrue false ↔ ListsNear c.args.ps.now c.args.qs.now c.args.d
missed c = (
  λ x. absurd (cc x),
  λ x. absurd (left_none (λ (ts : List Triangle). ListsNear c.args.ps.now ts c.args.d) (second_parts c.args.ps.now c.args.d) c.args.qs.now c.loop-rest.rest.now
      (empty_list c.loop-rest.rest.now (no_item c.loop-rest.rest.now (sym c.is_empty.ensures ∙ c.loop-rest-test.false))) c.loop-rest.invariant.1 x),
)

pub returns-clause-near : goal.returns-clause-near
returns-clause-near c = missed c

pub returns-clause-value : goal.returns-clause-value
returns-clause-value c = lists_told false c.args.ps.now c.args.qs.now c.args.d (missed c)
