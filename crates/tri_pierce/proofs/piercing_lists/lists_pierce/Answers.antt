use Rattle.std.proofs.Common.{ℕ, zero, suc, ◌≡◌, ◌<◌, ◌==◌, min, List, sym, ap, ◌∙◌, ◌≤◌, ◌↔◌, IsTrue, true, false, length, All, subst, refl, arith}
use Rattle.std.proofs.lemmas.List.{length-take, length-drop}
use Rattle.std.proofs.lemmas.List.Elements.{All-drop, All-take}
use Rattle.std.proofs.lemmas.Bool.Decides.{nat_tests}
use Rattle.bim_model.specs.declared.geometry.Triangle.{Triangle}
use Rattle.bim_model.specs.Points.{IsInGrid}
use Rattle.tri_exact.proofs.Choice.{not_both}
use Rattle.clearance.proofs.Lists.{none_any, any_front, any_behind, any_parts}
use Rattle.clearance.proofs.Parts.{HasParts, left_none, empty_list, left_found, left_more, fewer_left}
use Rattle.tri_pierce.specs.Piercing.{Pierces, PiercesAny, ListsPierce}
use Rattle.tri_pierce.proofs.DecidedSigns.{lists_told}
use Rattle.tri_pierce.proofs.piercing_lists.lists_pierce.Goals as goal

no_item : {X : Type 0} (xs : List X) → (length xs == 0) ≡ true → length xs ≤ 0
no_item xs e = grind (arith, nat_tests, e)

some_item : {X : Type 0} (xs : List X) → (length xs == 0) ≡ false → 0 < length xs
some_item xs e = grind (arith, nat_tests, e)

some_front : (f r : ℕ) → f ≡ min 16 r → 0 < r → 0 < f
some_front f r e h = omega (arith, e, h)

-- what pierces a triangle of a list, by parts of the list
parts : (qs : List Triangle) → HasParts (λ (ts : List Triangle). ListsPierce ts qs)
parts qs =
    record {
      front = any_front (λ (p : Triangle). PiercesAny p qs);
      behind = any_behind (λ (p : Triangle). PiercesAny p qs);
      parts = any_parts (λ (p : Triangle). PiercesAny p qs);
      none = none_any (λ (p : Triangle). PiercesAny p qs);
    }

-- ---- an empty list
empty : (c : goal.Then-is_empty) → IsTrue false ↔ ListsPierce c.args.ps.now c.args.qs.now
empty c = (λ x. absurd (cc x), λ (k, p, lt, e, y). absurd (none_any (λ (q : Triangle). Pierces p q) c.args.qs.now (empty_list c.args.qs.now (no_item c.args.qs.now (sym c.is_empty.ensures ∙ c.if-is_empty.true))) y))

pub returns-then-is_empty-clause-pierce : goal.returns-then-is_empty-clause-pierce
returns-then-is_empty-clause-pierce c = empty c

pub returns-then-is_empty-clause-value : goal.returns-then-is_empty-clause-value
returns-then-is_empty-clause-value c = lists_told false c.args.ps.now c.args.qs.now (empty c)

pub extent_of-around-requires : goal.extent_of-around-requires
extent_of-around-requires c = some_item c.args.qs.now (sym c.is_empty.ensures ∙ c.if-is_empty.false)

-- ---- the runs
pub run_pierces-requires-clause-run_in : goal.run_pierces-requires-clause-run_in
run_pierces-requires-clause-run_in c = subst (All IsInGrid) (sym c.split_run.ensures.front) (All-take IsInGrid 16 c.loop-rest.rest.now c.loop-rest.invariant.0)

pub run_pierces-requires-clause-some : goal.run_pierces-requires-clause-some
run_pierces-requires-clause-some c =
    some_front _ (length c.loop-rest.rest.now) (ap length c.split_run.ensures.front ∙ length-take 16 c.loop-rest.rest.now) (some_item c.loop-rest.rest.now (sym c.is_empty-in-loop-rest.ensures ∙ c.loop-rest-test.true))

pub loop-rest-smaller : goal.loop-rest-smaller
loop-rest-smaller c =
    fewer_left (length c.loop-rest.rest.now) _ 16 (ap length c.split_run.ensures.behind ∙ length-drop 16 c.loop-rest.rest.now) (omega arith) (sym c.is_empty-in-loop-rest.ensures ∙ c.loop-rest-test.true)

found : (c : goal.Then-run_pierces) → IsTrue true ↔ ListsPierce c.args.ps.now c.args.qs.now
found c = (
  λ x. left_found (λ (ts : List Triangle). ListsPierce ts c.args.qs.now) (parts c.args.qs.now) 16 c.args.ps.now c.loop-rest.rest.now c.split_run.result.0.now c.split_run.ensures.front c.loop-rest.invariant.1 (c.run_pierces.ensures.0 c.if-run_pierces.true),
  λ x. refl,
)

pub returns-then-run_pierces-clause-pierce : goal.returns-then-run_pierces-clause-pierce
returns-then-run_pierces-clause-pierce c = found c

pub returns-then-run_pierces-clause-value : goal.returns-then-run_pierces-clause-value
returns-then-run_pierces-clause-value c = lists_told true c.args.ps.now c.args.qs.now (found c)

pub loop-rest-preserved : goal.loop-rest-preserved
loop-rest-preserved c =
    let F : List Triangle → Type 0 = λ (ts : List Triangle). ListsPierce ts c.args.qs.now in
    let b = c.split_run.ensures.behind in (
      subst (All IsInGrid) (sym b) (All-drop IsInGrid 16 c.loop-rest.rest.now c.loop-rest.invariant.0),
      left_more F (parts c.args.qs.now) 16 c.args.ps.now c.loop-rest.rest.now c.split_run.result.0.now c.split_run.result.1.now c.split_run.ensures.front b c.loop-rest.invariant.1 (λ y. not_both c.if-run_pierces.false (c.run_pierces.ensures.1 y)),
    )

missed : (c : goal.After-loop-rest) → IsTrue false ↔ ListsPierce c.args.ps.now c.args.qs.now
missed c = (
  λ x. absurd (cc x),
  λ x. absurd (left_none (λ (ts : List Triangle). ListsPierce ts c.args.qs.now) (parts c.args.qs.now) c.args.ps.now c.loop-rest.rest.now
      (empty_list c.loop-rest.rest.now (no_item c.loop-rest.rest.now (sym c.is_empty-in-loop-rest.ensures ∙ c.loop-rest-test.false))) c.loop-rest.invariant.1 x),
)

pub returns-clause-pierce : goal.returns-clause-pierce
returns-clause-pierce c = missed c

pub returns-clause-value : goal.returns-clause-value
returns-clause-value c = lists_told false c.args.ps.now c.args.qs.now (missed c)
