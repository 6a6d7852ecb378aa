use Rattle.std.proofs.Common.{pos, ◌+◌, List, All, drop, subst, sym, refl}
use Rattle.std.proofs.lemmas.List.Elements.{All-drop}
use Rattle.bim_model.specs.declared.geometry.Triangle.{Triangle}
use Rattle.bim_model.specs.declared.geometry.Extent.{Extent}
use Rattle.bim_model.specs.Points.{IsInGrid, shape_of}
use Rattle.clearance.specs.Near.{NearAny}
use Rattle.clearance.specs.inner.TriangleRuns.{RunsIn, AllReach, Reaches}
use Rattle.tri_exact.proofs.Choice.{not_both}
use Rattle.clearance.proofs.Gaps.{near_swaps}
use Rattle.clearance.proofs.OffBoxes.{off_far}
use Rattle.clearance.proofs.Parts.{left_found, left_more, any_parts_of, next_run}
use Rattle.clearance.proofs.triangle_runs.runs_near.Goals as goal

pub returns-then-is_off : goal.returns-then-is_off
returns-then-is_off c = (
  λ x. absurd (cc x),
  λ (i, q, lt, e, n). absurd (off_far c.args.reached c.extent_of-extent.result (shape_of q) (shape_of c.args.p.now) c.args.d
      (subst (λ (y : Triangle). Reaches c.args.around c.args.d c.args.reached y) e (c.requires.reached_in i q lt) (shape_of c.args.p.now) c.requires.inside n)
      c.extent_of-extent.ensures.inside (c.is_off.ensures.0 c.if-is_off.true) (near_swaps (shape_of c.args.p.now) (shape_of q) c.args.d n)),
)

pub run_near-requires-clause-reached : goal.run_near-requires-clause-reached
run_near-requires-clause-reached c =
    let r = next_run c.args.around c.args.d c.args.runs.now c.loop-run.run-index _ c.loop-run.rest.now c.loop-run-test.true c.loop-run.invariant.0 in
    subst (AllReach c.args.around c.args.d _) (sym c.split_front.ensures.front) r.1

pub returns-then-run_near : goal.returns-then-run_near
returns-then-run_near c =
    let F : List Triangle → Type 0 = λ (ts : List Triangle). NearAny c.args.p.now ts c.args.d in (
      λ x. left_found F (any_parts_of c.args.p.now c.args.d) 16 c.args.qs.now c.loop-run.rest.now c.split_front.result.0.now c.split_front.ensures.front c.loop-run.invariant.2 (c.run_near.ensures.0 c.if-run_near.true),
      λ x. refl,
    )

none : Extent
none = record { low = record { x = pos 0; y = pos 0; z = pos 0 }; high = record { x = pos 0; y = pos 0; z = pos 0 } }

pub loop-run-preserved : goal.loop-run-preserved
loop-run-preserved c =
    let F : List Triangle → Type 0 = λ (ts : List Triangle). NearAny c.args.p.now ts c.args.d in
    let b = c.split_front.ensures.behind in let i = c.loop-run.run-index in
    let r = next_run c.args.around c.args.d c.args.runs.now i none c.loop-run.rest.now c.loop-run-test.true c.loop-run.invariant.0 in (
      subst (RunsIn c.args.around c.args.d (drop (i + 1) c.args.runs.now)) (sym b) r.2,
      subst (All IsInGrid) (sym b) (All-drop IsInGrid 16 c.loop-run.rest.now c.loop-run.invariant.1),
      left_more F (any_parts_of c.args.p.now c.args.d) 16 c.args.qs.now c.loop-run.rest.now c.split_front.result.0.now c.split_front.result.1.now c.split_front.ensures.front b c.loop-run.invariant.2 (λ y. not_both c.if-run_near.false (c.run_near.ensures.1 y)),
    )
