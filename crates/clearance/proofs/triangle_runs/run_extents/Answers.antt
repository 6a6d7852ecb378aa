use Rattle.std.proofs.Common.{◌≤◌, ◌<◌, ◌∷◌, [], List, length, All, ap, ◌∙◌, subst, sym, arith}
use Rattle.std.proofs.lemmas.List.{length-drop, length-set}
use Rattle.std.proofs.lemmas.List.Elements.{All-drop}
use Rattle.bim_model.specs.declared.geometry.Extent.{Extent}
use Rattle.bim_model.specs.Points.{IsInGrid}
use Rattle.clearance.specs.inner.TriangleRuns.{RunsIn, AllReach}
use Rattle.clearance.proofs.Parts.{few_left, empty_list, box_more, boxes_all}
use Rattle.clearance.proofs.triangle_runs.run_extents.Goals as goal

pub loop-k-preserved : goal.loop-k-preserved
loop-k-preserved c =
    let i = c.loop-k.invariant in let k = c.loop-k.k in let m = c.reached_extent.result in let left = c.loop-k.rest.now in
    let f = c.split_front.ensures.front in let b = c.split_front.ensures.behind in
    let lt : k < length c.loop-k.runs = omega (arith, i.0, c.loop-k-test.true) in (
      length-set c.loop-k.runs k m ∙ i.0,
      few_left (length left) _ k (ap length b ∙ length-drop 16 left) i.1 (omega (arith, c.loop-k-test.true)),
      subst (All IsInGrid) (sym b) (All-drop IsInGrid 16 left i.2),
      λ ks r. subst (λ (xs : List Extent). RunsIn c.args.around c.args.d xs c.args.qs.now) (sym (box_more c.loop-k.runs ks k m lt))
          (i.3 (m ∷ ks) (c.reached_extent.ensures.small, subst (AllReach c.args.around c.args.d m) f c.reached_extent.ensures.reached, subst (RunsIn c.args.around c.args.d ks) b r)),
    )

pub returns : goal.returns
returns c =
    let i = c.loop-k.invariant in let k = c.loop-k.k in let left = c.loop-k.rest.now in
    let done : length c.loop-k.runs ≤ k = omega (arith, i.0, c.loop-k-test.false) in
    let none : length left ≤ 0 = omega (arith, i.1, c.loop-k-test.false) in
    subst (λ (xs : List Extent). RunsIn c.args.around c.args.d xs c.args.qs.now) (boxes_all c.loop-k.runs k done) (i.3 [] (empty_list left none))
