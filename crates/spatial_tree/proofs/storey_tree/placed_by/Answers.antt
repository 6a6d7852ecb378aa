use Rattle.std.proofs.Common.{◌≡◌, ◌++◌, ◌∷◌, [], ◌+◌, get_or, refl, sym, ap, ◌∙◌, subst, arith}
use Rattle.std.proofs.lemmas.Grind.{common_steps}
use Rattle.std.specs.List.Sorted.{IsNonDecreasingBy}
use Rattle.spatial_tree.specs.declared.storey_tree.Placed.{Placed}
use Rattle.spatial_tree.specs.inner.StoreyMarks.{told_by}
use Rattle.spatial_tree.specs.Placing.{placed, ArePlaced}
use Rattle.spatial_tree.proofs.Trees.{placed_passed, placed_pushed, placed_rises, told_settled}
use Rattle.spatial_tree.proofs.storey_tree.placed_by.Goals as goal
use Rattle.spatial_tree.proofs.storey_tree.placed_by.Goals.{in-Some+in_ok-push, in_default}

pub loop-at-preserved : goal.loop-at-preserved
loop-at-preserved c = elim c.match-told.branch [
  | in-Some+in_ok-push w ↦ (
      let object = get_or c.args.objects.now c.loop-at.at 0 in
      let e : c.match-told.placed.items ≡ c.loop-at.placed.items ++ placed (get_or c.args.objects.now c.loop-at.at 0) w.in-Some.storey ∷ [] = grind (arith, common_steps) in
      let m = sym c.mark_at.ensures ∙ told_settled c.mark_at.result w.in-Some.storey (sym c.told.ensures ∙ w.in-Some.is) in
      record {
        placed = subst (λ l. ArePlaced c.args.objects.now c.args.marks.now (c.loop-at.at + 1) l) (sym e) (placed_pushed c.args.objects.now c.args.marks.now c.loop-at.at object w.in-Some.storey c.loop-at.placed.items refl m c.loop-at.invariant.placed);
        rises = subst (λ l. IsNonDecreasingBy (λ (p : Placed). p.object) l) (sym e) (placed_rises c.args.objects.now c.args.marks.now c.loop-at.at object w.in-Some.storey c.loop-at.placed.items c.requires c.loop-at-test.true refl c.loop-at.invariant.placed c.loop-at.invariant.rises);
      })
  | in_default w ↦ (
      let e : c.match-told.placed.items ≡ c.loop-at.placed.items = ap (λ l. l.items) w.placed-is in
      record {
        placed = subst (λ l. ArePlaced c.args.objects.now c.args.marks.now (c.loop-at.at + 1) l) (sym e) (placed_passed c.args.objects.now c.args.marks.now c.loop-at.at c.loop-at.placed.items
            (λ s f. w.in_default.not-Some s (c.told.ensures ∙ ap told_by (c.mark_at.ensures ∙ f))) c.loop-at.invariant.placed);
        rises = subst (λ l. IsNonDecreasingBy (λ (p : Placed). p.object) l) (sym e) c.loop-at.invariant.rises;
      })
]
