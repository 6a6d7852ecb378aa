use Rattle.std.proofs.Common.{rules}
use Rattle.std.proofs.lemmas.List.Sorted.{answers_always}
use Rattle.p21_values.proofs.Finding.{found_id, none_id}
use Rattle.spatial_tree.specs.declared.storey_tree.Placed.{Placed}
use Rattle.spatial_tree.proofs.Trees.{found_placed, unlisted}
use Rattle.spatial_tree.proofs.storey_tree.Tree.storey_of.Goals as goal

pub returns-in-Ok : goal.returns-in-Ok
returns-in-Ok c =
    let p = c.in-Ok.ensures.position (λ (x : Placed). x.object) (answers_always _ _ _ (λ f a r g h. search rules)) in
    let q = found_id (λ (x : Placed). x.object) c.args.id c.as_slice.result.now c.in-Ok.at c.index.result.now p in
    rw (← c.self.view_is) (found_placed c.self.inside.placed.items c.as_slice.result.now c.args.id c.in-Ok.at c.index.result.now c.as_slice.ensures.value c.in-Ok.ensures.bound c.index.ensures q)

pub returns-in-Err : goal.returns-in-Err
returns-in-Err c =
    let p = c.in-Err.ensures.position (λ (x : Placed). x.object) (answers_always _ _ _ (λ f a r g h. search rules)) in
    rw (← c.self.view_is, ← c.as_slice.ensures.value) (unlisted c.as_slice.result.now c.args.id (none_id (λ (x : Placed). x.object) c.args.id c.as_slice.result.now c.in-Err.field-0 p (rw c.as_slice.ensures.value c.self.invariant)))
