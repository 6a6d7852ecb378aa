use Rattle.std.proofs.Common.{List, [], ◌∷◌, ◌++◌, sym, subst}
use Rattle.std.specs.List.{AllZip}
use Rattle.faceset.proofs.Zips.{zip_push}
use Rattle.walk_rows.specs.declared.triangle_rows.Row.{Row}
use Rattle.walk_rows.specs.Rows.{IsRowOf}
use Rattle.walk_rows.proofs.ShortIndexes.{passed_more}
use Rattle.walk_rows.proofs.row_places.rows_of.Goals as goal

pub loop-found-init : goal.loop-found-init
loop-found-init c = ([], sym c.iter-left.ensures, λ names are. subst (λ (rows : List Row). AllZip (IsRowOf names c.args.count) [] rows) (sym c.new-made.ensures.items) tt)

pub loop-found-preserved : goal.loop-found-preserved
loop-found-preserved c =
    let i = c.loop-found.invariant in
    let next = rw c.in-Some-found.is at c.in-Some.ensures.row in (
      i.0 ++ next.0 ∷ [],
      passed_more c.args.values.now i.0 c.loop-found.left c.next_row.new.left next.0 i.1 next.1,
      λ names are. rw c.in_ok-push-in-Some-found.ensures.items (zip_push (IsRowOf names c.args.count) i.0 c.loop-found.made.items next.0 c.in-Some-found.row (i.2 names are) (next.2 names are)),
    )
