use Rattle.std.proofs.Common.{[], get_or, sym, ap, ◌∙◌, arith}
use Rattle.std.proofs.lemmas.List.Sums.{fold_more}
use Rattle.http_routes.specs.declared.paths.RoutePath.TheVariants.{Projects}
use Rattle.http_routes.specs.Paths.{rows, with_row}
use Rattle.http_routes.proofs.routes.Routes.new.Goals as goal

pub loop-row-preserved : goal.loop-row-preserved
loop-row-preserved c =
    let l = c.loop-row in
    c.in_ok-put_row.ensures ∙ ap (λ routes. with_row routes (get_or rows l.row-index Projects)) l.invariant
    ∙ sym (fold_more with_row [] rows l.row-index Projects (omega arith))
