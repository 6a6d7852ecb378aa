use Rattle.std.proofs.Common.{◌≡◌, sym, ◌∙◌, rules}
use Rattle.p21_values.specs.declared.piece.Kind.TheVariants as kinds
use Rattle.p21_table.proofs.FirstTokens.{item_by, all_closed, never_inside}
use Rattle.p21_table.proofs.standing.item_there.Goals as goal

pub returns-then-eq-clause-item : goal.returns-then-eq-clause-item
returns-then-eq-clause-item c =
    let close : c.in-Ok.piece.kind ≡ kinds.Close = search rules in
    λ vs h. all_closed c.args.bytes.now c.args.at c.in-Ok.piece.token vs c.in-Ok.ensures.cuts (sym c.in-Ok.ensures.piece.seen ∙ close) h

pub returns-else-eq-clause-item : goal.returns-else-eq-clause-item
returns-else-eq-clause-item c = λ vs h.
    item_by c.args.bytes.now c.args.at c.in-Ok.piece.token vs c.in-Ok.ensures.cuts (λ k. let e : c.in-Ok.piece.kind ≡ kinds.Close = c.in-Ok.ensures.piece.seen ∙ k in search rules) h

pub returns-in-Err-clause-item : goal.returns-in-Err-clause-item
returns-in-Err-clause-item c = λ vs h. never_inside c.args.bytes.now c.args.at c.in-Err.field-0 vs c.in-Err.ensures.fault h
