use Rattle.std.proofs.Common.{◌∙◌, sym}
use Rattle.p21_lexer.proofs.Tokens.{first_at, none_by_kind, none_by_span}
use Rattle.p21_lexer.proofs.cutting.cut.Goals as goal

pub returns-in-None-clause-cuts : goal.returns-in-None-clause-cuts
returns-in-None-clause-cuts c = ((c.skip-start.ensures.within, c.skip-start.ensures.skips), c.if-start-bytes.false, none_by_kind c.args.bytes.now c.skip-start.result c.if-start-bytes.false (sym c.in-None.is ∙ c.kind_at.ensures))

pub returns-in-None-end_of-clause-cuts : goal.returns-in-None-end_of-clause-cuts
returns-in-None-end_of-clause-cuts c = ((c.skip-start.ensures.within, c.skip-start.ensures.skips), c.if-start-bytes.false, none_by_span c.args.bytes.now c.skip-start.result c.in-Some.kind c.if-start-bytes.false (sym c.in-Some.is ∙ c.kind_at.ensures) (sym c.in-None-end_of.is ∙ c.end_of.ensures.span))

pub returns-in-Some-end_of-clause-cuts : goal.returns-in-Some-end_of-clause-cuts
returns-in-Some-end_of-clause-cuts c =
    let first = first_at c.args.bytes.now c.skip-start.result c.in-Some-end_of.end c.in-Some.kind c.if-start-bytes.false (sym c.in-Some.is ∙ c.kind_at.ensures) (sym c.in-Some-end_of.is ∙ c.end_of.ensures.span) in
    ((c.skip-start.ensures.within, c.skip-start.ensures.skips), first.0, first.1)
