use Rattle.std.proofs.Common.{◌≡◌, sym, ◌∙◌, rules}
use Rattle.p21_values.specs.declared.piece.Kind.TheVariants as kinds
use Rattle.p21_table.proofs.FirstTokens.{typed_by, never_typed, not_typed}
use Rattle.p21_table.proofs.standing.typed_there.Goals as goal

pub returns-in-Ok-clause-held : goal.returns-in-Ok-clause-held
returns-in-Ok-clause-held c =
    let word : c.args.first.kind ≡ kinds.Word = search rules in
    λ v b. typed_by c.args.bytes.now c.args.first.token c.in-Ok.open.token v b (sym c.requires.seen ∙ word) c.in-Ok.ensures.cuts

pub returns-in-Err-clause-held : goal.returns-in-Err-clause-held
returns-in-Err-clause-held c =
    let word : c.args.first.kind ≡ kinds.Word = search rules in
    λ v b. never_typed c.args.bytes.now c.args.first.token c.in-Err.field-0 v b (sym c.requires.seen ∙ word) c.in-Err.ensures.fault

pub returns-clause-held : goal.returns-clause-held
returns-clause-held c = λ v b. not_typed c.args.bytes.now c.args.first.token v b (λ k. let e : c.args.first.kind ≡ kinds.Word = c.requires.seen ∙ k in search rules)
