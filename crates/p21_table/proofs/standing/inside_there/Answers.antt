use Rattle.std.proofs.Common.{◌≡◌, sym, ◌∙◌, rules}
use Rattle.p21_values.specs.declared.piece.Kind.TheVariants as kinds
use Rattle.p21_table.proofs.FirstTokens.{inside_by, not_inside}
use Rattle.p21_table.proofs.standing.inside_there.Goals as goal

pub returns-in-Open-clause-inside : goal.returns-in-Open-clause-inside
returns-in-Open-clause-inside c = λ v b. inside_by c.args.bytes.now c.args.first.token v b (sym c.requires.seen ∙ c.in-Open.is)

pub returns-in_default-clause-inside : goal.returns-in_default-clause-inside
returns-in_default-clause-inside c = λ v b. not_inside c.args.bytes.now c.args.first.token v b (λ k. let e : c.args.first.kind ≡ kinds.Open = c.requires.seen ∙ k in search rules)
