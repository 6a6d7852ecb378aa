use Rattle.std.proofs.Common.{◌≡◌, ap, ◌∙◌, rules}
use Rattle.p21_values.specs.declared.piece.Kind.TheVariants as kinds
use Rattle.p21_values.specs.Lexemes.{lexeme_of}
use Rattle.p21_table.proofs.FirstTokens.{reference_said, reference_by, no_reference}
use Rattle.p21_table.proofs.standing.reference_there.Goals as goal

pub returns-then-eq : goal.returns-then-eq
returns-then-eq c = λ v b. ap reference_said c.name_of.ensures ∙ reference_by c.args.bytes.now c.args.first.token v b

pub returns-else-eq : goal.returns-else-eq
returns-else-eq c = λ v b.
    no_reference (lexeme_of c.args.bytes.now c.args.first.token) (λ k. let e : c.args.first.kind ≡ kinds.Name = c.requires.seen ∙ k in search rules)
    ∙ reference_by c.args.bytes.now c.args.first.token v b
