use Rattle.std.proofs.Common.{◌≡◌, sym, ◌∙◌, rules, slice_range, inl, inr}
use Rattle.std.proofs.lemmas.Bool.{cases_Bool}
use Rattle.p21_lexer.specs.declared.token.TokenKind.TheVariants as tokens
use Rattle.p21_values.specs.declared.piece.Kind.TheVariants as kinds
use Rattle.p21_table.proofs.FirstTokens.{absent_by, absent_one, no_absent}
use Rattle.p21_table.proofs.standing.absent_there.Goals as goal

pub returns-then-eq : goal.returns-then-eq
returns-then-eq c = λ v b.
    let t = c.args.first.token in
    let simple : c.args.first.kind ≡ kinds.Simple = search rules in
    elim (cases_Bool c.eq-then-eq.result) [
      | inl is ↦
          let single : t.kind ≡ tokens.Single = search rules in
          is ∙ absent_one t.kind (slice_range c.args.bytes.now t.start t.end) single (sym c.requires.seen ∙ simple) ∙ absent_by c.args.bytes.now t v b
      | inr isnt ↦
          isnt ∙ no_absent t.kind (slice_range c.args.bytes.now t.start t.end) (λ single k. search rules) ∙ absent_by c.args.bytes.now t v b
    ]

pub returns-else-eq : goal.returns-else-eq
returns-else-eq c = λ v b.
    let t = c.args.first.token in
    c.if-eq.false
    ∙ no_absent t.kind (slice_range c.args.bytes.now t.start t.end) (λ single k. let e : c.args.first.kind ≡ kinds.Simple = c.requires.seen ∙ k in search rules)
    ∙ absent_by c.args.bytes.now t v b
