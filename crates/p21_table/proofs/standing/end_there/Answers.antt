use Rattle.std.proofs.Common.{◌≡◌, ℕ, Some, sym, ap, subst, ◌∙◌, rules}
use Rattle.p21_lexer.specs.declared.token.Token.{Token}
use Rattle.p21_values.specs.declared.piece.Kind.TheVariants as kinds
use Rattle.p21_values.specs.Lexemes.{Cuts}
use Rattle.p21_values.proofs.Tokens.{no_token}
use Rattle.p21_values.proofs.Tokens.{one_token}
use Rattle.p21_table.proofs.FirstTokens.{list_end, typed_end, plain_end}
use Rattle.p21_table.proofs.standing.end_there.Goals as goal

pub returns-then-eq-clause-end : goal.returns-then-eq-clause-end
returns-then-eq-clause-end c =
    let opens : c.args.first.kind ≡ kinds.Open = search rules in
    λ v b. c.closed_there.ensures.end b.rest b.end (list_end c.args.bytes.now c.args.first.token v b (sym c.requires.seen ∙ opens)) b.cuts

pub returns-in-Ok-clause-end : goal.returns-in-Ok-clause-end
returns-in-Ok-clause-end c =
    let word : c.args.first.kind ≡ kinds.Word = search rules in
    λ v b.
    let t = typed_end c.args.bytes.now c.args.first.token v b (sym c.requires.seen ∙ word) in
    let e : t.0 ≡ c.in-Ok.open.token = one_token c.args.bytes.now c.args.first.token.end t.0 c.in-Ok.open.token t.1 c.in-Ok.ensures.cuts in
    c.closed_there-in-Ok.ensures.end t.2 b.end t.3 (subst (λ (x : Token). Cuts c.args.bytes.now x.end t.2 b.end) e t.4)

pub returns-in-Err-clause-end : goal.returns-in-Err-clause-end
returns-in-Err-clause-end c =
    let word : c.args.first.kind ≡ kinds.Word = search rules in
    λ v b.
    let t = typed_end c.args.bytes.now c.args.first.token v b (sym c.requires.seen ∙ word) in
    absurd (no_token c.args.bytes.now c.args.first.token.end c.in-Err.field-0 c.in-Err.ensures.fault t.0 t.1)

pub returns-clause-end : goal.returns-clause-end
returns-clause-end c = λ v b.
    ap (λ (n : ℕ). Some n)
    (plain_end c.args.bytes.now c.args.first.token v b
    (λ k. let e : c.args.first.kind ≡ kinds.Open = c.requires.seen ∙ k in search rules)
    (λ k. let e : c.args.first.kind ≡ kinds.Word = c.requires.seen ∙ k in search rules))
