use Rattle.std.proofs.Common.{◌≡◌, refl, sym, ◌∙◌, rules, [], Err}
use Rattle.p21_values.specs.Grammar.{T}
use Rattle.p21_values.specs.Lexemes.{class_of, lexeme_of}
use Rattle.p21_reader.specs.inner.TokenReading.{sign_class}
use Rattle.p21_reader.proofs.Signs.{sign_refused}
use Rattle.p21_reader.proofs.Steps.{fails_none, fails_refused, residual, expected}
use Rattle.p21_reader.proofs.word.expect.Goals as goal

pub returns-in_err-piece-clause-expects : goal.returns-in_err-piece-clause-expects
returns-in_err-piece-clause-expects c =
    let e : c.from_residual.result ≡ Err c.in_err-piece.field-0.0 = residual _ _ c.from_residual.ensures.1 in
    rw e (fails_none (T (sign_class c.args.wanted)) [] c.args.bytes.now c.args.at c.in_err-piece.field-0.0 c.in_err-piece.ensures.fault)

pub returns-then-eq-clause-expects : goal.returns-then-eq-clause-expects
returns-then-eq-clause-expects c =
    let e : c.in_ok-piece.piece.kind ≡ c.args.wanted = search rules in
    expected c.args.wanted c.args.bytes.now c.args.at c.in_ok-piece.piece.token c.requires.sign c.in_ok-piece.ensures.cuts (sym c.in_ok-piece.ensures.piece.seen ∙ e)

pub returns-else-eq-clause-expects : goal.returns-else-eq-clause-expects
returns-else-eq-clause-expects c =
    rw c.refused.ensures (fails_refused (T (sign_class c.args.wanted)) [] c.args.bytes.now c.args.at c.in_ok-piece.piece.token.start c.in_ok-piece.piece.token c.in_ok-piece.ensures.cuts
    (sign_refused c.args.wanted (class_of (lexeme_of c.args.bytes.now c.in_ok-piece.piece.token)) c.requires.sign (λ e. let g : c.in_ok-piece.piece.kind ≡ c.args.wanted = c.in_ok-piece.ensures.piece.seen ∙ e in search rules)) refl)
