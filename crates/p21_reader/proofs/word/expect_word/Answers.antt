use Rattle.std.proofs.Common.{◌≡◌, ◌∙◌, sym, ap, refl, rules, []}
use Rattle.p21_reader.specs.declared.word.Seen.TheVariants as seen
use Rattle.p21_values.specs.Grammar.{Word, T}
use Rattle.p21_values.specs.Lexemes.{lexeme_of, class_of}
use Rattle.p21_reader.specs.inner.Heading.{mark_seen, class_seen}
use Rattle.p21_reader.proofs.Steps.{residual, fails_none, fails_refused, goes_one}
use Rattle.p21_reader.proofs.Marks.{word_is, word_no, seen_word}
use Rattle.p21_reader.proofs.word.expect_word.Goals as goal

pub returns-in_err-piece-clause-word : goal.returns-in_err-piece-clause-word
returns-in_err-piece-clause-word c =
    rw (residual _ _ c.from_residual.ensures.1) (fails_none (T (Word (mark_seen c.args.wanted))) [] c.args.bytes.now c.args.at c.in_err-piece.field-0.0 c.in_err-piece.ensures.fault)

pub returns-then-eq-clause-word : goal.returns-then-eq-clause-word
returns-then-eq-clause-word c =
    let r : c.look.result ≡ seen.Word c.args.wanted = search rules in
    let e : class_of (lexeme_of c.args.bytes.now c.in_ok-piece.piece.token) ≡ Word (mark_seen c.args.wanted) = sym c.look.ensures ∙ ap class_seen r in
    (lexeme_of c.args.bytes.now c.in_ok-piece.piece.token, e, goes_one (T (Word (mark_seen c.args.wanted))) [] c.args.bytes.now c.args.at c.in_ok-piece.piece.token c.in_ok-piece.ensures.cuts (word_is (mark_seen c.args.wanted) _ e))

pub returns-else-eq-clause-word : goal.returns-else-eq-clause-word
returns-else-eq-clause-word c =
    rw c.refused.ensures (fails_refused (T (Word (mark_seen c.args.wanted))) [] c.args.bytes.now c.args.at c.in_ok-piece.piece.token.start c.in_ok-piece.piece.token c.in_ok-piece.ensures.cuts
    (word_no (mark_seen c.args.wanted) (class_of (lexeme_of c.args.bytes.now c.in_ok-piece.piece.token)) (λ e. let r : c.look.result ≡ seen.Word c.args.wanted = seen_word c.look.result c.args.wanted (c.look.ensures ∙ e) in search rules)) refl)
