use Rattle.std.proofs.Common.{◌≡◌, rules}
use Rattle.p21_values.specs.Grammar.{Word, EndSec}
use Rattle.p21_values.specs.Lexemes.{lexeme_of, class_of}
use Rattle.p21_reader.proofs.Steps.{residual}
use Rattle.p21_reader.proofs.FileLemmas.{closing_made, closing_semi, closing_word}
use Rattle.p21_reader.proofs.section.closing.Goals as goal

pub returns-in_err-semicolon-clause-closing : goal.returns-in_err-semicolon-clause-closing
returns-in_err-semicolon-clause-closing c =
    let e : class_of (lexeme_of c.args.bytes.now c.args.word.token) ≡ Word EndSec = search rules in
    rw (residual _ _ c.from_residual.ensures.1) (closing_semi c.args.bytes.now c.args.word.token c.in_err-semicolon.field-0.0 e c.in_err-semicolon.ensures.expects)

pub returns-in_err-last-clause-closing : goal.returns-in_err-last-clause-closing
returns-in_err-last-clause-closing c =
    let e : class_of (lexeme_of c.args.bytes.now c.args.word.token) ≡ Word EndSec = search rules in
    rw (residual _ _ c.from_residual-in_err-last.ensures.1)
    (closing_word c.args.bytes.now c.in_ok-semicolon.semicolon c.args.word.token c.in_err-last.field-0.0 e c.in_ok-semicolon.ensures.expects c.in_err-last.ensures.word)

pub returns-clause-closing : goal.returns-clause-closing
returns-clause-closing c =
    let e : class_of (lexeme_of c.args.bytes.now c.args.word.token) ≡ Word EndSec = search rules in
    closing_made c.args.bytes.now c.in_ok-semicolon.semicolon c.in_ok-last.last c.args.word.token c.expect-2.result e c.in_ok-semicolon.ensures.expects c.in_ok-last.ensures.word c.expect-2.ensures.expects
