use Rattle.std.proofs.Common.{◌∷◌, [], Ok, Err}
use Rattle.p21_values.specs.Grammar.{T, Word, Header, Semi, Statements}
use Rattle.p21_reader.proofs.Steps.{residual, fails_under}
use Rattle.p21_reader.proofs.Statements.{word_semicolon, header_whole}
use Rattle.p21_reader.proofs.header.header.Goals as goal

pub returns-in_err-word-clause-header : goal.returns-in_err-word-clause-header
returns-in_err-word-clause-header c =
    rw (residual _ _ c.from_residual.ensures.1) (fails_under (T (Word Header) ∷ []) (T Semi ∷ Statements ∷ []) c.args.bytes.now c.args.at c.in_err-word.field-0.0 c.in_err-word.ensures.word)

pub returns-clause-header : goal.returns-clause-header
returns-clause-header c =
    header_whole c.args.bytes.now c.args.at c.in_ok-begun.begun c.statements.result (word_semicolon Header c.args.bytes.now c.args.at c.in_ok-word.word (Ok c.in_ok-begun.begun) c.in_ok-word.ensures.word c.in_ok-begun.ensures.expects)
    c.statements.ensures.statements

pub returns-in_err-begun-clause-header : goal.returns-in_err-begun-clause-header
returns-in_err-begun-clause-header c =
    let f = c.in_err-begun.field-0.0 in
    rw (residual _ _ c.from_residual-in_err-begun.ensures.1)
    (fails_under (T (Word Header) ∷ T Semi ∷ []) (Statements ∷ []) c.args.bytes.now c.args.at f
    (word_semicolon Header c.args.bytes.now c.args.at c.in_ok-word.word (Err f) c.in_ok-word.ensures.word c.in_err-begun.ensures.expects))
