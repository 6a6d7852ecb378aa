use Rattle.std.proofs.Common.{◌∷◌, []}
use Rattle.p21_values.specs.Grammar.{T, Word, Semi, Data}
use Rattle.p21_reader.proofs.Steps.{residual, fails_under}
use Rattle.p21_reader.proofs.Statements.{word_semicolon}
use Rattle.p21_reader.proofs.header.data.Goals as goal

pub returns-in_err-word-clause-data : goal.returns-in_err-word-clause-data
returns-in_err-word-clause-data c =
    rw (residual _ _ c.from_residual.ensures.1) (fails_under (T (Word Data) ∷ []) (T Semi ∷ []) c.args.bytes.now c.args.at c.in_err-word.field-0.0 c.in_err-word.ensures.word)

pub returns-clause-data : goal.returns-clause-data
returns-clause-data c = word_semicolon Data c.args.bytes.now c.args.at c.in_ok-word.word c.expect.result c.in_ok-word.ensures.word c.expect.ensures.expects
