use Rattle.std.proofs.Common.{◌∷◌, [], Some, ◌-◌, sym, ◌∙◌, length}
use Rattle.p21_values.specs.declared.limits.TheConstants.{MOST_DEPTH}
use Rattle.p21_values.specs.Grammar.{AnyWord, T, Open, Inside, Ones}
use Rattle.p21_reader.proofs.Steps.{residual}
use Rattle.p21_reader.proofs.Entries.{puts_unopened, puts_plain, puts_complex, complex_on, complex_past}
use Rattle.p21_reader.proofs.table.body.Goals as goal

pub returns-in_err-open-in-Word-clause-body : goal.returns-in_err-open-in-Word-clause-body
returns-in_err-open-in-Word-clause-body c =
    rw (residual _ _ c.from_residual.ensures.1)
    (puts_unopened c.args.bytes.now c.args.first.token c.args.table.now c.args.table.now c.in_err-open-in-Word.field-0.0 (sym c.in-Word.is ∙ c.requires.piece.seen) c.in_err-open-in-Word.ensures.expects)

pub returns-in_ok-open-in-Word-clause-body : goal.returns-in_ok-open-in-Word-clause-body
returns-in_ok-open-in-Word-clause-body c =
    puts_plain c.args.bytes.now c.args.first.token c.in_ok-open-in-Word.open c.args.table.now c.attributes.new.table c.attributes.result (sym c.in-Word.is ∙ c.requires.piece.seen) c.in_ok-open-in-Word.ensures.expects c.attributes.ensures.starts

pub returns-in-Open-clause-body : goal.returns-in-Open-clause-body
returns-in-Open-clause-body c =
    puts_complex c.args.bytes.now c.args.first.token c.args.table.now c.pass_complex.result (sym c.in-Open.is ∙ c.requires.piece.seen) c.requires.counted c.pass_complex.ensures.passes

pub returns-in-Open-clause-few : goal.returns-in-Open-clause-few
returns-in-Open-clause-few c =
    complex_on (length c.args.table.now.starts.items) (AnyWord ∷ T Open ∷ Inside (Some (MOST_DEPTH - 2)) ∷ Ones ∷ []) c.args.bytes.now c.args.first.token.end c.pass_complex.result c.requires.piece.within c.pass_complex.ensures.passes

pub returns-in-Open-clause-on : goal.returns-in-Open-clause-on
returns-in-Open-clause-on c = complex_past (AnyWord ∷ T Open ∷ Inside (Some (MOST_DEPTH - 2)) ∷ Ones ∷ []) c.args.bytes.now c.args.first.token.end c.pass_complex.result c.requires.piece.within c.pass_complex.ensures.passes
