use Rattle.std.proofs.Common.{arith}
use Rattle.p21_values.proofs.Stood.{inside_told}
use Rattle.p21_table.proofs.Fitting.{values_fit}
use Rattle.p21_table.proofs.value_list.Values.of.Goals as goal

pub returns-clause-says : goal.returns-clause-says
returns-clause-says c = λ vs h. inside_told c.args.bytes.now c.args.at c.result-1.given.1.0 vs h

pub returns-clause-few : goal.returns-clause-few
returns-clause-few c = let fit = values_fit c.args.bytes.now c.args.at c.result-1.given.1.0 c.requires.within in omega (arith, fit)
