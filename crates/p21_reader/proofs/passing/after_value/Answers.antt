use Rattle.std.proofs.Common.{◌∙◌, arith}
use Rattle.p21_reader.proofs.Levels.{opened, worded}
use Rattle.p21_reader.proofs.passing.after_value.Goals as goal

pub returns-else-depth-most-clause-steps : goal.returns-else-depth-most-clause-steps
returns-else-depth-most-clause-steps c = λ k h. opened c.args.most c.args.depth c.args.typed.now k (omega (arith, c.requires.depth, c.if-depth-most.false)) (h ∙ c.in-Open.is)

pub returns-else-depth-most-2-clause-steps : goal.returns-else-depth-most-2-clause-steps
returns-else-depth-most-2-clause-steps c = λ k h. worded c.args.most c.args.depth c.args.typed.now k (omega (arith, c.requires.depth, c.if-depth-most-2.false)) (omega (arith, c.requires.room, c.requires.most, c.requires.depth, c.if-depth-most-2.false)) (h ∙ c.in-Word.is)
