use Rattle.std.proofs.Common.{rules}
use Rattle.p21_reader.proofs.Asking.{not_sign}
use Rattle.p21_reader.proofs.ahead.sign_end.Goals as goal

pub returns-else-eq-clause-none : goal.returns-else-eq-clause-none
returns-else-eq-clause-none c = not_sign c.args.wanted c.args.bytes.now c.args.at c.in-Some.piece c.requires.sign c.in-Some.ensures.cuts c.in-Some.ensures.piece (λ e. search rules)
