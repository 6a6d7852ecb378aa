use Rattle.std.proofs.Common.{◌≡◌, length}
use Rattle.bim_text.specs.TextSpellings.{cleaned, rows, text_of_spelling}
use Rattle.bim_text.specs.Says.{accepts}
use Rattle.bim_text.proofs.compare.goes_as.Given as goal

abbrev pub invariant-loop-rest : goal.invariant-loop-rest
invariant-loop-rest l = accepts l.left (rows (cleaned l.rest)) ≡ accepts l.fn.wanted (text_of_spelling l.spelled)

abbrev pub decreases-loop-rest : goal.decreases-loop-rest
decreases-loop-rest l = length (cleaned l.rest)
