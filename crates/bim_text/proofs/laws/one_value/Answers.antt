use Rattle.std.proofs.Common.{sym, ◌∙◌, subst}
use Rattle.bim_text.specs.ScaledNumbers.{SameValue}
use Rattle.bim_text.specs.NumberSpellings.{Spelling, written}
use Rattle.bim_text.specs.Decimals.{value_of}
use Rattle.bim_text.proofs.Parts.{parts_only}
use Rattle.bim_text.proofs.laws.one_value.Goals as goal

pub returns-clause-spelling : goal.returns-clause-spelling
returns-clause-spelling c = λ text s t a b. sym (parts_only s text a) ∙ parts_only t text b

pub returns-clause-value : goal.returns-clause-value
returns-clause-value c = λ text d s reads number.
    subst (λ (x : Spelling). SameValue (value_of d) (written x)) (sym (parts_only reads.spelling text reads.read.number) ∙ parts_only s text number) reads.value
