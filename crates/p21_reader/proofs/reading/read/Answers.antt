use Rattle.std.proofs.Common.{◌≡◌, ◌⊎◌, List, subst}
use Rattle.std.specs.Prelude.{IfErr}
use Rattle.bim_model.specs.declared.upload.BuildError.TheVariants.{Memory}
use Rattle.p21_values.specs.declared.value.Instance.{Instance}
use Rattle.p21_reader.specs.Uploads.{SpellsExchange}
use Rattle.p21_reader.proofs.reading.read.Goals as goal

pub returns-clause-refused : goal.returns-clause-refused
returns-clause-refused c =
    subst (λ b. IfErr c.read_owned.result (λ error. (error ≡ Memory) ⊎ ((instances : List Instance) → SpellsExchange b instances → ⊥))) c.in_ok-of.ensures c.read_owned.ensures.refused
