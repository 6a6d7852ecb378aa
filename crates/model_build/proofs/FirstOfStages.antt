-- The first fault of stages in their order, one stage after another.
use Rattle.std.proofs.Common.{◌≡◌, inl, inr, List, [], ◌∷◌, Result, Ok, Err, sym, subst}
use Rattle.std.specs.Prelude.{IsErrAnd}
use Rattle.std.specs.Result.{IfErr}
use Rattle.bim_model.specs.declared.upload.BuildError.{BuildError}
use Rattle.bim_model.specs.declared.upload.BuildError.TheVariants as errors
use Rattle.p21_values.specs.declared.value.Instance.{Instance}
use Rattle.ifc_units.specs.declared.scale.Scale.{Scale}
use Rattle.ifc_units.specs.Units.{IsLengthUnit}
use Rattle.ifc_units.proofs.UnitFacts.{one_unit}
use Rattle.model_build.specs.StageFaults.{Stage, IsClear, first_fault}
use Rattle.model_build.specs.Stages.{InUnit}
use Rattle.model_build.specs.inner.Outcomes.{IsErrorOf}

-- the fault of the first stage
pub stop : (S : Stage) (rest : List Stage) (e : BuildError) → IsErrorOf S e → IsErrorOf (first_fault (S ∷ rest)) e
stop S rest (errors.Fault fault) h = inl h
stop S rest errors.Memory h = h

-- the first fault of the others, where the first stage has none
pub pass : (S : Stage) (rest : List Stage) (e : BuildError) → IsClear S → IsErrorOf (first_fault rest) e → IsErrorOf (first_fault (S ∷ rest)) e
pass S rest (errors.Fault fault) clear h = inr (clear, h)
pass S rest errors.Memory clear h = h

-- none of the stages has a fault
abbrev pub AllClear : List Stage → Type 0
AllClear [] = Unit {0}
AllClear (S ∷ rest) = IsClear S × AllClear rest

pub all_clear : (stages : List Stage) → AllClear stages → IsClear (first_fault stages)
all_clear [] clear fault h = h
all_clear (S ∷ rest) clear fault (inl h) = clear.0 fault h
all_clear (S ∷ rest) clear fault (inr h) = all_clear rest clear.1 fault h.1

-- a stage in the unit of the file is clear where it is in the one scale that this unit has
pub unit_clear : (world : List Instance) (S : Scale → Stage) (scale : Scale) → IsLengthUnit world scale → IsClear (S scale) → IsClear (InUnit world S)
unit_clear world S scale unit clear fault h = clear fault (subst (λ (s : Scale). S s fault) (one_unit world h.0 scale h.1 unit) h.2)

-- the fault of what a `?` returns is that of its error
pub returned : {A : Type 0} (S : Stage) (r : Result A BuildError) (e : BuildError) → IsErrAnd r (λ x. x ≡ e) → IsErrorOf S e → IfErr r (IsErrorOf S)
returned S (Ok a) e h k = absurd h
returned S (Err x) e h k = subst (IsErrorOf S) (sym h) k
