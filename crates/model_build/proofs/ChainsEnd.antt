-- Chains of placements that end, and the fault of one that never ends.
use Rattle.std.proofs.Common.{ℕ, List, Result, Ok, Err, refl, Contains}
use Rattle.std.specs.Result.{IfErr}
use Rattle.bim_model.specs.declared.upload.UploadFault.{UploadFault}
use Rattle.bim_model.specs.declared.upload.UploadFault.TheVariants as faults
use Rattle.bim_model.specs.declared.upload.BuildError.{BuildError}
use Rattle.bim_model.specs.declared.upload.BuildError.TheVariants as errors
use Rattle.p21_values.specs.declared.value.Instance.{Instance}
use Rattle.ifc_schema.specs.Surveys.{Lists}
use Rattle.placement.specs.Chains.{IsLoopCause}
use Rattle.model_build.specs.StageFaults.{IsClear, LeastFault}
use Rattle.model_build.specs.NamedPlacements.{IsNamed, ListsNamed}
use Rattle.model_build.specs.Stages.{LoopFault}
use Rattle.model_build.specs.inner.Outcomes.{IsErrorOf, HasChains}

-- what is listed as named is named by those that the list of numbers lists, and all that these name is listed
pub listed_named : (world : List Instance) (Of : ℕ → Type 0) (ids named : List ℕ) (placement : ℕ) → Lists Of ids → ListsNamed world ids named → Contains named placement → IsNamed world Of placement
listed_named world Of ids named placement l n c =
    let m = n.sound placement c in
    record { element = m.element; of = l.each m.element m.of; names = m.names }

pub named_listed : (world : List Instance) (Of : ℕ → Type 0) (ids named : List ℕ) (placement : ℕ) → Lists Of ids → ListsNamed world ids named → IsNamed world Of placement → Contains named placement
named_listed world Of ids named placement l n m = n.all placement (record { element = m.element; of = l.all m.element m.of; names = m.names })

-- a chain that never ends
loop_fault : (world : List Instance) (Of : ℕ → Type 0) (ids named : List ℕ) → Lists Of ids → ListsNamed world ids named → (fault : UploadFault) → IsLoopCause world named (errors.Fault fault)
    → LeastFault (IsNamed world Of) (LoopFault world) fault
loop_fault world Of ids named ls nl (faults.PlacementLoop id) h = record {
  id = id;
  of = listed_named world Of ids named id ls nl h.listed;
  here = (refl, h.endless);
  lower = λ k below of other f. f.1 (h.least k (named_listed world Of ids named k ls nl of) below);
}
loop_fault world Of ids named ls nl faults.NotPart21 h = absurd h
loop_fault world Of ids named ls nl (faults.BadToken _) h = absurd h
loop_fault world Of ids named ls nl (faults.BadStatement _) h = absurd h
loop_fault world Of ids named ls nl faults.WrongSchema h = absurd h
loop_fault world Of ids named ls nl (faults.DoubleId _) h = absurd h
loop_fault world Of ids named ls nl (faults.Dangling _ _) h = absurd h
loop_fault world Of ids named ls nl (faults.BadShape _) h = absurd h
loop_fault world Of ids named ls nl (faults.LengthUnit _) h = absurd h
loop_fault world Of ids named ls nl (faults.OffGrid _) h = absurd h
loop_fault world Of ids named ls nl (faults.TooFar _) h = absurd h
loop_fault world Of ids named ls nl (faults.Oblique _) h = absurd h
loop_fault world Of ids named ls nl (faults.UnsupportedItem _) h = absurd h
loop_fault world Of ids named ls nl (faults.BadIndex _) h = absurd h
loop_fault world Of ids named ls nl (faults.FaceStuck _) h = absurd h
loop_fault world Of ids named ls nl (faults.VoidedFace _) h = absurd h
loop_fault world Of ids named ls nl (faults.DoubleGuid _) h = absurd h
loop_fault world Of ids named ls nl (faults.TreeFault _) h = absurd h
loop_fault world Of ids named ls nl (faults.TooMany _) h = absurd h

pub loop_stage : (world : List Instance) (Of : ℕ → Type 0) (ids named : List ℕ) → Lists Of ids → ListsNamed world ids named → (error : BuildError) → IsLoopCause world named error
    → IsErrorOf (LeastFault (IsNamed world Of) (LoopFault world)) error
loop_stage world Of ids named ls nl (errors.Fault fault) h = loop_fault world Of ids named ls nl fault h
loop_stage world Of ids named ls nl errors.Memory h = h

pub chains_clear : (world : List Instance) (Of : ℕ → Type 0) (ids chains : List ℕ) → Lists Of ids → HasChains world ids chains → IsClear (LeastFault (IsNamed world Of) (LoopFault world))
chains_clear world Of ids chains ls h fault l = l.here.1 (h.2.ends l.id (h.2.all l.id (named_listed world Of ids h.0 l.id ls h.1 l.of)))

pub err_by : {A E : Type 0} (P Q : E → Type 0) (r : Result A E) → ((e : E) → P e → Q e) → IfErr r P → IfErr r Q
err_by P Q (Ok a) f h = h
err_by P Q (Err e) f h = f e h
