-- Faults by stages: a file has the fault of the first stage that has one.
use Rattle.std.specs.Prelude.{ℕ, ◌<◌, ◌⊎◌, List, [], ◌∷◌}
use Rattle.bim_model.specs.declared.upload.UploadFault.{UploadFault}

-- a stage says which fault it has, if it has one
abbrev pub Stage : Type 1
Stage = UploadFault → Type 0

-- it has none
abbrev pub IsClear : Stage → Type 0
IsClear S = (fault : UploadFault) → S fault → ⊥

-- the first fault of stages in their order: that of the first of them; where it has none, the first of the others
abbrev pub first_fault : List Stage → Stage
first_fault [] fault = ⊥
first_fault (S ∷ rest) fault = S fault ⊎ (IsClear S × first_fault rest fault)

-- of the numbers of which Of holds, the least one that has a fault, and its fault
pub record LeastFault (Of : ℕ → Type 0) (FaultOf : ℕ → UploadFault → Type 0)
    (fault : UploadFault) : Type 0 where
  pub id : ℕ
  pub of : Of id
  pub here : FaultOf id fault
  pub lower : (k : ℕ) → k < id → Of k → (other : UploadFault) → FaultOf k other → ⊥
