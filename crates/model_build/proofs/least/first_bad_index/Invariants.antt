use Rattle.std.proofs.Common.{take, All}
use Rattle.faceset.specs.Learnt.{IsLearnt}
use Rattle.model_build.specs.FaultyInstances.{IsBadSet}
use Rattle.model_build.proofs.least.first_bad_index.Given as goal

abbrev pub invariant-loop-id : goal.invariant-loop-id
invariant-loop-id l = record {
  well : All (λ k. IsBadSet l.exchange k → ⊥) (take l.id-index l.used);
  kept : IsLearnt l.exchange l.learnt;
}
