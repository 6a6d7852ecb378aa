-- The first of numbers that rise is the least.
use Rattle.std.proofs.Common.{◌≡◌, ℕ, ◌<◌, ◌≤◌, List, length, get_or, take, take_all, refl, ◌∙◌, subst, arith}
use Rattle.std.specs.List.{All}
use Rattle.std.specs.List.Sorted.{IsStrictlyIncreasing}
use Rattle.std.proofs.lemmas.List.{get_or-take, length-take}
use Rattle.std.proofs.lemmas.List.Elements.{All-contains, Contains-get_or}
use Rattle.p21_values.specs.declared.value.Instance.{Instance}
use Rattle.bim_model.specs.declared.upload.UploadFault.{UploadFault}
use Rattle.bim_model.specs.declared.upload.UploadFault.TheVariants as faults
use Rattle.ifc_instances.proofs.Rising.{before}
use Rattle.ifc_schema.specs.Used.{Used}
use Rattle.ifc_schema.specs.Surveys.{Lists}
use Rattle.model_build.specs.StageFaults.{LeastFault}
use Rattle.model_build.specs.FaultyInstances.{IsLeastOf, NoneOf, IsBadSet, IsOblique}
use Rattle.model_build.specs.Stages.{ObliqueStage, IndexStage}

pub least_here : (P : ℕ → Type 0) (ids : List ℕ) (i : ℕ) → IsStrictlyIncreasing ids → i < length ids → All (λ k. P k → ⊥) (take i ids) → P (get_or ids i 0) → IsLeastOf ids P (get_or ids i 0)
least_here P ids i rises lt none h = record {
  listed = Contains-get_or ids i 0 lt;
  here = h;
  lower = λ k low c.
      let b = before ids i k rises lt c low in
      let e : get_or (take i ids) c.0 k ≡ k = get_or-take i ids c.0 k b ∙ c.2 in
      All-contains (λ n. P n → ⊥) (take i ids) k none (c.0, shorter ids i c.0 b c.1, e);
}
  where
    shorter : (ids : List ℕ) (i j : ℕ) → j < i → j < length ids → j < length (take i ids)
    shorter ids i j b l = let t = length-take i ids in grind arith

pub none_there : (P : ℕ → Type 0) (ids : List ℕ) (i : ℕ) → length ids ≤ i → All (λ k. P k → ⊥) (take i ids) → NoneOf ids P
none_there P ids i le none id c = All-contains (λ k. P k → ⊥) ids id (subst (All (λ k. P k → ⊥)) (take_all i ids le) none) c

-- the least one that is used has the fault

used_least : (world : List Instance) (P : ℕ → Type 0) (told : ℕ → UploadFault) (used : List ℕ) (id : ℕ) → Lists (Used world) used → IsLeastOf used P id → LeastFault (Used world) (λ k fault. (fault ≡ told k) × P k) (told id)
used_least world P told used id ls h = record {
  id = id;
  of = ls.each id h.listed;
  here = (refl, h.here);
  lower = λ k low u other g. h.lower k low (ls.all k u) g.1;
}

pub index_least : (world : List Instance) (used : List ℕ) (id : ℕ) → Lists (Used world) used → IsLeastOf used (IsBadSet world) id → IndexStage world (faults.BadIndex id)
index_least world used id ls h = used_least world (IsBadSet world) (λ k. faults.BadIndex k) used id ls h

pub oblique_least : (world : List Instance) (used : List ℕ) (id : ℕ) → Lists (Used world) used → IsLeastOf used (IsOblique world) id → ObliqueStage world (faults.Oblique id)
oblique_least world used id ls h = used_least world (IsOblique world) (λ k. faults.Oblique k) used id ls h
