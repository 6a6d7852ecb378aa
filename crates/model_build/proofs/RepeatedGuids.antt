-- Each element has a global identifier, and the first one that stands twice is the fault of its stage.
use Rattle.std.proofs.Common.{ℕ, List, Contains, refl}
use Rattle.p21_values.specs.declared.value.Instance.{Instance}
use Rattle.ifc_schema.specs.declared.outcome.Survey.{Survey}
use Rattle.ifc_schema.specs.Surveys.{Surveyed, element_ids, Lists}
use Rattle.ifc_schema.proofs.Listing.{element_used}
use Rattle.model_build.specs.DuplicateGuids.{IsIdentified, RepeatsGuid, GuidFault, NoneRepeats, IsFirstRepeated}
use Rattle.model_build.proofs.UsedFormed.{element_guid, guid_there}
use Rattle.model_build.proofs.ItemsSupported.{element_is}
use Rattle.bim_model.specs.declared.upload.UploadFault.TheVariants as faults
use Rattle.model_build.specs.StageFaults.{IsClear, LeastFault}

-- each element has a global identifier
pub identified : (world : List Instance) (survey : Survey) → Surveyed world survey → (id : ℕ) → Contains (element_ids survey) id → IsIdentified world id
identified world survey known id listed =
    let h = known.elements.each id listed in
    let e = element_is world id h in
    record { instance = h.instance; found = h.found; holds = guid_there h.instance (element_guid world id h.instance known.shaped (element_used world id h) h.found e.0) }

repeats_by : (world : List Instance) (P Q : ℕ → Type 0) (id : ℕ) → ((k : ℕ) → P k → Q k) → RepeatsGuid world P id → RepeatsGuid world Q id
repeats_by world P Q id f r = record { guid = r.guid; here = r.here; lower = r.lower; below = r.below; of = f r.lower r.of; there = r.there }

-- the first one that repeats an identifier is the stage's fault
pub repeated_fault : (world : List Instance) (Of : ℕ → Type 0) (ids : List ℕ) (id : ℕ) → Lists Of ids → IsFirstRepeated world ids id → LeastFault Of (GuidFault world Of) (faults.DoubleGuid id)
repeated_fault world Of ids id l f = record {
  id = id;
  of = l.each id f.listed;
  here = (refl, repeats_by world (Contains ids) Of id l.each f.repeats);
  lower = λ k below of other g. f.least k below (l.all k of) (repeats_by world Of (Contains ids) k l.all g.1);
}

-- where none repeats one, the stage has no fault
pub repeats_clear : (world : List Instance) (Of : ℕ → Type 0) (ids : List ℕ) → Lists Of ids → NoneRepeats world ids → IsClear (LeastFault Of (GuidFault world Of))
repeats_clear world Of ids l n fault f = n f.id (l.all f.id f.of) (repeats_by world Of (Contains ids) f.id l.all f.here.1)
