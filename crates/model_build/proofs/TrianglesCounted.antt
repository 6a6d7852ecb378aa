-- What values refer to, collected and counted value by value.
-- What the count of triangles says of the stages of a file.
use Rattle.std.proofs.Common.{◌≡◌, ℕ, ◌+◌, ◌<◌, ◌≤◌, List, [], ◌∷◌, map, flat_map, sum_by, Some, refl, sym, ap, ◌∙◌, arith, subst}
use Rattle.std.proofs.lemmas.List.Sums.{sum_by-cons, sum_by-append}
use Rattle.std.proofs.lemmas.List.Concat.{flat_map-cons}
use Rattle.p21_values.specs.declared.value.Instance.{Instance}
use Rattle.p21_values.specs.InstanceLookup.{look}
use Rattle.ifc_elements.specs.Items.{items_of, bodies, item_count, counted, count_of}
use Rattle.model_build.specs.Triangles.{most_triangles, body_count, items_count, CountsTo}
use Rattle.ifc_elements.specs.Finding.{Number}
use Rattle.bim_model.specs.declared.upload.UploadFault.TheVariants as faults
use Rattle.bim_model.specs.declared.upload.Many.TheVariants as many
use Rattle.ifc_schema.specs.Surveys.{Lists, IsModelElement}
use Rattle.model_build.specs.StageFaults.{IsClear}
use Rattle.model_build.specs.Stages.{TrianglesStage}
use Rattle.model_build.proofs.OneList.{same_lists}

-- Counting.

counts_bodies : (world : List Instance) (ids : List ℕ) (are : List Instance) → Number world ids are → sum_by (body_count world) ids ≡ sum_by (item_count world) (flat_map (items_of world) are)
counts_bodies world [] [] h = refl
counts_bodies world [] (s ∷ ss) h = cc
counts_bodies world (id ∷ ids) [] h = cc
counts_bodies world (id ∷ ids) (s ∷ ss) h =
    let e : look world id ≡ Some s = cc in
    let t : map (look world) ids ≡ map Some ss = cc in
    sum_by-cons (body_count world) id ids ∙ ap (λ o. items_count world o + sum_by (body_count world) ids) e ∙ ap (λ n. sum_by (item_count world) (items_of world s) + n) (counts_bodies world ids ss t)
    ∙ sym (sum_by-append (item_count world) (items_of world s) (flat_map (items_of world) ss)) ∙ ap (sum_by (item_count world)) (sym (flat_map-cons (items_of world) s ss))

pub counts_element : (world : List Instance) (id : ℕ) (i : Instance) (ids : List ℕ) → Some i ≡ look world id → Number world ids (bodies world i) → sum_by (body_count world) ids ≡ count_of world id
counts_element world id i ids e h = counts_bodies world ids (bodies world i) h ∙ ap (counted world) e

-- Triangles.

pub few_triangles : (count n : ℕ) → CountsTo count (Some n) → count ≤ most_triangles
few_triangles count n h = subst (λ (m : ℕ). m ≤ most_triangles) h.0 h.1

pub triangles_stage : (world : List Instance) (elements : List ℕ) → Lists (IsModelElement world) elements → most_triangles < sum_by (count_of world) elements → TrianglesStage world (faults.TooMany many.Triangles)
triangles_stage world elements ls above = (refl, sum_by (count_of world) elements, record { ids = elements; lists = ls; sum = refl }, above)

pub triangles_clear : (world : List Instance) (elements : List ℕ) → Lists (IsModelElement world) elements → sum_by (count_of world) elements ≤ most_triangles → IsClear (TrianglesStage world)
triangles_clear world elements ls few fault h =
    let same = same_lists (IsModelElement world) h.2.ids elements h.2.lists ls in
    let e = ap (sum_by (count_of world)) same in
    let s = h.2.sum in
    let l = h.3 in
    omega arith
