-- What is used is clean, as the walk looks at one place after another.
use Rattle.std.proofs.Common.{◌≡◌, ◌≢◌, ℕ, ◌<◌, ◌≤◌, ◌⊎◌, inl, inr, Bool, true, false, List, length, get_or, replicate, Option, Some, None, Result, Ok, Err, refl, sym, ◌∙◌, subst, arith}
use Rattle.std.specs.Prelude.{IfOk}
use Rattle.std.specs.Bool.{OnTrue}
use Rattle.std.specs.List.{HoldsAt, slice_get}
use Rattle.std.proofs.lemmas.List.{get_or-replicate, get_or_past, length-replicate}
use Rattle.std.proofs.lemmas.Option.{get_or_from_slice_get, same_Some}
use Rattle.bim_model.specs.declared.upload.Mode.{Mode}
use Rattle.bim_model.specs.declared.geometry.Point.{Point}
use Rattle.p21_values.specs.declared.value.Instance.{Instance}
use Rattle.p21_values.proofs.PlaceLemmas.{some_instance, found_at, place_found}
use Rattle.ifc_instances.specs.declared.entity.Entity.TheVariants.{PointList}
use Rattle.ifc_instances.specs.EntityLookup.{is_a}
use Rattle.ifc_schema.specs.declared.worklist.Work.{Work}
use Rattle.ifc_schema.specs.InstanceMarks.{Known, mark_at, is_mapped}
use Rattle.ifc_schema.specs.Used.{IsMapped}
use Rattle.ifc_schema.proofs.Following.{number_once, mapped_rank, rank_mapped}
use Rattle.ifc_schema.proofs.Listing.{used_found}
use Rattle.ifc_units.specs.declared.scale.Scale.{Scale}
use Rattle.model_walk.specs.declared.set_pool.SetRows.{SetRows}
use Rattle.model_walk.specs.Clean.{IsClean}
use Rattle.model_walk.specs.Checked.{IsCleanBy, CleanThere, AllClean}
use Rattle.model_walk.specs.inner.PooledSets.{HasPoints, ArePooled, HasLists, IsRead, AreReadSets}
use Rattle.walk_rows.specs.Pools.{pooled, Pools}

-- The instance at a place.

-- what holds of the instance that stands there
pub holds_there : (P : Instance → Type 0) (world : List Instance) (at : ℕ) (i : Instance) → slice_get world at ≡ Some i → P i → HoldsAt P world at
holds_there P world at i e h = λ d. subst P (sym (get_or_from_slice_get world at i d e)) h

-- and back
pub held_there : (P : Instance → Type 0) (world : List Instance) (at : ℕ) (i : Instance) → slice_get world at ≡ Some i → HoldsAt P world at → P i
held_there P world at i e h = subst P (get_or_from_slice_get world at i i e) (h i)

-- the points of the list that stands there
pub listed_there : (world : List Instance) (scale : Scale) (mode : Mode) (points : List (Option (List Point))) (at : ℕ) (i : Instance) → slice_get world at ≡ Some i → ArePooled world scale mode points → HasLists world (λ k. k ≡ at) points
    → is_a PointList i ≡ true → (found : List Point) × HasPoints scale mode found i
listed_there world scale mode points at i e pooled lists kind =
    let l = lists at refl (holds_there (λ j. is_a PointList j ≡ true) world at i e kind) in
    (l.0, held_there (HasPoints scale mode l.0) world at i e (pooled at l.0 l.1))

-- What is kept of sets.

one_kept : {T : Type 0} (pool : List (Option T)) (at : ℕ) (a b : T) → pooled pool at ≡ Some a → pooled pool at ≡ Some b → a ≡ b
one_kept pool at a b e f = same_Some a b (sym e ∙ f)

same_or : (a b : ℕ) → (a ≡ b) ⊎ (a ≢ b)
same_or a b = elim (order a b) [ inl e ↦ inl e | inr r ↦ elim r [ inl lt ↦ inr (λ e. absurd (omega (arith, lt, e))) | inr gt ↦ inr (λ e. absurd (omega (arith, gt, e))) ] ]
  where
    order : (a b : ℕ) → (a ≡ b) ⊎ ((a < b) ⊎ (b < a))
    order a b = grind arith

-- one more set was read
sets_more : (world : List Instance) (scale : Scale) (mode : Mode) (points : List (Option (List Point))) (old new : List (Option SetRows)) (at : ℕ) (kept : SetRows) → Pools old new at kept → HoldsAt (IsRead world scale mode points kept) world at
    → AreReadSets world scale mode points old → AreReadSets world scale mode points new
sets_more world scale mode points old new at kept p read sets other found e = elim (same_or other at) [
  | inl same ↦ (
      let here : pooled new at ≡ Some found = subst (λ n. pooled new n ≡ Some found) same e in
      subst (λ n. HoldsAt (IsRead world scale mode points found) world n) (sym same) (subst (λ (s : SetRows). HoldsAt (IsRead world scale mode points s) world at) (one_kept new at kept found p.here here) read))
  | inr differs ↦ sets other found (sym (p.others other differs) ∙ e)
]

-- what a set that was kept says
pub kept_sets : {E : Type 0} (r : Result Bool E) (world : List Instance) (scale : Scale) (mode : Mode) (points : List (Option (List Point))) (old new : List (Option SetRows)) (at : ℕ) (i : Instance) → slice_get world at ≡ Some i
    → IfOk r (λ done. OnTrue done ((kept : SetRows) × IsRead world scale mode points kept i × Pools old new at kept)) → AreReadSets world scale mode points old → IfOk r (λ done. OnTrue done (AreReadSets world scale mode points new))
kept_sets (Ok true) world scale mode points old new at i e k sets = sets_more world scale mode points old new at k.0 k.2 (holds_there (IsRead world scale mode points k.0) world at i e k.1) sets
kept_sets (Ok false) world scale mode points old new at i e k sets = tt
kept_sets (Err _) world scale mode points old new at i e k sets = tt

pub kept_size : {E : Type 0} (r : Result Bool E) (world : List Instance) (scale : Scale) (mode : Mode) (points : List (Option (List Point))) (old new : List (Option SetRows)) (at : ℕ) (i : Instance) → length old ≡ length world
    → IfOk r (λ done. OnTrue done ((kept : SetRows) × IsRead world scale mode points kept i × Pools old new at kept)) → IfOk r (λ done. OnTrue done (length new ≡ length world))
kept_size (Ok true) world scale mode points old new at i e k = k.2.size ∙ e
kept_size (Ok false) world scale mode points old new at i e k = tt
kept_size (Err _) world scale mode points old new at i e k = tt

pub kept_clean : {E : Type 0} (r : Result Bool E) (world : List Instance) (scale : Scale) (mode : Mode) (points : List (Option (List Point))) (old new : List (Option SetRows)) (mapped : Bool) (at : ℕ) (i : Instance) → slice_get world at ≡ Some i
    → ((kept : SetRows) → IsRead world scale mode points kept i → IsClean world scale mode mapped i.id i)
    → IfOk r (λ done. OnTrue done ((kept : SetRows) × IsRead world scale mode points kept i × Pools old new at kept)) → IfOk r (λ done. OnTrue done (IsCleanBy world scale mode mapped at))
kept_clean (Ok true) world scale mode points old new mapped at i e clean k = holds_there (λ (j : Instance). IsClean world scale mode mapped j.id j) world at i e (clean k.0 k.1)
kept_clean (Ok false) world scale mode points old new mapped at i e clean k = tt
kept_clean (Err _) world scale mode points old new mapped at i e clean k = tt

-- nothing is kept in a new pool
none_kept : {T : Type 0} (places at : ℕ) → pooled {T = T} (replicate places None) at ≡ None
none_kept places at = elim (side at places) [ inl lt ↦ get_or-replicate places at None None lt | inr le ↦ get_or_past (replicate places None) at None (subst (λ n. n ≤ at) (sym (length-replicate places None)) le) ]
  where
    side : (a b : ℕ) → (a < b) ⊎ (b ≤ a)
    side a b = grind arith

pub never_kept : {T : Type 0} {A : Type 0} (places at : ℕ) (kept : T) → pooled (replicate places None) at ≡ Some kept → A
never_kept places at kept e = absurd (some_none kept (sym e ∙ none_kept places at))
  where
    some_none : {T : Type 0} (x : T) → Some x ≡ None → ⊥
    some_none x e = cc

pub no_sets : (world : List Instance) (scale : Scale) (mode : Mode) (points : List (Option (List Point))) (places : ℕ) (new : List (Option SetRows)) → new ≡ replicate places None → AreReadSets world scale mode points new
no_sets world scale mode points places new e at kept f = never_kept places at kept (subst (λ (s : List (Option SetRows)). pooled s at ≡ Some kept) e f)

-- All places.

-- what is used and stands there is clean, where it is clean as its mark says
pub clean_there : (world : List Instance) (scale : Scale) (mode : Mode) (w : Work) (at : ℕ) (mapped : Bool) → Known world w → mapped ≡ is_mapped (mark_at w at) → IsCleanBy world scale mode mapped at → CleanThere world scale mode at
clean_there world scale mode w at mapped k b c id p u = record {
  instance = get_or world at some_instance;
  found = found_at world id at some_instance p;
  mapped = mapped;
  is_mapped = (
    λ t. let s = (k.sound at).mapped (mapped_rank (mark_at w at) (sym b ∙ t)) in subst (IsMapped world) (number_once world s.id id at s.place p) s.mapped,
    λ m. b ∙ rank_mapped (mark_at w at) (k.mapped id m at p),
  );
  clean = subst (λ n. IsClean world scale mode mapped n (get_or world at some_instance)) (p.number some_instance) (c some_instance);
}

-- the same of what a look at it answers
pub looked_there : {E : Type 0} (r : Result Bool E) (world : List Instance) (scale : Scale) (mode : Mode) (w : Work) (at : ℕ) (mapped : Bool) → Known world w → mapped ≡ is_mapped (mark_at w at) → IfOk r (λ clean. OnTrue clean (IsCleanBy world scale mode mapped at))
    → IfOk r (λ clean. OnTrue clean (CleanThere world scale mode at))
looked_there (Ok true) world scale mode w at mapped k b h = clean_there world scale mode w at mapped k b h
looked_there (Ok false) world scale mode w at mapped k b h = tt
looked_there (Err _) world scale mode w at mapped k b h = tt

pub all_clean : (world : List Instance) (scale : Scale) (mode : Mode) (at : ℕ) → length world ≤ at → ((k : ℕ) → k < at → CleanThere world scale mode k) → AllClean world scale mode
all_clean world scale mode at le before id u =
    let g = used_found world id u in
    let p = place_found world id g.instance g.found in
    let w = p.place.within in
    before p.at (omega (arith, w, le)) id p.place u
