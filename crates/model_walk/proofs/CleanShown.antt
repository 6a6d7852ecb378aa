-- An instance that has the form of its row and shows no fault by its kind is clean.
use Rattle.std.proofs.Common.{◌≡◌, inl, inr, Bool, true, false, List, [], Option, Some, None, option_and_then, sym, ◌∙◌, subst}
use Rattle.std.specs.Prelude.{MatchOption}
use Rattle.std.specs.List.{slice_get}
use Rattle.std.specs.Option.{unwrap_or}
use Rattle.bim_model.specs.declared.upload.Mode.{Mode}
use Rattle.bim_model.specs.declared.geometry.Point.{Point}
use Rattle.p21_values.specs.declared.value.Value21.{Value21}
use Rattle.p21_values.specs.declared.value.Instance.{Instance}
use Rattle.p21_values.specs.Values.{items_of}
use Rattle.ifc_instances.specs.declared.entity.Entity.TheVariants.{PointList}
use Rattle.ifc_instances.specs.EntityLookup.{is_a}
use Rattle.ifc_schema.specs.Flaws.{InstanceFlaw}
use Rattle.ifc_units.specs.declared.scale.Scale.{Scale}
use Rattle.ifc_units.specs.declared.length_error.GridFault.{GridFault}
use Rattle.ifc_units.specs.Lengths.{ArePoints, PointsRefused, ListRefused, InstanceRefused}
use Rattle.ifc_units.proofs.PointFacts.{points_apart}
use Rattle.faceset.specs.FaceSets.{is_set}
use Rattle.walk_rows.specs.Rows.{triangles_at}
use Rattle.model_walk.specs.declared.set_pool.SetRows.{SetRows}
use Rattle.model_walk.specs.Clean.{ShowsNone, IsClean}
use Rattle.model_walk.specs.inner.PooledSets.{HasPoints, IsRead}
use Rattle.model_walk.proofs.SetEntities.{list_no_set}
use Rattle.model_walk.proofs.SetForms.{listed_is, list_formed}

never : {A : Type 0} (b : Bool) → b ≡ true → b ≡ false → A
never b t f = let e : true ≡ false = sym t ∙ f in absurd (cc)

-- one that is neither a list of points nor a set
pub clean_shown : (world : List Instance) (scale : Scale) (mode : Mode) (mapped : Bool) (i : Instance) → ShowsNone world scale mode mapped i → InstanceFlaw world mapped i None → is_a PointList i ≡ false → is_set i ≡ false
    → IsClean world scale mode mapped i.id i
clean_shown world scale mode mapped i s formed unlisted other = record {
  formed = formed;
  items = s.items;
  square = s.square;
  carries = s.carries;
  operator = s.operator;
  origin = s.origin;
  few = s.few;
  measured = refused;
  indexed = λ t h. never (is_set i) t other;
  cut = λ t. never (is_set i) t other;
}
  where
    refused : (fault : GridFault) → InstanceRefused scale mode i fault → ⊥
    refused fault (inl p) = s.point p.0 fault (inl p)
    refused fault (inr q) = never (is_a PointList i) q.0 unlisted

-- a list of points whose points were read
pub list_clean : (world : List Instance) (scale : Scale) (mode : Mode) (mapped : Bool) (points : List Point) (i : Instance) → ShowsNone world scale mode mapped i → HasPoints scale mode points i → IsClean world scale mode mapped i.id i
list_clean world scale mode mapped points i s h = record {
  formed = list_formed world scale mode mapped points i h;
  items = s.items;
  square = s.square;
  carries = s.carries;
  operator = s.operator;
  origin = s.origin;
  few = s.few;
  measured = refused;
  indexed = λ t b. list_no_set i h.0.kind t;
  cut = λ t. list_no_set i h.0.kind t;
}
  where
    by_items : (fault : GridFault) (v : Value21) (o : Option (List Value21)) → ArePoints scale mode (unwrap_or o []) points → MatchOption o ⊥ (λ vs. PointsRefused scale mode vs fault) → ⊥
    by_items fault v None are r = r
    by_items fault v (Some vs) are r = points_apart scale mode vs points fault are r

    by_value : (fault : GridFault) (o : Option Value21) → ArePoints scale mode (unwrap_or (option_and_then items_of o) []) points → MatchOption o ⊥ (λ v. ListRefused scale mode v fault) → ⊥
    by_value fault None are r = r
    by_value fault (Some v) are r = by_items fault v (items_of v) are r

    refused : (fault : GridFault) → InstanceRefused scale mode i fault → ⊥
    refused fault (inl p) = s.point p.0 fault (inl p)
    refused fault (inr q) = by_value fault (slice_get i.values 0) (subst (λ (vs : List Value21). ArePoints scale mode vs points) (listed_is i 0) h.0.are) q.1

-- a set that was read
pub set_clean : (world : List Instance) (scale : Scale) (mode : Mode) (mapped : Bool) (pool : List (Option (List Point))) (kept : SetRows) (i : Instance) → ShowsNone world scale mode mapped i → IsRead world scale mode pool kept i
    → IsClean world scale mode mapped i.id i
set_clean world scale mode mapped pool kept i s r = record {
  formed = r.formed mapped;
  items = s.items;
  square = s.square;
  carries = s.carries;
  operator = s.operator;
  origin = s.origin;
  few = s.few;
  measured = refused;
  indexed = λ t. r.indexed;
  cut = λ t. (triangles_at r.found kept.rows, r.rows);
}
  where
    refused : (fault : GridFault) → InstanceRefused scale mode i fault → ⊥
    refused fault (inl p) = s.point p.0 fault (inl p)
    refused fault (inr q) = list_no_set i q.0 r.kind
