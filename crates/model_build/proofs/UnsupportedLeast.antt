-- Which instances show items to be unsupported: bodies, mapped representations and mapped items.
use Rattle.std.proofs.Common.{◌≡◌, ℕ, ◌⊎◌, inl, inr, List, filter_map, Option, Some, Contains, refl, sym, ap, ◌∙◌, subst, arith}
use Rattle.bim_model.specs.declared.upload.Mode.{Mode}
use Rattle.bim_model.specs.declared.upload.UploadFault.TheVariants as faults
use Rattle.p21_values.specs.declared.value.Instance.{Instance}
use Rattle.ifc_instances.specs.declared.entity.Entity.TheVariants as entity
use Rattle.ifc_schema.specs.declared.form.Attribute.{Attribute}
use Rattle.ifc_schema.specs.declared.form.Targets.TheVariants as targets
use Rattle.ifc_schema.specs.declared.form.Leaf.TheVariants as leaf
use Rattle.ifc_schema.specs.declared.form.Shape.TheVariants as shape
use Rattle.ifc_schema.specs.declared.form.Need.TheVariants.{Must}
use Rattle.ifc_schema.specs.declared.form.When.TheVariants.{Always}
use Rattle.ifc_schema.specs.AttributeTable.{row_of, attribute}
use Rattle.p21_values.specs.Values.{reference_of}
use Rattle.p21_values.specs.InstanceLookup.{look}
use Rattle.ifc_schema.specs.Used.{Used, IsMapped, named}
use Rattle.ifc_schema.specs.Surveys.{Lists}
use Rattle.ifc_units.specs.declared.scale.Scale.{Scale}
use Rattle.ifc_elements.specs.Items.{spelled_items}
use Rattle.ifc_instances.specs.inner.Least.{IsLeast, LeastOf}
use Rattle.model_build.specs.FaultyInstances.{ShownBy}
use Rattle.model_build.specs.Unsupported.{ListsItem, ListsOther, ListsNested, Shows, IsUnsupported}
use Rattle.model_build.specs.inner.Showing.{lesser, BodyShows, MapShows, ItemShows}
use Rattle.model_build.specs.Stages.{ItemStage}
use Rattle.model_build.proofs.AttributesFormed.{in_row}
use Rattle.model_build.proofs.OtherItems.{finding}
use Rattle.model_build.proofs.LeastOfParts.{lesser_least, same_least}

-- a mapped representation is used: its map names it
pub mapped_used : (world : List Instance) (id : ℕ) → IsMapped world id → Used world id
unfolding row_of
mapped_used world id h =
    let m = h.maps in
    let a : Attribute = attribute 1 Always Must shape.One (leaf.Reference (targets.One entity.Representation)) in
    named h.by id h.map h.used h.found (record {
      attribute = a;
      listed = in_row entity.RepresentationMap h.map a m.map (1, omega arith, refl);
      names = record { applied = refl; value = m.value; there = m.there; stands = m.refers; leads = m.leads };
    })

lists : (world : List Instance) (from id : ℕ) (r : Instance) → look world from ≡ Some r → Contains (filter_map reference_of (spelled_items r)) id → ListsItem world from id
lists world from id r e c = record { instance = r; found = e; holds = c }

listed : (world : List Instance) (from id : ℕ) (r : Instance) → look world from ≡ Some r → ListsItem world from id → Contains (filter_map reference_of (spelled_items r)) id
listed world from id r e l = finding world from r (λ i. Contains (filter_map reference_of (spelled_items i)) id) e l

-- What a body shows.

body_other : (world : List Instance) (from id : ℕ) → BodyShows world from id → ListsOther world from id
body_other world from id h =
    (inl (record { instance = h.instance; found = h.found; holds = h.holds.0 }), lists world from id h.instance h.found h.holds.1.0, h.holds.1.1)

-- What a mapped representation shows.

map_shows : (world : List Instance) (from id : ℕ) → IsMapped world from → MapShows world from id → ListsOther world from id ⊎ ListsNested world from id
map_shows world from id m h = elim h.holds [
  | inl o ↦ inl (inr m, lists world from id h.instance h.found o.0, o.1)
  | inr n ↦ inr (m, lists world from id h.instance h.found n.0, n.1)
]

-- What a file shows is what one of the three searches finds.

abbrev Found : List Instance → Scale → Mode → List ℕ → List ℕ → ℕ → Type 0
Found world scale mode used mapped id = ShownBy (BodyShows world) used id ⊎ (ShownBy (MapShows world) mapped id ⊎ ShownBy (ItemShows world scale mode) used id)

sound : (world : List Instance) (scale : Scale) (mode : Mode) (used mapped : List ℕ) → Lists (Used world) used → Lists (IsMapped world) mapped → (id : ℕ) → Found world scale mode used mapped id → IsUnsupported world scale mode id
sound world scale mode used mapped us ms id (inl h) = (h.0, us.each h.0 h.1, inl (inl (body_other world h.0 id h.2)))
sound world scale mode used mapped us ms id (inr (inl h)) = let m = ms.each h.0 h.1 in (h.0, mapped_used world h.0 m, inl (map_shows world h.0 id m h.2))
sound world scale mode used mapped us ms id (inr (inr h)) = (h.0, us.each h.0 h.1, inr h.2)

other_found : (world : List Instance) (scale : Scale) (mode : Mode) (used mapped : List ℕ) → Lists (Used world) used → Lists (IsMapped world) mapped → (from id : ℕ) → Used world from → ListsOther world from id
    → Found world scale mode used mapped id
other_found world scale mode used mapped us ms from id u h = elim h.0 [
  | inl b ↦ inl (from, us.all from u, record { instance = b.instance; found = b.found; holds = (b.holds, (listed world from id b.instance b.found h.1, h.2)) })
  | inr m ↦ (
      let l = h.1 in
      inr (inl (from, ms.all from m, record { instance = l.instance; found = l.found; holds = inl (l.holds, h.2) })))
]

nested_found : (world : List Instance) (scale : Scale) (mode : Mode) (used mapped : List ℕ) → Lists (IsMapped world) mapped → (from id : ℕ) → ListsNested world from id → Found world scale mode used mapped id
nested_found world scale mode used mapped ms from id h =
    let l = h.1 in
    inr (inl (from, ms.all from h.0, record { instance = l.instance; found = l.found; holds = inr (l.holds, h.2) }))

whole : (world : List Instance) (scale : Scale) (mode : Mode) (used mapped : List ℕ) → Lists (Used world) used → Lists (IsMapped world) mapped → (id : ℕ) → IsUnsupported world scale mode id → Found world scale mode used mapped id
whole world scale mode used mapped us ms id h = from h.0 h.1 h.2
  where
    from : (by : ℕ) → Used world by → Shows world scale mode by id → Found world scale mode used mapped id
    from by u (inl (inl o)) = other_found world scale mode used mapped us ms by id u o
    from by u (inl (inr n)) = nested_found world scale mode used mapped ms by id n
    from by u (inr i) = inr (inr (by, us.all by u, i))

unsupported_least : (world : List Instance) (scale : Scale) (mode : Mode) (used mapped : List ℕ) (a b c : Option ℕ) → Lists (Used world) used → Lists (IsMapped world) mapped
    → LeastOf (ShownBy (BodyShows world) used) a → LeastOf (ShownBy (MapShows world) mapped) b → LeastOf (ShownBy (ItemShows world scale mode) used) c
    → LeastOf (IsUnsupported world scale mode) (lesser a (lesser b c))
unsupported_least world scale mode used mapped a b c us ms f g h =
    same_least (Found world scale mode used mapped) (IsUnsupported world scale mode) (lesser a (lesser b c)) (sound world scale mode used mapped us ms) (whole world scale mode used mapped us ms)
    (lesser_least (ShownBy (BodyShows world) used) (λ id. ShownBy (MapShows world) mapped id ⊎ ShownBy (ItemShows world scale mode) used id) a (lesser b c) f
    (lesser_least (ShownBy (MapShows world) mapped) (ShownBy (ItemShows world scale mode) used) b c g h))

-- the least that the three searches find
pub item_least : (world : List Instance) (scale : Scale) (mode : Mode) (used mapped ids maps again : List ℕ) (a b c inner found : Option ℕ) → Lists (Used world) used → Lists (IsMapped world) mapped
    → ids ≡ used → maps ≡ mapped → again ≡ used → LeastOf (ShownBy (BodyShows world) ids) a → LeastOf (ShownBy (MapShows world) maps) b → LeastOf (ShownBy (ItemShows world scale mode) again) c
    → inner ≡ lesser b c → found ≡ lesser a inner → LeastOf (IsUnsupported world scale mode) found
item_least world scale mode used mapped ids maps again a b c inner found us ms d e f g h k same is =
    let whole : found ≡ lesser a (lesser b c) = is ∙ ap (lesser a) same in
    subst (LeastOf (IsUnsupported world scale mode)) (sym whole)
    (unsupported_least world scale mode used mapped a b c us ms (subst (λ ns. LeastOf (ShownBy (BodyShows world) ns) a) d g) (subst (λ ns. LeastOf (ShownBy (MapShows world) ns) b) e h)
    (subst (λ ns. LeastOf (ShownBy (ItemShows world scale mode) ns) c) f k))

-- the fault of the least one
pub item_stage : (world : List Instance) (scale : Scale) (mode : Mode) (id : ℕ) → IsLeast (IsUnsupported world scale mode) id → ItemStage world mode scale (faults.UnsupportedItem id)
item_stage world scale mode id h = record { id = id; of = h.here; here = refl; lower = λ k low u other e. h.lower k low u }
