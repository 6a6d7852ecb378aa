-- The items of bodies (IFC4 ADD2 TC1, IfcProduct, IfcShapeRepresentation, IfcMappedItem, IfcRepresentationMap).
use Rattle.std.specs.Prelude.{ℕ, ◌||◌, Bool, List, [], filter, flat_map, sum_by, Option, Some, None, option_and_then, if◌then◌else◌}
use Rattle.p21_values.specs.declared.value.Value21.{Value21}
use Rattle.p21_values.specs.declared.value.Instance.{Instance}
use Rattle.ifc_instances.specs.declared.entity.Entity.TheVariants.{MappedItem}
use Rattle.p21_values.specs.InstanceLookup.{look}
use Rattle.ifc_instances.specs.EntityLookup.{is_a}
use Rattle.ifc_schema.specs.BodyRepresentations.{is_body_representation}
use Rattle.p21_values.specs.Attributes.{listed, target_at, led_to}
use Rattle.faceset.specs.FaceSets.{is_set, triangle_count}

-- the list of an instance at a place, where there is an instance
abbrev pub listed_by : Option Instance → ℕ → List Value21
listed_by None at = []
listed_by (Some i) at = listed i at

-- the bodies among the instances that values refer to: shape representations whose identifier is `Body`
abbrev pub bodies_among : List Instance → List Value21 → List Instance
bodies_among world values = filter is_body_representation (led_to world values)

-- the bodies of a product shape
abbrev pub bodies_of : List Instance → Instance → List Instance
bodies_of world shape = bodies_among world (listed shape 2)

-- the bodies of an element
abbrev pub bodies : List Instance → Instance → List Instance
bodies world i = bodies_among world (listed_by (target_at world i 6) 2)

-- the items of a representation, as they are spelled
abbrev pub spelled_items : Instance → List Value21
spelled_items r = listed r 3

-- the items of a representation, in their order; one that is listed twice stands twice
abbrev pub items_of : List Instance → Instance → List Instance
items_of world r = led_to world (spelled_items r)

-- the items of all bodies of an element, in their order
abbrev pub body_items : List Instance → Instance → List Instance
body_items world i = flat_map (items_of world) (bodies world i)

-- a mapped item
abbrev pub is_mapped_item : Instance → Bool
is_mapped_item i = is_a MappedItem i

-- an item of a kind that is read
abbrev pub is_item : Instance → Bool
is_item i = is_set i || is_mapped_item i

-- Mapped items.

-- the map that a mapped item uses
abbrev pub map_of : List Instance → Instance → Option Instance
map_of world item = target_at world item 0

-- what it maps: the items of the mapped representation, as they are spelled
abbrev pub spelled_sets : List Instance → Instance → List Value21
spelled_sets world item = listed_by (option_and_then (λ m. target_at world m 1) (map_of world item)) 3

-- the sets that a mapped item shows
abbrev pub mapped_sets : List Instance → Instance → List Instance
mapped_sets world item = led_to world (spelled_sets world item)

-- How many triangles there are.

-- the triangles of an item
abbrev pub item_count : List Instance → Instance → ℕ
item_count world item = if is_mapped_item item
    then sum_by (triangle_count world) (mapped_sets world item) else triangle_count world item

-- the triangles of an element, where there is one
abbrev pub counted : List Instance → Option Instance → ℕ
counted world None = 0
counted world (Some i) = sum_by (item_count world) (body_items world i)

-- how many an element has, by its number
abbrev pub count_of : List Instance → ℕ → ℕ
count_of world id = counted world (look world id)
