-- The bodies of an element are those of its shape, also where they are kept.
use Rattle.std.proofs.Common.{◌≡◌, ℕ, List, Some, sym, ap, ◌∙◌, subst}
use Rattle.std.specs.Option.{option_and_then}
use Rattle.p21_values.specs.declared.value.Instance.{Instance}
use Rattle.p21_values.specs.InstanceLookup.{look}
use Rattle.p21_values.specs.Attributes.{reference_at, target_at}
use Rattle.ifc_elements.specs.Items.{listed_by, bodies_among, bodies_of, bodies}
use Rattle.ifc_elements.specs.Finding.{Number}
use Rattle.ifc_elements.specs.Shapes.{AreShapes, bodies_in}

of_shape : (world : List Instance) (element shape : Instance) (id : ℕ) → reference_at element 6 ≡ Some id → look world id ≡ Some shape → bodies world element ≡ bodies_of world shape
of_shape world element shape id refers found =
    let e : target_at world element 6 ≡ Some shape = ap (option_and_then (look world)) refers ∙ found in
    ap (λ o. bodies_among world (listed_by o 2)) e

pub bodies_kept : (world : List Instance) (entries : List (ℕ × List ℕ)) (element : Instance) (id : ℕ) (ids : List ℕ) → AreShapes world entries → reference_at element 6 ≡ Some id → bodies_in entries id ≡ Some ids
    → Number world ids (bodies world element)
bodies_kept world entries element id ids are refers there =
    let f = are id ids there in
    subst (λ (all : List Instance). Number world ids all) (sym (of_shape world element f.instance id refers f.found)) f.holds
