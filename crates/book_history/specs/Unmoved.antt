-- Whether a cell's members are the same in two versions, under the same rules.
use Rattle.std.specs.Prelude.{ℕ, ◌==◌, Bool, true, false, ◌&&◌, List, [], ◌∷◌, map, Option, Some, None}
use Rattle.std.specs.Ordering.{int_eq}
use Rattle.std.specs.Str.{bytes_eq}
use Rattle.bim_model.specs.declared.geometry.Point.{Point}
use Rattle.bim_model.specs.declared.geometry.Triangle.{Triangle}
use Rattle.bim_model.specs.declared.rules.ClassTest.{ClassTest}
use Rattle.bim_model.specs.declared.rules.ClassTest.TheVariants as class
use Rattle.bim_model.specs.declared.rules.StoreyTest.{StoreyTest}
use Rattle.bim_model.specs.declared.rules.StoreyTest.TheVariants as storey
use Rattle.bim_model.specs.declared.rules.ModelTest.{ModelTest}
use Rattle.bim_model.specs.declared.rules.ModelTest.TheVariants as models
use Rattle.bim_model.specs.declared.rules.RuleKind.{RuleKind}
use Rattle.bim_model.specs.declared.rules.RuleKind.TheVariants.{Clash, Pierce, Ignore}
use Rattle.bim_model.specs.declared.rules.Rule.{Rule}
use Rattle.bim_model.specs.Keys.{Subject, subjects_of}
use Rattle.bim_model.specs.Snapshots.{Version}
use Rattle.bucket_grid.specs.declared.cell.Cell.{Cell}
use Rattle.bucket_grid.specs.Cells.{members}
use Rattle.bucket_grid.specs.Subjects.{subject_at}
use Rattle.book_history.specs.VersionBoxes.{boxes_of}

-- two lists of one length whose items are the same place by place
abbrev pub same_by : {A : Type 0} → (A → A → Bool) → List A → List A → Bool
same_by same [] [] = true
same_by same [] (y ∷ ys) = false
same_by same (x ∷ xs) [] = false
same_by same (x ∷ xs) (y ∷ ys) = same x y && same_by same xs ys

-- two texts that are the same, or none on both sides
abbrev pub same_text : Option (List ℕ) → Option (List ℕ) → Bool
same_text None None = true
same_text None (Some b) = false
same_text (Some a) None = false
same_text (Some a) (Some b) = bytes_eq a b

-- two points are one
abbrev pub same_point : Point → Point → Bool
same_point p q = int_eq p.x q.x && int_eq p.y q.y && int_eq p.z q.z

-- two triangles have the same corners in the same order
abbrev pub same_triangle : Triangle → Triangle → Bool
same_triangle t u = same_point t.a u.a && same_point t.b u.b && same_point t.c u.c

-- two elements of one key, class, storey and surface
abbrev pub is_same : Subject → Subject → Bool
is_same s t =
    bytes_eq s.name t.name && bytes_eq s.element.guid.chars t.element.guid.chars
    && bytes_eq s.element.class t.element.class && same_text s.element.storey t.element.storey
    && same_by same_triangle s.element.triangles t.element.triangles

-- two tests of a class are one
abbrev pub same_class : ClassTest → ClassTest → Bool
same_class class.Any class.Any = true
same_class class.Any (class.Named b) = false
same_class (class.Named a) class.Any = false
same_class (class.Named a) (class.Named b) = bytes_eq a b

-- two tests of storeys are one
abbrev pub same_storeys : StoreyTest → StoreyTest → Bool
same_storeys storey.Any storey.Any = true
same_storeys storey.Any storey.Same = false
same_storeys storey.Any storey.Different = false
same_storeys storey.Same storey.Any = false
same_storeys storey.Same storey.Same = true
same_storeys storey.Same storey.Different = false
same_storeys storey.Different storey.Any = false
same_storeys storey.Different storey.Same = false
same_storeys storey.Different storey.Different = true

-- two tests of models are one
abbrev pub same_models : ModelTest → ModelTest → Bool
same_models models.Any models.Any = true
same_models models.Any models.Same = false
same_models models.Any models.Other = false
same_models models.Same models.Any = false
same_models models.Same models.Same = true
same_models models.Same models.Other = false
same_models models.Other models.Any = false
same_models models.Other models.Same = false
same_models models.Other models.Other = true

-- two rules find the same: clashes within one distance, what pierces, or nothing
abbrev pub same_kind : RuleKind → RuleKind → Bool
same_kind (Clash a) (Clash b) = a == b
same_kind (Clash a) Pierce = false
same_kind (Clash a) Ignore = false
same_kind Pierce (Clash b) = false
same_kind Pierce Pierce = true
same_kind Pierce Ignore = false
same_kind Ignore (Clash b) = false
same_kind Ignore Pierce = false
same_kind Ignore Ignore = true

-- two rules are one
abbrev pub same_rule : Rule → Rule → Bool
same_rule r s =
    same_class r.a s.a && same_class r.b s.b && same_storeys r.storey s.storey && same_text r.level s.level
    && same_models r.models s.models && same_kind r.kind s.kind

-- the members of a cell
abbrev pub members_of : Version → Cell → List Subject
members_of version cell =
    map (subject_at (subjects_of version.models)) (members (boxes_of version) cell)

-- a cell has members of the same keys, classes, storeys and surfaces in two versions of equal rules
unfoldable pub is_unmoved : Version → Version → Cell → Bool
is_unmoved before after cell =
    same_by same_rule before.rules after.rules
    && same_by is_same (members_of before cell) (members_of after cell)
