-- The tests of what is unmoved tell what they are meant to.
use Rattle.std.proofs.Common.{◌≡◌, ◌↔◌, ℕ, ◌==◌, Bool, true, false, ◌&&◌, ◌⊎◌, inl, inr, List, [], ◌∷◌, map, Option, Some, None, refl, sym, ap, ap₂, subst, ◌∙◌, true≢false}
use Rattle.std.specs.List.{AllZip}
use Rattle.std.specs.Ordering.{int_eq}
use Rattle.std.specs.Str.{bytes_eq}
use Rattle.std.proofs.lemmas.Bool.{and_parts, and_from}
use Rattle.std.proofs.lemmas.Bool.Decides.{Decides-int_eq, eqb_tells}
use Rattle.std.proofs.lemmas.Slice.Eq.{bytes_eq-Decides}
use Rattle.bim_model.specs.declared.geometry.Point.{Point}
use Rattle.bim_model.specs.declared.geometry.Triangle.{Triangle}
use Rattle.bim_model.specs.declared.guid.Guid.{Guid}
use Rattle.bim_model.specs.declared.keys.ElementKey.{ElementKey}
use Rattle.bim_model.specs.declared.rules.ClassTest.{ClassTest}
use Rattle.bim_model.specs.declared.rules.ClassTest.TheVariants as class
use Rattle.bim_model.specs.declared.rules.StoreyTest.{StoreyTest}
use Rattle.bim_model.specs.declared.rules.StoreyTest.TheVariants as storey
use Rattle.bim_model.specs.declared.rules.ModelTest.{ModelTest}
use Rattle.bim_model.specs.declared.rules.ModelTest.TheVariants as models
use Rattle.bim_model.specs.declared.rules.RuleKind.{RuleKind}
use Rattle.bim_model.specs.declared.rules.RuleKind.TheVariants.{Clash, Pierce, Ignore}
use Rattle.bim_model.specs.declared.rules.Rule.{Rule}
use Rattle.bim_model.specs.Keys.{Subject, subjects_of, key_of}
use Rattle.bim_model.specs.Snapshots.{Version}
use Rattle.bucket_grid.specs.declared.cell.Cell.{Cell}
use Rattle.bucket_grid.specs.Cells.{members}
use Rattle.bucket_grid.specs.Grids.{GridValue}
use Rattle.bucket_grid.specs.Subjects.{subject_at}
use Rattle.bucket_check.specs.ClashSets.{IsSame, IsUnmoved, subjects_at}
use Rattle.book_history.specs.VersionBoxes.{boxes_of}
use Rattle.book_history.specs.Unmoved.{same_by, same_text, same_point, same_triangle, is_same, same_class, same_storeys, same_models, same_kind, same_rule, members_of, is_unmoved}

-- a test is true exactly where a fact holds
abbrev Tells : Bool → Type 0 → Type 0
Tells b P = (b ≡ true) ↔ P

both : (p q : Bool) (P Q : Type 0) → Tells p P → Tells q Q → Tells (p && q) (P × Q)
both p q P Q h k = (λ e. (let r = and_parts p q e in (h.0 r.0, k.0 r.1)), λ x. and_from p q (h.1 x.0) (k.1 x.1))

instead : (p : Bool) (P Q : Type 0) → (P → Q) → (Q → P) → Tells p P → Tells p Q
instead p P Q f g h = (λ e. f (h.0 e), λ x. h.1 (g x))

never : (P : Type 0) → (P → ⊥) → Tells false P
never P none = (λ e. absurd (true≢false (sym e)), λ x. absurd (none x))

-- ---- lists
list_tells : {A : Type 0} (same : A → A → Bool) (R : A → A → Type 0) → ((a b : A) → Tells (same a b) (R a b)) → (xs ys : List A) → Tells (same_by same xs ys) (AllZip R xs ys)
list_tells same R h [] [] = (λ e. tt, λ x. refl)
list_tells same R h [] (y ∷ ys) = (λ e. absurd (true≢false (sym e)), λ x. absurd x)
list_tells same R h (x ∷ xs) [] = (λ e. absurd (true≢false (sym e)), λ y. absurd y)
list_tells same R h (x ∷ xs) (y ∷ ys) = both (same x y) (same_by same xs ys) (R x y) (AllZip R xs ys) (h x y) (list_tells same R h xs ys)

zip_path : {A : Type 0} (xs ys : List A) → AllZip (λ (a b : A). a ≡ b) xs ys → xs ≡ ys
zip_path [] [] h = refl
zip_path [] (y ∷ ys) h = absurd h
zip_path (x ∷ xs) [] h = absurd h
zip_path (x ∷ xs) (y ∷ ys) h = ap₂ (λ z zs. z ∷ zs) h.0 (zip_path xs ys h.1)

zip_own : {A : Type 0} (xs : List A) → AllZip (λ (a b : A). a ≡ b) xs xs
zip_own [] = tt
zip_own (x ∷ xs) = (refl, zip_own xs)

path_zip : {A : Type 0} (xs ys : List A) → xs ≡ ys → AllZip (λ (a b : A). a ≡ b) xs ys
path_zip xs ys e = subst (λ l. AllZip (λ a b. a ≡ b) xs l) e (zip_own xs)

same_list : {A : Type 0} (same : A → A → Bool) → ((a b : A) → Tells (same a b) (a ≡ b)) → (xs ys : List A) → Tells (same_by same xs ys) (xs ≡ ys)
same_list same h xs ys = instead (same_by same xs ys) (AllZip (λ a b. a ≡ b) xs ys) (xs ≡ ys) (zip_path xs ys) (path_zip xs ys) (list_tells same (λ a b. a ≡ b) h xs ys)

-- ---- texts, points and triangles
text_tells : (a b : Option (List ℕ)) → Tells (same_text a b) (a ≡ b)
text_tells None None = (λ e. refl, λ x. refl)
text_tells None (Some b) = never (None ≡ Some b) (λ e. cc)
text_tells (Some a) None = never (Some a ≡ None) (λ e. cc)
text_tells (Some a) (Some b) = instead (bytes_eq a b) (a ≡ b) (Some a ≡ Some b) (λ e. ap (λ t. Some t) e) (λ e. cc) (bytes_eq-Decides a b)

abbrev point : Point → Point → Type 0
point p q = (p.x ≡ q.x) × (p.y ≡ q.y)

point_path : (p q : Point) → p.x ≡ q.x → p.y ≡ q.y → p.z ≡ q.z → p ≡ q
point_path p q x y z =
    ap (λ t. (let r : Point = record { x = t; y = p.y; z = p.z } in r)) x
    ∙ ap (λ t. (let r : Point = record { x = q.x; y = t; z = p.z } in r)) y
    ∙ ap (λ t. (let r : Point = record { x = q.x; y = q.y; z = t } in r)) z

point_tells : (p q : Point) → Tells (same_point p q) (p ≡ q)
point_tells p q =
    instead (same_point p q) (point p q × (p.z ≡ q.z)) (p ≡ q)
    (λ h. point_path p q h.0.0 h.0.1 h.1)
    (λ e. ((ap (λ (t : Point). t.x) e, ap (λ (t : Point). t.y) e), ap (λ (t : Point). t.z) e))
    (both (int_eq p.x q.x && int_eq p.y q.y) (int_eq p.z q.z) (point p q) (p.z ≡ q.z)
    (both (int_eq p.x q.x) (int_eq p.y q.y) (p.x ≡ q.x) (p.y ≡ q.y) (Decides-int_eq p.x q.x) (Decides-int_eq p.y q.y)) (Decides-int_eq p.z q.z))

abbrev corners : Triangle → Triangle → Type 0
corners t u = (t.a ≡ u.a) × (t.b ≡ u.b)

triangle_path : (t u : Triangle) → t.a ≡ u.a → t.b ≡ u.b → t.c ≡ u.c → t ≡ u
triangle_path t u a b c =
    ap (λ p. (let r : Triangle = record { a = p; b = t.b; c = t.c } in r)) a
    ∙ ap (λ p. (let r : Triangle = record { a = u.a; b = p; c = t.c } in r)) b
    ∙ ap (λ p. (let r : Triangle = record { a = u.a; b = u.b; c = p } in r)) c

triangle_tells : (t u : Triangle) → Tells (same_triangle t u) (t ≡ u)
triangle_tells t u =
    instead (same_triangle t u) (corners t u × (t.c ≡ u.c)) (t ≡ u)
    (λ h. triangle_path t u h.0.0 h.0.1 h.1)
    (λ e. ((ap (λ (v : Triangle). v.a) e, ap (λ (v : Triangle). v.b) e), ap (λ (v : Triangle). v.c) e))
    (both (same_point t.a u.a && same_point t.b u.b) (same_point t.c u.c) (corners t u) (t.c ≡ u.c)
    (both (same_point t.a u.a) (same_point t.b u.b) (t.a ≡ u.a) (t.b ≡ u.b) (point_tells t.a u.a) (point_tells t.b u.b)) (point_tells t.c u.c))

-- ---- elements
guid_path : (g h : Guid) → g.chars ≡ h.chars → g ≡ h
guid_path g h e = ap (λ c. (let r : Guid = record { chars = c } in r)) e

key_path : (s t : Subject) → s.name ≡ t.name → s.element.guid ≡ t.element.guid → key_of s ≡ key_of t
key_path s t e f = ap (λ n. (let k : ElementKey = record { model = n; guid = s.element.guid } in k)) e ∙ ap (λ g. (let k : ElementKey = record { model = t.name; guid = g } in k)) f

module _ (s t : Subject) where
  abbrev a : Bool
  a = bytes_eq s.name t.name

  abbrev b : Bool
  b = bytes_eq s.element.guid.chars t.element.guid.chars

  abbrev c : Bool
  c = bytes_eq s.element.class t.element.class

  abbrev d : Bool
  d = same_text s.element.storey t.element.storey

  abbrev e : Bool
  e = same_by same_triangle s.element.triangles t.element.triangles

  abbrev A : Type 0
  A = s.name ≡ t.name

  abbrev B : Type 0
  B = s.element.guid.chars ≡ t.element.guid.chars

  abbrev C : Type 0
  C = s.element.class ≡ t.element.class

  abbrev D : Type 0
  D = s.element.storey ≡ t.element.storey

  abbrev E : Type 0
  E = s.element.triangles ≡ t.element.triangles

  pub subject_tells : Tells (is_same s t) (IsSame s t)
  subject_tells =
      instead (is_same s t) ((((A × B) × C) × D) × E) (IsSame s t)
      (λ h. record { key = key_path s t h.0.0.0.0 (guid_path s.element.guid t.element.guid h.0.0.0.1); class = h.0.0.1; storey = h.0.1; triangles = h.1 })
      (λ h. ((((ap (λ (k : ElementKey). k.model) h.key, ap (λ (k : ElementKey). k.guid.chars) h.key), h.class), h.storey), h.triangles))
      (both (a && b && c && d) e (((A × B) × C) × D) E
      (both (a && b && c) d ((A × B) × C) D
      (both (a && b) c (A × B) C
      (both a b A B (bytes_eq-Decides s.name t.name) (bytes_eq-Decides s.element.guid.chars t.element.guid.chars))
      (bytes_eq-Decides s.element.class t.element.class))
      (text_tells s.element.storey t.element.storey))
      (same_list same_triangle triangle_tells s.element.triangles t.element.triangles))

-- ---- rules
class_tells : (a b : ClassTest) → Tells (same_class a b) (a ≡ b)
class_tells class.Any class.Any = (λ e. refl, λ x. refl)
class_tells class.Any (class.Named b) = never (class.Any ≡ class.Named b) (λ e. cc)
class_tells (class.Named a) class.Any = never (class.Named a ≡ class.Any) (λ e. cc)
class_tells (class.Named a) (class.Named b) = instead (bytes_eq a b) (a ≡ b) (class.Named a ≡ class.Named b) (λ e. ap (λ t. class.Named t) e) (λ e. cc) (bytes_eq-Decides a b)

storeys_tells : (a b : StoreyTest) → Tells (same_storeys a b) (a ≡ b)
storeys_tells storey.Any storey.Any = (λ e. refl, λ x. refl)
storeys_tells storey.Any storey.Same = never (storey.Any ≡ storey.Same) (λ e. cc)
storeys_tells storey.Any storey.Different = never (storey.Any ≡ storey.Different) (λ e. cc)
storeys_tells storey.Same storey.Any = never (storey.Same ≡ storey.Any) (λ e. cc)
storeys_tells storey.Same storey.Same = (λ e. refl, λ x. refl)
storeys_tells storey.Same storey.Different = never (storey.Same ≡ storey.Different) (λ e. cc)
storeys_tells storey.Different storey.Any = never (storey.Different ≡ storey.Any) (λ e. cc)
storeys_tells storey.Different storey.Same = never (storey.Different ≡ storey.Same) (λ e. cc)
storeys_tells storey.Different storey.Different = (λ e. refl, λ x. refl)

models_tells : (a b : ModelTest) → Tells (same_models a b) (a ≡ b)
models_tells models.Any models.Any = (λ e. refl, λ x. refl)
models_tells models.Any models.Same = never (models.Any ≡ models.Same) (λ e. cc)
models_tells models.Any models.Other = never (models.Any ≡ models.Other) (λ e. cc)
models_tells models.Same models.Any = never (models.Same ≡ models.Any) (λ e. cc)
models_tells models.Same models.Same = (λ e. refl, λ x. refl)
models_tells models.Same models.Other = never (models.Same ≡ models.Other) (λ e. cc)
models_tells models.Other models.Any = never (models.Other ≡ models.Any) (λ e. cc)
models_tells models.Other models.Same = never (models.Other ≡ models.Same) (λ e. cc)
models_tells models.Other models.Other = (λ e. refl, λ x. refl)

number_tells : (a b : ℕ) → Tells (a == b) (a ≡ b)
number_tells a b = told (eqb_tells a b)
  where
    told : (((a == b) ≡ true) × (a ≡ b)) ⊎ (((a == b) ≡ false) × (a ≡ b → ⊥)) → Tells (a == b) (a ≡ b)
    told (inl is) = (λ e. is.1, λ e. is.0)
    told (inr none) = (λ e. absurd (true≢false (sym e ∙ none.0)), λ e. absurd (none.1 e))

kind_tells : (a b : RuleKind) → Tells (same_kind a b) (a ≡ b)
kind_tells (Clash a) (Clash b) = instead (a == b) (a ≡ b) (Clash a ≡ Clash b) (λ e. ap (λ t. Clash t) e) (λ e. cc) (number_tells a b)
kind_tells (Clash a) Pierce = never (Clash a ≡ Pierce) (λ e. cc)
kind_tells (Clash a) Ignore = never (Clash a ≡ Ignore) (λ e. cc)
kind_tells Pierce (Clash b) = never (Pierce ≡ Clash b) (λ e. cc)
kind_tells Pierce Pierce = (λ e. refl, λ x. refl)
kind_tells Pierce Ignore = never (Pierce ≡ Ignore) (λ e. cc)
kind_tells Ignore (Clash b) = never (Ignore ≡ Clash b) (λ e. cc)
kind_tells Ignore Pierce = never (Ignore ≡ Pierce) (λ e. cc)
kind_tells Ignore Ignore = (λ e. refl, λ x. refl)

rule_path : (r s : Rule) → r.a ≡ s.a → r.b ≡ s.b → r.storey ≡ s.storey → r.level ≡ s.level → r.models ≡ s.models → r.kind ≡ s.kind → r ≡ s
rule_path r s a b t l m k =
    ap (λ x. (let q : Rule = record { a = x; b = r.b; storey = r.storey; level = r.level; models = r.models; kind = r.kind } in q)) a
    ∙ ap (λ x. (let q : Rule = record { a = s.a; b = x; storey = r.storey; level = r.level; models = r.models; kind = r.kind } in q)) b
    ∙ ap (λ x. (let q : Rule = record { a = s.a; b = s.b; storey = x; level = r.level; models = r.models; kind = r.kind } in q)) t
    ∙ ap (λ x. (let q : Rule = record { a = s.a; b = s.b; storey = s.storey; level = x; models = r.models; kind = r.kind } in q)) l
    ∙ ap (λ x. (let q : Rule = record { a = s.a; b = s.b; storey = s.storey; level = s.level; models = x; kind = r.kind } in q)) m
    ∙ ap (λ x. (let q : Rule = record { a = s.a; b = s.b; storey = s.storey; level = s.level; models = s.models; kind = x } in q)) k

module _ (r s : Rule) where
  abbrev P : Type 0
  P = ((((r.a ≡ s.a) × (r.b ≡ s.b)) × (r.storey ≡ s.storey)) × (r.level ≡ s.level)) × (r.models ≡ s.models)

  rule_tells : Tells (same_rule r s) (r ≡ s)
  rule_tells =
      instead (same_rule r s) (P × (r.kind ≡ s.kind)) (r ≡ s)
      (λ h. rule_path r s h.0.0.0.0.0 h.0.0.0.0.1 h.0.0.0.1 h.0.0.1 h.0.1 h.1)
      (λ e. (((((ap (λ (q : Rule). q.a) e, ap (λ (q : Rule). q.b) e), ap (λ (q : Rule). q.storey) e), ap (λ (q : Rule). q.level) e), ap (λ (q : Rule). q.models) e), ap (λ (q : Rule). q.kind) e))
      (both _ (same_kind r.kind s.kind) P (r.kind ≡ s.kind)
      (both _ (same_models r.models s.models) _ (r.models ≡ s.models)
      (both _ (same_text r.level s.level) _ (r.level ≡ s.level)
      (both _ (same_storeys r.storey s.storey) _ (r.storey ≡ s.storey)
      (both (same_class r.a s.a) (same_class r.b s.b) (r.a ≡ s.a) (r.b ≡ s.b) (class_tells r.a s.a) (class_tells r.b s.b))
      (storeys_tells r.storey s.storey))
      (text_tells r.level s.level))
      (models_tells r.models s.models))
      (kind_tells r.kind s.kind))

-- ---- cells
-- a cell is unmoved between two grids exactly where the test of their versions says so
pub unmoved_tells : (before after : GridValue) (cell : Cell) → before.boxes ≡ boxes_of before.version → after.boxes ≡ boxes_of after.version → Tells (is_unmoved before.version after.version cell) (IsUnmoved before after cell)
unfolding is_unmoved
unmoved_tells before after cell e f =
    let was : subjects_at before (members before.boxes cell) ≡ members_of before.version cell = ap (λ l. subjects_at before (members l cell)) e in
    let is : subjects_at after (members after.boxes cell) ≡ members_of after.version cell = ap (λ l. subjects_at after (members l cell)) f in
    let R : Type 0 = before.version.rules ≡ after.version.rules in
    let M : Type 0 = AllZip IsSame (members_of before.version cell) (members_of after.version cell) in
    instead (is_unmoved before.version after.version cell) (R × M) (IsUnmoved before after cell)
    (λ h. record { rules = h.0; members = subst (λ l. AllZip IsSame l (subjects_at after (members after.boxes cell))) (sym was) (subst (λ l. AllZip IsSame (members_of before.version cell) l) (sym is) h.1) })
    (λ h. (h.rules, subst (λ l. AllZip IsSame (members_of before.version cell) l) is (subst (λ l. AllZip IsSame l (subjects_at after (members after.boxes cell))) was h.members)))
    (both (same_by same_rule before.version.rules after.version.rules) (same_by is_same (members_of before.version cell) (members_of after.version cell)) R M
    (same_list same_rule rule_tells before.version.rules after.version.rules)
    (list_tells is_same IsSame subject_tells (members_of before.version cell) (members_of after.version cell)))
