-- The formats of the parts of an entry.
use Rattle.std.proofs.Common.{◌≡◌, ℕ, ◌&&◌, Bool, true, false, ltb, leb, List, [], ◌∷◌, ◌++◌, length, Option, Some, None, refl, arith}
use Rattle.std.specs.Prelude.{IfSome}
use Rattle.std.specs.List.{list_all}
use Rattle.std.proofs.lemmas.Bool.{leb-true, le-leb, ltb-true, lt-ltb}
use Rattle.bim_model.specs.Guids.{is_guid_char}
use Rattle.bim_model.specs.Moments.{IsMoment, last_moment}
use Rattle.bim_model.specs.Distances.{IsDistance}
use Rattle.bim_model.specs.Rules.{IsClassName, is_class_char}
use Rattle.bim_model.specs.declared.limits.TheConstants.{MOST_RULES, MOST_DISTANCE, MOST_CLASS}
use Rattle.bim_model.specs.declared.author.Author.{Author}
use Rattle.bim_model.specs.declared.element.Element.{Element}
use Rattle.bim_model.specs.declared.geometry.Point.{Point}
use Rattle.bim_model.specs.declared.geometry.Triangle.{Triangle}
use Rattle.bim_model.specs.declared.guid.Guid.{Guid}
use Rattle.bim_model.specs.declared.rules.ClassTest.{ClassTest}
use Rattle.bim_model.specs.declared.rules.ClassTest.TheVariants as class
use Rattle.bim_model.specs.declared.rules.StoreyTest.{StoreyTest}
use Rattle.bim_model.specs.declared.rules.StoreyTest.TheVariants as storey
use Rattle.bim_model.specs.declared.rules.ModelTest.{ModelTest}
use Rattle.bim_model.specs.declared.rules.ModelTest.TheVariants as models
use Rattle.bim_model.specs.declared.rules.RuleKind.{RuleKind}
use Rattle.bim_model.specs.declared.rules.RuleKind.TheVariants.{Clash, Pierce, Ignore}
use Rattle.bim_model.specs.declared.rules.Rule.{Rule}
use Rattle.bcf_topics.specs.declared.topic_body.TopicBody.{TopicBody}
use Rattle.bcf_topics.specs.declared.comment.CommentBody.{CommentBody}
use Rattle.bcf_viewpoints.specs.declared.component.Component.{Component}
use Rattle.bcf_viewpoints.specs.declared.component.Coloring.{Coloring}
use Rattle.bcf_viewpoints.specs.declared.view.ViewBody.{ViewBody}
use Rattle.bucket_grid.specs.declared.cell.Cell.{Cell}
use Rattle.book_turn.specs.declared.object.Stamp.{Stamp}
use Rattle.feed_frames.specs.FieldBytes.{long_bytes, short_bytes, signed_bytes, text_bytes, optional_bytes, counted_bytes}
use Rattle.feed_frames.specs.EntryBytes.{guid_bytes, point_bytes, triangle_bytes, element_bytes, class_test_bytes, storey_test_bytes, model_test_bytes, rule_kind_bytes, rule_bytes, author_bytes, topic_front_bytes, topic_back_bytes, topic_bytes, comment_bytes, component_bytes, coloring_bytes, view_bytes, cell_bytes, stamp_bytes}
use Rattle.feed_frames.specs.SpelledEntries.{IsSigned, FitsText, FitsList, FitsGuid, FitsPoint, FitsTriangle, FitsElement, FitsClassTest, FitsLevel, FitsRuleKind, FitsRule, FitsRules, FitsAuthor, FitsTopic, FitsComment, FitsComponent, FitsColoring, FitsView, FitsCell, FitsStamp}
use Rattle.feed_frames.specs.declared.topic_fields.TopicFront.{TopicFront}
use Rattle.feed_frames.specs.declared.topic_fields.TopicBack.{TopicBack}
use Rattle.feed_frames.specs.inner.Readers.{nothing_at, made_at, checked_at, kind_at, no_kind}
use Rattle.feed_frames.specs.inner.FieldReaders.{text_at}
use Rattle.feed_frames.specs.inner.EntryReaders.{guid_at, moment_at, point_at, triangle_at, element_at, is_class_name, class_test_at, storey_test_at, model_test_at, distance_at, rule_kind_at, is_level, level_at, rule_at, rules_at, author_at, topic_front_at, topic_back_at, topic_by, topic_at, comment_at, component_at, coloring_at, view_at, cell_at, stamp_at}
use Rattle.feed_frames.proofs.Formats.{IsFormat, nothing, cut, both, made, into_again, checked, good_as, spelled_as, no_kinds, with_kind, kinds_format}
use Rattle.feed_frames.proofs.Fields.{long, short, signed, truth, text, optional, counted}

pub guid : IsFormat Guid guid_at guid_bytes FitsGuid
unfolding guid_at guid_bytes
guid =
    made (checked (cut 22) (λ chars. list_all is_guid_char chars)) (λ chars. record { chars = chars })
    (λ (g : Guid). g.chars) (λ x p. refl) (λ x p. p) (λ g p. refl) (λ g p. p)

pub moment : IsFormat ℕ moment_at long_bytes IsMoment
unfolding moment_at
moment =
    good_as (checked long (λ seconds. leb seconds last_moment)) IsMoment (λ x p. leb-true _ _ p.1)
    (λ x p. (omega arith, le-leb _ _ p))

pub point : IsFormat Point point_at point_bytes FitsPoint
unfolding point_at point_bytes
point =
    made (both signed (both signed signed)) (λ p. record { x = p.0; y = p.1.0; z = p.1.1 })
    (λ (p : Point). (p.x, (p.y, p.z))) (λ x p. refl) (λ x p. p) (λ y p. refl) (λ y p. p)

pub triangle : IsFormat Triangle triangle_at triangle_bytes FitsTriangle
unfolding triangle_at triangle_bytes
triangle =
    made (both point (both point point)) (λ p. record { a = p.0; b = p.1.0; c = p.1.1 })
    (λ (t : Triangle). (t.a, (t.b, t.c))) (λ x p. refl) (λ x p. p) (λ y p. refl) (λ y p. p)

pub element : IsFormat Element element_at element_bytes FitsElement
unfolding element_at element_bytes
element =
    made (both guid (both text (both text (both (optional text) (counted triangle)))))
    (λ p. record {
      guid = p.0;
      class = p.1.0;
      name = p.1.1.0;
      storey = p.1.1.1.0;
      triangles = p.1.1.1.1;
    })
    (λ (e : Element). (e.guid, (e.class, (e.name, (e.storey, e.triangles)))))
    (λ x p. refl) (λ x p. p) (λ y p. refl) (λ y p. p)

-- ---- rules

and_true : (a b : Bool) → (a && b) ≡ true → (a ≡ true) × (b ≡ true)
and_true true b e = (refl, e)
and_true false b e = absurd cc

both_true : (a b : Bool) → a ≡ true → b ≡ true → (a && b) ≡ true
both_true true b p q = q
both_true false b p q = absurd cc

is_name : (name : List ℕ) → is_class_name name ≡ true → IsClassName name
is_name name e =
    let p = and_true (ltb 0 (length name) && leb (length name) MOST_CLASS) (list_all is_class_char name) e in
    let q = and_true (ltb 0 (length name)) (leb (length name) MOST_CLASS) p.0 in
    record { some = ltb-true _ _ q.0; few = leb-true _ _ q.1; chars = p.1 }

name_is : (name : List ℕ) → IsClassName name → is_class_name name ≡ true
name_is name h =
    both_true (ltb 0 (length name) && leb (length name) MOST_CLASS) (list_all is_class_char name)
    (both_true (ltb 0 (length name)) (leb (length name) MOST_CLASS) (lt-ltb _ _ h.some) (le-leb _ _ h.few))
    h.chars

class_name : IsFormat (List ℕ) (checked_at is_class_name text_at) text_bytes (λ name. FitsText name × IsClassName name)
class_name =
    good_as (checked text is_class_name) (λ name. FitsText name × IsClassName name)
    (λ x p. (p.0, is_name x p.1)) (λ x p. (p.0, name_is x p.1))

abbrev class_kind : ClassTest → ℕ
class_kind class.Any = 0
class_kind (class.Named name) = 1

abbrev class_fields : ClassTest → List ℕ
class_fields class.Any = []
class_fields (class.Named name) = text_bytes name

class_reads : (c : ClassTest) (rest : List ℕ) → FitsClassTest c → kind_at 0 (made_at (λ _. class.Any) nothing_at) (kind_at 1 (made_at (λ name. class.Named name) (checked_at is_class_name text_at)) no_kind) (class_kind c) (class_fields c ++ rest) ≡ Some (c, rest)
class_reads class.Any rest good = refl
class_reads (class.Named name) rest good = into_again class_name (λ name. class.Named name) name rest good

class_spelled : (c : ClassTest) → class_kind c ∷ class_fields c ≡ class_test_bytes c
unfolding class_test_bytes
class_spelled class.Any = refl
class_spelled (class.Named name) = refl

pub class_test : IsFormat ClassTest class_test_at class_test_bytes FitsClassTest
unfolding class_test_at
class_test =
    spelled_as
    (kinds_format {kind = class_kind} {fields = class_fields} {good = FitsClassTest}
    (with_kind 0 (λ _. class.Any) nothing (λ _. refl) (λ _. refl) (λ _ p. p)
    (with_kind 1 (λ name. class.Named name) class_name (λ _. refl) (λ _. refl) (λ _ p. p) no_kinds))
    class_reads)
    class_test_bytes class_spelled

abbrev storey_kind : StoreyTest → ℕ
storey_kind storey.Any = 0
storey_kind storey.Same = 1
storey_kind storey.Different = 2

storey_reads : (t : StoreyTest) (rest : List ℕ) → Unit {0} → kind_at 0 (made_at (λ _. storey.Any) nothing_at) (kind_at 1 (made_at (λ _. storey.Same) nothing_at) (kind_at 2 (made_at (λ _. storey.Different) nothing_at) no_kind)) (storey_kind t) rest ≡ Some (t, rest)
storey_reads storey.Any rest good = refl
storey_reads storey.Same rest good = refl
storey_reads storey.Different rest good = refl

storey_spelled : (t : StoreyTest) → storey_kind t ∷ [] ≡ storey_test_bytes t
unfolding storey_test_bytes
storey_spelled storey.Any = refl
storey_spelled storey.Same = refl
storey_spelled storey.Different = refl

pub storey_test : IsFormat StoreyTest storey_test_at storey_test_bytes (λ _. Unit {0})
unfolding storey_test_at
storey_test =
    spelled_as
    (kinds_format {kind = storey_kind} {fields = λ _. []} {good = λ _. Unit {0}}
    (with_kind 0 (λ _. storey.Any) nothing (λ _. refl) (λ _. refl) (λ _ p. p)
    (with_kind 1 (λ _. storey.Same) nothing (λ _. refl) (λ _. refl) (λ _ p. p)
    (with_kind 2 (λ _. storey.Different) nothing (λ _. refl) (λ _. refl) (λ _ p. p) no_kinds)))
    storey_reads)
    storey_test_bytes storey_spelled

abbrev model_kind : ModelTest → ℕ
model_kind models.Any = 0
model_kind models.Same = 1
model_kind models.Other = 2

model_reads : (t : ModelTest) (rest : List ℕ) → Unit {0} → kind_at 0 (made_at (λ _. models.Any) nothing_at) (kind_at 1 (made_at (λ _. models.Same) nothing_at) (kind_at 2 (made_at (λ _. models.Other) nothing_at) no_kind)) (model_kind t) rest ≡ Some (t, rest)
model_reads models.Any rest good = refl
model_reads models.Same rest good = refl
model_reads models.Other rest good = refl

model_spelled : (t : ModelTest) → model_kind t ∷ [] ≡ model_test_bytes t
unfolding model_test_bytes
model_spelled models.Any = refl
model_spelled models.Same = refl
model_spelled models.Other = refl

pub model_test : IsFormat ModelTest model_test_at model_test_bytes (λ _. Unit {0})
unfolding model_test_at
model_test =
    spelled_as
    (kinds_format {kind = model_kind} {fields = λ _. []} {good = λ _. Unit {0}}
    (with_kind 0 (λ _. models.Any) nothing (λ _. refl) (λ _. refl) (λ _ p. p)
    (with_kind 1 (λ _. models.Same) nothing (λ _. refl) (λ _. refl) (λ _ p. p)
    (with_kind 2 (λ _. models.Other) nothing (λ _. refl) (λ _. refl) (λ _ p. p) no_kinds)))
    model_reads)
    model_test_bytes model_spelled

pub distance : IsFormat ℕ distance_at short_bytes IsDistance
unfolding distance_at
distance =
    good_as (checked short (λ distance. leb distance MOST_DISTANCE)) IsDistance (λ x p. leb-true _ _ p.1)
    (λ x p. (omega arith, le-leb _ _ p))

abbrev rule_kind_kind : RuleKind → ℕ
rule_kind_kind (Clash d) = 0
rule_kind_kind Ignore = 1
rule_kind_kind Pierce = 2

abbrev rule_kind_fields : RuleKind → List ℕ
rule_kind_fields (Clash d) = short_bytes d
rule_kind_fields Ignore = []
rule_kind_fields Pierce = []

rule_kind_reads : (k : RuleKind) (rest : List ℕ) → FitsRuleKind k → kind_at 0 (made_at (λ distance. Clash distance) distance_at) (kind_at 1 (made_at (λ _. Ignore) nothing_at) (kind_at 2 (made_at (λ _. Pierce) nothing_at) no_kind)) (rule_kind_kind k) (rule_kind_fields k ++ rest) ≡ Some (k, rest)
rule_kind_reads (Clash d) rest good = into_again distance (λ d. Clash d) d rest good
rule_kind_reads Ignore rest good = refl
rule_kind_reads Pierce rest good = refl

rule_kind_spelled : (k : RuleKind) → rule_kind_kind k ∷ rule_kind_fields k ≡ rule_kind_bytes k
unfolding rule_kind_bytes
rule_kind_spelled (Clash d) = refl
rule_kind_spelled Ignore = refl
rule_kind_spelled Pierce = refl

pub rule_kind : IsFormat RuleKind rule_kind_at rule_kind_bytes FitsRuleKind
unfolding rule_kind_at
rule_kind =
    spelled_as
    (kinds_format {kind = rule_kind_kind} {fields = rule_kind_fields} {good = FitsRuleKind}
    (with_kind 0 (λ d. Clash d) distance (λ _. refl) (λ _. refl) (λ _ p. p)
    (with_kind 1 (λ _. Ignore) nothing (λ _. refl) (λ _. refl) (λ _ p. p)
    (with_kind 2 (λ _. Pierce) nothing (λ _. refl) (λ _. refl) (λ _ p. p) no_kinds)))
    rule_kind_reads)
    rule_kind_bytes rule_kind_spelled

level_there : (o : Option (List ℕ)) → IfSome o FitsText × (is_level o ≡ true) → IfSome o FitsLevel
level_there None p = tt
level_there (Some level) p = (p.0, leb-true _ _ p.1)

level_back : (o : Option (List ℕ)) → IfSome o FitsLevel → IfSome o FitsText × (is_level o ≡ true)
level_back None p = (tt, refl)
level_back (Some level) p = (p.0, le-leb _ _ p.1)

pub level : IsFormat (Option (List ℕ)) level_at (optional_bytes text_bytes) (λ o. IfSome o FitsLevel)
unfolding level_at
level = good_as (checked (optional text) is_level) (λ o. IfSome o FitsLevel) level_there level_back

pub rule : IsFormat Rule rule_at rule_bytes FitsRule
unfolding rule_at rule_bytes
rule =
    made (both class_test (both class_test (both storey_test (both level (both model_test rule_kind)))))
    (λ p. record {
      a = p.0;
      b = p.1.0;
      storey = p.1.1.0;
      level = p.1.1.1.0;
      models = p.1.1.1.1.0;
      kind = p.1.1.1.1.1;
    })
    (λ (r : Rule). (r.a, (r.b, (r.storey, (r.level, (r.models, r.kind))))))
    (λ x p. refl)
    (λ x p. (p.0, (p.1.0, (p.1.1.1.0, p.1.1.1.1.1))))
    (λ y p. refl)
    (λ y p. (p.0, (p.1.0, (tt, (p.1.1.0, (tt, p.1.1.1))))))

pub rules : IsFormat (List Rule) rules_at (counted_bytes rule_bytes) FitsRules
unfolding rules_at
rules =
    good_as (checked (counted rule) (λ rules. leb (length rules) MOST_RULES)) FitsRules
    (λ x p. (leb-true _ _ p.1, p.0.1))
    (λ x p. ((omega arith, p.1), le-leb _ _ p.0))

-- ---- topics, comments and viewpoints

pub author : IsFormat Author author_at author_bytes FitsAuthor
unfolding author_at author_bytes
author =
    made (both text moment) (λ p. record { user = p.0; moment = p.1 })
    (λ (a : Author). (a.user, a.moment)) (λ x p. refl) (λ x p. p) (λ y p. refl) (λ y p. p)

topic_front : IsFormat TopicFront topic_front_at (λ f. text_bytes f.title ++ (optional_bytes text_bytes f.topic_type ++ (optional_bytes text_bytes f.topic_status ++ (optional_bytes text_bytes f.priority ++ optional_bytes signed_bytes f.index)))) (λ f. FitsText f.title × (IfSome f.topic_type FitsText × (IfSome f.topic_status FitsText × (IfSome f.priority FitsText × IfSome f.index IsSigned))))
unfolding topic_front_at
topic_front =
    made (both text (both (optional text) (both (optional text) (both (optional text) (optional signed)))))
    (λ p. record {
      title = p.0;
      topic_type = p.1.0;
      topic_status = p.1.1.0;
      priority = p.1.1.1.0;
      index = p.1.1.1.1;
    })
    (λ (f : TopicFront). (f.title, (f.topic_type, (f.topic_status, (f.priority, f.index)))))
    (λ x p. refl) (λ x p. p) (λ y p. refl) (λ y p. p)

topic_back : IsFormat TopicBack topic_back_at (λ b. counted_bytes text_bytes b.labels ++ (optional_bytes text_bytes b.assigned_to ++ (optional_bytes text_bytes b.stage ++ (optional_bytes text_bytes b.description ++ optional_bytes long_bytes b.due)))) (λ b. FitsList FitsText b.labels × (IfSome b.assigned_to FitsText × (IfSome b.stage FitsText × (IfSome b.description FitsText × IfSome b.due IsMoment))))
unfolding topic_back_at
topic_back =
    made (both (counted text) (both (optional text) (both (optional text) (both (optional text) (optional moment)))))
    (λ p. record {
      labels = p.0;
      assigned_to = p.1.0;
      stage = p.1.1.0;
      description = p.1.1.1.0;
      due = p.1.1.1.1;
    })
    (λ (b : TopicBack). (b.labels, (b.assigned_to, (b.stage, (b.description, b.due)))))
    (λ x p. refl) (λ x p. p) (λ y p. refl) (λ y p. p)

abbrev front_of : TopicBody → TopicFront
front_of t = record {
  title = t.title;
  topic_type = t.topic_type;
  topic_status = t.topic_status;
  priority = t.priority;
  index = t.index;
}

abbrev back_of : TopicBody → TopicBack
back_of t = record {
  labels = t.labels;
  assigned_to = t.assigned_to;
  stage = t.stage;
  description = t.description;
  due = t.due;
}

pub topic : IsFormat TopicBody topic_at topic_bytes FitsTopic
unfolding topic_at topic_bytes topic_front_bytes topic_back_bytes
topic =
    made (both topic_front topic_back) topic_by (λ (t : TopicBody). (front_of t, back_of t))
    (λ x p. refl)
    (λ x p. (p.0.0, (p.0.1.0, (p.0.1.1.0, (p.0.1.1.1.0, (p.0.1.1.1.1, p.1))))))
    (λ y p. refl)
    (λ y p. ((p.0, (p.1.0, (p.1.1.0, (p.1.1.1.0, p.1.1.1.1.0)))), p.1.1.1.1.1))

pub comment : IsFormat CommentBody comment_at comment_bytes FitsComment
unfolding comment_at comment_bytes
comment =
    made (both text (optional long)) (λ p. record { comment = p.0; viewpoint = p.1 })
    (λ (c : CommentBody). (c.comment, c.viewpoint)) (λ x p. refl) (λ x p. p) (λ y p. refl) (λ y p. p)

pub component : IsFormat Component component_at component_bytes FitsComponent
unfolding component_at component_bytes
component =
    made (both (optional guid) (both (optional text) (optional text)))
    (λ p. record { ifc_guid = p.0; originating_system = p.1.0; authoring_tool_id = p.1.1 })
    (λ (c : Component). (c.ifc_guid, (c.originating_system, c.authoring_tool_id)))
    (λ x p. refl) (λ x p. p) (λ y p. refl) (λ y p. p)

pub coloring : IsFormat Coloring coloring_at coloring_bytes FitsColoring
unfolding coloring_at coloring_bytes
coloring =
    made (both text (counted component)) (λ p. record { color = p.0; components = p.1 })
    (λ (c : Coloring). (c.color, c.components)) (λ x p. refl) (λ x p. p) (λ y p. refl) (λ y p. p)

pub view : IsFormat ViewBody view_at view_bytes FitsView
unfolding view_at view_bytes
view =
    made
    (both (optional signed) (both (counted component) (both (counted coloring) (both truth (counted component)))))
    (λ p. record {
      index = p.0;
      selection = p.1.0;
      coloring = p.1.1.0;
      default_visibility = p.1.1.1.0;
      exceptions = p.1.1.1.1;
    })
    (λ (v : ViewBody). (v.index, (v.selection, (v.coloring, (v.default_visibility, v.exceptions)))))
    (λ x p. refl)
    (λ x p. (p.0, (p.1.0, (p.1.1.0, p.1.1.1.1))))
    (λ y p. refl)
    (λ y p. (p.0, (p.1.0, (p.1.1.0, (tt, p.1.1.1)))))

-- ---- places

pub cell : IsFormat Cell cell_at cell_bytes FitsCell
unfolding cell_at cell_bytes
cell =
    made (both signed (both signed signed)) (λ p. record { x = p.0; y = p.1.0; z = p.1.1 })
    (λ (c : Cell). (c.x, (c.y, c.z))) (λ x p. refl) (λ x p. p) (λ y p. refl) (λ y p. p)

pub stamp : IsFormat Stamp stamp_at stamp_bytes FitsStamp
unfolding stamp_at stamp_bytes
stamp =
    made (both long (both short long)) (λ p. record { turn = p.0; pass = p.1.0; call = p.1.1 })
    (λ (s : Stamp). (s.turn, (s.pass, s.call))) (λ x p. refl) (λ x p. p) (λ y p. refl) (λ y p. p)
