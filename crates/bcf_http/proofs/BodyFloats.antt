-- What goes out of topics, comments and viewpoints has no float.
use Rattle.std.proofs.Common.{◌≡◌, ℕ, ℤ, pos, negsuc, List, [], ◌∷◌, Bool, true, false, ◌||◌, true≢false, Option, Some, None, codes, decimal, refl, ap, ◌∙◌}
use Rattle.std.specs.declared.cmp.Ordering.{Ordering}
use Rattle.std.specs.declared.cmp.Ordering.TheVariants.{Less, Equal, Greater}
use Rattle.std.specs.Ordering.{nat_cmp, match_ordering}
use Rattle.std.specs.Cmp.Lexicographic.{slice_cmp}
use Rattle.serde_json.specs.Data.{Data, string, number, boolean, array, object, Items, no_items, item, Members, no_members, member, put}
use Rattle.serde_json.specs.Find.{of_integer}
use Rattle.serde_json.specs.Written.{has_float, items_have_float, members_have_float}
use Rattle.bim_model.specs.declared.author.Author.{Author}
use Rattle.bcf_topics.specs.declared.topic_body.TopicBody.{TopicBody}
use Rattle.bcf_topics.specs.declared.topic.Topic.{Topic}
use Rattle.bcf_topics.specs.declared.comment.Comment.{Comment}
use Rattle.bcf_viewpoints.specs.declared.component.Component.{Component}
use Rattle.bcf_viewpoints.specs.declared.component.Coloring.{Coloring}
use Rattle.bcf_viewpoints.specs.declared.part.ViewPart.{ViewPart}
use Rattle.bcf_viewpoints.specs.declared.part.ViewPart.TheVariants as part
use Rattle.bcf_viewpoints.specs.declared.view.ViewBody.{ViewBody}
use Rattle.bcf_viewpoints.specs.declared.view.ViewIs.{ViewIs}
use Rattle.bcf_json.specs.JsonTexts.{identifier_text}
use Rattle.bcf_bodies.specs.TextMembers.{put_text, put_text_if, listed}
use Rattle.bcf_bodies.specs.TopicTrees.{put_modified, put_index, put_labels, topic_base, put_words, put_rest, topic_members, IsTopicTree}
use Rattle.bcf_bodies.specs.CommentTrees.{comment_base, viewpoint_text, comment_tree, IsCommentTree}
use Rattle.bcf_bodies.specs.ViewTrees.{guid_text, component_tree, coloring_tree, visibility_tree, one_member, whole_tree, view_tree}
use Rattle.bcf_http.specs.Answers.{AreTrees}

-- data without a float
record IsPlain (d : Data) : Type 0 where
  none : has_float d ≡ false

-- members without one
record ArePlain (ms : Members) : Type 0 where
  none : members_have_float ms ≡ false

or_parts : (a b : Bool) → (a || b) ≡ false → (a ≡ false) × (b ≡ false)
or_parts true b e = absurd (true≢false e)
or_parts false b e = (refl, e)

by_order : (o : Ordering) (k l : List ℕ) (d e : Data) (ms rest : Members)
    → has_float d ≡ false → has_float e ≡ false → members_have_float ms ≡ false → members_have_float rest ≡ false
    → members_have_float (match_ordering o (member k d (member l e ms)) (member l d ms) (member l e rest)) ≡ false
by_order Less k l d e ms rest h i j m = rw (h, i, j) refl
by_order Equal k l d e ms rest h i j m = rw (h, j) refl
by_order Greater k l d e ms rest h i j m = rw (i, m) refl

-- a member that is put in
put_has_none : (k : List ℕ) (d : Data) (ms : Members) → has_float d ≡ false → members_have_float ms ≡ false
    → members_have_float (put k d ms) ≡ false
put_has_none k d no_members h j = rw h refl
put_has_none k d (member l e ms) h j =
    let parts = or_parts (has_float e) (members_have_float ms) j in
    by_order (slice_cmp nat_cmp k l) k l d e ms (put k d ms) h parts.0 parts.1 (put_has_none k d ms h parts.1)

put_plain : {d : Data} {ms : Members} (k : List ℕ) → IsPlain d → ArePlain ms → ArePlain (put k d ms)
put_plain {d} {ms} k value plain = record { none = put_has_none k d ms value.none plain.none }

-- a text that is put in
text_put : {ms : Members} (k text : List ℕ) → ArePlain ms → ArePlain (put_text k text ms)
text_put {ms} k text plain = record { none = put_has_none k (string text) ms refl plain.none }

-- the same, if there is one
text_put_if : {ms : Members} (k : List ℕ) (text : Option (List ℕ)) → ArePlain ms → ArePlain (put_text_if k text ms)
text_put_if {ms} k None plain = plain
text_put_if {ms} k (Some text) plain = text_put k text plain

no_plain : ArePlain no_members
no_plain = record { none = refl }

object_plain : {ms : Members} → ArePlain ms → IsPlain (object ms)
object_plain {ms} plain = record { none = plain.none }

text_plain : (text : List ℕ) → IsPlain (string text)
text_plain text = record { none = refl }

boolean_plain : (b : Bool) → IsPlain (boolean b)
boolean_plain b = record { none = refl }

integer_plain : (i : ℤ) → IsPlain (number (of_integer i))
integer_plain (pos n) = record { none = refl }
integer_plain (negsuc n) = record { none = refl }

-- items, none of which has one
pub items_have_none : {A : Type 0} (tree : A → Data) → ((a : A) → has_float (tree a) ≡ false) → (xs : List A)
    → items_have_float (listed tree xs) ≡ false
items_have_none tree none [] = refl
items_have_none tree none (x ∷ xs) = rw (none x, items_have_none tree none xs) refl

list_plain : {A : Type 0} (tree : A → Data) → ((a : A) → IsPlain (tree a)) → (xs : List A) → IsPlain (array (listed tree xs))
list_plain tree plain xs = record { none = items_have_none tree (λ a. (plain a).none) xs }

-- ---- topics and comments

modified_plain : {ms : Members} (author : Option Author) (date : Option (List ℕ)) → ArePlain ms → ArePlain (put_modified author date ms)
modified_plain {ms} None date plain = plain
modified_plain {ms} (Some author) None plain = plain
modified_plain {ms} (Some author) (Some date) plain = text_put (codes "modified_date") date (text_put (codes "modified_author") author.user plain)

index_plain : {ms : Members} (index : Option ℤ) → ArePlain ms → ArePlain (put_index index ms)
index_plain {ms} None plain = plain
index_plain {ms} (Some i) plain = put_plain (codes "index") (integer_plain i) plain

labels_plain : {ms : Members} (labels : List (List ℕ)) → ArePlain ms → ArePlain (put_labels labels ms)
labels_plain {ms} [] plain = plain
labels_plain {ms} (label ∷ labels) plain = put_plain (codes "labels") (list_plain {A = List ℕ} (λ text. string text) text_plain (label ∷ labels)) plain

base_plain : (project : ℕ) (topic : Topic) (created : List ℕ) → ArePlain (topic_base project topic created)
unfolding topic_base
base_plain project topic created =
    text_put (codes "creation_author") topic.created.user (text_put (codes "creation_date") created
    (text_put (codes "guid") (identifier_text project topic.serial) (text_put (codes "server_assigned_id") (decimal topic.serial)
    (text_put (codes "title") topic.body.title no_plain))))

words_plain : {ms : Members} (body : TopicBody) → ArePlain ms → ArePlain (put_words body ms)
unfolding put_words
words_plain {ms} body plain =
    text_put_if (codes "topic_type") body.topic_type (text_put_if (codes "topic_status") body.topic_status
    (text_put_if (codes "priority") body.priority (text_put_if (codes "assigned_to") body.assigned_to
    (text_put_if (codes "stage") body.stage (text_put_if (codes "description") body.description plain)))))

rest_plain : {ms : Members} (body : TopicBody) (due : Option (List ℕ)) → ArePlain ms → ArePlain (put_rest body due ms)
unfolding put_rest
rest_plain {ms} body due plain = text_put_if (codes "due_date") due (labels_plain body.labels (index_plain body.index plain))

members_plain : (project : ℕ) (topic : Topic) (created : List ℕ) (modified due : Option (List ℕ)) → ArePlain (topic_members project topic created modified due)
unfolding topic_members
members_plain project topic created modified due =
    rest_plain topic.body due (words_plain topic.body (modified_plain topic.modified modified (base_plain project topic created)))

pub topic_has_none : (project : ℕ) (topic : Topic) (tree : Data) → IsTopicTree project topic tree → has_float tree ≡ false
unfolding IsTopicTree
topic_has_none project topic tree (created, modified, due, first, second, third, is) =
    ap has_float is ∙ (members_plain project topic created modified due).none

comment_base_plain : (project : ℕ) (comment : Comment) (created : List ℕ) → ArePlain (comment_base project comment created)
unfolding comment_base
comment_base_plain project comment created =
    text_put (codes "author") comment.created.user (text_put (codes "comment") comment.body.comment (text_put (codes "date") created
    (text_put (codes "guid") (identifier_text project comment.serial) (text_put (codes "topic_guid") (identifier_text project comment.topic) no_plain))))

comment_plain : (project : ℕ) (comment : Comment) (created : List ℕ) (modified : Option (List ℕ)) → IsPlain (comment_tree project comment created modified)
unfolding comment_tree
comment_plain project comment created modified =
    object_plain (text_put_if (codes "viewpoint_guid") (viewpoint_text project comment.body.viewpoint)
    (modified_plain comment.modified modified (comment_base_plain project comment created)))

pub comment_has_none : (project : ℕ) (comment : Comment) (tree : Data) → IsCommentTree project comment tree → has_float tree ≡ false
unfolding IsCommentTree
comment_has_none project comment tree (created, modified, first, second, is) =
    ap has_float is ∙ (comment_plain project comment created modified).none

-- ---- viewpoints

component_plain : (c : Component) → IsPlain (component_tree c)
unfolding component_tree
component_plain c =
    object_plain (text_put_if (codes "authoring_tool_id") c.authoring_tool_id (text_put_if (codes "ifc_guid") (guid_text c.ifc_guid)
    (text_put_if (codes "originating_system") c.originating_system no_plain)))

coloring_plain : (c : Coloring) → IsPlain (coloring_tree c)
unfolding coloring_tree
coloring_plain c =
    object_plain (text_put (codes "color") c.color (put_plain (codes "components") (list_plain component_tree component_plain c.components) no_plain))

visibility_plain : (body : ViewBody) → IsPlain (visibility_tree body)
unfolding visibility_tree
visibility_plain body =
    object_plain (put_plain (codes "default_visibility") (boolean_plain body.default_visibility)
    (put_plain (codes "exceptions") (list_plain component_tree component_plain body.exceptions) no_plain))

member_plain : {value : Data} (name : List ℕ) → IsPlain value → IsPlain (one_member name value)
unfolding one_member
member_plain {value} name plain = object_plain (put_plain name plain no_plain)

whole_plain : (project : ℕ) (v : ViewIs) → IsPlain (whole_tree project v)
unfolding whole_tree
whole_plain project v = object_plain (index_plain v.body.index (text_put (codes "guid") (identifier_text project v.serial) no_plain))

pub whole_has_none : (project : ℕ) (v : ViewIs) → has_float (whole_tree project v) ≡ false
whole_has_none project v = (whole_plain project v).none

view_plain : (project : ℕ) (v : ViewIs) (p : ViewPart) → IsPlain (view_tree project v p)
unfolding view_tree
view_plain project v part.Whole = whole_plain project v
view_plain project v part.Selection = member_plain (codes "selection") (list_plain component_tree component_plain v.body.selection)
view_plain project v part.Coloring = member_plain (codes "coloring") (list_plain coloring_tree coloring_plain v.body.coloring)
view_plain project v part.Visibility = member_plain (codes "visibility") (visibility_plain v.body)

pub view_has_none : (project : ℕ) (v : ViewIs) (p : ViewPart) → has_float (view_tree project v p) ≡ false
view_has_none project v p = (view_plain project v p).none

-- ---- arrays

-- trees that stand for the elements of a list, of which none has one
pub trees_have_none : {A : Type 0} (IsTree : A → Data → Type 0) → ((x : A) (tree : Data) → IsTree x tree → has_float tree ≡ false)
    → (xs : List A) (items : Items) → AreTrees IsTree xs items → items_have_float items ≡ false
trees_have_none IsTree none [] no_items are = refl
trees_have_none IsTree none [] (item d ds) are = absurd are
trees_have_none IsTree none (x ∷ xs) no_items are = absurd are
trees_have_none IsTree none (x ∷ xs) (item d ds) are = rw (none x d are.0, trees_have_none IsTree none xs ds are.1) refl
