-- Which entries a frame can spell: those whose numbers and counts fit their bytes, and whose parts keep the
-- rules of their types. Of a part that is made of others it is said of each, in their order.
use Rattle.std.specs.Prelude.{ℕ, ℤ, ◌<◌, ◌≤◌, ◌^◌, List, length, All, IfSome, FitsSigned}
use Rattle.std.specs.Int.{w32}
use Rattle.std.specs.Str.{IsUtf8}
use Rattle.bim_model.specs.Guids.{IsGuid}
use Rattle.bim_model.specs.Models.{IsModel}
use Rattle.bim_model.specs.Moments.{IsMoment}
use Rattle.bim_model.specs.Distances.{IsDistance}
use Rattle.bim_model.specs.Rules.{IsClassName}
use Rattle.bim_model.specs.declared.limits.TheConstants.{MOST_RULES, MOST_LEVEL}
use Rattle.bim_model.specs.declared.author.Author.{Author}
use Rattle.bim_model.specs.declared.element.Element.{Element}
use Rattle.bim_model.specs.declared.geometry.Point.{Point}
use Rattle.bim_model.specs.declared.geometry.Triangle.{Triangle}
use Rattle.bim_model.specs.declared.guid.Guid.{Guid}
use Rattle.bim_model.specs.declared.rules.ClassTest.{ClassTest}
use Rattle.bim_model.specs.declared.rules.ClassTest.TheVariants as class
use Rattle.bim_model.specs.declared.rules.RuleKind.{RuleKind}
use Rattle.bim_model.specs.declared.rules.RuleKind.TheVariants.{Clash, Pierce, Ignore}
use Rattle.bim_model.specs.declared.rules.Rule.{Rule}
use Rattle.bcf_topics.specs.declared.topic_body.TopicBody.{TopicBody}
use Rattle.bcf_topics.specs.declared.comment.CommentBody.{CommentBody}
use Rattle.bcf_viewpoints.specs.declared.component.Component.{Component}
use Rattle.bcf_viewpoints.specs.declared.component.Coloring.{Coloring}
use Rattle.bcf_viewpoints.specs.declared.view.ViewBody.{ViewBody}
use Rattle.bucket_grid.specs.declared.cell.Cell.{Cell}
use Rattle.book_turn.specs.declared.object.Stamp.{Stamp}
use Rattle.book_history.specs.declared.changes.Change.{Change}
use Rattle.book_history.specs.declared.changes.Change.TheVariants as change
use Rattle.book_history.specs.declared.changes.Entry.{Entry}
use Rattle.feed_frames.specs.EntryBytes.{payload}

-- a number of eight bytes
abbrev pub IsLong : ℕ → Type 0
IsLong n = n < 2 ^ 64

-- a number of four bytes
abbrev pub IsShort : ℕ → Type 0
IsShort n = n < 2 ^ 32

-- a number with a sign of four bytes
abbrev pub IsSigned : ℤ → Type 0
IsSigned z = FitsSigned w32 z

-- a text: UTF-8
abbrev pub FitsText : List ℕ → Type 0
FitsText text = IsLong (length text) × IsUtf8 text

-- a list whose items each fit
abbrev pub FitsList : {A : Type 0} → (A → Type 0) → List A → Type 0
FitsList fits items = IsLong (length items) × All fits items

-- the characters of an identifier
abbrev pub FitsGuid : Guid → Type 0
FitsGuid g = IsGuid g.chars

-- a point
abbrev pub FitsPoint : Point → Type 0
FitsPoint p = IsSigned p.x × (IsSigned p.y × IsSigned p.z)

-- a triangle
abbrev pub FitsTriangle : Triangle → Type 0
FitsTriangle t = FitsPoint t.a × (FitsPoint t.b × FitsPoint t.c)

-- an element of a model
abbrev pub FitsElement : Element → Type 0
FitsElement e =
    FitsGuid e.guid
    × (FitsText e.class
    × (FitsText e.name × (IfSome e.storey FitsText × FitsList FitsTriangle e.triangles)))

-- which classes one side of a rule takes
abbrev pub FitsClassTest : ClassTest → Type 0
FitsClassTest class.Any = Unit {0}
FitsClassTest (class.Named name) = FitsText name × IsClassName name

-- the storey of a rule
abbrev pub FitsLevel : List ℕ → Type 0
FitsLevel level = FitsText level × (length level ≤ MOST_LEVEL)

-- what a rule says
abbrev pub FitsRuleKind : RuleKind → Type 0
FitsRuleKind (Clash distance) = IsDistance distance
FitsRuleKind Ignore = Unit {0}
FitsRuleKind Pierce = Unit {0}

-- a clash rule
abbrev pub FitsRule : Rule → Type 0
FitsRule r =
    FitsClassTest r.a × (FitsClassTest r.b × (IfSome r.level FitsLevel × FitsRuleKind r.kind))

-- the rules of a project
abbrev pub FitsRules : List Rule → Type 0
FitsRules rules = (length rules ≤ MOST_RULES) × All FitsRule rules

-- who made a change, and when
abbrev pub FitsAuthor : Author → Type 0
FitsAuthor a = FitsText a.user × IsMoment a.moment

-- what is said of a topic
abbrev pub FitsTopic : TopicBody → Type 0
FitsTopic t =
    FitsText t.title
    × (IfSome t.topic_type FitsText
    × (IfSome t.topic_status FitsText
    × (IfSome t.priority FitsText
    × (IfSome t.index IsSigned
    × (FitsList FitsText t.labels
    × (IfSome t.assigned_to FitsText
    × (IfSome t.stage FitsText × (IfSome t.description FitsText × IfSome t.due IsMoment))))))))

-- what is said in a comment
abbrev pub FitsComment : CommentBody → Type 0
FitsComment c = FitsText c.comment × IfSome c.viewpoint IsLong

-- a component of a viewpoint
abbrev pub FitsComponent : Component → Type 0
FitsComponent c =
    IfSome c.ifc_guid FitsGuid
    × (IfSome c.originating_system FitsText × IfSome c.authoring_tool_id FitsText)

-- a color and its components
abbrev pub FitsColoring : Coloring → Type 0
FitsColoring c = FitsText c.color × FitsList FitsComponent c.components

-- what is said in a viewpoint
abbrev pub FitsView : ViewBody → Type 0
FitsView v =
    IfSome v.index IsSigned
    × (FitsList FitsComponent v.selection
    × (FitsList FitsColoring v.coloring × FitsList FitsComponent v.exceptions))

-- the numbers of a cell
abbrev pub FitsCell : Cell → Type 0
FitsCell c = IsSigned c.x × (IsSigned c.y × IsSigned c.z)

-- who made a change, and what the text of its request weighs
abbrev pub FitsSource : Author → ℕ → Type 0
FitsSource author weight = FitsAuthor author × IsLong weight

-- a change, but for what its elements are together
abbrev pub FitsChange : Change → Type 0
FitsChange (change.Upload name model) = FitsText name × FitsList FitsElement model
FitsChange (change.Remove name) = FitsText name
FitsChange (change.SetRules rules weight) = FitsRules rules × IsLong weight
FitsChange (change.BucketDone version cell) = IsLong version × FitsCell cell
FitsChange (change.PostTopic body author weight) = FitsTopic body × FitsSource author weight
FitsChange (change.PutTopic topic body author weight) =
    IsLong topic × (FitsTopic body × FitsSource author weight)
FitsChange (change.DeleteTopic topic) = IsLong topic
FitsChange (change.PostComment topic body author weight) =
    IsLong topic × (FitsComment body × FitsSource author weight)
FitsChange (change.PutComment topic comment body author weight) =
    IsLong topic × (IsLong comment × (FitsComment body × FitsSource author weight))
FitsChange (change.DeleteComment topic comment) = IsLong topic × IsLong comment
FitsChange (change.PostView topic body weight) = IsLong topic × (FitsView body × IsLong weight)
FitsChange (change.DeleteView topic view) = IsLong topic × IsLong view
FitsChange (change.ClashTopic version place author weight) =
    IsLong version × (IsLong place × FitsSource author weight)

-- the elements of an upload are a building model
abbrev pub UploadsModel : Change → Type 0
UploadsModel (change.Upload name model) = IsModel model
UploadsModel _ = Unit {0}

-- the same of an entry
abbrev pub UploadsModelOf : Entry → Type 0
UploadsModelOf e = UploadsModel e.change

-- the call that made an entry
abbrev pub FitsStamp : Stamp → Type 0
FitsStamp s = IsLong s.turn × (IsShort s.pass × IsLong s.call)

-- an entry, but for what its elements are together
abbrev pub FitsEntry : Entry → Type 0
FitsEntry e = FitsStamp e.stamp × (IsShort e.project × FitsChange e.change)

-- an entry that a frame can spell
pub record IsEntry (e : Entry) : Type 0 where
  pub fits : FitsEntry e
  pub models : UploadsModelOf e
  pub counted : IsLong (length (payload e))
