-- What a request asks for, of the request alone.
use Rattle.std.specs.Prelude.{◌≡◌, ◌≢◌, ℕ, ◌+◌, ◌*◌, ◌^◌, List, length, sum_by, Bool, true, false, not, min, ◌-◌, if◌then◌else◌, Option, Some, None, Result, Ok, Err, option_and_then, codes, bytes_eq, ⊤}
use Rattle.std.specs.Str.{is_utf8}
use Rattle.serde_json.specs.Data.{Data}
use Rattle.serde_json.specs.Read.{read}
use Rattle.serde_json.specs.View.{view}
use Rattle.serde_json.specs.declared.value.Value.{Value}
use Rattle.bim_model.specs.declared.author.Author.{Author}
use Rattle.bim_model.specs.declared.upload.Mode.{Mode}
use Rattle.bim_model.specs.declared.rules.Rule.{Rule}
use Rattle.clash_rules.specs.declared.rule_fault.RuleFault.{RuleFault}
use Rattle.clash_rules.specs.Json.{rules_of}
use Rattle.bucket_check.specs.ClashSets.{SetValue}
use Rattle.http_frame.specs.declared.types.HttpRequest.{HttpRequest}
use Rattle.http_frame.specs.declared.types.TurnField.{TurnField}
use Rattle.http_frame.specs.declared.types.TurnField.TheVariants as turn
use Rattle.book_history.specs.declared.requests.BookRequest.{BookRequest}
use Rattle.book_history.specs.declared.requests.BookRequest.TheVariants.{ListProjects, ReadProject, ListTopics, ReadTopic, PostTopic, PutTopic, DeleteTopic, ListComments, ReadComment, PostComment, PutComment, DeleteComment, ListViews, ReadView, PostView, DeleteView, ClashTopic, Remove, SetRules, ReadVersion, ReadClashes, Finish}
use Rattle.book_history.specs.declared.requests.Wanted.{Wanted}
use Rattle.bcf_json.specs.Objects.{is_object}
use Rattle.bcf_viewpoints.specs.declared.component.Coloring.{Coloring}
use Rattle.bcf_viewpoints.specs.declared.view.ViewBody.{ViewBody}
use Rattle.bcf_bodies.specs.declared.body_fault.BodyFault.{BodyFault}
use Rattle.bcf_bodies.specs.TopicBodies.{topic_body}
use Rattle.bcf_bodies.specs.CommentBodies.{comment_body}
use Rattle.bcf_bodies.specs.ViewBodies.{view_body}
use Rattle.http_routes.specs.declared.query.QueryName.{QueryName}
use Rattle.http_routes.specs.declared.query.QueryName.TheVariants.{Grid}
use Rattle.http_routes.specs.declared.query.Page.{Page}
use Rattle.bcf_http.specs.declared.asked.RequestFault.{RequestFault}
use Rattle.bcf_http.specs.declared.asked.RequestFault.TheVariants.{NoRoute, Method, Encoding, Query, BadTurn, BadJson, Rules, Body}
use Rattle.bcf_http.specs.declared.asked.Refusal.{Refusal}
use Rattle.bcf_http.specs.declared.asked.Refusal.TheVariants.{Fault, Memory}
use Rattle.bcf_http.specs.declared.asked.Action.{Action}
use Rattle.bcf_http.specs.declared.asked.Action.TheVariants.{Call, Build, AskList}
use Rattle.http_routes.specs.Paths.{has_method}
use Rattle.http_routes.specs.Targets.{query_of}
use Rattle.http_routes.specs.Queries.{grid_asked, page_asked}
use Rattle.http_routes.specs.declared.list_query.ListAsked.{ListAsked}
use Rattle.http_routes.specs.ListQueries.{list_asked}
use Rattle.http_routes.specs.declared.resource.Resource.{Resource}
use Rattle.http_routes.specs.declared.resource.TopicPlace.{TopicPlace}
use Rattle.http_routes.specs.declared.resource.TopicPlace.TheVariants as place
use Rattle.http_routes.specs.Resources.{Place, projects, project, topics, of_topic, model, rules, version, clashes, clash, place_lent, row_of, place_of}

-- the tree, where it is an object
abbrev pub if_object : Data → Option Data
if_object tree = if is_object tree then Some tree else None

-- the object that a body spells as JSON, as serde_json reads it
unfoldable pub object_of : List ℕ → Option Data
object_of body = if is_utf8 body then option_and_then if_object (read body) else None

-- a fault of a body as one of its request
abbrev pub with_fault : {A : Type 0} → Result A BodyFault → Result A RequestFault
with_fault (Ok body) = Ok body
with_fault (Err fault) = Err (Body fault)

-- what a body is read as, or its first fault: no object, then what its members say
abbrev pub asked_as : {A : Type 0} → (Data → Result A BodyFault) → Option Data → Result A RequestFault
asked_as reading None = Err BadJson
asked_as reading (Some tree) = with_fault (reading tree)

-- the call that a body asks for, or its fault
abbrev pub call_with : {A : Type 0} → (A → BookRequest) → Result A RequestFault → Result Action RequestFault
call_with ask (Ok body) = Ok (Call (ask body))
call_with ask (Err fault) = Err fault

-- who asks, and when
abbrev pub author_of : ℕ → HttpRequest → Author
author_of moment request = record { user = request.user; moment = moment }

-- the greatest weight
abbrev pub greatest : ℕ
greatest = 2 ^ 64 - 1

-- how many colorings there are, and components that have their colors
abbrev pub colored_weight : List Coloring → ℕ
colored_weight colorings = sum_by (λ (c : Coloring). 1 + length c.components) colorings

-- the weight of a viewpoint: 256 for each of its components and each of its colorings, or the greatest
abbrev pub view_weight : ViewBody → ℕ
view_weight body =
    min greatest (256 * (colored_weight body.coloring + length body.selection + length body.exceptions))

-- the request has that method
abbrev pub is_method : HttpRequest → List ℕ → Bool
is_method request name = bytes_eq request.method name

-- the list of topics that a query asks for
abbrev pub list_call : ℕ → Result ListAsked QueryName → Result Action RequestFault
list_call p (Ok asked) = Ok (AskList p asked false)
list_call p (Err name) = Err (Query name)

-- what is asked of the topics of a project: one more by POST, else a list of them
abbrev pub topics_call : ℕ → HttpRequest → ℕ → Result Action RequestFault
topics_call moment request p =
    if is_method request (codes "POST")
    then call_with (λ body. PostTopic p body (author_of moment request) (length request.body))
    (asked_as topic_body (object_of request.body))
    else list_call p (list_asked (query_of request.target))

-- what is asked of a topic: to put another body in its place, to delete it, else to read it
abbrev pub topic_call : ℕ → HttpRequest → ℕ → ℕ → Result Action RequestFault
topic_call moment request p t =
    if is_method request (codes "PUT")
    then call_with (λ body. PutTopic p t body (author_of moment request) (length request.body))
    (asked_as topic_body (object_of request.body))
    else Ok (Call (if is_method request (codes "DELETE") then DeleteTopic p t else ReadTopic p t))

-- what is asked of the comments on a topic: one more by POST, else all of them
abbrev pub comments_call : ℕ → HttpRequest → ℕ → ℕ → Result Action RequestFault
comments_call moment request p t =
    if is_method request (codes "POST")
    then call_with (λ body. PostComment p t body (author_of moment request) (length request.body))
    (asked_as comment_body (object_of request.body))
    else Ok (Call (ListComments p t))

-- what is asked of a comment on a topic: to put another body in its place, to delete it, else to read it
abbrev pub comment_call : ℕ → HttpRequest → ℕ → ℕ → ℕ → Result Action RequestFault
comment_call moment request p t c =
    if is_method request (codes "PUT")
    then call_with (λ body. PutComment p t c body (author_of moment request) (length request.body))
    (asked_as comment_body (object_of request.body))
    else Ok (Call (if is_method request (codes "DELETE") then DeleteComment p t c else ReadComment p t c))

-- what is asked of the viewpoints of a topic: one more by POST, else all of them
abbrev pub views_call : HttpRequest → ℕ → ℕ → Result Action RequestFault
views_call request p t =
    if is_method request (codes "POST")
    then call_with (λ body. PostView p t body (view_weight body))
    (asked_as view_body (object_of request.body))
    else Ok (Call (ListViews p t))

-- what is asked of a viewpoint: to delete it, else to read it; which part is printed is the response's
abbrev pub view_call : HttpRequest → ℕ → ℕ → ℕ → BookRequest
view_call request p t w = if is_method request (codes "DELETE") then DeleteView p t w else ReadView p t w

-- what is asked of what belongs to a topic
abbrev pub call_of_topic : ℕ → HttpRequest → ℕ → ℕ → TopicPlace → Result Action RequestFault
call_of_topic moment request p t place.Whole = topic_call moment request p t
call_of_topic moment request p t place.Comments = comments_call moment request p t
call_of_topic moment request p t (place.Comment c) = comment_call moment request p t c
call_of_topic moment request p t place.Views = views_call request p t
call_of_topic moment request p t (place.View w part) = Ok (Call (view_call request p t w))

-- what is asked of a model: by PUT it is to be built of the body and put into the project under its name, else it is
-- removed
abbrev pub model_asked : HttpRequest → ℕ → List ℕ → Mode → Result Action RequestFault
model_asked request p name mode =
    if bytes_eq request.method (codes "PUT") then Ok (Build p name mode request.body)
    else Ok (Call (Remove p name))

-- the same, where the query says well how lengths come on the grid
abbrev pub model_asked_by : HttpRequest → ℕ → List ℕ → Option Mode → Result Action RequestFault
model_asked_by request p name None = Err (Query Grid)
model_asked_by request p name (Some mode) = model_asked request p name mode

-- a fault of clash rules as one of its request
abbrev pub with_rule_fault : Result (List Rule) RuleFault → Result (List Rule) RequestFault
with_rule_fault (Ok asked) = Ok asked
with_rule_fault (Err fault) = Err (Rules fault)

-- the clash rules that a body asks for, or its first fault: no object, then what its members say
abbrev pub rules_asked : Option Data → Result (List Rule) RequestFault
rules_asked None = Err BadJson
rules_asked (Some tree) = with_rule_fault (rules_of tree)

-- the call that sets clash rules, or the fault of the body
abbrev pub rules_call : HttpRequest → ℕ → Result (List Rule) RequestFault → Result Action RequestFault
rules_call request p (Ok asked) = Ok (Call (SetRules p asked (length request.body)))
rules_call request p (Err fault) = Err fault

-- the clashes of a version that the query asks for
abbrev pub clashes_call : ℕ → Wanted → Result Page QueryName → Result Action RequestFault
clashes_call p wanted (Ok page) = Ok (Call (ReadClashes p wanted page.first page.count))
clashes_call p wanted (Err name) = Err (Query name)

-- what is asked for at a place, by a method of its row; the body is passed over where a topic is made of a clash, and
-- weighs its length
abbrev pub place_asked : ℕ → HttpRequest → Place → Result Action RequestFault
place_asked moment request projects = Ok (Call ListProjects)
place_asked moment request (project p) = Ok (Call (ReadProject p))
place_asked moment request (topics p) = topics_call moment request p
place_asked moment request (of_topic p t named) = call_of_topic moment request p t named
place_asked moment request (model p name) =
    model_asked_by request p name (grid_asked (query_of request.target))
place_asked moment request (rules p) = rules_call request p (rules_asked (object_of request.body))
place_asked moment request (version p wanted) = Ok (Call (ReadVersion p wanted))
place_asked moment request (clashes p wanted) = clashes_call p wanted (page_asked (query_of request.target))
place_asked moment request (clash p wanted n) =
    Ok (Call (ClashTopic p wanted n (author_of moment request) (length request.body)))

-- the place that a request names, or the first of these faults: it names none, the row hasn't its method, its body is
-- encoded
abbrev pub judged : HttpRequest → Option Place → Result Place RequestFault
judged request None = Err NoRoute
judged request (Some place) =
    if not (has_method (row_of place) request.method) then Err (Method (row_of place))
    else (if request.encoded then Err Encoding else Ok place)

-- the same of what is lent
abbrev pub IsJudged : Result Resource RequestFault → Result Place RequestFault → Type 0
IsJudged (Ok resource) meant = meant ≡ Ok (place_lent resource)
IsJudged (Err fault) meant = meant ≡ Err fault

-- what is asked for at the place that a request names
abbrev pub asked_at : ℕ → HttpRequest → Result Place RequestFault → Result Action RequestFault
asked_at moment request (Ok place) = place_asked moment request place
asked_at moment request (Err fault) = Err fault

-- what a request asks for at a moment, or its first fault, if the turn that it gives is passed over
unfoldable pub asked_without_turn : ℕ → HttpRequest → Result Action RequestFault
asked_without_turn moment request = asked_at moment request (judged request (place_of request.target))

-- the same where that turn is bad: this is the fault, unless the target, the method, the encoding or the query has one;
-- of a list it is told, since the texts of the query are judged before it
abbrev pub with_bad_turn : Result Action RequestFault → Result Action RequestFault
with_bad_turn (Err NoRoute) = Err NoRoute
with_bad_turn (Err (Method row)) = Err (Method row)
with_bad_turn (Err Encoding) = Err Encoding
with_bad_turn (Err (Query name)) = Err (Query name)
with_bad_turn (Ok (AskList p asked bad_turn)) = Ok (AskList p asked true)
with_bad_turn _ = Err BadTurn

-- the same, by the turn
abbrev pub with_turn : TurnField → Result Action RequestFault → Result Action RequestFault
with_turn turn.Bad asked = with_bad_turn asked
with_turn _ asked = asked

-- what a request asks for at a moment, or the first fault that the request alone decides
unfoldable pub asked_by : ℕ → HttpRequest → Result Action RequestFault
asked_by moment request = with_turn request.seen (asked_without_turn moment request)

-- the answer is what is meant, or out of memory
abbrev pub IsAskedAs : Result Action Refusal → Result Action RequestFault → Type 0
IsAskedAs (Ok action) meant = meant ≡ Ok action
IsAskedAs (Err (Fault fault)) meant = meant ≡ Err fault
IsAskedAs (Err Memory) meant = ⊤

-- the value is the one that is there, or nothing is there, or out of memory
abbrev pub IsTreeOf : Result Value Refusal → Option Data → Type 0
IsTreeOf (Ok value) meant = meant ≡ Some (view value)
IsTreeOf (Err (Fault fault)) meant = (fault ≡ BadJson) × (meant ≡ None)
IsTreeOf (Err Memory) meant = ⊤

-- what is read of a body, or its fault, is what is meant, or out of memory
abbrev pub IsMeantAs : {A : Type 0} → Result A Refusal → Result A RequestFault → Type 0
IsMeantAs (Ok body) meant = meant ≡ Ok body
IsMeantAs (Err (Fault fault)) meant = meant ≡ Err fault
IsMeantAs (Err Memory) meant = ⊤

-- a call of the book that may be made at every history: it brings no set of a bucket
abbrev pub BringsNone : BookRequest → Type 0
BringsNone call = (set : SetValue) → call ≢ Finish set

-- the same of what a request asks for
abbrev pub AsksNone : Action → Type 0
AsksNone (Call call) = BringsNone call
AsksNone (Build p name mode body) = Unit {0}
AsksNone (AskList p asked bad_turn) = Unit {0}
