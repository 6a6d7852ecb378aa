-- What a request asks for brings no set of a bucket.
use Rattle.std.proofs.Common.{ℕ, List, Bool, true, false, if◌then◌else◌, Option, Some, None, Result, Ok, Err, IfOk, codes, bytes_eq, subst}
use Rattle.bim_model.specs.declared.upload.Mode.{Mode}
use Rattle.bim_model.specs.declared.rules.Rule.{Rule}
use Rattle.book_history.specs.declared.requests.Wanted.{Wanted}
use Rattle.http_frame.specs.declared.types.HttpRequest.{HttpRequest}
use Rattle.http_frame.specs.declared.types.TurnField.{TurnField}
use Rattle.http_frame.specs.declared.types.TurnField.TheVariants as turn
use Rattle.http_routes.specs.declared.query.QueryName.{QueryName}
use Rattle.http_routes.specs.declared.query.Page.{Page}
use Rattle.bcf_http.specs.declared.asked.RequestFault.{RequestFault}
use Rattle.bcf_http.specs.declared.asked.RequestFault.TheVariants.{NoRoute, Method, Encoding, Query}
use Rattle.bcf_http.specs.declared.asked.Refusal.{Refusal}
use Rattle.bcf_http.specs.declared.asked.Refusal.TheVariants.{Fault, Memory}
use Rattle.bcf_http.specs.declared.asked.Action.{Action}
use Rattle.bcf_http.specs.declared.asked.Action.TheVariants.{Call, Build, AskList}
use Rattle.book_history.specs.declared.requests.BookRequest.{BookRequest}
use Rattle.book_history.specs.declared.requests.BookRequest.TheVariants.{ReadTopic, DeleteTopic, ReadComment, DeleteComment, ReadView, DeleteView, Remove}
use Rattle.bcf_bodies.specs.TopicBodies.{topic_body}
use Rattle.bcf_bodies.specs.CommentBodies.{comment_body}
use Rattle.bcf_bodies.specs.ViewBodies.{view_body}
use Rattle.http_routes.specs.Targets.{query_of}
use Rattle.http_routes.specs.Queries.{grid_asked, page_asked}
use Rattle.http_routes.specs.declared.list_query.ListAsked.{ListAsked}
use Rattle.http_routes.specs.ListQueries.{list_asked}
use Rattle.http_routes.specs.declared.resource.TopicPlace.{TopicPlace}
use Rattle.http_routes.specs.declared.resource.TopicPlace.TheVariants as place
use Rattle.http_routes.specs.Resources.{Place, projects, project, topics, of_topic, model, rules, version, clashes, clash, place_of}
use Rattle.bcf_http.specs.Asked.{object_of, is_method, asked_as, call_with, list_call, topics_call, topic_call, comments_call, comment_call, views_call, call_of_topic, model_asked, model_asked_by, rules_asked, rules_call, clashes_call, place_asked, judged, asked_at, asked_without_turn, with_bad_turn, with_turn, asked_by, IsAskedAs, BringsNone, AsksNone}

abbrev AllNone : Result Action RequestFault → Type 0
AllNone r = IfOk r AsksNone

-- of two, one
either_none : (b : Bool) (x y : Result Action RequestFault) → AllNone x → AllNone y → AllNone (if b then x else y)
either_none true x y one other = one
either_none false x y one other = other

one_none : (b : Bool) (x y : BookRequest) → BringsNone x → BringsNone y → BringsNone (if b then x else y)
one_none true x y one other = one
one_none false x y one other = other

-- what a body asks for
with_none : {A : Type 0} (ask : A → BookRequest) (r : Result A RequestFault) → ((body : A) → BringsNone (ask body)) → AllNone (call_with ask r)
with_none ask (Ok body) none = none body
with_none ask (Err fault) none = tt

-- a list
list_none : (p : ℕ) (r : Result ListAsked QueryName) → AllNone (list_call p r)
list_none p (Ok asked) = tt
list_none p (Err name) = tt

topics_none : (moment : ℕ) (request : HttpRequest) (p : ℕ) → AllNone (topics_call moment request p)
topics_none moment request p =
    either_none (is_method request (codes "POST")) _ _ (with_none _ (asked_as topic_body (object_of request.body)) (λ body set e. cc)) (list_none p (list_asked (query_of request.target)))

topic_none : (moment : ℕ) (request : HttpRequest) (p t : ℕ) → AllNone (topic_call moment request p t)
topic_none moment request p t =
    either_none (is_method request (codes "PUT")) _ _ (with_none _ (asked_as topic_body (object_of request.body)) (λ body set e. cc))
    (one_none (is_method request (codes "DELETE")) (DeleteTopic p t) (ReadTopic p t) (λ set e. cc) (λ set e. cc))

comments_none : (moment : ℕ) (request : HttpRequest) (p t : ℕ) → AllNone (comments_call moment request p t)
comments_none moment request p t =
    either_none (is_method request (codes "POST")) _ _ (with_none _ (asked_as comment_body (object_of request.body)) (λ body set e. cc)) (λ set e. cc)

comment_none : (moment : ℕ) (request : HttpRequest) (p t c : ℕ) → AllNone (comment_call moment request p t c)
comment_none moment request p t c =
    either_none (is_method request (codes "PUT")) _ _ (with_none _ (asked_as comment_body (object_of request.body)) (λ body set e. cc))
    (one_none (is_method request (codes "DELETE")) (DeleteComment p t c) (ReadComment p t c) (λ set e. cc) (λ set e. cc))

views_none : (request : HttpRequest) (p t : ℕ) → AllNone (views_call request p t)
views_none request p t =
    either_none (is_method request (codes "POST")) _ _ (with_none _ (asked_as view_body (object_of request.body)) (λ body set e. cc)) (λ set e. cc)

of_topic_none : (moment : ℕ) (request : HttpRequest) (p t : ℕ) (named : TopicPlace) → AllNone (call_of_topic moment request p t named)
of_topic_none moment request p t place.Whole = topic_none moment request p t
of_topic_none moment request p t place.Comments = comments_none moment request p t
of_topic_none moment request p t (place.Comment c) = comment_none moment request p t c
of_topic_none moment request p t place.Views = views_none request p t
of_topic_none moment request p t (place.View w part) =
    one_none (is_method request (codes "DELETE")) (DeleteView p t w) (ReadView p t w) (λ set e. cc) (λ set e. cc)

put_none : (request : HttpRequest) (p : ℕ) (name : List ℕ) (mode : Mode) → AllNone (model_asked request p name mode)
put_none request p name mode = by (bytes_eq request.method (codes "PUT"))
  where
    by : (b : Bool) → AllNone (if b then Ok (Build p name mode request.body) else Ok (Call (Remove p name)))
    by true = tt
    by false = λ set e. cc

model_none : (request : HttpRequest) (p : ℕ) (name : List ℕ) (mode : Option Mode) → AllNone (model_asked_by request p name mode)
model_none request p name None = tt
model_none request p name (Some mode) = put_none request p name mode

rules_none : (request : HttpRequest) (p : ℕ) (r : Result (List Rule) RequestFault) → AllNone (rules_call request p r)
rules_none request p (Ok rs) = λ set e. cc
rules_none request p (Err fault) = tt

clashes_none : (p : ℕ) (wanted : Wanted) (r : Result Page QueryName) → AllNone (clashes_call p wanted r)
clashes_none p wanted (Ok page) = λ set e. cc
clashes_none p wanted (Err name) = tt

at_none : (moment : ℕ) (request : HttpRequest) (place : Place) → AllNone (place_asked moment request place)
at_none moment request projects = λ set e. cc
at_none moment request (project p) = λ set e. cc
at_none moment request (topics p) = topics_none moment request p
at_none moment request (of_topic p t named) = of_topic_none moment request p t named
at_none moment request (model p name) = model_none request p name (grid_asked (query_of request.target))
at_none moment request (rules p) = rules_none request p (rules_asked (object_of request.body))
at_none moment request (version p wanted) = λ set e. cc
at_none moment request (clashes p wanted) = clashes_none p wanted (page_asked (query_of request.target))
at_none moment request (clash p wanted n) = λ set e. cc

asked_at_none : (moment : ℕ) (request : HttpRequest) (named : Result Place RequestFault) → AllNone (asked_at moment request named)
asked_at_none moment request (Ok place) = at_none moment request place
asked_at_none moment request (Err fault) = tt

-- a bad turn asks for nothing
bad_turn_none : (r : Result Action RequestFault) → AllNone (with_bad_turn r)
bad_turn_none (Ok (Call call)) = tt
bad_turn_none (Ok (Build p name mode body)) = tt
bad_turn_none (Ok (AskList p asked bad_turn)) = tt
bad_turn_none (Err NoRoute) = tt
bad_turn_none (Err (Method row)) = tt
bad_turn_none (Err Encoding) = tt
bad_turn_none (Err (Query name)) = tt
bad_turn_none (Err _) = tt

turn_none : (seen : TurnField) (r : Result Action RequestFault) → AllNone r → AllNone (with_turn seen r)
turn_none turn.Bad r none = bad_turn_none r
turn_none _ r none = none

without_turn_none : (moment : ℕ) (request : HttpRequest) → AllNone (asked_without_turn moment request)
unfolding asked_without_turn
without_turn_none moment request = asked_at_none moment request (judged request (place_of request.target))

all_none : (moment : ℕ) (request : HttpRequest) → AllNone (asked_by moment request)
unfolding asked_by
all_none moment request = turn_none request.seen (asked_without_turn moment request) (without_turn_none moment request)

pub asked_none : (moment : ℕ) (request : HttpRequest) (r : Result Action Refusal) → IsAskedAs r (asked_by moment request) → IfOk r AsksNone
asked_none moment request (Ok call) is = subst AllNone is (all_none moment request)
asked_none moment request (Err (Fault fault)) is = tt
asked_none moment request (Err Memory) is = tt
