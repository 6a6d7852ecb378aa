-- The rows of the table of routes: their addresses (BCF API 3.0) and their methods (RFC 9110, 9 and 10.2.1).
use Rattle.std.specs.Prelude.{ℕ, List, [], ◌∷◌, ◌++◌, Bool, codes, fold, Result, Ok, Err, bytes_eq}
use Rattle.std.specs.List.{list_any}
use Rattle.matchit.specs.Rows.{RowsOf}
use Rattle.matchit.specs.Order.{placed}
use Rattle.matchit.specs.Route.{Scan, parse_route}
use Rattle.matchit.specs.Router.{RouteOf, route_from}
use Rattle.matchit.specs.declared.error.InsertError.{InsertError}
use Rattle.http_routes.specs.declared.paths.RoutePath.{RoutePath}
use Rattle.http_routes.specs.declared.paths.RoutePath.TheVariants.{Projects, Project, Topics, OfTopic, Model, Rules, Version, Clashes, ClashTopic}
use Rattle.http_routes.specs.declared.paths.TopicRow.{TopicRow}
use Rattle.http_routes.specs.declared.paths.TopicRow.TheVariants as topic
use Rattle.bcf_viewpoints.specs.declared.part.ViewPart.TheVariants as part

-- the address of a row for what belongs to a topic
abbrev pub topic_address : TopicRow → List ℕ
topic_address topic.Whole = codes "/bcf/3.0/projects/{p}/topics/{t}"
topic_address topic.Comments = codes "/bcf/3.0/projects/{p}/topics/{t}/comments"
topic_address topic.Comment = codes "/bcf/3.0/projects/{p}/topics/{t}/comments/{c}"
topic_address topic.Views = codes "/bcf/3.0/projects/{p}/topics/{t}/viewpoints"
topic_address (topic.View part.Whole) = codes "/bcf/3.0/projects/{p}/topics/{t}/viewpoints/{w}"
topic_address (topic.View part.Selection) = codes "/bcf/3.0/projects/{p}/topics/{t}/viewpoints/{w}/selection"
topic_address (topic.View part.Coloring) = codes "/bcf/3.0/projects/{p}/topics/{t}/viewpoints/{w}/coloring"
topic_address (topic.View part.Visibility) =
    codes "/bcf/3.0/projects/{p}/topics/{t}/viewpoints/{w}/visibility"

-- the address of a row, with its parameters in braces
abbrev pub address_of : RoutePath → List ℕ
address_of Projects = codes "/bcf/3.0/projects"
address_of Project = codes "/bcf/3.0/projects/{p}"
address_of Topics = codes "/bcf/3.0/projects/{p}/topics"
address_of (OfTopic row) = topic_address row
address_of Model = codes "/coord/1/projects/{p}/models/{name}"
address_of Rules = codes "/coord/1/projects/{p}/rules"
address_of Version = codes "/coord/1/projects/{p}/versions/{v}"
address_of Clashes = codes "/coord/1/projects/{p}/versions/{v}/clashes"
address_of ClashTopic = codes "/coord/1/projects/{p}/versions/{v}/clashes/{n}/topic"

-- the methods of such a row, in the order in which they are told
abbrev pub topic_methods : TopicRow → List (List ℕ)
topic_methods topic.Whole = codes "GET" ∷ codes "PUT" ∷ codes "DELETE" ∷ []
topic_methods topic.Comments = codes "GET" ∷ codes "POST" ∷ []
topic_methods topic.Comment = codes "GET" ∷ codes "PUT" ∷ codes "DELETE" ∷ []
topic_methods topic.Views = codes "GET" ∷ codes "POST" ∷ []
topic_methods (topic.View part.Whole) = codes "GET" ∷ codes "DELETE" ∷ []
topic_methods (topic.View part.Selection) = codes "GET" ∷ []
topic_methods (topic.View part.Coloring) = codes "GET" ∷ []
topic_methods (topic.View part.Visibility) = codes "GET" ∷ []

-- its methods, in the order in which they are told
abbrev pub methods_of : RoutePath → List (List ℕ)
methods_of Projects = codes "GET" ∷ []
methods_of Project = codes "GET" ∷ []
methods_of Topics = codes "GET" ∷ codes "POST" ∷ []
methods_of (OfTopic row) = topic_methods row
methods_of Model = codes "PUT" ∷ codes "DELETE" ∷ []
methods_of Rules = codes "PUT" ∷ []
methods_of Version = codes "GET" ∷ []
methods_of Clashes = codes "GET" ∷ []
methods_of ClashTopic = codes "POST" ∷ []

-- the row has the method
abbrev pub has_method : RoutePath → List ℕ → Bool
has_method path method = list_any (bytes_eq method) (methods_of path)

-- texts with a comma and a space between each two
abbrev pub joined : List (List ℕ) → List ℕ
joined [] = []
joined (m ∷ []) = m
joined (m ∷ n ∷ ms) = m ++ codes ", " ++ joined (n ∷ ms)

-- the routes with one more, by what its address gives
abbrev pub with_read : RowsOf (RouteOf RoutePath) → RoutePath → Result Scan InsertError
    → RowsOf (RouteOf RoutePath)
with_read routes path (Ok scan) = placed (scan.pattern, route_from scan path) routes
with_read routes path (Err error) = routes

-- the routes of a router with one more row put in
abbrev pub with_row : RowsOf (RouteOf RoutePath) → RoutePath → RowsOf (RouteOf RoutePath)
with_row routes path = with_read routes path (parse_route (address_of path))

-- the rows for what belongs to a topic, in their order
abbrev pub topic_rows : List RoutePath
topic_rows =
    OfTopic topic.Whole ∷ OfTopic topic.Comments ∷ OfTopic topic.Comment ∷ OfTopic topic.Views
    ∷ OfTopic (topic.View part.Whole) ∷ OfTopic (topic.View part.Selection)
    ∷ OfTopic (topic.View part.Coloring) ∷ OfTopic (topic.View part.Visibility) ∷ []

-- the rows of the table, in their order
abbrev pub rows : List RoutePath
rows = Projects ∷ Project ∷ Topics ∷ topic_rows ++ Model ∷ Rules ∷ Version ∷ Clashes ∷ ClashTopic ∷ []

-- the routes of the table, its rows put in in their order
unfoldable pub table : RowsOf (RouteOf RoutePath)
table = fold with_row [] rows
