-- What a target names by the table of routes.
use Rattle.std.specs.Prelude.{ℕ, List, Bool, true, false, if◌then◌else◌, Option, Some, None, option_map, option_and_then, codes}
use Rattle.std.specs.List.{list_all}
use Rattle.std.specs.Char.{is_ascii}
use Rattle.matchit.specs.Seek.{first}
use Rattle.matchit.specs.Params.{walk, named}
use Rattle.matchit.specs.Router.{RouteOf}
use Rattle.matchit.specs.declared.params.Params.{Params}
use Rattle.bcf_viewpoints.specs.declared.part.ViewPart.{ViewPart}
use Rattle.bcf_viewpoints.specs.declared.part.ViewPart.TheVariants as part
use Rattle.book_history.specs.declared.requests.Wanted.{Wanted}
use Rattle.http_routes.specs.declared.paths.RoutePath.{RoutePath}
use Rattle.http_routes.specs.declared.paths.RoutePath.TheVariants.{Projects, Project, Topics, OfTopic, Model, Rules, Version, Clashes, ClashTopic}
use Rattle.http_routes.specs.declared.paths.TopicRow.{TopicRow}
use Rattle.http_routes.specs.declared.paths.TopicRow.TheVariants as topic
use Rattle.http_routes.specs.declared.resource.TopicPlace.{TopicPlace}
use Rattle.http_routes.specs.declared.resource.TopicPlace.TheVariants as place
use Rattle.http_routes.specs.declared.resource.Resource.{Resource}
use Rattle.http_routes.specs.declared.resource.Resource.TheVariants as resource
use Rattle.http_routes.specs.Paths.{table}
use Rattle.http_routes.specs.Targets.{path_of}
use Rattle.http_routes.specs.PathParameters.{identifier_in, if_name, wanted_in}
use Rattle.http_routes.specs.PathNumbers.{number_in}

-- what a path names: the projects, or of the project with an identifier itself, its topics, what belongs to a topic with
-- an identifier, a model by its name, its clash rules, a version, the clashes of one, or the clash at a place of them
pub data Place : Type 0 where
  projects : Place
  project : ℕ → Place
  topics : ℕ → Place
  of_topic : ℕ → ℕ → TopicPlace → Place
  model : ℕ → List ℕ → Place
  rules : ℕ → Place
  version : ℕ → Wanted → Place
  clashes : ℕ → Wanted → Place
  clash : ℕ → Wanted → ℕ → Place

-- what is lent as a place
abbrev pub place_lent : Resource → Place
place_lent resource.Projects = projects
place_lent (resource.Project p) = project p
place_lent (resource.Topics p) = topics p
place_lent (resource.OfTopic p t named) = of_topic p t named
place_lent (resource.Model p name) = model p name.now
place_lent (resource.Rules p) = rules p
place_lent (resource.Version p wanted) = version p wanted
place_lent (resource.Clashes p wanted) = clashes p wanted
place_lent (resource.Clash p wanted n) = clash p wanted n

-- the row of what belongs to a topic
abbrev pub topic_row_of : TopicPlace → TopicRow
topic_row_of place.Whole = topic.Whole
topic_row_of place.Comments = topic.Comments
topic_row_of (place.Comment c) = topic.Comment
topic_row_of place.Views = topic.Views
topic_row_of (place.View w shown) = topic.View shown

-- the row of the table that a place is on
abbrev pub row_of : Place → RoutePath
row_of projects = Projects
row_of (project p) = Project
row_of (topics p) = Topics
row_of (of_topic p t named) = OfTopic (topic_row_of named)
row_of (model p name) = Model
row_of (rules p) = Rules
row_of (version p wanted) = Version
row_of (clashes p wanted) = Clashes
row_of (clash p wanted n) = ClashTopic

-- the identifier of its project, where it names one
abbrev pub project_at : Place → Option ℕ
project_at projects = None
project_at (project p) = Some p
project_at (topics p) = Some p
project_at (of_topic p t named) = Some p
project_at (model p name) = Some p
project_at (rules p) = Some p
project_at (version p wanted) = Some p
project_at (clashes p wanted) = Some p
project_at (clash p wanted n) = Some p

-- the part of a viewpoint that it names, or a whole one
abbrev pub part_at : Place → ViewPart
part_at (of_topic p t (place.View w shown)) = shown
part_at other = part.Whole

-- the parameters of a route, each with its part of a path that fits it
abbrev pub parts_by : RouteOf RoutePath → List ℕ → List (List ℕ × List ℕ)
parts_by route path = walk route.pattern route.text path route.names 0 0

-- the same of what the router answers
abbrev pub parts_of : Params → List (List ℕ × List ℕ)
parts_of params = walk params.pattern.now params.text.now params.path.now params.names.now 0 0

-- the identifier that the parts give under a name
abbrev pub id_in : List ℕ → List (List ℕ × List ℕ) → Option ℕ
id_in name parts = option_and_then identifier_in (named name parts)

-- the name of a model
abbrev pub name_in : List (List ℕ × List ℕ) → Option (List ℕ)
name_in parts = option_and_then if_name (named (codes "name") parts)

-- the version that is wanted
abbrev pub version_in : List (List ℕ × List ℕ) → Option Wanted
version_in parts = option_and_then wanted_in (named (codes "v") parts)

-- the place of a clash
abbrev pub clash_in : List (List ℕ × List ℕ) → Option ℕ
clash_in parts = option_and_then number_in (named (codes "n") parts)

-- what the parts name of a topic on a row
abbrev pub topic_place : TopicRow → List (List ℕ × List ℕ) → Option TopicPlace
topic_place topic.Whole parts = Some place.Whole
topic_place topic.Comments parts = Some place.Comments
topic_place topic.Comment parts = option_map (λ c. place.Comment c) (id_in (codes "c") parts)
topic_place topic.Views parts = Some place.Views
topic_place (topic.View shown) parts = option_map (λ w. place.View w shown) (id_in (codes "w") parts)

-- what they name for a topic with an identifier
abbrev pub in_topic : TopicRow → List (List ℕ × List ℕ) → ℕ → ℕ → Option Place
in_topic row parts p t = option_map (of_topic p t) (topic_place row parts)

-- the place of a clash of a version
abbrev pub in_clashes : List (List ℕ × List ℕ) → ℕ → Wanted → Option Place
in_clashes parts p wanted = option_map (clash p wanted) (clash_in parts)

-- what the parts name on a row for a project; the row of the projects needs none
abbrev pub place_for : RoutePath → List (List ℕ × List ℕ) → ℕ → Option Place
place_for Projects parts p = Some projects
place_for Project parts p = Some (project p)
place_for Topics parts p = Some (topics p)
place_for (OfTopic row) parts p = option_and_then (in_topic row parts p) (id_in (codes "t") parts)
place_for Model parts p = option_map (model p) (name_in parts)
place_for Rules parts p = Some (rules p)
place_for Version parts p = option_map (version p) (version_in parts)
place_for Clashes parts p = option_map (clashes p) (version_in parts)
place_for ClashTopic parts p = option_and_then (in_clashes parts p) (version_in parts)

-- the row names no project
abbrev pub is_projects : RoutePath → Bool
is_projects Projects = true
is_projects row = false

-- what the parts name on a row, where each has its form
abbrev pub place_by : RoutePath → List (List ℕ × List ℕ) → Option Place
place_by row parts =
    if is_projects row then Some projects
    else option_and_then (place_for row parts) (id_in (codes "p") parts)

-- what a path names on the route that it fits
abbrev pub place_on : List ℕ → Option (RouteOf RoutePath) → Option Place
place_on path None = None
place_on path (Some route) = place_by route.value (parts_by route path)

-- what a path of ASCII characters (RFC 3986, 2) names on the route that a router finds in the table
abbrev pub place_at : List ℕ → Option Place
place_at path = if list_all is_ascii path then place_on path (first table path) else None

-- what a target names, where it names something
unfoldable pub place_of : List ℕ → Option Place
place_of target = option_and_then place_at (path_of target)
