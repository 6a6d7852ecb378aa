-- The viewpoints of a project: a map from their places, a place being the topic's serial number and the
-- viewpoint's own, as the list of its entries by rising place.
use Rattle.std.specs.Prelude.{ℕ, ◌==◌, List, map, not, filter, All, Option, Some, None, Result, Ok, Err}
use Rattle.std.specs.Map.{lookup, remove_entry, values_of}
use Rattle.std.specs.BTreeMap.{insert_entry}
use Rattle.bcf_topics.specs.Comments.{by_place, is_place}
use Rattle.bcf_viewpoints.specs.Components.{IsComponent, IsColoring}
use Rattle.bcf_viewpoints.specs.declared.view.ViewBody.{ViewBody}
use Rattle.bcf_viewpoints.specs.declared.view.ViewIs.{ViewIs}
use Rattle.bcf_viewpoints.specs.declared.viewpoints.ViewError.{ViewError}
use Rattle.bcf_viewpoints.specs.declared.viewpoints.ViewError.TheVariants.{NoViewpoint}

-- the identifiers of all its components are identifiers
pub record IsViewBody (body : ViewBody) : Type 0 where
  pub selection : All IsComponent body.selection
  pub coloring : All IsColoring body.coloring
  pub exceptions : All IsComponent body.exceptions

-- viewpoints, each under the numbers of its topic and of itself
abbrev pub Views : Type 0
Views = List ((ℕ × ℕ) × ViewBody)

-- so are those of all viewpoints
abbrev pub AreViews : Views → Type 0
AreViews views = All IsViewBody (values_of views)

-- the viewpoint of this number of that topic
unfoldable pub view_of : ℕ → ℕ → Views → Option ViewBody
view_of topic serial views = lookup (is_place topic serial) views

-- the numbers of a topic's viewpoints, rising
unfoldable pub views_of : ℕ → Views → List ℕ
views_of topic views = map (λ e. e.0.1) (filter (λ e. e.0.0 == topic) views)

-- a viewpoint by its number and body
abbrev pub viewpoint : ℕ → ViewBody → ViewIs
viewpoint serial body = record { serial = serial; body = body }

-- the viewpoints of a topic, by rising number
unfoldable pub views_on : ℕ → Views → List ViewIs
views_on topic views = map (λ e. viewpoint e.0.1 e.1) (filter (λ e. e.0.0 == topic) views)

-- the viewpoints with a new one in its place
unfoldable pub views_with : ℕ → ℕ → ViewBody → Views → Views
views_with topic serial body views = insert_entry by_place views (topic, serial) body

-- the viewpoints without this one
unfoldable pub views_but : ℕ → ℕ → Views → Views
views_but topic serial views = remove_entry (is_place topic serial) views

-- the viewpoints of the other topics
unfoldable pub views_off : ℕ → Views → Views
views_off topic views = filter (λ e. not (e.0.0 == topic)) views

-- the answer where what is to be deleted is this
abbrev pub deleted : Option ViewBody → Result (Unit {0}) ViewError
deleted None = Err NoViewpoint
deleted (Some body) = Ok tt
