-- The places of the joined list, by the view of the outer loop.
use Rattle.std.proofs.Common.{◌≡◌, ◌∙◌, ap, sym, ℕ, List, map, Option, Some, None}
use Rattle.std.specs.Option.{option_map, option_and_then}
use Rattle.bim_model.specs.declared.geometry.Point.{Point}
use Rattle.bim_model.specs.Polygons.{normal_of}
use Rattle.ear_cut.specs.declared.polygon_view.View.{View}
use Rattle.ear_cut.specs.declared.corners.Corner.{Corner}
use Rattle.ear_cut.specs.PolygonViews.{view_of}
use Rattle.void_bridge.specs.Bridges.{joined_in, joined_of}

abbrev pub places : List Corner → List ℕ
places corners = map (λ (c : Corner). c.place) corners

pub no_view : (outer : List Point) (inner : List (List Point)) → None ≡ view_of (normal_of outer) → joined_of outer inner ≡ None
unfolding joined_of
no_view outer inner e = sym (ap (λ (o : Option View). option_and_then (λ view. option_map places (joined_in view outer inner)) o) e)

pub in_view : (outer : List Point) (inner : List (List Point)) (view : View) (found : Option (List Corner)) → Some view ≡ view_of (normal_of outer) → joined_in view outer inner ≡ found → joined_of outer inner ≡ option_map places found
unfolding joined_of
in_view outer inner view found e f = sym (ap (λ (o : Option View). option_and_then (λ view. option_map places (joined_in view outer inner)) o) e) ∙ ap (option_map places) f
