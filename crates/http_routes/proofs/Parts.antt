-- The parts of a path of ASCII characters are text.
use Rattle.std.proofs.Common.{◌≡◌, ◌-◌, ◌&&◌, leb, ℕ, List, [], ◌∷◌, length, take, drop, Bool, true, false, cond, Some, refl}
use Rattle.std.specs.List.{list_all}
use Rattle.std.specs.Char.{is_ascii}
use Rattle.std.specs.Str.{IsAscii, IsUtf8}
use Rattle.std.proofs.lemmas.Str.{IsUtf8-from_ascii, IsAscii-take, IsAscii-drop}
use Rattle.std.proofs.lemmas.Str.Ascii.{IsAscii-nil}
use Rattle.matchit.specs.Seek.{first}
use Rattle.matchit.specs.Params.{walk, part_of, wild_from, wild_stop, after_token, AllText}
use Rattle.matchit.specs.Router.{RouteOf}
use Rattle.matchit.proofs.OnLiterals.{matchit_on_literals}
use Rattle.http_routes.specs.declared.paths.RoutePath.{RoutePath}
use Rattle.http_routes.specs.Paths.{table}
use Rattle.http_routes.specs.Resources.{parts_by}
use Rattle.http_routes.proofs.Texts.{ascii}
use Rattle.http_routes.proofs.Routers.{AllKeys, found}

part_is_ascii : (bytes : List ℕ) (start end : ℕ) → IsAscii bytes → IsAscii (part_of bytes start end)
part_is_ascii bytes start end a = by (leb start end && leb end (length bytes))
  where
    by : (v : Bool) → IsAscii (cond v (take (end - start) (drop start bytes)) [])
    by true = IsAscii-take (drop start bytes) (end - start) (IsAscii-drop bytes start a)
    by false = IsAscii-nil

part_is_text : (bytes : List ℕ) (start end : ℕ) → IsAscii bytes → IsUtf8 (part_of bytes start end)
part_is_text bytes start end a = IsUtf8-from_ascii (part_of bytes start end) (part_is_ascii bytes start end a)

parts_are_text : (pattern text path : List ℕ) (names : List (ℕ × ℕ)) (token at : ℕ)
    → IsAscii text → IsAscii path → AllText (walk pattern text path names token at)
parts_are_text pattern text path [] token at t p = tt
parts_are_text pattern text path (name ∷ rest) token at t p =
    let w : ℕ × ℕ = wild_from (drop token pattern) (length path) token at in
    let stop : ℕ = wild_stop pattern w.0 path w.1 in (
      part_is_text text name.0 name.1 t,
      part_is_text path w.1 stop p,
      parts_are_text pattern text path rest (after_token w.0) stop t p,
    )

table_is_plain : AllKeys (λ (route : RouteOf RoutePath). list_all is_ascii route.text ≡ true) table
unfolding table matchit_on_literals
table_is_plain =
    (refl, (refl, (refl, (refl, (refl, (refl, (refl, (refl, (refl, (refl, (refl, (refl, (refl, (refl, (refl, (refl, tt))))))))))))))))

pub parts_of_found : (path : List ℕ) (route : RouteOf RoutePath)
    → first table path ≡ Some route → IsAscii path → AllText (parts_by route path)
parts_of_found path route is a =
    let plain : list_all is_ascii route.text ≡ true
    = found (λ (r : RouteOf RoutePath). list_all is_ascii r.text ≡ true) table path route table_is_plain is in
    parts_are_text route.pattern route.text path route.names 0 0 (ascii route.text plain) a
