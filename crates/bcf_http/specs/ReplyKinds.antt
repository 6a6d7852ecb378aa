-- What a response needs of its request.
use Rattle.std.specs.Prelude.{ℕ, ◌/◌, ◌^◌, ◌==◌, ◌&&◌, ◌||◌, List, Bool, true, false, if◌then◌else◌, Option, Some, None, codes, bytes_eq}
use Rattle.bim_model.specs.Identifiers.{identifier}
use Rattle.bcf_viewpoints.specs.declared.part.ViewPart.TheVariants as part
use Rattle.http_frame.specs.declared.types.HttpRequest.{HttpRequest}
use Rattle.http_routes.specs.declared.paths.RoutePath.{RoutePath}
use Rattle.http_routes.specs.declared.paths.RoutePath.TheVariants as row
use Rattle.http_routes.specs.Resources.{Place, row_of, project_at, part_at, place_of}
use Rattle.bcf_http.specs.declared.reply_kind.ReplyKind.{ReplyKind}

-- the number of the project whose own identifier this is, or 0
unfoldable pub number_of : ℕ → ℕ
number_of id = let n = id / 2 ^ 96 in if id == identifier n 0 then n else 0

-- the number of a project, where one is named, or 0
abbrev pub number_if : Option ℕ → ℕ
number_if None = 0
number_if (Some id) = number_of id

-- the row is a model's
abbrev pub is_model : RoutePath → Bool
is_model row.Model = true
is_model other = false

-- success is answered 201: something is made by POST, or a model is put
abbrev pub creates : List ℕ → RoutePath → Bool
creates method path = bytes_eq method (codes "POST") || (is_model path && bytes_eq method (codes "PUT"))

-- the method is HEAD
abbrev pub is_head : HttpRequest → Bool
is_head request = bytes_eq request.method (codes "HEAD")

-- what a response needs of its request, by the place that this names
abbrev pub kind_at : HttpRequest → Option Place → ReplyKind
kind_at request None = record { project = 0; created = false; head = is_head request; part = part.Whole }
kind_at request (Some named) =
    record {
      project = number_if (project_at named);
      created = creates request.method (row_of named);
      head = is_head request;
      part = part_at named;
    }

-- what a response needs of its request
unfoldable pub kind_of : HttpRequest → ReplyKind
kind_of request = kind_at request (place_of request.target)

-- what it needs where there is no request
abbrev pub no_kind : ReplyKind
no_kind = record { project = 0; created = false; head = false; part = part.Whole }
