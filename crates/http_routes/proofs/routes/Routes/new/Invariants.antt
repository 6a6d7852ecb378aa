use Rattle.std.proofs.Common.{◌≡◌, [], take}
use Rattle.std.specs.List.{fold}
use Rattle.http_routes.specs.Paths.{rows, with_row}
use Rattle.http_routes.proofs.routes.Routes.new.Given as goal

-- the rows so far are put in
abbrev pub invariant-loop-row : goal.invariant-loop-row
invariant-loop-row l = l.router ≡ fold with_row [] (take l.row-index rows)
