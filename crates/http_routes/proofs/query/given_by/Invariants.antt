use Rattle.std.proofs.Common.{◌≡◌, length, None}
use Rattle.form_urlencoded.specs.Parse.{raw_pairs_left}
use Rattle.http_routes.specs.Queries.{given_by}
use Rattle.http_routes.proofs.query.given_by.Given as goal

abbrev pub invariant-loop-name : goal.invariant-loop-name
invariant-loop-name l = given_by l.given (raw_pairs_left l.pairs) ≡ given_by (record { first = None; count = None }) (raw_pairs_left l.initial.pairs)

abbrev pub decreases-loop-name : goal.decreases-loop-name
decreases-loop-name l = length (raw_pairs_left l.pairs)
