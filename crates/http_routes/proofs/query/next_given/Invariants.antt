use Rattle.std.proofs.Common.{◌≡◌, length}
use Rattle.form_urlencoded.specs.Parse.{raw_pairs_left}
use Rattle.http_routes.specs.Queries.{values_given}
use Rattle.http_routes.proofs.query.next_given.Given as goal

abbrev pub invariant-loop-key : goal.invariant-loop-key
invariant-loop-key l = values_given l.name (raw_pairs_left l.initial.pairs) ≡ values_given l.name (raw_pairs_left l.pairs)

abbrev pub decreases-loop-key : goal.decreases-loop-key
decreases-loop-key l = length (raw_pairs_left l.pairs)
