use Rattle.std.proofs.Common.{◌≡◌, length}
use Rattle.form_urlencoded.specs.Parse.{raw_pairs_left}
use Rattle.http_routes.specs.ListQueries.{no_list, list_by}
use Rattle.http_routes.proofs.list_query.list_by.Given as goal

abbrev pub invariant-loop-name : goal.invariant-loop-name
invariant-loop-name l = list_by l.asked (raw_pairs_left l.pairs) ≡ list_by no_list (raw_pairs_left l.initial.pairs)

abbrev pub decreases-loop-name : goal.decreases-loop-name
decreases-loop-name l = length (raw_pairs_left l.pairs)
