use Rattle.std.proofs.Common.{option_copied, ap}
use Rattle.walk_rows.proofs.RowsNamed.{numbered_by}
use Rattle.walk_rows.proofs.row_places.place_named.Goals as goal

pub returns-in-Some-place_of : goal.returns-in-Some-place_of
returns-in-Some-place_of c = λ names are.
    numbered_by c.args.count names (option_copied c.args.numbers) c.in-Some.places.now c.args.value.now c.in-Some-place_of.at (ap option_copied c.in-Some.is) are c.in-Some-place_of.ensures.some
