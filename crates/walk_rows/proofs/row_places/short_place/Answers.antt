use Rattle.std.proofs.Common.{option_copied, ap}
use Rattle.walk_rows.proofs.RowsNamed.{numbered_by}
use Rattle.walk_rows.proofs.row_places.short_place.Goals as goal

pub returns-in-Some-short_index : goal.returns-in-Some-short_index
returns-in-Some-short_index c = λ names are. λ value says.
    numbered_by c.args.count names (option_copied c.args.numbers) c.in-Some.places.now value c.in-Some-short_index.at (ap option_copied c.in-Some.is) are (c.in-Some-short_index.ensures.points value says)
