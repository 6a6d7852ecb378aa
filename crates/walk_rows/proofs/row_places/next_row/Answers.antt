use Rattle.std.proofs.Common.{option_copied, sym, ◌∙◌}
use Rattle.walk_rows.proofs.ShortIndexes.{row_told}
use Rattle.walk_rows.proofs.row_places.next_row.Goals as goal

pub returns-in-Some-next-clause-row : goal.returns-in-Some-next-clause-row
returns-in-Some-next-clause-row c =
    row_told c.args.count (option_copied c.args.numbers) c.args.left.now c.next.new.self c.in-Some-next.value c.row_of.result (sym c.in_default.ensures ∙ c.in-Some-next.ensures.steps) c.row_of.ensures
