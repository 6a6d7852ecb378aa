use Rattle.std.proofs.Common.{List, ◌∷◌, sym, ap, ◌∙◌}
use Rattle.p21_values.specs.declared.value.Value21.{Value21}
use Rattle.p21_table.proofs.RowsThere.{row_value, rows_stand, row_told, says_row}
use Rattle.p21_table.proofs.value_list.Values.next_row.Goals as goal

pub of-requires-clause-says : goal.of-requires-clause-says
of-requires-clause-says c = rows_stand c.self.inside.bytes.now c.self.inside.at c.in_ok-after.after c.in_ok-row.row c.self.inside.says c.in_ok-row.ensures c.in_ok-after.ensures.next

pub returns : goal.returns
returns c =
    let bytes = c.self.inside.bytes.now in
    let told = row_told bytes c.self.inside.at c.in_ok-after.after c.in_ok-row.row c.self.inside.says c.of.result c.in_ok-row.ensures c.in_ok-after.ensures.next c.of.ensures.says in
    let value = row_value bytes c.self.inside.at c.in_ok-row.row in
    (value, sym c.self.view_is ∙ told ∙ ap (λ (left : List Value21). value ∷ left) (sym c.self-2.view_is), says_row bytes c.self.inside.at c.in_ok-row.row c.in_ok-row.ensures)
