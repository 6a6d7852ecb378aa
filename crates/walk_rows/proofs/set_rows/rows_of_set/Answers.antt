use Rattle.std.proofs.Common.{List, Option, length, sym, ◌∙◌, subst}
use Rattle.p21_values.specs.declared.value.Value21.{Value21}
use Rattle.faceset.specs.FaceSets.{numbering}
use Rattle.walk_rows.specs.SetRows.{NamesPoints}
use Rattle.walk_rows.proofs.IndexesNamed.{each_names}
use Rattle.walk_rows.proofs.SetsRead.{some_all}
use Rattle.walk_rows.proofs.set_rows.rows_of_set.Goals as goal

pub returns-in-Some-2-clause-numbers : goal.returns-in-Some-2-clause-numbers
returns-in-Some-2-clause-numbers c =
    let count = length c.args.points.now in
    let named = rw c.in-Some-2.is at c.in_ok-places.ensures in
    some_all (NamesPoints count (numbering c.args.set.now)) c.rows_by-in-Some-2.result
    (subst (λ (o : Option (List Value21)). NamesPoints count o) (sym (sym c.numbering.ensures ∙ c.in-Some.is)) (each_names count c.in-Some.values c.in-Some-2.places.items named))
