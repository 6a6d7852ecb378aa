use Rattle.std.proofs.Common.{inl, length, refl, ap, ◌∙◌, arith}
use Rattle.p21_values.proofs.Turns.{ended}
use Rattle.p21_table.proofs.Handles.{same_told}
use Rattle.p21_table.proofs.value_list.Values.len.Goals as goal

pub count-requires-clause-fits : goal.count-requires-clause-fits
count-requires-clause-fits c = let few = c.of.ensures.few in inl (omega (arith, few))

pub returns-clause-count : goal.returns-clause-count
returns-clause-count c =
    let ran = c.count.ensures.ran in
    let all = same_told c.self.inside.bytes.now c.self.inside.at c.self.inside.says c.of.result c.of.ensures.says ∙ c.self.view_is in
    ran.2 ∙ ap length (ended c.of.result ran.0 refl _ ran.1.1.1 _ refl ran.1.1.2 ∙ all)

pub returns-clause-few : goal.returns-clause-few
returns-clause-few c = let few = c.of.ensures.few in let bound = c.count.ensures.bound in omega (arith, few, bound)
