use Rattle.std.proofs.Common.{ap, ◌∙◌}
use Rattle.p21_values.specs.Values.{items_of}
use Rattle.p21_table.proofs.Handles.{items_stand, items_told, no_items_told}
use Rattle.p21_table.proofs.value_ref.ValueRef.items.Goals as goal

pub of-requires-clause-says : goal.of-requires-clause-says
of-requires-clause-says c = items_stand c.self.inside.bytes.now c.self.inside.at c.in-Some.at c.self.inside.says c.in-Some.ensures.inside

pub returns-in-Some : goal.returns-in-Some
returns-in-Some c =
    items_told c.self.inside.bytes.now c.self.inside.at c.in-Some.at c.self.inside.says c.of.result c.in-Some.ensures.inside c.of.ensures.says ∙ ap items_of c.self.view_is

pub returns-in-None : goal.returns-in-None
returns-in-None c = no_items_told c.self.inside.bytes.now c.self.inside.at c.self.inside.says c.in-None.ensures.inside ∙ ap items_of c.self.view_is
