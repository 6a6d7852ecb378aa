use Rattle.std.proofs.Common.{◌∙◌}
use Rattle.federation_book.proofs.Acting.{number_is, number_there}
use Rattle.federation_book.proofs.state.State.number_of.Goals as goal

pub returns-clause-is : goal.returns-clause-is
returns-clause-is c = number_is c.project_of.result c.len.result c.args.self.now.projects.items c.args.project c.project_of.ensures (c.len.ensures ∙ c.args.self.now.projects.ok.0)

pub returns-clause-there : goal.returns-clause-there
returns-clause-there c =
    number_there c.project_of.result c.args.self.now.projects.items c.args.project
    (number_is c.project_of.result c.len.result c.args.self.now.projects.items c.args.project c.project_of.ensures (c.len.ensures ∙ c.args.self.now.projects.ok.0))
