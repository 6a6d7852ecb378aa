use Rattle.serde_json.specs.View.{view}
use Rattle.bcf_bodies.proofs.Guids.{read_good}
use Rattle.bcf_bodies.proofs.view_bodies.view_in.Goals as goal

pub returns-clause-good : goal.returns-clause-good
returns-clause-good c = read_good (view c.args.tree.now) c.read_view.result c.read_view.ensures
