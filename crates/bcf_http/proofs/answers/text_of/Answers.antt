use Rattle.serde_json.specs.View.{view}
use Rattle.bcf_http.proofs.Floats.{text_stated}
use Rattle.bcf_http.proofs.answers.text_of.Goals as goal

pub returns : goal.returns
returns c = text_stated c.args.project c.args.part c.args.answer.now (view c.in_ok-tree.tree) c.to_string.result c.in_ok-tree.ensures c.to_string.ensures.text
