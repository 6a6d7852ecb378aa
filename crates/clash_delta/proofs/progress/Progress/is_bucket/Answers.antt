use Rattle.clash_delta.proofs.Marked.{bucket_told}
use Rattle.clash_delta.proofs.progress.Progress.is_bucket.Goals as goal

pub returns : goal.returns
returns c = bucket_told c.args.self.now c.args.cell c.place_of.result c.is_some.result c.is_some.ensures c.place_of.ensures
