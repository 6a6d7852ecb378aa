use Rattle.std.proofs.lemmas.Option.{slice_get-get_or}
use Rattle.p21_table.proofs.instance_ref.InstanceRef.of.Goals as goal

pub returns : goal.returns
returns c = slice_get-get_or c.args.exchange.now c.args.at _ c.requires
