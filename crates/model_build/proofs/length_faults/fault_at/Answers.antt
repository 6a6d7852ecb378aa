use Rattle.std.specs.Option.{option_copied}
use Rattle.model_build.proofs.FirstLengthFault.{tabled_there, fault_told, found_there}
use Rattle.model_build.proofs.length_faults.fault_at.Goals as goal

pub fault_of-requires : goal.fault_of-requires
fault_of-requires c =
    tabled_there c.args.exchange.now c.args.table.now c.args.scale c.args.mode c.args.id c.in_ok-at.at c.instance-instance.result (option_copied c.kept_at.result) c.in_ok-at.ensures c.requires c.instance-instance.ensures c.kept_at.ensures

pub returns : goal.returns
returns c =
    fault_told c.args.exchange.now c.args.scale c.args.mode c.args.id c.instance-instance.result c.fault_of.result
    (found_there c.args.exchange.now c.args.id c.in_ok-at.at c.instance-instance.result c.in_ok-at.ensures c.instance-instance.ensures) c.fault_of.ensures
