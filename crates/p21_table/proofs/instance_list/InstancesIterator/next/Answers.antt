use Rattle.p21_values.proofs.Told.{left_at}
use Rattle.p21_table.proofs.instance_list.InstancesIterator.next.Goals as goal

pub returns-clause-steps : goal.returns-clause-steps
returns-clause-steps c =
    let i = c.self.inside in
    let e = left_at i.exchange.now i.at c.of.result c.of.ensures in
    let v = c.self.view_is in
    cc
