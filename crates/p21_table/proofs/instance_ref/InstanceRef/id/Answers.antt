use Rattle.p21_table.proofs.Kept.{id_said}
use Rattle.p21_table.proofs.instance_ref.InstanceRef.id.Goals as goal

pub returns : goal.returns
returns c =
    let i = c.self.inside in
    let k = c.kept.result in
    let e = id_said k.bytes.now k.starts.now k.heads.now i.exchange.now i.at c.kept.ensures.holds i.within in
    let v = c.self.view_is in
    cc
