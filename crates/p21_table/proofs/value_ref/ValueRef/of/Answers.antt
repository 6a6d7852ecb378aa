use Rattle.p21_table.proofs.Handles.{stood_told}
use Rattle.p21_table.proofs.value_ref.ValueRef.of.Goals as goal

pub returns : goal.returns
returns c = λ v h. stood_told c.args.bytes.now c.args.at c.result-1.given.1.0 v h
