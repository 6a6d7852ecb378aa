use Rattle.std.proofs.Common.{arith}
use Rattle.p21_reader.specs.declared.table.Table.{Table}
use Rattle.p21_reader.proofs.PlainValues.{plain_behind}
use Rattle.p21_reader.proofs.table.plain_attribute.Goals as goal

pub returns-in_ok-push-in-Some-clause-start : goal.returns-in_ok-push-in-Some-clause-start
returns-in_ok-push-in-Some-clause-start c = λ depth.
    let old = c.args.table.now in
    let new : Table = record { heads = old.heads; starts = c.push.new.self; values = c.saturating_add-table.result } in
    plain_behind depth c.args.bytes.now c.args.at c.in-Some.end old new c.if-at-bytes.false c.if-bytes-at-ne44.false c.in-Some.ensures c.in_ok-push-in-Some.ensures.items c.saturating_add-table.ensures

pub returns-in_ok-push-in-Some-clause-on : goal.returns-in_ok-push-in-Some-clause-on
returns-in_ok-push-in-Some-clause-on c = let lt = c.in-Some.ensures.2.0.1 in omega (arith, lt)

pub returns-in_ok-push-in-Some-clause-within : goal.returns-in_ok-push-in-Some-clause-within
returns-in_ok-push-in-Some-clause-within c = c.in-Some.ensures.2.1
