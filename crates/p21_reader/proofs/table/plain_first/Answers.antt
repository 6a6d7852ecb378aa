use Rattle.std.proofs.Common.{arith}
use Rattle.p21_reader.specs.declared.table.Table.{Table}
use Rattle.p21_reader.proofs.PlainValues.{plain_start}
use Rattle.p21_reader.proofs.table.plain_first.Goals as goal

pub overflow_cast-at : goal.overflow_cast-at
overflow_cast-at c =
    let lt = c.in-Some.ensures.2.0.1 in
    let le = c.in-Some.ensures.2.1 in
    omega (arith, lt, le, c.requires.short)

pub returns-in_ok-push-in-Some-clause-start : goal.returns-in_ok-push-in-Some-clause-start
returns-in_ok-push-in-Some-clause-start c = λ depth.
    let old = c.args.table.now in
    let new : Table = record { heads = old.heads; starts = c.push.new.self; values = c.saturating_add-table.result } in
    plain_start depth c.args.bytes.now c.args.at c.in-Some.end old new c.in-Some.ensures c.in_ok-push-in-Some.ensures.items c.saturating_add-table.ensures

pub returns-in_ok-push-in-Some-clause-on : goal.returns-in_ok-push-in-Some-clause-on
returns-in_ok-push-in-Some-clause-on c = c.in-Some.ensures.2.0.1

pub returns-in_ok-push-in-Some-clause-within : goal.returns-in_ok-push-in-Some-clause-within
returns-in_ok-push-in-Some-clause-within c = c.in-Some.ensures.2.1
