use Rattle.std.proofs.Common.{get_or, refl, take_all, ◌∙◌}
use Rattle.bucket_check.specs.Clashes.{clashes}
use Rattle.bucket_check.specs.declared.pair.SetPair.{SetPair}
use Rattle.batch_commands.specs.declared.block.Stop.TheVariants.{Memory}
use Rattle.batch_commands.proofs.Blocks.{put_none, residual}
use Rattle.batch_commands.proofs.Printed.{line_put, line_stopped, line_wanting, lines_put}
use Rattle.batch_commands.proofs.report.put_clashes.Goals as goal

pub loop-pair-init : goal.loop-pair-init
loop-pair-init g c = put_none _ _

pub loop-pair-preserved : goal.loop-pair-preserved
loop-pair-preserved g c =
    let d : SetPair = record { a = 0; b = 0; rule = 0 } in
    line_put c.args.found.now c.pairs-pairs.result.now c.loop-pair.pair-index (g.K.Sink.seen c.args.sink.now) (g.K.Sink.seen c.loop-pair.sink) c.args.block.now.items c.loop-pair.block.items
    (g.K.Sink.seen c.put.new.sink) c.put.new.block.items (get_or c.pairs-pairs.result.now c.loop-pair.pair-index d) d c.as_str.result.now c.loop-pair-test.true refl
    (c.as_str.ensures.value ∙ c.in_ok-line.ensures) c.loop-pair.invariant c.in_ok-put.ensures

pub returns-in_err-line : goal.returns-in_err-line
returns-in_err-line g c =
    rw (residual _ Memory c.from_residual.ensures.1)
    (line_wanting c.args.found.now c.pairs-pairs.result.now c.loop-pair.pair-index (g.K.Sink.seen c.args.sink.now) (g.K.Sink.seen c.loop-pair.sink) c.args.block.now.items c.loop-pair.block.items
    (clashes c.args.found.now) c.pairs-pairs.ensures.all c.loop-pair.invariant)

pub returns-in_err-put : goal.returns-in_err-put
returns-in_err-put g c =
    let d : SetPair = record { a = 0; b = 0; rule = 0 } in
    let e = c.in_err-put.field-0.0 in
    rw (residual _ e c.from_residual-in_err-put.ensures.1)
    (line_stopped c.args.found.now c.pairs-pairs.result.now c.loop-pair.pair-index (g.K.Sink.seen c.args.sink.now) (g.K.Sink.seen c.loop-pair.sink) c.args.block.now.items c.loop-pair.block.items
    (clashes c.args.found.now) (g.K.Sink.seen c.put.new.sink) (get_or c.pairs-pairs.result.now c.loop-pair.pair-index d) d c.as_str.result.now e c.pairs-pairs.ensures.all c.loop-pair-test.true refl
    (c.as_str.ensures.value ∙ c.in_ok-line.ensures) c.loop-pair.invariant c.in_err-put.ensures)

pub returns : goal.returns
returns g c =
    lines_put c.args.found.now c.pairs-pairs.result.now c.loop-pair.pair-index (g.K.Sink.seen c.args.sink.now) (g.K.Sink.seen c.loop-pair.sink) c.args.block.now.items c.loop-pair.block.items
    (clashes c.args.found.now) c.pairs-pairs.ensures.all (take_all c.loop-pair.pair-index c.pairs-pairs.result.now c.loop-pair-test.false) c.loop-pair.invariant
