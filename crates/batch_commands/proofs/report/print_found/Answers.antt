use Rattle.std.proofs.Common.{refl}
use Rattle.bucket_check.specs.Clashes.{clashes}
use Rattle.batch_commands.specs.Reports.{clash_lines, count_line, found_bytes}
use Rattle.batch_commands.proofs.Blocks.{first_stopped, put_last, put_more, residual, second_stopped}
use Rattle.batch_commands.proofs.report.print_found.Goals as goal

pub returns-in_err-put_clashes : goal.returns-in_err-put_clashes
returns-in_err-put_clashes g c =
    let found = c.args.found.now in
    let e = c.in_err-put_clashes.field-0.0 in
    rw (residual _ e c.from_residual.ensures.1)
    (first_stopped (g.K.Sink.seen c.args.sink.now) (g.K.Sink.seen c.put_clashes.new.sink) c.new-block.result.items (clash_lines found (clashes found)) (count_line found) (found_bytes found) e
    c.new-block.ensures.items c.in_err-put_clashes.ensures refl)

pub returns-in_err-put_count : goal.returns-in_err-put_count
returns-in_err-put_count g c =
    let found = c.args.found.now in
    let e = c.in_err-put_count.field-0.0 in
    rw (residual _ e c.from_residual-in_err-put_count.ensures.1)
    (second_stopped (g.K.Sink.seen c.args.sink.now) (g.K.Sink.seen c.put_clashes.new.sink) (g.K.Sink.seen c.put_count.new.sink) c.new-block.result.items c.put_clashes.new.block.items
    (clash_lines found (clashes found)) (count_line found) (found_bytes found) e c.new-block.ensures.items c.in_ok-put_clashes.ensures c.in_err-put_count.ensures refl)

pub returns : goal.returns
returns g c =
    let found = c.args.found.now in
    let old = g.K.Sink.seen c.args.sink.now in
    let mid = g.K.Sink.seen c.put_clashes.new.sink in
    let late = g.K.Sink.seen c.put_count.new.sink in
    let x = c.new-block.result.items in
    let y = c.put_clashes.new.block.items in
    let z = c.put_count.new.block.items in
    let s = clash_lines found (clashes found) in
    let t = count_line found in
    put_last old late (g.K.Sink.seen c.flush.new.sink) x z (found_bytes found) c.flush.result c.new-block.ensures.items
    (put_more old mid late x y z s t c.in_ok-put_clashes.ensures c.in_ok-put_count.ensures) c.flush.ensures.wrote
