use Rattle.std.proofs.Common.{List, [], ℕ, append-nil, sym, subst, ◌∙◌}
use Rattle.model_generator.specs.GeneratedFiles.{generated}
use Rattle.batch_commands.specs.PrintedOutput.{Flushes}
use Rattle.batch_commands.proofs.Blocks.{first_stopped, put_last, residual}
use Rattle.batch_commands.proofs.generate.print_file.Goals as goal

pub returns-in_err-put_pieces : goal.returns-in_err-put_pieces
returns-in_err-put_pieces g c =
    let e = c.in_err-put_pieces.field-0.0 in
    let pieces : List ℕ = c.of.result in
    rw (residual _ e c.from_residual.ensures.1)
    (first_stopped (g.K.Sink.seen c.args.sink.now) (g.K.Sink.seen c.put_pieces.new.sink) c.new-block.result.items pieces [] (generated c.args.number c.args.count) e c.new-block.ensures.items
    c.in_err-put_pieces.ensures (sym c.of.ensures ∙ sym (append-nil pieces)))

pub returns : goal.returns
returns g c =
    let old = g.K.Sink.seen c.args.sink.now in
    let late = g.K.Sink.seen c.flush.new.sink in
    subst (λ (bytes : List ℕ). Flushes old late bytes c.flush.result) c.of.ensures
    (put_last old (g.K.Sink.seen c.put_pieces.new.sink) late c.new-block.result.items c.put_pieces.new.block.items c.of.result c.flush.result c.new-block.ensures.items
    c.in_ok-put_pieces.ensures c.flush.ensures.wrote)
