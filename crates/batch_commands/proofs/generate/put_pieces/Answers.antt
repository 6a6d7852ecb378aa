use Rattle.std.proofs.Common.{◌++◌, List, ℕ, sym, ap, ◌∙◌}
use Rattle.batch_commands.specs.declared.block.Stop.TheVariants.{Memory}
use Rattle.batch_commands.proofs.Blocks.{residual}
use Rattle.batch_commands.proofs.Pieces.{of_all, of_more, of_none, of_stopped, of_wanting}
use Rattle.batch_commands.proofs.generate.put_pieces.Goals as goal

pub asks-init : goal.asks-init
asks-init g c = of_none _ _ _

pub asks-preserved : goal.asks-preserved
asks-preserved g c =
    let after : List ℕ = c.next.new.self in
    let piece = rw c.in-Some.is at c.in_ok-piece.ensures.piece in
    of_more (g.K.Sink.seen c.args.sink.now) (g.K.Sink.seen c.asks.sink) (g.K.Sink.seen c.put.new.sink) c.args.block.now.items c.asks.block.items c.put.new.block.items
    c.args.pieces c.asks.pieces c.as_str.result.now after c.asks.invariant (piece ∙ ap (λ (t : List ℕ). t ++ after) (sym c.as_str.ensures.value)) c.in_ok-put.ensures

pub returns-in_err-piece : goal.returns-in_err-piece
returns-in_err-piece g c =
    rw (residual _ Memory c.from_residual.ensures.1)
    (of_wanting (g.K.Sink.seen c.args.sink.now) (g.K.Sink.seen c.asks.sink) c.args.block.now.items c.asks.block.items c.args.pieces c.asks.pieces c.asks.invariant)

pub returns-in_err-put : goal.returns-in_err-put
returns-in_err-put g c =
    let after : List ℕ = c.next.new.self in
    let piece = rw c.in-Some.is at c.in_ok-piece.ensures.piece in
    let e = c.in_err-put.field-0.0 in
    rw (residual _ e c.from_residual-in_err-put.ensures.1)
    (of_stopped (g.K.Sink.seen c.args.sink.now) (g.K.Sink.seen c.asks.sink) (g.K.Sink.seen c.put.new.sink) c.args.block.now.items c.asks.block.items
    c.args.pieces c.asks.pieces c.as_str.result.now after e c.asks.invariant (piece ∙ ap (λ (t : List ℕ). t ++ after) (sym c.as_str.ensures.value)) c.in_err-put.ensures)

pub returns : goal.returns
returns g c =
    let none = rw c.in_default.is at c.in_ok-piece.ensures.piece in
    of_all (g.K.Sink.seen c.args.sink.now) (g.K.Sink.seen c.asks.sink) c.args.block.now.items c.asks.block.items c.args.pieces c.asks.pieces c.asks.invariant none
