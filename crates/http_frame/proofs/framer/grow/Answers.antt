use Rattle.std.proofs.Common.{sym, ◌∙◌}
use Rattle.http_frame.specs.FramerStages.{Keeps}
use Rattle.http_frame.proofs.Keeping.{grows, failed_grows, safe_grows, safe_items, keeps_items, on_err}
use Rattle.http_frame.proofs.framer.grow.Goals as goal

pub returns-then-is_failed-clause-ok : goal.returns-then-is_failed-clause-ok
returns-then-is_failed-clause-ok c = failed_grows c.args.stage.now c.args.buf.now.items c.args.piece.now c.args.at (sym c.is_failed.ensures ∙ c.if-is_failed.true)

pub returns-clause-ok : goal.returns-clause-ok
returns-clause-ok c =
    grows c.args.stage.now c.args.buf.now.items c.args.piece.now c.extend_from_slice.new.self.items c.args.at (rw c.make_room.ensures at c.in_ok-extend_from_slice.ensures.items) c.requires

pub returns-clause-safe : goal.returns-clause-safe
returns-clause-safe c =
    safe_grows c.args.stage.now c.args.buf.now.items c.args.piece.now c.extend_from_slice.new.self.items c.args.at (rw c.make_room.ensures at c.in_ok-extend_from_slice.ensures.items) c.requires

pub returns-in_err-extend_from_slice-clause-err : goal.returns-in_err-extend_from_slice-clause-err
returns-in_err-extend_from_slice-clause-err c =
    on_err c.from_residual.result (Keeps c.args.stage.now c.args.buf.now.items c.args.at c.extend_from_slice.new.self.items c.args.at)
    (keeps_items c.args.stage.now c.args.buf.now.items c.extend_from_slice.new.self.items c.args.at (rw c.make_room.ensures at c.in_err-extend_from_slice.ensures.items))

pub returns-in_err-extend_from_slice-clause-safe : goal.returns-in_err-extend_from_slice-clause-safe
returns-in_err-extend_from_slice-clause-safe c =
    safe_items c.args.stage.now c.args.buf.now.items c.extend_from_slice.new.self.items c.args.at (rw c.make_room.ensures at c.in_err-extend_from_slice.ensures.items) c.requires
