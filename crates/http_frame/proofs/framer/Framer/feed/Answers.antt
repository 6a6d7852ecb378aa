use Rattle.http_frame.specs.Framers.{Stands}
use Rattle.http_frame.proofs.Keeping.{feed_ok, feed_err}
use Rattle.http_frame.proofs.framer.Framer.feed.Goals as goal

pub returns-clause-ok : goal.returns-clause-ok
unfolding Stands
returns-clause-ok c =
    feed_ok c.grow.result c.args.self.now.stage c.args.self.now.buf.items c.compact_at-self.new.buf.items c.grow.new.buf.items c.args.piece.now c.args.self.now.at c.compact_at-self.result c.compact_at-self.ensures.keeps c.grow.ensures.ok

pub returns-clause-err : goal.returns-clause-err
unfolding Stands
returns-clause-err c =
    feed_err c.grow.result c.args.self.now.stage c.args.self.now.buf.items c.compact_at-self.new.buf.items c.grow.new.buf.items c.args.self.now.at c.compact_at-self.result c.compact_at-self.ensures.keeps c.grow.ensures.err
