use Rattle.std.proofs.Common.{◌≡◌, ◌≤◌, length, arith}
use Rattle.http_frame.specs.declared.stage.Awaited.TheVariants.{Chunked, Whole}
use Rattle.http_frame.proofs.Standing.{Owing, steps_after, chunked_more, chunked_whole, chunked_fault}
use Rattle.http_frame.proofs.framer_steps.step_chunked.Goals as goal

pub returns-in-More-clause-step : goal.returns-in-More-clause-step
returns-in-More-clause-step c =
    let size : length c.read_in-taken.new.buf.items ≡ length c.args.buf.now.items = c.read_in-taken.ensures.len in
    let gone : length c.args.buf.now.items ≤ c.read_in-taken.result.at = c.read_in-taken.ensures.all c.in-More.is in
    let all : length c.read_in-taken.new.buf.items ≤ c.read_in-taken.result.at = omega arith in
    let order = c.read_in-taken.ensures.ordered in
    let fits : c.read_in-taken.result.chunks.filled ≤ length c.read_in-taken.new.buf.items = omega arith in
    chunked_more c.args.facts c.args.chunks c.args.at c.args.buf.now.items c.read_in-taken.new.buf.items c.truncate.new.self.items c.read_in-taken.result c.read_in-taken.ensures.advances c.in-More.is all fits c.truncate.ensures.items

pub returns-in-Whole-clause-step : goal.returns-in-Whole-clause-step
returns-in-Whole-clause-step c =
    steps_after (Owing c.args.facts (Chunked c.args.chunks)) (Owing c.args.facts (Whole c.read_in-taken.result.chunks.filled)) c.args.buf.now.items c.read_in-taken.new.buf.items c.step_whole.new.buf.items c.args.at c.read_in-taken.result.at
    c.step_whole.result (chunked_whole c.args.facts c.args.chunks c.args.at c.args.buf.now.items c.read_in-taken.new.buf.items c.read_in-taken.result c.read_in-taken.ensures.advances c.in-Whole.is) c.step_whole.ensures.step

pub returns-in-Fault-clause-step : goal.returns-in-Fault-clause-step
returns-in-Fault-clause-step c =
    chunked_fault c.args.facts c.args.chunks c.args.at c.args.buf.now.items c.read_in-taken.new.buf.items c.read_in-taken.result c.in-Fault.fault c.read_in-taken.ensures.advances c.in-Fault.is
