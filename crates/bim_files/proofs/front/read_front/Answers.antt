use Rattle.std.proofs.Common.{◌≡◌, ◌+◌, ◌∙◌, length, arith}
use Rattle.bim_model.specs.declared.limits.TheConstants.{MOST_UPLOAD}
use Rattle.bim_files.proofs.Fronts.{front_ended, front_full}
use Rattle.bim_files.proofs.front.read_front.Goals as goal

pub returns-in-End-clause-front : goal.returns-in-End-clause-front
returns-in-End-clause-front g c =
    let step = rw c.in-End.is at c.in_ok-read_once.ensures.step in
    let front = front_ended (g.S.Source.seen c.args.source.now).left (g.S.Source.seen c.reads.source).left (g.S.Source.seen c.read_once.new.source).left
    c.reads.bytes.items c.read_once.new.bytes.items c.reads.invariant.lost step.0.0 step.0.1 step.0.2 c.reads.invariant.few in
    (rw c.in_ok-from_vec.ensures front, step.1 ∙ c.reads.invariant.quiet)

pub returns-clause-front : goal.returns-clause-front
returns-clause-front g c =
    let full : length c.reads.bytes.items ≡ MOST_UPLOAD + 1 = omega (arith, c.reads-test.false, c.reads.invariant.few, c.len.ensures) in
    let front = front_full (g.S.Source.seen c.args.source.now).left (g.S.Source.seen c.reads.source).left c.reads.bytes.items c.reads.invariant.lost full in
    (rw c.in_ok-from_vec-2.ensures front, c.reads.invariant.quiet)
