use Rattle.p21_reader.specs.inner.Heading.{sign_of, signs_of}
use Rattle.p21_reader.proofs.Steps.{residual, fails_none}
use Rattle.p21_reader.proofs.Headers.{heads_fail, heads_step, follow_fail}
use Rattle.p21_reader.proofs.nested.pass_values.Goals as goal

pub returns-in_err-piece-clause-passes : goal.returns-in_err-piece-clause-passes
returns-in_err-piece-clause-passes c =
    let f = c.in_err-piece.field-0.0 in
    rw (residual _ _ c.from_residual-in_err-piece.ensures.1)
    (heads_fail c.args.bytes.now c.args.at c.loop-want.end c.loop-want.wants.items c.pop.new.self.items c.in-Some.want f c.loop-want.invariant.read c.in-Some.ensures.items
    (fails_none (sign_of c.in-Some.want) (signs_of c.pop.new.self.items) c.args.bytes.now c.loop-want.end f c.in_err-piece.ensures.fault))

pub returns-in_err-follow-clause-passes : goal.returns-in_err-follow-clause-passes
returns-in_err-follow-clause-passes c =
    let f = c.in_err-follow.field-0.0 in
    rw (residual _ _ c.from_residual-in_err-follow.ensures.1)
    (heads_fail c.args.bytes.now c.args.at c.loop-want.end c.loop-want.wants.items c.pop.new.self.items c.in-Some.want f c.loop-want.invariant.read c.in-Some.ensures.items
    (follow_fail (sign_of c.in-Some.want) (signs_of c.pop.new.self.items) c.args.bytes.now c.loop-want.end c.in_ok-piece.piece.token f c.in_ok-piece.ensures.cuts c.in_err-follow.ensures.fault))

pub loop-want-preserved : goal.loop-want-preserved
loop-want-preserved c = record {
  within = c.in_ok-piece.ensures.piece.within;
  read = heads_step c.args.bytes.now c.args.at c.loop-want.end c.loop-want.wants.items c.pop.new.self.items c.follow.new.wants.items c.in-Some.want c.in_ok-piece.piece.token
      c.loop-want.invariant.read c.in-Some.ensures.items c.in_ok-piece.ensures.cuts c.in_ok-follow.ensures.follows;
}
