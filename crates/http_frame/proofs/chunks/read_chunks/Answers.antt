use Rattle.std.proofs.Common.{refl, sym, ◌∙◌}
use Rattle.http_frame.proofs.Advancing.{advances_none, advances_on, not_over, over, ordered_at}
use Rattle.http_frame.proofs.chunks.read_chunks.Goals as goal

pub loop-here-init : goal.loop-here-init
loop-here-init c = record {
  ordered = c.requires.ordered;
  going = c.requires.end;
  len = refl;
  advances = advances_none c.args.bytes.now c.args.start c.requires.end;
}

pub loop-here-preserved : goal.loop-here-preserved
loop-here-preserved c = record {
  ordered = ordered_at c.take_some-here.result _ _ c.take_some-here.ensures.len c.take_some-here.ensures.ordered;
  going = not_over c.take_some-here.result.end (sym c.is_over.ensures ∙ c.if-is_over.false);
  len = c.take_some-here.ensures.len ∙ c.loop-here.invariant.len;
  advances = advances_on c.args.bytes.now c.loop-here.bytes c.take_some-here.new.bytes c.args.start c.loop-here.here c.take_some-here.result c.loop-here.invariant.advances c.loop-here.invariant.going c.take_some-here.ensures.advances;
}

pub returns-then-is_over-clause-advances : goal.returns-then-is_over-clause-advances
returns-then-is_over-clause-advances c =
    advances_on c.args.bytes.now c.loop-here.bytes c.take_some-here.new.bytes c.args.start c.loop-here.here c.take_some-here.result c.loop-here.invariant.advances c.loop-here.invariant.going c.take_some-here.ensures.advances

pub returns-then-is_over-clause-all : goal.returns-then-is_over-clause-all
returns-then-is_over-clause-all c = λ more. absurd (over c.take_some-here.result.end (sym c.is_over.ensures ∙ c.if-is_over.true) more)
