use Rattle.std.proofs.Common.{List, subst, sym}
use Rattle.httparse.specs.declared.spans.HeaderSpan.{HeaderSpan}
use Rattle.http_frame.specs.inner.RequestHeads.{IsPlaced}
use Rattle.http_frame.proofs.Seeing.{placed, whole_seen}
use Rattle.http_frame.proofs.seen.whole.Goals as goal

pub head_at-requires : goal.head_at-requires
head_at-requires c =
    subst (λ (hs : List HeaderSpan). IsPlaced c.args.block.now c.args.spans.now hs) (sym c.first.ensures) (placed c.args.block.now c.args.headers.now c.args.spans.now c.requires.within)

pub returns : goal.returns
returns c =
    whole_seen c.args.bytes.now c.args.block.now c.args.headers.now c.first.result.now c.args.spans.now c.head_at.result c.requires.block c.requires.head c.requires.within c.first.ensures c.head_at.ensures
