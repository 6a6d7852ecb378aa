use Rattle.std.proofs.Common.{◌≡◌, ◌-◌, ◌<◌, ◌≤◌, length}
use Rattle.p21_reader.specs.declared.passing.Top.TheVariants as tops
use Rattle.p21_reader.specs.inner.ValueNesting.{IsFit}
use Rattle.p21_values.specs.TokenPieces.{IsPiece}
use Rattle.p21_reader.proofs.Midway.{Midway}
use Rattle.p21_reader.proofs.passing.pass_nested.Given as goal

abbrev pub invariant-loop-next : goal.invariant-loop-next
invariant-loop-next l = record {
  piece : IsPiece l.bytes l.piece;
  on : l.fn.first.token.end ≤ l.piece.token.end;
  room : length l.typed ≡ 32;
  depth : l.level.depth ≤ l.fn.most;
  fit : IsFit l.level.top l.level.depth l.typed;
  nested : l.level.top ≡ tops.Behind → 0 < l.level.depth;
  midway : Midway l.fn.most l.level.top l.level.depth l.typed l.bytes l.fn.first.token l.piece.token l.fn.count l.count;
}

abbrev pub decreases-loop-next : goal.decreases-loop-next
decreases-loop-next l = length l.initial.bytes - l.piece.token.end
