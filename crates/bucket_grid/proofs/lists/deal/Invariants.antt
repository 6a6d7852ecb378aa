use Rattle.std.proofs.Common.{◌≡◌, ◌<◌, ◌++◌, ◌∷◌, ◌&&◌, ℕ, [], length, get_or, filter, take, cond, leb, ltb}
use Rattle.bucket_grid.specs.Dealt.{covers, span_at, AreDealt}
use Rattle.bucket_grid.proofs.lists.deal.Given as goal

abbrev pub invariant-loop-number : goal.invariant-loop-number
invariant-loop-number l = AreDealt l.spans (take l.number-index l.numbers) (length l.fn.lists) l.lists

abbrev pub invariant-loop-list : goal.invariant-loop-list
invariant-loop-list l = record {
  count : length l.lists ≡ length l.fn.lists;
  each : (k : ℕ) → k < length l.fn.lists → get_or l.lists k [] ≡ filter (λ n. covers k (span_at l.spans n)) (take l.number-index l.numbers) ++ cond (leb (span_at l.spans l.number).first k && ltb k l.list) (l.number ∷ []) [];
}
