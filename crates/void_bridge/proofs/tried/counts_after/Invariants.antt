use Rattle.std.proofs.Common.{◌≡◌, length}
use Rattle.void_bridge.specs.inner.Tried.{WereTried}
use Rattle.void_bridge.proofs.tried.counts_after.Given as goal

abbrev pub invariant-loop-m : goal.invariant-loop-m
invariant-loop-m l = record {
  count : length l.made.items ≡ l.m;
  tried : WereTried l.tried l.from l.more l.taken l.made.items;
}
