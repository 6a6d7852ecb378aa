use Rattle.std.proofs.Common.{◌≡◌, ℕ, ◌<◌, [], length, get_or}
use Rattle.model_walk.specs.inner.GuidSlots.{guids_seen, AreNoted, AreChained, IsNew}
use Rattle.model_walk.proofs.distinct_guids.differ_by_hash.Given as goal

abbrev pub invariant-loop-at : goal.invariant-loop-at
invariant-loop-at l = record {
  slots : length l.last.items ≡ l.size;
  places : length l.before.items ≡ l.at;
  noted : AreNoted l.size (guids_seen l.elements) l.last.items l.at;
  chained : AreChained l.size (guids_seen l.elements) l.before.items;
  new : (j : ℕ) → j < l.at → IsNew (guids_seen l.elements) j (get_or (guids_seen l.elements) j []);
}
