-- What a sink holds after a piece was written in parts.
use Rattle.std.proofs.Common.{◌≡◌, ◌+◌, ◌<◌, ◌≤◌, length, arith, length-drop, ℕ, List, [], ◌++◌, take, drop, sym, ap, append-nil, subst}
use Rattle.std.proofs.Math.Seq.{take-add}
use Rattle.std.proofs.lemmas.List.{take-append-drop}
use Rattle.bim_io.specs.Causes.{Rose, Grows}
use Rattle.bim_io.specs.StreamViews.{SinkSeen, SinkTakes}
use Rattle.bim_io.proofs.Calls.{takes_trans}
use Rattle.bim_io.specs.Writes.{WritesLess}

-- a write of the next part of the bytes
pub takes_more : (a b c : SinkSeen) (bytes : List ℕ) (at n : ℕ) → SinkTakes a b (take at bytes) → Grows b.held c.held (take n (drop at bytes)) → c.faults ≡ b.faults
    → SinkTakes a c (take (at + n) bytes)
takes_more a b c bytes at n p held same =
    let next : SinkTakes b c (take n (drop at bytes)) = record { held = held; faults = omega arith } in
    rw (take-add at n bytes) (takes_trans a b c (take at bytes) (take n (drop at bytes)) p next)

-- a write that failed after a part of the bytes
pub wrote_front : (a b c : SinkSeen) (bytes : List ℕ) (at : ℕ) → at < length bytes → SinkTakes a b (take at bytes) → b.faults ≡ a.faults
    → Grows b.held c.held [] → b.faults ≤ c.faults → Rose b.faults c.faults → WritesLess a c bytes
wrote_front a b c bytes at lt p same held later rose =
    let next : SinkTakes b c [] = record { held = held; faults = later } in
    let whole : SinkTakes a c (take at bytes ++ []) = takes_trans a b c (take at bytes) [] p next in (
      take at bytes,
      drop at bytes,
      sym (take-append-drop at bytes),
      λ e. omega (arith, length-drop at bytes, ap length e),
      subst (λ (b : List ℕ). SinkTakes a c b) (append-nil (take at bytes)) whole,
      subst (λ (n : ℕ). Rose n c.faults) same rose,
    )
