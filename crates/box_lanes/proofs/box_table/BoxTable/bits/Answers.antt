use Rattle.std.proofs.Common.{◌≡◌, ℕ, ◌-◌, ◌+◌, ◌*◌, ◌/◌, ◌%◌, ◌^◌, ◌<◌, ◌≤◌, bit_and, length, ap, ◌∙◌, arith}
use Rattle.std.proofs.Math.Nat.{mod-eq_of_lt}
use Rattle.std.proofs.lemmas.Nat.{and_mask, pow_below}
use Rattle.box_lanes.specs.CoarseBoxes.{meets}
use Rattle.box_lanes.proofs.Bits.{bits_of}
use Rattle.box_lanes.proofs.box_table.BoxTable.bits.Goals as goal

-- a power of two that fits 64 bits
power : (n : ℕ) → n ≤ 8 → 1 * 2 ^ n % 2 ^ 64 ≡ 2 ^ n
power n h =
    let one : 1 * 2 ^ n ≡ 2 ^ n = omega arith in
    let small : 2 ^ n < 2 ^ 64 = pow_below n 64 (omega arith) in
    ap (λ m. m % 2 ^ 64) one ∙ mod-eq_of_lt small

pub returns : goal.returns
returns c =
    let a = c.args in
    let at = a.block * 8 in
    let whole = c.lanes-whole.result in
    let n = a.end - at in
    let few : n ≤ 8 = omega (arith, c.requires.block, c.requires.number) in
    let on : at + n ≤ length a.self.now = omega (arith, c.requires.from, c.requires.end, c.requires.number) in
    ap (λ m. bit_and whole (m - 1) / 2 ^ (a.from - at)) (power n few) ∙ ap (λ m. m / 2 ^ (a.from - at)) (and_mask whole n)
    ∙ bits_of (meets a.reach.now) a.self.now at a.from a.end whole (omega (arith, c.requires.number)) (omega (arith, c.requires.from)) (c.lanes-whole.ensures n few on)
