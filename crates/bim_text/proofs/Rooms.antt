-- How many digits more a short number takes.
use Rattle.std.proofs.Common.{◌≡◌, ℕ, ◌+◌, ◌-◌, ◌*◌, ◌^◌, ◌<◌, ◌≤◌, true, ap, subst, ◌∙◌, arith}
use Rattle.std.proofs.Math.Nat.{one-le-pow, mul-le-mul_right, le-mul_of_pos_right}
use Rattle.std.proofs.lemmas.Bool.Decides.{nat_tests}
use Rattle.std.proofs.lemmas.Nat.{pow-add}
use Rattle.p21_lexer.specs.Spelling.{is_digit}
use Rattle.bim_text.specs.inner.NumberScanning.{HasRoom}
use Rattle.bim_text.proofs.Fronts.{front_step, front_stop, front_past}

pub room_first : (n : ℕ) → HasRoom 0 (n + 15 - n)
unfolding HasRoom
room_first n = let e : n + 15 - n ≡ 15 = omega arith in rw e (omega arith)

pub room_point : (value start end : ℕ) → HasRoom value (start + 15 - end) → HasRoom value (start + 16 - (end + 1))
room_point value start end h = let e : start + 16 - (end + 1) ≡ start + 15 - end = omega arith in rw e h

pub room_zero : (value end : ℕ) → value ≡ 0 → HasRoom value (end + 16 - (end + 1))
unfolding HasRoom
room_zero value end none = let e : end + 16 - (end + 1) ≡ 15 = omega arith in rw (none, e) (omega arith)

some : (n : ℕ) → 0 < 10 ^ n
some n = one-le-pow n 10 (omega arith)

-- one digit less
less : (value at limit : ℕ) → at < limit → HasRoom value (limit - at) → (value + 1) * (10 ^ (limit - (at + 1)) * 10) ≤ 10 ^ 15
unfolding HasRoom
less value at limit lt h =
    let e : limit - at ≡ (limit - (at + 1)) + 1 = omega (arith, lt) in
    let p : 10 ^ (limit - at) ≡ 10 ^ (limit - (at + 1)) * 10 = ap (λ (n : ℕ). 10 ^ n) e ∙ pow-add 10 (limit - (at + 1)) 1 in
    subst (λ (x : ℕ). (value + 1) * x ≤ 10 ^ 15) p h

grown : (value d x : ℕ) → d ≤ 9 → (value + 1) * (x * 10) ≤ 10 ^ 15 → (value * 10 + d + 1) * x ≤ 10 ^ 15
grown value d x le h = let m : d * x ≤ 9 * x = mul-le-mul_right x le in omega (arith, h, m)

digit_few : (b : ℕ) → is_digit b ≡ true → b - 48 ≤ 9
digit_few b h = grind (arith, nat_tests, h)

pub room_step : (value b at limit : ℕ) → at < limit → is_digit b ≡ true → HasRoom value (limit - at) → HasRoom (value * 10 + (b - 48)) (limit - (at + 1))
unfolding HasRoom
room_step value b at limit lt h room = grown value (b - 48) (10 ^ (limit - (at + 1))) (digit_few b h) (less value at limit lt room)

least : (value x : ℕ) → 0 < x → value + 1 ≤ (value + 1) * x
least value x lt = le-mul_of_pos_right (value + 1) lt

pub room_small : (value more : ℕ) → HasRoom value more → value < 10 ^ 15
unfolding HasRoom
room_small value more h = let p = least value (10 ^ more) (some more) in omega (arith, h, p)

tenth : (value x : ℕ) → 0 < x → (value + 1) * (x * 10) ≤ 10 ^ 15 → value < 10 ^ 14
tenth value x lt h = let p = least value x lt in omega (arith, h, p)

-- the next digit overflows nothing
pub room_next : (value at limit : ℕ) → at < limit → HasRoom value (limit - at) → value < 10 ^ 14
room_next value at limit lt h = tenth value (10 ^ (limit - (at + 1))) (some (limit - (at + 1))) (less value at limit lt h)

pub ruleset digits = (front_step, front_stop, front_past, room_step, room_next)

pub ruleset rooms = (room_first, room_point, room_zero)
