-- The numbers that a generator draws: the high bits of a linear congruence modulo 2^64, whose states begin
-- with a number that is given.
use Rattle.std.specs.Prelude.{ℕ, zero, suc, ◌+◌, ◌*◌, ◌/◌, ◌%◌, ◌^◌}

-- the state after this one
unfoldable pub after : ℕ → ℕ
after state = (state * 6364136223846793005 + 1442695040888963407) % 2 ^ 64

-- the state of that place, the number itself at 0
abbrev pub state_at : ℕ → ℕ → ℕ
state_at number zero = number
state_at number (suc place) = after (state_at number place)

-- the number that is drawn at that place, from 1: the high 31 bits of its state
abbrev pub drawn : ℕ → ℕ → ℕ
drawn number place = state_at number place / 2 ^ 33
