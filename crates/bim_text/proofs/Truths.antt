-- Tests and what they say.
use Rattle.std.proofs.Common.{◌≡◌, ℕ, ◌≤◌, true}
use Rattle.std.proofs.lemmas.Bool.{leb-true, and_parts}
use Rattle.p21_lexer.specs.Spelling.{is_digit}

pub digit_low : (b : ℕ) → is_digit b ≡ true → 48 ≤ b
digit_low b h = leb-true _ _ (and_parts _ _ h).0

pub digit_high : (b : ℕ) → is_digit b ≡ true → b ≤ 57
digit_high b h = leb-true _ _ (and_parts _ _ h).1
