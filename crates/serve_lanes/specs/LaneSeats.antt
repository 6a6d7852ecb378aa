-- What is made before the doors of a server are opened.
use Rattle.std.specs.Prelude.{ℕ}
use Rattle.book_history.specs.declared.limits.Settings.{Settings}

-- so many lanes have room and a pass each, over a book of these settings
pub record SeatsMade : Type 0 where
  pub lanes : ℕ
  pub settings : Settings
