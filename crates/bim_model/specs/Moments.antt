-- Moments: whole seconds since 1970-01-01T00:00:00Z.
use Rattle.std.specs.Prelude.{ℕ, ◌≤◌}
use Rattle.bim_model.specs.declared.moment.TheConstants.Moment.{LAST}

-- 9999-12-30T22:00:00Z, the last whole second that jiff takes as an instant
abbrev pub last_moment : ℕ
last_moment = LAST

-- a moment is not beyond the last one
abbrev pub IsMoment : ℕ → Type 0
IsMoment moment = moment ≤ last_moment
