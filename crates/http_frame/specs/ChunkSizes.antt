-- The line before a chunk, byte by byte.
use Rattle.std.specs.Prelude.{ℕ, ◌+◌, ◌==◌, nat_lt, List, [], ◌∷◌, if◌then◌else◌}
use Rattle.std.specs.Char.{is_ascii_hexdigit}
use Rattle.http_frame.specs.declared.size_line.SizeSpot.{SizeSpot}
use Rattle.http_frame.specs.declared.size_line.SizeSpot.TheVariants.{Digits, Extension, Cr, Whole, Wrong}

-- where the byte after this one stands
abbrev pub size_step : SizeSpot → ℕ → SizeSpot
size_step (Digits n) b =
    if is_ascii_hexdigit b then (if nat_lt n 8 then Digits (n + 1) else Wrong)
    else (if n == 0 then Wrong else (if b == 59 then Extension 0 else (if b == 13 then Cr else Wrong)))
size_step (Extension n) b =
    if b == 13 then Cr else (if b == 10 then Wrong else (if nat_lt n 256 then Extension (n + 1) else Wrong))
size_step Cr b = if b == 10 then Whole else Wrong
size_step Whole b = Whole
size_step Wrong b = Wrong

-- where these bytes lead
abbrev pub size_run : SizeSpot → List ℕ → SizeSpot
size_run spot [] = spot
size_run spot (b ∷ bytes) = size_run (size_step spot b) bytes
