-- Identifiers are UUIDs of version 8 (RFC 9562, 5.8): the project's number in 4 bytes, 00 00 80 00 80 00,
-- and the object's serial number in 6 bytes. A project's own identifier has the serial number 0.
use Rattle.std.specs.Prelude.{◌≡◌, ◌+◌, ◌*◌, ◌<◌, ◌^◌, ℕ, Option, Some, None}

-- the number of 128 bits that names the object of a serial number in a project
abbrev pub identifier : ℕ → ℕ → ℕ
identifier project serial = project * 2 ^ 96 + 0x80008000 * 2 ^ 48 + serial

-- the serial number below 2 ^ 48 that has the identifier in a project, if there is one
abbrev pub IsSerialOf : ℕ → ℕ → Option ℕ → Type 0
IsSerialOf project id (Some serial) = (serial < 2 ^ 48) × (id ≡ identifier project serial)
IsSerialOf project id None = (serial : ℕ) → serial < 2 ^ 48 → id ≡ identifier project serial → ⊥
