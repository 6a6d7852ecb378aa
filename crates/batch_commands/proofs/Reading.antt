-- What is read of the bytes of a file.
use Rattle.std.proofs.Common.{◌≡◌, ℕ, List, Bool, true, false, None, option_and_then, refl}
use Rattle.std.specs.Str.{IsUtf8, is_utf8}
use Rattle.std.proofs.lemmas.Str.{is_utf8-from_IsUtf8, IsUtf8-from_is_utf8}
use Rattle.serde_json.specs.Read.{read}
use Rattle.batch_commands.specs.RulesFile.{object_of, if_object}

pub of_text : (bytes : List ℕ) → IsUtf8 bytes → object_of bytes ≡ option_and_then if_object (read bytes)
unfolding object_of
of_text bytes text = rw (is_utf8-from_IsUtf8 bytes text) refl

by_test : (bytes : List ℕ) (b : Bool) → is_utf8 bytes ≡ b → (IsUtf8 bytes → ⊥) → object_of bytes ≡ None
unfolding object_of
by_test bytes true e bad = absurd (bad (IsUtf8-from_is_utf8 bytes e))
by_test bytes false e bad = rw e refl

pub not_text : (bytes : List ℕ) → (IsUtf8 bytes → ⊥) → object_of bytes ≡ None
not_text bytes bad = by_test bytes (is_utf8 bytes) refl bad
