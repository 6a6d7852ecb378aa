-- How the fields of an entry are read.
use Rattle.std.specs.Prelude.{ℕ, ℤ, Bool, true, false, List, Option, Some, None}
use Rattle.std.specs.Int.{w32, w64, from_be_bytes, cast_signed}
use Rattle.std.specs.Str.{is_utf8}
use Rattle.feed_frames.specs.inner.Readers.{Reader, option_then, nothing_at, cut_at, made_at, checked_at, items_at, kind_at, no_kind, kinds_at}

-- a number in eight bytes
unfoldable pub long_at : Reader ℕ
long_at bytes = made_at (λ front. from_be_bytes w64 front) (cut_at 8) bytes

-- a number in four bytes
unfoldable pub short_at : Reader ℕ
short_at bytes = made_at (λ front. from_be_bytes w32 front) (cut_at 4) bytes

-- a number with a sign in four bytes
unfoldable pub signed_at : Reader ℤ
signed_at bytes = made_at (λ n. cast_signed w32 n) short_at bytes

-- so many bytes as the first eight say
abbrev pub sized_at : Reader (List ℕ)
sized_at bytes = option_then (long_at bytes) (λ n. cut_at n.0 n.1)

-- a text
unfoldable pub text_at : Reader (List ℕ)
text_at bytes = checked_at is_utf8 sized_at bytes

-- so many items as the first eight bytes say
unfoldable pub counted_at : {A : Type 0} → Reader A → Reader (List A)
counted_at read bytes = option_then (long_at bytes) (λ n. items_at read n.0 n.1)

-- a byte that is 0 or 1
unfoldable pub truth_at : Reader Bool
truth_at bytes =
    kinds_at
    (kind_at 0 (made_at (λ _. false) nothing_at) (kind_at 1 (made_at (λ _. true) nothing_at) no_kind))
    bytes

-- a value that may be missing
unfoldable pub optional_at : {A : Type 0} → Reader A → Reader (Option A)
optional_at read bytes =
    kinds_at
    (kind_at 0 (made_at (λ _. None) nothing_at) (kind_at 1 (made_at (λ x. Some x) read) no_kind))
    bytes
