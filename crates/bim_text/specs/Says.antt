-- How a text is tested while it is decoded piece by piece.
use Rattle.std.specs.Prelude.{◌≡◌, ℕ, ◌+◌, ◌==◌, ◌&&◌, Bool, false, List, length, ◌++◌}
use Rattle.std.specs.List.{list_all}
use Rattle.std.specs.Str.{bytes_eq}
use Rattle.bim_model.specs.Guids.{is_guid_char}
use Rattle.bim_text.specs.declared.compare.Wanted.{Wanted}
use Rattle.bim_text.specs.declared.compare.Wanted.TheVariants.{Text, Guid}

-- a text is a globally unique identifier
abbrev pub is_guid : List ℕ → Bool
is_guid text = (length text == 22) && list_all is_guid_char text

-- the end of one, after so many characters
unfoldable pub ends_guid : ℕ → List ℕ → Bool
ends_guid before text = (before + length text == 22) && list_all is_guid_char text

-- what is to come is this text
unfoldable pub is_text : List ℕ → List ℕ → Bool
is_text text more = bytes_eq more text

-- what is to come is what is wanted
abbrev pub accepts : Wanted → List ℕ → Bool
accepts (Text text) more = is_text text.now more
accepts (Guid before) more = ends_guid before more

-- After this piece the first test comes to the second.
pub record Leaves (test : List ℕ → Bool) (piece : List ℕ) (left : List ℕ → Bool) : Type 0 where
  pub same : (more : List ℕ) → test (piece ++ more) ≡ left more

-- The test fails after this piece, whatever comes.
pub record Lacks (test : List ℕ → Bool) (piece : List ℕ) : Type 0 where
  pub differs : (more : List ℕ) → test (piece ++ more) ≡ false
