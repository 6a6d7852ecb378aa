-- How versions are made.
use Rattle.std.specs.Prelude.{◌≡◌, [], ◌∷◌, Option, Some, None, Result, Ok, Err}
use Rattle.bim_model.specs.Snapshots.{Version}
use Rattle.bucket_grid.specs.Grids.{GridValue}
use Rattle.book_history.specs.declared.limits.Limits.{Limits}
use Rattle.book_history.specs.declared.book_fault.BookFault.{BookFault}
use Rattle.book_history.specs.Versions.{VersionState, made_after}
use Rattle.book_history.specs.Refusals.{first_of, elements_full, too_spread}
use Rattle.federation_book.specs.declared.making.NextVersion.{NextVersion}
use Rattle.federation_book.specs.declared.making.NextVersion.TheVariants.{Made, Refused}

-- the grid of what a version is to hold, where it isn't too spread
abbrev pub IsGridWithin : Limits → Version → Result GridValue BookFault → Type 0
IsGridWithin limits content (Ok grid) = (too_spread limits (Some content) ≡ None) × (grid.version ≡ content)
IsGridWithin limits content (Err f) = too_spread limits (Some content) ≡ Some f

-- why the version isn't made
abbrev pub too_large : Limits → Version → Option BookFault
too_large limits content =
    first_of (elements_full limits (Some content) ∷ too_spread limits (Some content) ∷ [])

-- the version that holds this, made after another one, or why it isn't made
abbrev pub IsNext : Limits → VersionState → Version → NextVersion → Type 0
IsNext limits before content (Made version) =
    (too_large limits content ≡ None) × (version ≡ made_after before content)
IsNext limits before content (Refused f) = too_large limits content ≡ Some f
