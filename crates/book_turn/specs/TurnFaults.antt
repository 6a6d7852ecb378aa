-- What a call that got no reply leaves.
use Rattle.std.specs.Prelude.{◌≡◌}
use Rattle.book_turn.specs.declared.object.Stamp.{Stamp}
use Rattle.book_turn.specs.declared.limits.TheConstants.{MOST_TURNS}
use Rattle.book_turn.specs.declared.call_fault.CallFault.{CallFault}
use Rattle.book_turn.specs.declared.call_fault.CallFault.TheVariants.{Memory, PassSpent}
use Rattle.book_turn.specs.Passes.{PassState, GotNothing}

-- the turn was taken and nothing was added; or the pass had made all its turns, took none, and stays as it was
abbrev pub Failed : {E S : Type 0} → (E → Stamp) → PassState E S → PassState E S → CallFault → Type 0
Failed stamp_of v w Memory = GotNothing stamp_of v w
Failed stamp_of v w (PassSpent spent) = (v.made ≡ MOST_TURNS) × (spent ≡ v.number) × (w ≡ v)
