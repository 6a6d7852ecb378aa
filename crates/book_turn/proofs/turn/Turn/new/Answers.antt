use Rattle.std.proofs.Common.{All, sym, subst}
use Rattle.book_turn.specs.Passes.{IsSingle}
use Rattle.book_turn.proofs.Ends.{new_passes_single}
use Rattle.book_turn.proofs.turn.Turn.new.Goals as goal

pub returns-clause-single : goal.returns-clause-single
returns-clause-single g c = subst (All (IsSingle _)) (sym c.in_ok-all.ensures) (new_passes_single _ 0 c.args.passes)
