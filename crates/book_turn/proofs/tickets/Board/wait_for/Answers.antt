use Rattle.std.proofs.Common.{rules, ◌≡◌, ◌<◌, [], length, sym, subst}
use Rattle.book_turn.specs.declared.rule.Stage.TheVariants.{Waiting}
use mathlib.Core.Option.{none}
use Rattle.atomic_table.specs.Table.{step}
use Rattle.book_turn.proofs.Calls.{came}
use Rattle.book_turn.proofs.tickets.Board.wait_for.Goals as goal

pub look-serving-requires-clause-waits : goal.look-serving-requires-clause-waits
look-serving-requires-clause-waits g c =
    let w = subst (λ m. (m.0.stage ≡ Waiting c.args.turn) × (0 < length m.0.passes) × (m.1 ≡ [])) (sym c.loop.invariant.2) c.requires.waits in
    (c.args.turn, w.0, w.1, w.2)

pub returns-then-serving-turn-clause-comes : goal.returns-then-serving-turn-clause-comes
returns-then-serving-turn-clause-comes g c =
    let same : c.look-serving.result ≡ c.args.turn = search rules in
    came _ _ _ _ (step 1 1 0 0 none) _ _ _ _ _ c.loop.invariant.2 c.requires.waits.0 same c.look-serving.ensures.looked
