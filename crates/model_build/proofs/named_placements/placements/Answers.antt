use Rattle.std.proofs.Common.{◌≡◌, ◌++◌, ◌∷◌, [], take, get_or, ap, subst, sym, arith}
use Rattle.std.proofs.lemmas.Grind.{common_steps}
use Rattle.std.proofs.lemmas.List.{take_more}
use Rattle.model_build.specs.NamedPlacements.{ListsNamed}
use Rattle.model_build.proofs.PlacementsNamed.{named_pushed, named_passed}
use Rattle.model_build.proofs.named_placements.placements.Goals as goal
use Rattle.model_build.proofs.named_placements.placements.Goals.{in-Some+in_ok-push, in_default}

pub loop-id-preserved : goal.loop-id-preserved
loop-id-preserved c =
    let more = take_more c.args.ids.now c.loop-id.id-index 0 c.loop-id-test.true in
    rw more (elim c.match-named_by.branch [
      | in-Some+in_ok-push w ↦ (
          let e : c.match-named_by.named.items ≡ c.loop-id.named.items ++ w.in-Some.placement ∷ [] = grind (arith, common_steps) in
          subst (λ l. ListsNamed c.args.exchange.now (take c.loop-id.id-index c.args.ids.now ++ get_or c.args.ids.now c.loop-id.id-index 0 ∷ []) l) (sym e)
          (named_pushed c.args.exchange.now (take c.loop-id.id-index c.args.ids.now) c.loop-id.named.items (get_or c.args.ids.now c.loop-id.id-index 0) w.in-Some.placement w.in-Some.ensures c.loop-id.invariant))
      | in_default w ↦ (
          let e : c.match-named_by.named.items ≡ c.loop-id.named.items = ap (λ l. l.items) w.named-is in
          subst (λ l. ListsNamed c.args.exchange.now (take c.loop-id.id-index c.args.ids.now ++ get_or c.args.ids.now c.loop-id.id-index 0 ∷ []) l) (sym e)
          (named_passed c.args.exchange.now (take c.loop-id.id-index c.args.ids.now) c.loop-id.named.items (get_or c.args.ids.now c.loop-id.id-index 0) w.in_default.ensures c.loop-id.invariant))
    ])
