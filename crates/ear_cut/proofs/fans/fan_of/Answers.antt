use Rattle.std.proofs.Common.{◌≡◌, ◌∙◌, ◌+◌, ◌-◌, ◌<◌, ◌≤◌, ap, sym, subst, ℕ, suc, length, List, [], ◌∷◌, ◌++◌, drop, Some, arith}
use Rattle.ear_cut.specs.declared.corners.Corner.{Corner}
use Rattle.ear_cut.specs.declared.ears.Ear.{Ear}
use Rattle.ear_cut.specs.Corners.{turn_at}
use Rattle.ear_cut.specs.Removal.{is_turned_over, ear_of, cut_by}
use Rattle.ear_cut.specs.inner.Fans.{IsFan}
use Rattle.ear_cut.proofs.Steps.{behind, step_on, last_one}
use Rattle.ear_cut.proofs.Fanned.{all_convex, first_turn, last_turn, first_goes, without_first}
use Rattle.ear_cut.proofs.fans.fan_of.Goals as goal

to_come : (n i : ℕ) → i < (n - 1) - 2 → (n - 3) - i ≡ suc ((n - 3) - (i + 1))
to_come n i h = omega (arith, h)

room : (n i : ℕ) → i < (n - 1) - 2 → i + 3 ≤ n
room n i h = omega (arith, h)

three_left : (n i : ℕ) → 2 < n → (n - 1) - 2 ≤ i → i ≤ (n - 1) - 2 → i + 3 ≡ n
three_left n i h k l = omega (arith, h, k, l)

no_more : (n i : ℕ) → i + 3 ≡ n → (n - 3) - i ≡ 0
no_more n i h = omega (arith, h)

pub loop-i-preserved : goal.loop-i-preserved
loop-i-preserved c =
    let left = c.args.left.now in let n = length left in let i = c.loop-i.i in let view = c.args.view in let done = c.loop-i.ears.items in
    let whole = cut_by (Some view) (n - 3) left in
    let fan : IsFan view left = c.if-not-is_fan.ensures in
    let h = room n i c.loop-i-test.true in
    subst (λ (es : List Ear). whole ≡ behind es (cut_by (Some view) ((n - 3) - (i + 1)) (drop (i + 1) left))) (sym (c.in_ok-push.ensures.items ∙ ap (λ (e : Ear). done ++ e ∷ []) (c.ear_of.ensures ∙ ap ear_of (sym (first_turn left i h)))))
    (subst (λ (cs : List Corner). whole ≡ behind (done ++ ear_of (turn_at (drop i left) 0) ∷ []) (cut_by (Some view) ((n - 3) - (i + 1)) cs)) (without_first left i (omega (arith, h)))
    (step_on (Some view) ((n - 3) - i) ((n - 3) - (i + 1)) (drop i left) 0 done whole (to_come n i c.loop-i-test.true) (first_goes view left i fan h) c.loop-i.invariant))

pub returns : goal.returns
returns c =
    let left = c.args.left.now in let n = length left in let i = c.loop-i.i in let view = c.args.view in let done = c.loop-i.ears.items in
    let whole = cut_by (Some view) (n - 3) left in
    let fan : IsFan view left = c.if-not-is_fan.ensures in
    let h = three_left n i c.requires.many (omega (arith, c.loop-i-test.false)) (omega (arith, c.loop-i.auto.i-end)) in
    last_one (Some view) ((n - 3) - i) (drop i left) done whole (no_more n i h) (ap (is_turned_over (Some view)) (all_convex view left i 1 fan (omega (arith, h)) (omega (arith, h)))) c.loop-i.invariant
    ∙ ap Some (sym (c.in_ok-push-2.ensures.items ∙ ap (λ (e : Ear). done ++ e ∷ []) (c.ear_of-2.ensures ∙ ap ear_of (sym (last_turn left i h)))))
