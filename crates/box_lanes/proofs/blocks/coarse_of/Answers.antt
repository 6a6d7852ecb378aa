use Rattle.std.proofs.Common.{◌≡◌, List, ℤ, ◌∷◌, ap₂, refl}
use Rattle.box_lanes.proofs.Steps.{step_fits, step_is}
use Rattle.box_lanes.proofs.blocks.coarse_of.Goals as goal

pub overflow_cast-result : goal.overflow_cast-result
overflow_cast-result c =
    let l = c.from-least.result in
    let g = c.from-greatest.result in
    let e = c.from-least.ensures in
    let f = c.from-greatest.ensures in
    (step_fits c.args.a l g c.ranges.a e f, (step_fits c.args.b l g c.ranges.b e f, (step_fits c.args.c l g c.ranges.c e f, (step_fits c.args.d l g c.ranges.d e f, (step_fits c.args.e l g c.ranges.e e f, (step_fits c.args.f l g c.ranges.f e f, (step_fits c.args.g l g c.ranges.g e f, (step_fits c.args.h l g c.ranges.h e f, tt))))))))

and_then : (x y : ℤ) (xs ys : List ℤ) → x ≡ y → xs ≡ ys → (x ∷ xs) ≡ (y ∷ ys)
and_then x y xs ys p q = ap₂ (λ a l. a ∷ l) p q

pub returns : goal.returns
returns c =
    let l = c.from-least.result in
    let g = c.from-greatest.result in
    let e = c.from-least.ensures in
    let f = c.from-greatest.ensures in
    and_then _ _ _ _ (step_is c.args.a l g c.ranges.a e f) (and_then _ _ _ _ (step_is c.args.b l g c.ranges.b e f) (and_then _ _ _ _ (step_is c.args.c l g c.ranges.c e f) (and_then _ _ _ _ (step_is c.args.d l g c.ranges.d e f) (and_then _ _ _ _ (step_is c.args.e l g c.ranges.e e f) (and_then _ _ _ _ (step_is c.args.f l g c.ranges.f e f) (and_then _ _ _ _ (step_is c.args.g l g c.ranges.g e f) (and_then _ _ _ _ (step_is c.args.h l g c.ranges.h e f) refl)))))))
