use Rattle.std.proofs.Common.{ℕ, Option, sym, subst, arith}
use Rattle.std.specs.Option.{IfSome}
use Rattle.model_walk.specs.inner.Stocked.{IsStocked, Grows, Draws}
use Rattle.model_walk.proofs.SketchesMade.{drawn_none, drawn_more, are_drawn}
use Rattle.model_walk.proofs.element_sketches.drawn_of.Goals as goal

pub loop-id-init : goal.loop-id-init
loop-id-init c =
    let told = c.args.told.now in
    (drawn_none told.exchange.now told.scale told.mode c.args.stock.now c.args.ids.now _ c.requires.stocked c.in_ok-with_capacity.ensures.items c.in_ok-new.ensures, omega arith)

pub draw-requires-clause-stocked : goal.draw-requires-clause-stocked
draw-requires-clause-stocked c = c.loop-id.invariant.0.stocked

pub loop-id-preserved : goal.loop-id-preserved
loop-id-preserved c =
    let told = c.args.told.now in
    let world = told.exchange.now in
    let new = c.draw.new.stock in
    let more = c.in-Some-2.more in
    let stocked = subst (λ (o : Option ℕ). IfSome o (λ n. IsStocked world told.scale told.mode new)) c.in-Some-2.is c.in_ok-more.ensures.stocked in
    let grows = subst (λ (o : Option ℕ). IfSome o (λ n. Grows c.loop-id.stock new)) c.in-Some-2.is c.in_ok-more.ensures.grows in
    let draws = subst (λ (o : Option ℕ). IfSome o (Draws world told.scale told.mode new c.in-Some.instance c.loop-id.drawn c.draw.new.drawn)) c.in-Some-2.is c.in_ok-more.ensures.draws in (
      drawn_more world told.scale told.mode c.args.stock.now c.loop-id.stock new c.args.ids.now c.loop-id.id-index c.loop-id.drawn c.draw.new.drawn c.loop-id.count more c.in-Some.instance
          c.loop-id.invariant.0 c.loop-id-test.true (sym c.in-Some.ensures) stocked grows draws,
      omega (arith, c.if-more-room.false, c.loop-id.invariant.1),
    )

pub returns-clause-grows : goal.returns-clause-grows
returns-clause-grows c = c.loop-id.invariant.0.grows

pub returns-clause-drawn : goal.returns-clause-drawn
returns-clause-drawn c =
    let told = c.args.told.now in
    are_drawn told.exchange.now told.scale told.mode c.args.stock.now c.loop-id.stock c.args.ids.now c.loop-id.id-index c.loop-id.drawn c.loop-id.count c.loop-id-test.false c.loop-id.invariant.1 c.loop-id.invariant.0
