use Rattle.std.proofs.Common.{◌≡◌, ◌<◌, ℕ, length, Option, refl, subst, arith}
use Rattle.std.specs.Option.{IfSome}
use Rattle.model_walk.specs.declared.element_sketches.Stock.{Stock}
use Rattle.model_walk.specs.declared.shape_pieces.Range.{Range}
use Rattle.model_walk.specs.inner.Stocked.{AddsPieces, shape_items}
use Rattle.model_walk.proofs.PiecesKept.{more_stocked, more_grows, more_shows}
use Rattle.model_walk.proofs.element_sketches.add_pieces.Goals as goal

pub returns-clause-stocked : goal.returns-clause-stocked
returns-clause-stocked c =
    let told = c.args.told.now in
    let world = told.exchange.now in
    let old = c.args.stock.now in
    let shape = c.instance-shape.result in
    let count = c.in-Some.count in
    let new : Stock = record { points = old.points; sets = old.sets; pieces = c.add_shape.new.out; shapes = c.put.new.self } in
    let range : Range = record { from = c.len-from.result; to = c.len.result; count = count } in
    let added = subst (λ (o : Option ℕ). IfSome o (AddsPieces world told.scale told.mode old.points old.sets (shape_items world shape) old.pieces.items c.add_shape.new.out.items 0)) c.in-Some.is
    (c.in_ok-count.ensures.added old.points c.requires.stocked.sets) in
    let from : range.from ≡ length old.pieces.items = omega (arith, c.len-from.ensures, old.pieces.ok.0) in
    let to : range.to ≡ length new.pieces.items = omega (arith, c.len.ensures, c.add_shape.new.out.ok.0) in
    let some : 0 < count = omega (arith, c.if-count-eq0.false) in
    more_stocked world told.scale told.mode old new c.args.at count shape range c.requires.stocked refl refl added c.in_ok-put.ensures c.requires.within c.instance-shape.ensures from to refl some

pub returns-clause-grows : goal.returns-clause-grows
returns-clause-grows c =
    let told = c.args.told.now in
    let world = told.exchange.now in
    let old = c.args.stock.now in
    let shape = c.instance-shape.result in
    let count = c.in-Some.count in
    let new : Stock = record { points = old.points; sets = old.sets; pieces = c.add_shape.new.out; shapes = c.put.new.self } in
    let range : Range = record { from = c.len-from.result; to = c.len.result; count = count } in
    let added = subst (λ (o : Option ℕ). IfSome o (AddsPieces world told.scale told.mode old.points old.sets (shape_items world shape) old.pieces.items c.add_shape.new.out.items 0)) c.in-Some.is
    (c.in_ok-count.ensures.added old.points c.requires.stocked.sets) in
    let from : range.from ≡ length old.pieces.items = omega (arith, c.len-from.ensures, old.pieces.ok.0) in
    let to : range.to ≡ length new.pieces.items = omega (arith, c.len.ensures, c.add_shape.new.out.ok.0) in
    let some : 0 < count = omega (arith, c.if-count-eq0.false) in
    more_grows world told.scale told.mode old new c.args.at count shape range c.requires.stocked refl refl added c.in_ok-put.ensures c.requires.within c.instance-shape.ensures from to refl some

pub returns-clause-shows : goal.returns-clause-shows
returns-clause-shows c =
    let told = c.args.told.now in
    let world = told.exchange.now in
    let old = c.args.stock.now in
    let shape = c.instance-shape.result in
    let count = c.in-Some.count in
    let new : Stock = record { points = old.points; sets = old.sets; pieces = c.add_shape.new.out; shapes = c.put.new.self } in
    let range : Range = record { from = c.len-from.result; to = c.len.result; count = count } in
    let added = subst (λ (o : Option ℕ). IfSome o (AddsPieces world told.scale told.mode old.points old.sets (shape_items world shape) old.pieces.items c.add_shape.new.out.items 0)) c.in-Some.is
    (c.in_ok-count.ensures.added old.points c.requires.stocked.sets) in
    let from : range.from ≡ length old.pieces.items = omega (arith, c.len-from.ensures, old.pieces.ok.0) in
    let to : range.to ≡ length new.pieces.items = omega (arith, c.len.ensures, c.add_shape.new.out.ok.0) in
    let some : 0 < count = omega (arith, c.if-count-eq0.false) in
    more_shows world told.scale told.mode old new c.args.at count shape range c.requires.stocked refl refl added c.in_ok-put.ensures c.requires.within c.instance-shape.ensures from to refl some
