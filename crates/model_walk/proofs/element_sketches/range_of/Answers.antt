use Rattle.std.proofs.Common.{sym}
use Rattle.model_walk.proofs.PiecesKept.{shown_by_shape, found_shows}
use Rattle.model_walk.proofs.element_sketches.range_of.Goals as goal

pub returns-in-Some-kept_range-clause-shows : goal.returns-in-Some-kept_range-clause-shows
returns-in-Some-kept_range-clause-shows c =
    let told = c.args.told.now in
    shown_by_shape told.exchange.now told.scale told.mode c.args.stock.now c.args.instance.now c.in-Some.id c.in-Some-place_of.at c.in-Some-kept_range.range (sym c.in-Some.ensures) c.in-Some-place_of.ensures
    (c.requires.shapes c.in-Some-place_of.at c.in-Some-kept_range.range (sym c.in-Some-kept_range.ensures))

pub returns-clause-shows : goal.returns-clause-shows
returns-clause-shows c =
    let told = c.args.told.now in
    found_shows told.exchange.now told.scale told.mode c.add_pieces.new.stock c.args.instance.now c.in-Some.id c.in-Some-place_of.at c.add_pieces.result (sym c.in-Some.ensures) c.in-Some-place_of.ensures c.add_pieces.ensures.shows
