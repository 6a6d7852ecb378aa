use Rattle.std.proofs.Common.{Option, refl, subst}
use Rattle.std.proofs.lemmas.Bool.{OnTrue_at}
use Rattle.std.specs.Option.{IfSome}
use Rattle.model_walk.specs.declared.shape_pieces.Range.{Range}
use Rattle.model_walk.specs.inner.Stocked.{IsStocked, ShowsItems}
use Rattle.ifc_elements.specs.Items.{body_items}
use Rattle.model_walk.proofs.PiecesKept.{sound_stock}
use Rattle.model_walk.proofs.element_sketches.draw_by.Goals as goal

pub are_near-requires-clause-sound : goal.are_near-requires-clause-sound
are_near-requires-clause-sound c =
    let told = c.args.told.now in
    sound_stock told.exchange.now told.scale told.mode c.range_of.new.stock
    (subst (λ (o : Option Range). IfSome o (λ range. IsStocked told.exchange.now told.scale told.mode c.range_of.new.stock)) c.in-Some-2.is c.in_ok-range.ensures.stocked)

pub returns-clause-draws : goal.returns-clause-draws
returns-clause-draws c =
    let told = c.args.told.now in
    let range = c.in-Some-2.range in
    let shows = subst (λ (o : Option Range). IfSome o (ShowsItems told.exchange.now told.scale told.mode c.range_of.new.stock (body_items told.exchange.now c.args.instance.now))) c.in-Some-2.is c.in_ok-range.ensures.shows in
    let added = OnTrue_at c.if-not-branch.false c.in_ok-add_bare.ensures in
    record {
      element = added.element;
      sketch = record { frame = c.args.frame; range = range };
      elements = added.grown;
      sketches = c.in_ok-push.ensures;
      is = record {
        bare = added.bare;
        placed = c.requires.placed;
        shows = shows;
        near = record { there = shows.there; framed = c.requires.framed; near = OnTrue_at c.if-not-are_near.false c.are_near.ensures };
      };
      counted = refl;
    }
