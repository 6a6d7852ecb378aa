use Rattle.std.proofs.Common.{◌≡◌, ℕ, ◌+◌, ◌*◌, get_or, length, List, Some, ap, subst, arith, below_more}
use Rattle.placement.specs.declared.frame.Frame.{Frame}
use Rattle.placement.specs.Frames.{AreWithin}
use Rattle.ifc_units.specs.Lengths.{reach}
use Rattle.placement.specs.Placed.{AreFrames, frame_in}
use Rattle.placement.proofs.Chaining.{contains_at}
use Rattle.placement.proofs.Composed.{stands_on, placed_one, placed_more, within_more, listed_more, still_there, are_frames}
use Rattle.placement.proofs.frames.Frames.of.Goals as goal

pub compose-requires-clause-stands : goal.compose-requires-clause-stands
compose-requires-clause-stands c =
    stands_on c.args.exchange.now c.ids-id-items.result.now (frame_in c.loop-id.frames) c.loop-id.id-index (rw c.ids-id-items.ensures.same c.requires.first) c.loop-id-test.true c.loop-id.invariant.all

pub compose-requires-clause-placed : goal.compose-requires-clause-placed
compose-requires-clause-placed c = c.loop-id.invariant.placed

pub loop-id-preserved : goal.loop-id-preserved
loop-id-preserved c =
    let i = c.loop-id.invariant in
    let p = c.in_ok-put.ensures in
    let m = c.in-Some.ensures in
    let few = c.ids-id-items.ensures.few in
    let long = ap length c.ids-id-items.ensures.same in
    let lt = c.loop-id-test.true in
    let id = get_or c.ids-id-items.result.now c.loop-id.id-index 0 in
    let old = frame_in c.loop-id.frames in
    let new = frame_in c.put.new.self in
    let one = placed_one c.args.exchange.now c.args.scale c.args.mode old id c.in-Some.frame (c.loop-id.id-index * reach) i.near (omega arith) m in
    record {
      placed = placed_more c.args.exchange.now c.args.scale c.args.mode old new id c.in-Some.frame p i.placed one;
      near = within_more old new id c.in-Some.frame (c.loop-id.id-index * reach) ((c.loop-id.id-index + 1) * reach) p (omega arith) i.near
          (subst (λ (n : ℕ). AreWithin n c.in-Some.frame.offset) (let e : c.loop-id.id-index * reach + reach ≡ (c.loop-id.id-index + 1) * reach = omega arith in e) (m.near (c.loop-id.id-index * reach) i.near));
      listed = listed_more c.ids-id-items.result.now old new id c.in-Some.frame p (contains_at c.ids-id-items.result.now c.loop-id.id-index lt) i.listed;
      all = below_more (λ (k : ℕ). (f : Frame) × (new (get_or c.ids-id-items.result.now k 0) ≡ Some f)) c.loop-id.id-index (λ k l. still_there old new id c.in-Some.frame p (get_or c.ids-id-items.result.now k 0) (i.all k l)) (c.in-Some.frame, p.here);
    }

pub returns : goal.returns
returns c =
    let i = c.loop-id.invariant in
    let t = c.loop-id-test.false in
    subst (λ (ids : List ℕ). AreFrames c.args.exchange.now c.args.scale c.args.mode ids (frame_in c.loop-id.frames)) c.ids-id-items.ensures.same
    (are_frames c.args.exchange.now c.args.scale c.args.mode c.ids-id-items.result.now (frame_in c.loop-id.frames) i.placed i.listed (λ j l. i.all j (omega (arith, l, t))))
