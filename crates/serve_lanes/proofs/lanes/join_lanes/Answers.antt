use Rattle.std.proofs.Common.{◌≡◌, ◌≢◌, ◌++◌, ◌∷◌, [], List, length, All, map, false, refl, sym, ap, ◌∙◌, subst, arith, length-append}
use Rattle.std.proofs.lemmas.List.{map-append, length-map}
use Rattle.std.proofs.lemmas.List.Elements.{All-head, All-tail}
use Rattle.bim_net.specs.ConnectionViews.{DoorSeen}
use Rattle.serve_lanes.specs.Histories.{LaneOver, LanesJoined}
use Rattle.serve_lanes.proofs.Rows.{numbers_moved}
use Rattle.serve_lanes.proofs.Joining.{joined_none, numbers_apart}
use Rattle.serve_lanes.proofs.lanes.join_lanes.Goals as goal

pub loop-lane-init : goal.loop-lane-init
loop-lane-init g c =
    let items = c.from_vec-lanes.ensures.items in
    let none : map g.D.Door.seen c.args.room.items ≡ [] = ap (λ ds. map g.D.Door.seen ds) c.requires.room.0 in
    record {
      number = refl;
      joined = subst (λ (ds : List DoorSeen). LanesJoined g.K.Serving.service c.args.links c.args.turn.now c.args.own ds false c.none.result) (sym none)
          (joined_none g.K.Serving.service c.args.links c.args.turn.now c.args.own c.none.result c.requires.own);
      room = (let a = ap (λ xs. length xs) c.requires.room.0 in let b = ap (λ xs. length xs) items in omega (arith, a, b, c.requires.room.1, c.args.room.ok, c.args.lanes.ok));
      over = subst (All (λ x. LaneOver g.K.Serving.service c.args.links c.args.turn.now x.pass (g.D.Door.seen x.door) x.end x.lack)) (sym items) c.requires.over;
      other = subst (All (λ x. (g.D.Door.seen x.door).number ≢ c.args.own.number)) (sym items)
          (numbers_apart (λ x. (g.D.Door.seen x.door).number) c.args.lanes.items 0 _ c.args.own.number c.requires.numbers (omega (arith, c.requires.other)));
      numbers = ap (λ (ds : List DoorSeen). map (λ (d : DoorSeen). d.number) ds ++ map (λ x. (g.D.Door.seen x.door).number) c.from_vec-lanes.result.items) none
          ∙ ap (λ xs. map (λ x. (g.D.Door.seen x.door).number) xs) items;
    }

pub loop-lane-preserved : goal.loop-lane-preserved
loop-lane-preserved g c =
    let i = c.loop-lane.invariant in
    let x = c.in-Some.lane in
    let rest = c.pop_front.new.self.items in
    let items = c.in-Some.ensures.items in
    let j = c.join_lane.ensures in
    let old = c.loop-lane.joined.doors in
    let new = c.join_lane.new.joined.doors in
    record {
      number = j.number ∙ i.number;
      joined = j.joined;
      room = (
          let a : length c.loop-lane.lanes.items ≡ length (x ∷ rest) = ap length items in
          let b : length (map g.D.Door.seen new.items) ≡ length (map g.D.Door.seen old.items ++ g.D.Door.seen x.door ∷ []) = ap (λ (ds : List DoorSeen). length ds) j.doors in
          let both = length-append (map g.D.Door.seen old.items) (g.D.Door.seen x.door ∷ []) in
          let after : length (map g.D.Door.seen new.items) ≡ length new.items = length-map new.items g.D.Door.seen in
          let before : length (map g.D.Door.seen old.items) ≡ length old.items = length-map old.items g.D.Door.seen in
          let room = i.room in
          let same = j.room in
          omega (arith, a, b, both, after, before, room, same, new.ok.0, old.ok.0)
          );
      over = All-tail (λ y. LaneOver g.K.Serving.service c.args.links c.args.turn.now y.pass (g.D.Door.seen y.door) y.end y.lack) x rest (subst (All (λ y. LaneOver g.K.Serving.service c.args.links c.args.turn.now y.pass (g.D.Door.seen y.door) y.end y.lack)) items i.over);
      other = All-tail (λ y. (g.D.Door.seen y.door).number ≢ c.args.own.number) x rest (subst (All (λ y. (g.D.Door.seen y.door).number ≢ c.args.own.number)) items i.other);
      numbers = numbers_moved (λ y. (g.D.Door.seen y.door).number) (map (λ (d : DoorSeen). d.number) (map g.D.Door.seen c.loop-lane.joined.doors.items)) _ _ x rest c.loop-lane.lanes.items
          (ap (λ (ds : List DoorSeen). map (λ (d : DoorSeen). d.number) ds) j.doors ∙ map-append (λ (d : DoorSeen). d.number) (map g.D.Door.seen c.loop-lane.joined.doors.items) (g.D.Door.seen x.door ∷ [])) items i.numbers;
    }

pub join_lane-requires-clause-over : goal.join_lane-requires-clause-over
join_lane-requires-clause-over g c =
    All-head (λ y. LaneOver g.K.Serving.service c.args.links c.args.turn.now y.pass (g.D.Door.seen y.door) y.end y.lack) c.in-Some.lane c.pop_front.new.self.items
    (subst (All (λ y. LaneOver g.K.Serving.service c.args.links c.args.turn.now y.pass (g.D.Door.seen y.door) y.end y.lack)) c.in-Some.ensures.items c.loop-lane.invariant.over)

pub join_lane-requires-clause-other : goal.join_lane-requires-clause-other
join_lane-requires-clause-other g c =
    let own = c.args.own.number in
    let apart : (g.D.Door.seen c.in-Some.lane.door).number ≢ own = All-head (λ y. (g.D.Door.seen y.door).number ≢ own) c.in-Some.lane c.pop_front.new.self.items
    (subst (All (λ y. (g.D.Door.seen y.door).number ≢ own)) c.in-Some.ensures.items c.loop-lane.invariant.other) in
    λ same. apart (same ∙ c.loop-lane.invariant.number)
