use Rattle.std.proofs.Common.{◌≡◌, ◌+◌, ◌∷◌, ℕ, length, vec_len, map, All, sym, ap, ◌∙◌, subst, arith}
use Rattle.std.proofs.lemmas.List.Elements.{All-nil, All-head, All-tail, All-push}
use Rattle.bim_net.specs.Hosts.{AreNew}
use Rattle.book_turn.specs.NumberLists.{numbers_from}
use Rattle.book_turn.specs.Passes.{new_passes}
use Rattle.book_history.specs.declared.changes.Entry.{Entry}
use Rattle.check_workers.proofs.WorkersMade.{new_passes_length}
use Rattle.serve_lanes.specs.Histories.{IsReady, TellsOne}
use Rattle.serve_lanes.proofs.LanesMade.{passes_first, ready_lane}
use Rattle.serve_lanes.proofs.Joining.{numbers_more}
use Rattle.serve_lanes.proofs.lanes.make_lanes.Goals as goal

pub loop-pass-init : goal.loop-pass-init
loop-pass-init g c =
    let t = c.args.turn.now in
    let s = g.K.Serving.service in
    let empty : length c.args.room.items ≡ 0 = ap length c.requires.room.0 in
    let none : vec_len c.args.room ≡ 0 = omega (arith, empty, c.args.room.ok.0) in
    let passes = c.from_vec-passes.ensures.items in
    let doors = c.from_vec-doors.ensures.items in
    let clocks = c.from_vec-clocks.ensures.items in
    let all : length c.from_vec-passes.result.items ≡ vec_len c.args.doors = ap length passes ∙ ap length c.requires.passes ∙ new_passes_length t 0 (vec_len c.args.doors) in
    let as_doors : length c.from_vec-doors.result.items ≡ length c.args.doors.items = ap length doors in
    let as_clocks : length c.from_vec-clocks.result.items ≡ length c.args.clocks.items = ap length clocks in
    record {
      count = omega (arith, none, all);
      room = c.requires.room.1;
      passes = passes ∙ c.requires.passes ∙ ap (λ (n : ℕ). new_passes {E = Entry} t 0 n) (sym all)
          ∙ ap (λ (k : ℕ). new_passes {E = Entry} t k (length c.from_vec-passes.result.items)) (sym none);
      doors = subst (λ (k : ℕ). AreNew s.tells k (map g.D.Door.seen c.from_vec-doors.result.items)) (sym none)
          (subst (λ ds. AreNew s.tells 0 (map g.D.Door.seen ds)) (sym doors) c.requires.doors);
      as_doors = omega (arith, all, as_doors, c.args.doors.ok.0);
      as_clocks = (let same = c.requires.clocks in omega (arith, all, as_clocks, same, c.args.clocks.ok.0));
      one = subst (λ cs. All (λ x. TellsOne s.one (g.C.Clock.seen x).one) cs) (sym clocks) c.requires.one;
      ready = subst (λ ls. All (λ x. IsReady s t x.pass (g.D.Door.seen x.door) (g.C.Clock.seen x.clock) x.lack) ls) (sym c.requires.room.0)
          (All-nil (λ x. IsReady s t x.pass (g.D.Door.seen x.door) (g.C.Clock.seen x.clock) x.lack));
      numbers = ap (λ ls. map (λ x. (g.D.Door.seen x.door).number) ls) c.requires.room.0 ∙ ap (λ (n : ℕ). numbers_from 0 n) (sym none);
    }

pub loop-pass-preserved : goal.loop-pass-preserved
loop-pass-preserved g c =
    let t = c.args.turn.now in
    let s = g.K.Serving.service in
    let i = c.loop-pass.invariant in
    let n : ℕ = vec_len c.loop-pass.lanes in
    let p = c.in-Some.pass in
    let door = c.in-Some-pop_front.door in
    let clock = c.in-Some-pop_front-2.clock in
    let passes = c.in-Some.ensures.items in
    let doors = c.in-Some-pop_front.ensures.items in
    let clocks = c.in-Some-pop_front-2.ensures.items in
    let long_passes : length c.loop-pass.passes.items ≡ length (p ∷ c.pop_front.new.self.items) = ap length passes in
    let long_doors : length c.loop-pass.doors.items ≡ length (door ∷ c.pop_front-in-Some.new.self.items) = ap length doors in
    let long_clocks : length c.loop-pass.clocks.items ≡ length (clock ∷ c.pop_front-in-Some-2.new.self.items) = ap length clocks in
    let count = i.count in
    let as_doors = i.as_doors in
    let as_clocks = i.as_clocks in
    let more : vec_len c.push_reserved.new.self ≡ n + 1 = c.push_reserved.ensures.len in
    let first = passes_first t n p c.pop_front.new.self.items (sym passes ∙ i.passes ∙ ap (λ (m : ℕ). new_passes {E = Entry} t n m) long_passes) in
    let new : AreNew s.tells n (map g.D.Door.seen (door ∷ c.pop_front-in-Some.new.self.items)) = subst (λ ds. AreNew s.tells n (map g.D.Door.seen ds)) doors i.doors in
    let ones : All (λ x. TellsOne s.one (g.C.Clock.seen x).one) (clock ∷ c.pop_front-in-Some-2.new.self.items) =
    subst (λ cs. All (λ x. TellsOne s.one (g.C.Clock.seen x).one) cs) clocks i.one in
    record {
      count = omega (arith, count, more, long_passes);
      room = (let room = i.room in let same = c.push_reserved.ensures.capacity in omega (arith, room, same));
      passes = first.1 ∙ ap (λ (k : ℕ). new_passes {E = Entry} t k (length c.pop_front.new.self.items)) (sym more);
      doors = subst (λ (k : ℕ). AreNew s.tells k (map g.D.Door.seen c.pop_front-in-Some.new.self.items)) (sym more) new.1;
      as_doors = omega (arith, as_doors, long_passes, long_doors);
      as_clocks = omega (arith, as_clocks, long_passes, long_clocks);
      one = All-tail (λ x. TellsOne s.one (g.C.Clock.seen x).one) clock c.pop_front-in-Some-2.new.self.items ones;
      ready = subst (λ ls. All (λ x. IsReady s t x.pass (g.D.Door.seen x.door) (g.C.Clock.seen x.clock) x.lack) ls) (sym c.push_reserved.ensures.items)
          (All-push (λ x. IsReady s t x.pass (g.D.Door.seen x.door) (g.C.Clock.seen x.clock) x.lack) c.loop-pass.lanes.items _ i.ready
          (ready_lane s t n p (g.D.Door.seen door) (g.C.Clock.seen clock) c.none.result c.requires.settings first.0 new.0
          (All-head (λ x. TellsOne s.one (g.C.Clock.seen x).one) clock c.pop_front-in-Some-2.new.self.items ones) c.none.ensures));
      numbers = numbers_more (λ x. (g.D.Door.seen x.door).number) c.loop-pass.lanes.items c.push_reserved.new.self.items _ n (vec_len c.push_reserved.new.self) c.push_reserved.ensures.items more new.0.number_is i.numbers;
    }
