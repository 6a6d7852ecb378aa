use Rattle.std.proofs.Common.{◌≡◌, ◌+◌, ◌++◌, ◌∷◌, [], List, ℕ, length, vec_len, map, All, sym, ◌∙◌, ap, subst, arith}
use Rattle.std.proofs.lemmas.List.Elements.{All-nil, All-push}
use Rattle.book_turn.specs.Passes.{new_passes}
use Rattle.book_history.specs.declared.changes.Entry.{Entry}
use Rattle.book_passes.specs.Lessons.{BookPass}
use Rattle.check_workers.specs.declared.workers.Worker.{Worker}
use Rattle.check_workers.specs.Joins.{IsNewWorker, HasEach}
use Rattle.check_workers.proofs.WorkersMade.{new_passes_length, passes_last, new_worker, workers_more}
use Rattle.check_workers.proofs.workers.make_workers.Goals as goal

pub loop-seat-init : goal.loop-seat-init
loop-seat-init c =
    let t = c.args.turn.now in
    let count : ℕ = c.args.first + c.args.count in
    let all : length c.args.passes.now.items ≡ count = ap length c.requires ∙ new_passes_length t 0 count in
    let long : vec_len c.args.passes.now ≡ count = omega (arith, all, c.args.passes.now.ok.0) in
    record {
      left = omega (arith, long);
      passes = c.requires ∙ ap (λ (n : ℕ). new_passes {E = Entry} t 0 n) (sym long);
      room = c.in_ok-workers.ensures.capacity;
      count = c.in_ok-workers.ensures.len;
      new = subst (λ (ws : List Worker). All (λ w. IsNewWorker t w.pass) ws) (sym c.in_ok-workers.ensures.items) (All-nil (λ (w : Worker). IsNewWorker t w.pass));
      numbers = λ k low high. absurd (omega (arith, long, low, high));
    }

pub loop-seat-preserved : goal.loop-seat-preserved
loop-seat-preserved c =
    let t = c.args.turn.now in
    let i = c.loop-seat.invariant in
    let p : BookPass = c.in-Some.pass in
    let rest : List BookPass = c.pop.new.self.items in
    let items : c.loop-seat.passes.items ≡ rest ++ p ∷ [] = c.in-Some.ensures.items in
    let one : vec_len c.pop.new.self + 1 ≡ vec_len c.loop-seat.passes = c.in-Some.ensures.cases in
    let long : length rest ≡ vec_len c.pop.new.self = omega (arith, c.pop.new.self.ok.0) in
    let next : vec_len c.loop-seat.passes ≡ length rest + 1 = omega (arith, one, long) in
    let last = passes_last t rest p (sym items ∙ i.passes ∙ ap (λ (n : ℕ). new_passes {E = Entry} t 0 n) next) in
    let mine : p.number ≡ vec_len c.pop.new.self = ap (λ (v : BookPass). v.number) last.1 ∙ long in
    let pushed = c.push_reserved.ensures in
    record {
      left = (let left = i.left in omega (arith, left, one));
      passes = last.0 ∙ ap (λ (n : ℕ). new_passes {E = Entry} t 0 n) long;
      room = (let room = i.room in let same = pushed.capacity in omega (arith, room, same));
      count = (let count = i.count in let more = pushed.len in omega (arith, count, more));
      new = subst (λ (ws : List Worker). All (λ w. IsNewWorker t w.pass) ws) (sym pushed.items)
          (All-push (λ (w : Worker). IsNewWorker t w.pass) c.loop-seat.workers.items _ i.new (new_worker t (length rest) p last.1));
      numbers = workers_more (c.args.first + c.args.count) (vec_len c.pop.new.self) c.loop-seat.workers.items c.push_reserved.new.self.items _ pushed.items mine
          (subst (λ (n : ℕ). HasEach n (c.args.first + c.args.count) (map (λ (x : Worker). x.pass.number) c.loop-seat.workers.items)) (sym one) i.numbers);
    }
