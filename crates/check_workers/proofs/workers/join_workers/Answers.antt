use Rattle.std.proofs.Common.{◌≡◌, ◌++◌, ◌∷◌, ◌||◌, [], List, Option, Bool, ℕ, map, All, sym, ◌∙◌, ap, subst, append_assoc}
use Rattle.std.specs.List.{list_any}
use Rattle.std.specs.Option.{option_or}
use Rattle.std.proofs.lemmas.List.Elements.{All-head, All-tail}
use Rattle.check_workers.specs.declared.workers.Lack.{Lack}
use Rattle.check_workers.specs.declared.workers.Worker.{Worker}
use Rattle.check_workers.specs.Joins.{WorkerOver, first_spent}
use Rattle.check_workers.proofs.Entries.{or_assoc, option_or_assoc}
use Rattle.check_workers.proofs.Joins.{work_none, work_trans, joined_work}
use Rattle.check_workers.proofs.workers.join_workers.Goals as goal

pub loop-worker-init : goal.loop-worker-init
loop-worker-init c =
    let all : List Worker = c.from_vec-workers.result.items in
    let same : all ≡ c.args.workers.items = c.from_vec-workers.ensures.items in
    let lacks : Worker → Bool = λ w. w.lack.memory in
    let lack_of : Worker → Lack = λ w. w.lack in
    record {
      own = c.requires.own;
      extends = work_none c.args.into.now c.requires.up_to;
      over = subst (λ (ws : List Worker). All (λ w. WorkerOver c.args.turn.now w.pass) ws) (sym same) c.requires.over;
      memory = ap (λ (l : Lack). l.memory || list_any lacks all) c.none-lack.ensures ∙ ap (λ (ws : List Worker). list_any lacks ws) same;
      spent = ap (λ (l : Lack). option_or l.spent (first_spent (map lack_of all))) c.none-lack.ensures ∙ ap (λ (ws : List Worker). first_spent (map lack_of ws)) same;
      numbers = ap (λ (ws : List Worker). c.args.into.now.numbers ++ map (λ w. w.pass.number) ws) same;
    }

pub loop-worker-preserved : goal.loop-worker-preserved
loop-worker-preserved c =
    let one : Worker = c.in-Some.worker in
    let rest : List Worker = c.pop_front.new.self.items in
    let items : c.loop-worker.workers.items ≡ one ∷ rest = c.in-Some.ensures.items in
    let Over : Worker → Type 0 = λ w. WorkerOver c.args.turn.now w.pass in
    let over : All Over (one ∷ rest) = subst (λ (ws : List Worker). All Over ws) items c.loop-worker.invariant.over in
    let here : WorkerOver c.args.turn.now one.pass = All-head Over one rest over in
    let lacks : Worker → Bool = λ w. w.lack.memory in
    let lack_of : Worker → Lack = λ w. w.lack in
    let number : Worker → ℕ = λ w. w.pass.number in
    let j = c.join.ensures.joined in
    let before = c.loop-worker.into in
    let lack = c.loop-worker.lack in
    record {
      own = c.join.ensures.own;
      extends = work_trans c.args.into.now before c.join.new.into c.loop-worker.invariant.extends (joined_work before one.pass c.join.new.into j here.done);
      over = All-tail Over one rest over;
      memory = ap (λ (b : Bool). b || list_any lacks rest) c.add.ensures.memory ∙ sym (or_assoc lack.memory one.lack.memory (list_any lacks rest))
          ∙ ap (λ (ws : List Worker). lack.memory || list_any lacks ws) (sym items) ∙ c.loop-worker.invariant.memory;
      spent = ap (λ (o : Option ℕ). option_or o (first_spent (map lack_of rest))) c.add.ensures.spent ∙ option_or_assoc lack.spent one.lack.spent (first_spent (map lack_of rest))
          ∙ ap (λ (ws : List Worker). option_or lack.spent (first_spent (map lack_of ws))) (sym items) ∙ c.loop-worker.invariant.spent;
      numbers = ap (λ (ps : List ℕ). ps ++ map number rest) (j.numbers ∙ ap (λ (ps : List ℕ). before.numbers ++ ps) here.own.alone)
          ∙ append_assoc before.numbers (one.pass.number ∷ []) (map number rest) ∙ ap (λ (ws : List Worker). before.numbers ++ map number ws) (sym items) ∙ c.loop-worker.invariant.numbers;
    }
