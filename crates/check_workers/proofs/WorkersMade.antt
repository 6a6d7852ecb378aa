-- Workers that are made of new passes, and that end.
use Rattle.std.proofs.Common.{◌≡◌, ℕ, zero, suc, ◌+◌, ◌<◌, List, [], ◌∷◌, ◌++◌, length, map, slice_index_or, true, refl, sym, ◌∙◌, ap, subst, arith}
use mathlib.Core.Logic.{dite}
use native.Mathlib.Decide.{dec_le}
use Rattle.std.proofs.lemmas.List.{map-append}
use Rattle.book_turn.specs.NumberLists.{has}
use Rattle.book_turn.specs.Entries.{calls_by}
use Rattle.book_turn.specs.Passes.{TurnState, BelongsTo, new_pass, new_passes}
use Rattle.book_turn.proofs.Ends.{new_passes_next}
use Rattle.book_history.specs.declared.limits.Settings.{Settings}
use Rattle.book_history.specs.declared.changes.Entry.{Entry}
use Rattle.book_passes.specs.Lessons.{BookPass, caller_of}
use Rattle.check_workers.specs.declared.workers.Worker.{Worker}
use Rattle.check_workers.specs.WorkerTurns.{AreDone, Teaches}
use Rattle.check_workers.specs.Joins.{IsNewWorker, WorkerOver, HasEach, pass_of}
use Rattle.check_workers.proofs.Entries.{has_first, has_second, has_one}

-- ---- new passes

pub new_passes_length : (t : TurnState Settings) (a n : ℕ) → length (new_passes {E = Entry} t a n) ≡ n
new_passes_length t a zero = refl
new_passes_length t a (suc n) = ap suc (new_passes_length t (suc a) n)

-- lists that agree but for their last elements, and these
last_same : {X : Type 0} (xs ys : List X) (a b : X) → length xs ≡ length ys → xs ++ a ∷ [] ≡ ys ++ b ∷ [] → (xs ≡ ys) × (a ≡ b)
last_same [] [] a b long is = (refl, let e : a ≡ b = cc in e)
last_same [] (y ∷ ys) a b long is = absurd (omega arith)
last_same (x ∷ xs) [] a b long is = absurd (omega arith)
last_same (x ∷ xs) (y ∷ ys) a b long is =
    let rest : xs ++ a ∷ [] ≡ ys ++ b ∷ [] = cc in
    let here : x ≡ y = cc in
    let again = last_same xs ys a b (let n : length xs ≡ length ys = omega arith in n) rest in
    (ap (λ z. z ∷ xs) here ∙ ap (λ zs. y ∷ zs) again.0, again.1)

-- the last of new passes
pub passes_last : (t : TurnState Settings) (ps : List BookPass) (p : BookPass) → ps ++ p ∷ [] ≡ new_passes t 0 (length ps + 1) → (ps ≡ new_passes t 0 (length ps)) × (p ≡ new_pass t (length ps))
passes_last t ps p is =
    let n : length ps + 1 ≡ suc (length ps) = omega arith in
    let next : new_passes {E = Entry} t 0 (length ps + 1) ≡ new_passes t 0 (length ps) ++ new_pass t (length ps) ∷ [] =
    ap (λ (x : ℕ). new_passes {E = Entry} t 0 x) n ∙ sym (new_passes_next {E = Entry} t (length ps)) in
    last_same ps (new_passes t 0 (length ps)) p (new_pass t (length ps)) (sym (new_passes_length t 0 (length ps))) (is ∙ next)

-- a new pass may be a worker's
pub new_worker : (t : TurnState Settings) (k : ℕ) (p : BookPass) → p ≡ new_pass t k → IsNewWorker t p
new_worker t k p is = subst (λ (v : BookPass). IsNewWorker t v) (sym is) (record {
  own = record { own = record { id = refl; settings = refl }; alone = refl };
  unseen = refl;
  untaken = refl;
})

-- one more number, below those that are there
pub each_more : (k end : ℕ) (ps : List ℕ) → HasEach (k + 1) end ps → HasEach k end (ps ++ k ∷ [])
each_more k end ps each x low high = dite (dec_le (k + 1) x)
    (λ later. has_first x ps (k ∷ []) (each x later high))
    (λ not. let same : x ≡ k = omega arith in subst (λ (y : ℕ). has y (ps ++ k ∷ []) ≡ true) (sym same) (has_second k ps (k ∷ []) (has_one k)))

-- the workers with one more, whose number is below theirs
pub workers_more : (end k : ℕ) (ws all : List Worker) (w : Worker) → all ≡ ws ++ w ∷ [] → w.pass.number ≡ k → HasEach (k + 1) end (map (λ (x : Worker). x.pass.number) ws)
    → HasEach k end (map (λ (x : Worker). x.pass.number) all)
workers_more end k ws all w is here each =
    let number : Worker → ℕ = λ x. x.pass.number in
    let both : map number all ≡ map number ws ++ k ∷ [] = ap (λ (xs : List Worker). map number xs) is ∙ map-append number ws (w ∷ []) ∙ ap (λ (n : ℕ). map number ws ++ n ∷ []) here in
    subst (λ (ns : List ℕ). HasEach k end ns) (sym both) (each_more k end (map number ws) each)

-- lists of one length whose elements have the same number at each place
pub map_same : {X : Type 0} (f : X → ℕ) (xs ys : List X) → length ys ≡ length xs → ((k : ℕ) (d : X) → k < length xs → f (slice_index_or ys k d) ≡ f (slice_index_or xs k d)) → map f ys ≡ map f xs
map_same f [] [] long each = refl
map_same f [] (y ∷ ys) long each = absurd (omega arith)
map_same f (x ∷ xs) [] long each = absurd (omega arith)
map_same f (x ∷ xs) (y ∷ ys) long each =
    let here : f y ≡ f x = each 0 x (omega arith) in
    let rest = map_same f xs ys (let n : length ys ≡ length xs = omega arith in n) (λ k d lt. each (suc k) d (omega arith)) in
    ap (λ (n : ℕ). n ∷ map f ys) here ∙ ap (λ (ns : List ℕ). f x ∷ ns) rest

-- a call of a worker's thread leaves the number of its pass
pub same_number : (before after argument left : Worker) → argument ≡ before → left ≡ after → left.pass.number ≡ argument.pass.number → after.pass.number ≡ before.pass.number
same_number before after argument left is gives same =
    let number : Worker → ℕ = λ w. w.pass.number in
    sym (ap number gives) ∙ same ∙ ap number is

-- ---- a worker that has ended

pub worker_over : (turn : TurnState Settings) (v w : BookPass) → IsNewWorker turn v → BelongsTo turn w → Teaches (caller_of v) (caller_of w) → WorkerOver turn w
worker_over turn v w new belongs t =
    let keeps = t.learns.keeps in
    let seen : w.seen ≡ t.news = t.learns.seen ∙ ap (λ (h : List Entry). h ++ t.news) new.unseen in
    record {
      own = record { own = belongs; alone = keeps.numbers ∙ new.own.alone ∙ ap (λ (k : ℕ). k ∷ []) (sym keeps.number) };
      done = subst (λ (ps : List ℕ). AreDone (calls_by pass_of ps w.seen)) (sym keeps.numbers) (subst (λ (h : List Entry). AreDone (calls_by pass_of v.numbers h)) (sym seen) t.done);
    }
