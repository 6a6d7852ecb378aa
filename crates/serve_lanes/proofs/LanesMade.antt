-- Lanes that are made of new passes.
use Rattle.std.proofs.Common.{◌≡◌, ℕ, suc, ◌+◌, List, [], ◌∷◌, ◌++◌, length, length-append, sym, ◌∙◌, ap, subst, arith}
use Rattle.bim_io.specs.StreamViews.{ClockSeen}
use Rattle.bim_net.specs.ConnectionViews.{DoorSeen, IsNew}
use Rattle.book_turn.specs.Passes.{TurnState, new_pass, new_passes}
use Rattle.book_history.specs.declared.limits.Settings.{Settings}
use Rattle.book_history.specs.declared.changes.Entry.{Entry}
use Rattle.book_passes.specs.Lessons.{BookPass}
use Rattle.check_workers.proofs.WorkersMade.{new_passes_length, passes_last, new_worker}
use Rattle.check_workers.specs.declared.workers.Lack.{Lack}
use Rattle.serve_lanes.specs.Histories.{Service, IsReady, TellsOne}
use Rattle.check_workers.specs.Joins.{nothing_lacked}

-- the first of new passes
pub passes_first : (t : TurnState Settings) (k : ℕ) (p : BookPass) (rest : List BookPass) → p ∷ rest ≡ new_passes t k (length (p ∷ rest)) → (p ≡ new_pass t k) × (rest ≡ new_passes t (k + 1) (length rest))
passes_first t k p rest is =
    let next : new_passes {E = Entry} t k (length (p ∷ rest)) ≡ new_pass t k ∷ new_passes t (k + 1) (length rest) =
    (let n : length (p ∷ rest) ≡ suc (length rest) = omega arith in let m : suc k ≡ k + 1 = omega arith in
    ap (λ (x : ℕ). new_passes {E = Entry} t k x) n ∙ ap (λ (x : ℕ). new_pass {E = Entry} t k ∷ new_passes t x (length rest)) m) in
    let both : p ∷ rest ≡ new_pass t k ∷ new_passes t (k + 1) (length rest) = is ∙ next in
    (let a : p ≡ new_pass t k = cc in a, let b : rest ≡ new_passes t (k + 1) (length rest) = cc in b)

-- the last of new passes is taken
pub passes_opened : (t : TurnState Settings) (all left : List BookPass) (own : BookPass) (count : ℕ) → all ≡ new_passes t 0 (count + 1) → all ≡ left ++ own ∷ []
    → (left ≡ new_passes t 0 count) × (own ≡ new_pass t count)
passes_opened t all left own count new is =
    let long : length left + 1 ≡ count + 1 = sym (ap (λ (l : List BookPass). length l) is ∙ length-append left (own ∷ [])) ∙ ap (λ (l : List BookPass). length l) new ∙ new_passes_length t 0 (count + 1) in
    let same : length left ≡ count = omega arith in
    let last = passes_last t left own (sym is ∙ new ∙ ap (λ (n : ℕ). new_passes {E = Entry} t 0 n) (sym long)) in
    (last.0 ∙ ap (λ (n : ℕ). new_passes {E = Entry} t 0 n) same, last.1 ∙ ap (λ (n : ℕ). new_pass {E = Entry} t n) same)

-- a new pass may be a lane's with a door of its number
pub ready_lane : (s : Service) (t : TurnState Settings) (k : ℕ) (p : BookPass) (door : DoorSeen) (clock : ClockSeen) (lack : Lack) → t.settings ≡ s.settings → p ≡ new_pass t k
    → IsNew s.tells k door → TellsOne s.one clock.one → lack ≡ nothing_lacked → IsReady s t p door clock lack
ready_lane s t k p door clock lack settings is new one none =
    let w = new_worker t k p is in
    let mine : k ≡ door.number = sym new.number_is in
    record {
      own = w.own;
      settings = settings;
      number = ap (λ (v : BookPass). v.number) is ∙ mine;
      unseen = w.unseen;
      untaken = w.untaken;
      new = subst (λ (n : ℕ). IsNew s.tells n door) mine new;
      one = one;
      unnoted = none;
    }
