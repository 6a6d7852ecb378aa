-- What a pass knows when others were joined into it, or when it has worked.
use Rattle.std.proofs.Common.{◌≡◌, ◌⊎◌, ℕ, ◌+◌, ◌<◌, ◌≤◌, max, List, [], ◌∷◌, ◌++◌, true, All, inl, refl, sym, ◌∙◌, ap, subst, append-nil, arith}
use Rattle.std.proofs.lemmas.List.Elements.{All-nil, All-cons, All-append}
use Rattle.book_turn.specs.NumberLists.{has}
use Rattle.book_turn.specs.Entries.{AllBefore, calls_by}
use Rattle.book_turn.specs.Passes.{Joined}
use Rattle.book_turn.proofs.Prefixes.{picked, calls_by-append}
use Rattle.book_history.specs.declared.changes.Entry.{Entry}
use Rattle.book_passes.specs.Lessons.{BookPass, caller_of, own_of, turn_of, stamp_of}
use Rattle.check_workers.specs.WorkerTurns.{IsDone, AreDone, AreMadeBy, Teaches}
use Rattle.check_workers.specs.Joins.{Extends, ExtendsByWork, AreOfLanes, seen_at, pass_of, of_pass}
use Rattle.check_workers.proofs.Fronts.{front_of, seen_twice}
use Rattle.check_workers.proofs.Entries.{has_first, calls_within, calls_both, calls_none, up_to_before}

-- what a pass into which another was joined has seen is up to its last turn
pub joined_up_to : (v other w : BookPass) → Joined stamp_of v other w → AllBefore turn_of (w.last + 1) w.seen
joined_up_to v other w j =
    let same : w.seen ≡ seen_at w.last w.seen = j.seen ∙ picked turn_of w.seen v.last other.last v.seen other.seen j.first j.second ∙ ap (λ (n : ℕ). seen_at n w.seen) (sym j.last) in
    subst (λ (h : List Entry). AllBefore turn_of (w.last + 1) h) (sym same) (up_to_before turn_of pass_of w.last w.seen)

pub joined_extends : (v other w : BookPass) → Joined stamp_of v other w → Extends v w
joined_extends v other w j = record {
  number = j.number;
  named = λ k is. subst (λ (ps : List ℕ). has k ps ≡ true) (sym j.numbers) (has_first k v.numbers other.numbers is);
  front = j.first;
  rises = (let last : w.last ≡ max v.last other.last = j.last in let le : v.last ≤ w.last = omega (arith, last) in le);
  stay = λ k is own. sym (calls_within pass_of k v.numbers w.seen is) ∙ ap (λ (l : List Entry). of_pass k l) j.own_first ∙ calls_within pass_of k v.numbers v.seen is;
  up_to = joined_up_to v other w j;
}

-- ---- entries of workers

done_lanes : (lanes : ℕ) (es : List Entry) → AreDone es → AreOfLanes lanes es
done_lanes lanes [] are = All-nil (λ (e : Entry). IsDone e ⊎ (e.stamp.pass < lanes))
done_lanes lanes (e ∷ es) are = All-cons (λ (x : Entry). IsDone x ⊎ (x.stamp.pass < lanes)) e es (inl are.0) (done_lanes lanes es are.1)

made_all : (number : ℕ) (es : List Entry) → AreMadeBy number es → All (λ (e : Entry). e.stamp.pass ≡ number) es
made_all number [] are = All-nil (λ (e : Entry). e.stamp.pass ≡ number)
made_all number (e ∷ es) are = All-cons (λ (x : Entry). x.stamp.pass ≡ number) e es are.0 (made_all number es are.1)

-- a worker's pass is joined
pub joined_work : (v other w : BookPass) → Joined stamp_of v other w → AreDone (own_of (caller_of other) other.seen) → ExtendsByWork v w
joined_work v other w j done = record {
  extends = joined_extends v other w j;
  entries = λ lanes are.
      let mine : AreOfLanes lanes (calls_by pass_of v.numbers w.seen) = subst (AreOfLanes lanes) (sym j.own_first) are in
      let others : AreOfLanes lanes (calls_by pass_of other.numbers w.seen) =
      subst (AreOfLanes lanes) (sym j.own_second) (done_lanes lanes (own_of (caller_of other) other.seen) done) in
      subst (λ (ps : List ℕ). AreOfLanes lanes (calls_by pass_of ps w.seen)) (sym j.numbers)
      (calls_both pass_of (λ (e : Entry). IsDone e ⊎ (e.stamp.pass < lanes)) v.numbers other.numbers w.seen mine others);
}

-- a pass works
pub taught_work : (v w : BookPass) → AllBefore turn_of (v.last + 1) v.seen → Teaches (caller_of v) (caller_of w) → ExtendsByWork v w
taught_work v w up t =
    let l = t.learns in
    let seen : w.seen ≡ v.seen ++ t.news = l.seen in
    let same : own_of (caller_of v) v.seen ++ own_of (caller_of v) t.news ≡ own_of (caller_of w) w.seen =
    sym (ap (λ (ps : List ℕ). calls_by pass_of ps w.seen) l.keeps.numbers ∙ ap (λ (h : List Entry). calls_by pass_of v.numbers h) seen ∙ calls_by-append pass_of v.numbers v.seen t.news) in
    record {
      extends = record {
        number = l.keeps.number;
        named = λ k is. subst (λ (ps : List ℕ). has k ps ≡ true) (sym l.keeps.numbers) is;
        front = sym (ap (λ (h : List Entry). seen_at v.last h) seen ∙ front_of v.last v.seen t.news up l.later);
        rises = l.rises;
        stay = λ k is other.
            let none : of_pass k t.news ≡ [] =
            calls_none pass_of (λ (e : Entry). e.stamp.pass ≡ v.number) k v.numbers t.news is (λ e of by. other (sym of ∙ by)) (made_all v.number (own_of (caller_of v) t.news) t.made_by) in
            ap (λ (h : List Entry). of_pass k h) seen ∙ calls_by-append pass_of (k ∷ []) v.seen t.news ∙ ap (λ (x : List Entry). of_pass k v.seen ++ x) none ∙ append-nil (of_pass k v.seen);
        up_to = l.up_to up;
      };
      entries = λ lanes are. subst (AreOfLanes lanes) same
          (All-append (λ (e : Entry). IsDone e ⊎ (e.stamp.pass < lanes)) (own_of (caller_of v) v.seen) (own_of (caller_of v) t.news) are (done_lanes lanes (own_of (caller_of v) t.news) t.done));
    }

-- ---- one after another

seen_all : (v : BookPass) → AllBefore turn_of (v.last + 1) v.seen → v.seen ≡ seen_at v.last v.seen
seen_all v up = sym (sym (ap (λ (h : List Entry). seen_at v.last h) (append-nil v.seen)) ∙ front_of v.last v.seen [] up tt)

pub extends_none : (v : BookPass) → AllBefore turn_of (v.last + 1) v.seen → Extends v v
extends_none v up = record {
  number = refl;
  named = λ k is. is;
  front = seen_all v up;
  rises = omega arith;
  stay = λ k is other. refl;
  up_to = up;
}

pub extends_trans : (u v w : BookPass) → Extends u v → Extends v w → Extends u w
extends_trans u v w p q = record {
  number = q.number ∙ p.number;
  named = λ k is. q.named k (p.named k is);
  front = p.front ∙ ap (λ (h : List Entry). seen_at u.last h) q.front ∙ seen_twice u.last v.last w.seen p.rises;
  rises = (let first = p.rises in let second = q.rises in omega (arith, first, second));
  stay = λ k is other. q.stay k (p.named k is) (λ same. other (same ∙ p.number)) ∙ p.stay k is other;
  up_to = q.up_to;
}

pub work_none : (v : BookPass) → AllBefore turn_of (v.last + 1) v.seen → ExtendsByWork v v
work_none v up = record { extends = extends_none v up; entries = λ lanes are. are }

pub work_trans : (u v w : BookPass) → ExtendsByWork u v → ExtendsByWork v w → ExtendsByWork u w
work_trans u v w p q = record {
  extends = extends_trans u v w p.extends q.extends;
  entries = λ lanes are. q.entries lanes (p.entries lanes are);
}
