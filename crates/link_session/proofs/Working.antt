-- The work after an answer, by where a session stands.
use Rattle.std.proofs.Common.{◌≡◌, ◌⊎◌, ℕ, zero, suc, ◌+◌, ◌*◌, ◌<◌, ◌≤◌, List, [], ◌∷◌, Option, Some, None, inl, inr, refl, sym, subst, arith}
use Rattle.book_history.specs.Runs.{Step}
use Rattle.bim_session.specs.Works.{Standing, Printed, IsTaken, Gives, WorksOne, WorksOn, Works, WorksShort, IsEnough, IsMore, left_behind}

-- a standing with another last turn, and other things printed and served
abbrev pub moved : Standing → ℕ → Printed → ℕ → Standing
moved s last printed served = record s { last = last; printed = printed; served = served }

taken_moved : (s : Standing) (l : ℕ) (p : Printed) (n : ℕ) (step : Step) → IsTaken s step → IsTaken (moved s l p n) step
taken_moved s l p n step t = record { within = t.within; entry = t.entry }

gives_moved : (s : Standing) (l : ℕ) (p : Printed) (n last : ℕ) (step : Step) → Gives s last step → Gives (moved s l p n) last step
gives_moved s l p n last step g = record {
  order = g.order;
  some = g.some;
  turn = g.turn;
  call = g.call;
  taken = taken_moved s l p n step g.taken;
  given = g.given;
}

one_moved : (s : Standing) (l : ℕ) (p : Printed) (n last : ℕ) (steps : List Step) → WorksOne s last steps → WorksOne (moved s l p n) last steps
unfolding gives_moved
one_moved s l p n last steps w = record {
  first = w.first;
  second = w.second;
  set = w.set;
  two = w.two;
  gives = gives_moved s l p n last w.first w.gives;
  found = w.found;
  turn = w.turn;
  call = w.call;
  taken = taken_moved s l p n w.second w.taken;
}

on_moved : (s : Standing) (l : ℕ) (p : Printed) (n last count : ℕ) (steps : List Step) → WorksOn s last count steps → WorksOn (moved s l p n) last count steps
on_moved s l p n last zero steps works = works
on_moved s l p n last (suc count) steps works =
    (works.0, works.1, works.2, on_moved s l p n last count works.0 works.3, one_moved s l p n (last + 2 * count) works.1 works.4)

works_moved : (s : Standing) (l : ℕ) (p : Printed) (n : ℕ) (steps : List Step) → s.last ≡ l → Works s steps → Works (moved s l p n) steps
works_moved s l p n steps same works = record {
  count = works.count;
  worked = subst (λ (last : ℕ). WorksOn (moved s l p n) last works.count steps) same (on_moved s l p n s.last works.count steps works.worked);
  enough = subst (λ (last : ℕ). IsEnough s.buckets works.count (left_behind s (last + 2 * works.count))) same works.enough;
}

short_moved : (s : Standing) (l : ℕ) (p : Printed) (n : ℕ) (steps : List Step) → s.last ≡ l → WorksShort s steps → WorksShort (moved s l p n) steps
short_moved s l p n steps same works = record {
  count = works.count;
  earlier = works.earlier;
  more = works.more;
  steps_are = works.steps_are;
  worked = subst (λ (last : ℕ). WorksOn (moved s l p n) last works.count works.earlier) same (on_moved s l p n s.last works.count works.earlier works.worked);
  room = works.room;
  some = subst (λ (last : ℕ). 0 < left_behind s (last + 2 * works.count)) same works.some;
  given = subst (λ (last : ℕ). (works.more ≡ []) ⊎ ((step : Step) × (works.more ≡ step ∷ []) × Gives (moved s l p n) (last + 2 * works.count) step)) same (given_moved works.given);
}
  where
    given_moved : (works.more ≡ []) ⊎ ((step : Step) × (works.more ≡ step ∷ []) × Gives s (s.last + 2 * works.count) step)
        → (works.more ≡ []) ⊎ ((step : Step) × (works.more ≡ step ∷ []) × Gives (moved s l p n) (s.last + 2 * works.count) step)
    given_moved (inl none) = inl none
    given_moved (inr (step, one, gives)) = inr (step, one, gives_moved s l p n (s.last + 2 * works.count) step gives)

-- ---- where no bucket is worked

none_on : (s : Standing) (last count : ℕ) (steps : List Step) → count ≤ 0 → WorksOn s last count steps → steps ≡ []
none_on s last zero steps few works = works
none_on s last (suc count) steps few works = absurd (omega (arith, few))

few_of : (o : Option ℕ) (count left : ℕ) → o ≡ Some 0 → IsEnough o count left → count ≤ 0
few_of None count left none enough = cc
few_of (Some most) count left none enough = let same : most ≡ 0 = cc in let few = enough.0 in omega (arith, few, same)

more_of : (o : Option ℕ) (count : ℕ) → o ≡ Some 0 → IsMore o count → ⊥
more_of None count none more = cc
more_of (Some most) count none more = let same : most ≡ 0 = cc in omega (arith, more, same)

pub none_works : (s : Standing) → s.buckets ≡ Some 0 → Works s []
none_works s none = record {
  count = 0;
  worked = refl;
  enough = subst (λ (o : Option ℕ). IsEnough o 0 (left_behind s (s.last + 2 * 0))) (sym none) (omega arith, λ lt. absurd (omega (arith, lt)));
}

-- ---- both

-- the work after an answer stands for a session whose last turn is the caller's, or where no bucket is worked
pub works_behind : (s : Standing) (l : ℕ) (p : Printed) (n : ℕ) (steps : List Step) → (s.buckets ≡ Some 0) ⊎ (s.last ≡ l) → Works s steps → Works (moved s l p n) steps
works_behind s l p n steps (inl none) works =
    let few = few_of s.buckets works.count (left_behind s (s.last + 2 * works.count)) none works.enough in
    subst (λ (ss : List Step). Works (moved s l p n) ss) (sym (none_on s s.last works.count steps few works.worked)) (none_works (moved s l p n) none)
works_behind s l p n steps (inr same) works = works_moved s l p n steps same works

pub short_behind : (s : Standing) (l : ℕ) (p : Printed) (n : ℕ) (steps : List Step) → (s.buckets ≡ Some 0) ⊎ (s.last ≡ l) → WorksShort s steps → WorksShort (moved s l p n) steps
short_behind s l p n steps (inl none) works = absurd (more_of s.buckets works.count none works.room)
short_behind s l p n steps (inr same) works = short_moved s l p n steps same works
