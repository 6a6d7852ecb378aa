-- Connections one after another, and what they are in one history.
use Rattle.std.proofs.Common.{◌≡◌, ℕ, ◌+◌, ◌≤◌, List, [], ◌∷◌, ◌++◌, length-append, Option, Some, None, IsSome, refl, sym, ◌∙◌, ap, subst, arith, append_assoc, append-nil, Bool, true, false, ◌||◌}
use Rattle.std.proofs.lemmas.List.Folds.{list_any-append}
use Rattle.check_workers.proofs.Fronts.{front_of, seen_twice}
use Rattle.bim_net.specs.ConnectionViews.{EndedLink, DoorSeen}
use Rattle.bim_net.specs.Doors.{GrowsBy}
use Rattle.book_turn.specs.Entries.{AllBefore, AllAfter}
use Rattle.book_history.specs.declared.changes.Entry.{Entry}
use Rattle.book_passes.specs.Lessons.{turn_of}
use Rattle.check_workers.specs.declared.workers.Lack.{Lack}
use Rattle.serve_lanes.specs.Lanes.{Chain, ChainIn, LaneServed, end_turn, is_memory, some_memory, is_spent, some_turns}
use Rattle.check_workers.specs.Joins.{seen_at}
use Rattle.check_workers.proofs.Entries.{either}

pub grows_by_none : {X : Type 0} (o : Option (List X)) → GrowsBy o o []
grows_by_none None = tt
grows_by_none (Some xs) = sym (append-nil xs)

pub grows_by_trans : {X : Type 0} (a b c : Option (List X)) (x y : List X) → GrowsBy a b x → GrowsBy b c y → GrowsBy a c (x ++ y)
grows_by_trans None None None x y p q = tt
grows_by_trans None None (Some zs) x y p q = q
grows_by_trans None (Some ys) c x y p q = absurd p
grows_by_trans (Some xs) None None x y p q = tt
grows_by_trans (Some xs) None (Some zs) x y p q = absurd q
grows_by_trans (Some xs) (Some ys) None x y p q = tt
grows_by_trans (Some xs) (Some ys) (Some zs) x y p q = q ∙ ap (λ b. b ++ y) p ∙ append_assoc xs x y

or_none : (b : Bool) → b ≡ (b || false)
or_none true = refl
or_none false = refl

or_both : (a x y : Bool) → ((a || x) || y) ≡ (a || (x || y))
or_both true x y = refl
or_both false x y = refl

-- what is noted of two lists of connections, one after the other
noted_both : (a b c : Bool) (xs ys : List EndedLink) → b ≡ (a || some_memory xs) → c ≡ (b || some_memory ys) → c ≡ (a || some_memory (xs ++ ys))
noted_both a b c xs ys first second =
    second ∙ ap (λ b. b || some_memory ys) first ∙ or_both a (some_memory xs) (some_memory ys)
    ∙ ap (λ n. a || n) (sym (list_any-append (λ (x : EndedLink). is_memory x.end.kind) xs ys))

-- .. and of ends for want of a turn
turns_both : (n o : Lack) (xs ys : List EndedLink) → (some_turns xs ≡ true → IsSome n.spent) → (some_turns ys ≡ true → IsSome o.spent) → (IsSome n.spent → IsSome o.spent)
    → some_turns (xs ++ ys) ≡ true → IsSome o.spent
turns_both n o xs ys first second kept is =
    either (some_turns xs) (some_turns ys) (some_turns (xs ++ ys)) (list_any-append (λ (x : EndedLink). is_spent x.end.kind) xs ys) (λ a. kept (first a)) second is

module _ (serves : List Entry → ℕ → EndedLink → List Entry → Type 0) where
  pub chain_append : (before : List Entry) (last : ℕ) (xs ys : List EndedLink) (mid : List Entry) (between : ℕ) (history : List Entry) (top : ℕ)
      → Chain serves before last xs mid between → Chain serves mid between ys history top → Chain serves before last (xs ++ ys) history top
  chain_append before last [] ys mid between history top p q =
      subst (λ (h : List Entry). Chain serves h last ys history top) p.0 (subst (λ (n : ℕ). Chain serves mid n ys history top) p.1 q)
  chain_append before last (x ∷ xs) ys mid between history top p q = (p.0, p.1, chain_append p.0 (end_turn x) xs ys mid between history top p.2 q)

  pub lane_start : (before : List Entry) (last : ℕ) (d : DoorSeen) (noted : Lack) → LaneServed serves before last before last d d noted noted
  lane_start before last d noted = record {
    links = [];
    grown = grows_by_none d.ended;
    chain = (refl, refl);
    up_to = λ are. are;
    number = refl;
    gave = (let none : d.gave ≡ d.gave + 0 = omega arith in none);
    balanced = λ b. b;
    tells = λ b s. s;
    memory = or_none noted.memory;
    turns = λ is. cc;
    kept = λ some. some;
  }

  pub lane_trans : (before : List Entry) (last : ℕ) (mid : List Entry) (between : ℕ) (history : List Entry) (top : ℕ) (a b c : DoorSeen) (m n o : Lack)
      → LaneServed serves before last mid between a b m n → LaneServed serves mid between history top b c n o → LaneServed serves before last history top a c m o
  lane_trans before last mid between history top a b c m n o p q = record {
    links = p.links ++ q.links;
    grown = grows_by_trans a.ended b.ended c.ended p.links q.links p.grown q.grown;
    chain = chain_append before last p.links q.links mid between history top p.chain q.chain;
    up_to = λ are. q.up_to (p.up_to are);
    number = q.number ∙ p.number;
    gave = (let first = p.gave in let second = q.gave in let both = length-append p.links q.links in omega (arith, first, second, both));
    balanced = λ even. q.balanced (p.balanced even);
    tells = λ even some. q.tells (p.balanced even) (p.tells even some);
    memory = noted_both m.memory n.memory o.memory p.links q.links p.memory q.memory;
    turns = turns_both n o p.links q.links p.turns q.turns q.kept;
    kept = λ some. q.kept (p.kept some);
  }

-- ---- in one history

-- what one session says of what was seen
pub record Grew (before : List Entry) (last : ℕ) (history : List Entry) (top : ℕ) : Type 0 where
  pub news : List Entry
  pub grown : history ≡ before ++ news
  pub later : AllAfter turn_of last news
  pub rises : last ≤ top
  pub up_to : AllBefore turn_of (last + 1) before → AllBefore turn_of (top + 1) history

module _ (serves : List Entry → ℕ → EndedLink → List Entry → Type 0)
    (grew : (before : List Entry) (last : ℕ) (x : EndedLink) (history : List Entry) → serves before last x history → Grew before last history (end_turn x)) where
  pub chain_in : (before : List Entry) (last : ℕ) (xs : List EndedLink) (history : List Entry) (top : ℕ) (whole : List Entry)
      → Chain serves before last xs history top → AllBefore turn_of (last + 1) before → history ≡ seen_at top whole → (before ≡ seen_at last whole) × ChainIn serves whole last xs
  chain_in before last [] history top whole chain are front = (sym chain.0 ∙ front ∙ ap (λ (n : ℕ). seen_at n whole) chain.1, tt)
  chain_in before last (x ∷ xs) history top whole chain are front =
      let g = grew before last x chain.0 chain.1 in
      let rest = chain_in chain.0 (end_turn x) xs history top whole chain.2 (g.up_to are) front in
      let cut : seen_at last chain.0 ≡ before = ap (λ l. seen_at last l) g.grown ∙ front_of last before g.news are g.later in
      let here : before ≡ seen_at last whole = sym cut ∙ ap (λ l. seen_at last l) rest.0 ∙ seen_twice last (end_turn x) whole g.rises in (
        here,
        (
          g.rises,
          subst (λ (h : List Entry). serves h last x (seen_at (end_turn x) whole)) here (subst (λ (h : List Entry). serves before last x h) rest.0 chain.1),
          rest.1,
        ),
      )
