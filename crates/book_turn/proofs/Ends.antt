-- How passes are dealt and joined, and how a turn is closed.
use Rattle.std.proofs.Common.{◌≡◌, ℕ, zero, suc, ◌+◌, ◌<◌, List, [], ◌∷◌, ◌++◌, length, Option, None, Some, true, refl, sym, ap, ◌∙◌, subst, arith, length-append, max}
use Rattle.std.specs.Prelude.{All}
use Rattle.std.proofs.lemmas.List.Elements.{All-nil, All-cons}
use mathlib.Core.Option.{some, some-injective}
use lib.ListN.{get_elem?}
use Rattle.atomic_table.specs.Table.{Me, Final, Seen}
use Rattle.atomic_table.specs.declared.shared.Seat.{Seat}
use Rattle.book_turn.specs.declared.rule.View.{View}
use Rattle.book_turn.specs.declared.rule.Stage.TheVariants.{Free}
use Rattle.book_turn.specs.declared.object.Stamp.{Stamp}
use Rattle.book_turn.specs.NumberLists.{has, greatest}
use Rattle.book_turn.specs.Entries.{AllBefore, calls_by, up_to, OwnUpTo}
use Rattle.book_turn.specs.PassViews.{dealt_view, kept_view, given_view}
use Rattle.book_turn.specs.TurnSteps.{Glued}
use Rattle.book_turn.specs.Rule.{Kept}
use Rattle.book_turn.specs.Passes.{PassState, TurnState, pass_state, BelongsTo, IsSingle, IsIdle, Joined, new_pass, new_passes}
use Rattle.book_turn.proofs.Prefixes.{own_calls}
use Rattle.book_turn.proofs.Totals.{same_one, numbers_length, has_times, times_has, times_append, greatest_append}
use Rattle.book_turn.proofs.Keeps.{closes}

module _ {O E S : Type 0} where
  pub joined : (stamp_of : E → Stamp) (seat seat' seat2 : Seat (Option O) (View E S)) (number made number' made' : ℕ) (v other : PassState E S) → pass_state seat number made ≡ v → pass_state seat' number' made' ≡ other
      → Glued (λ e. (stamp_of e).turn) (λ e. (stamp_of e).pass) seat.me.0 seat'.me.0 seat2.me.0 → Joined stamp_of v other (pass_state seat2 number made)
  joined stamp_of seat seat' seat2 number made number' made' v other is is' g =
      subst (λ (z : PassState E S × PassState E S). Joined stamp_of z.0 z.1 (pass_state seat2 number made)) (λ i. (is i, is' i)) record {
        numbers = ap (λ (x : View E S). x.passes) g.joined;
        turns = ap (λ (x : View E S). x.turns) g.joined;
        last = ap (λ (x : View E S). x.last) g.joined;
        seen = ap (λ (x : View E S). x.seen) g.joined;
        first = g.first;
        second = g.second;
        own_first = own seat.me.0.passes seat.me.0.last seat.me.0.seen g.own_first g.first;
        own_second = own seat'.me.0.passes seat'.me.0.last seat'.me.0.seen g.own_second g.second;
        once = g.once;
        number = refl;
        made = refl;
      }
    where
      own : (ps : List ℕ) (last : ℕ) (seen : List E) → OwnUpTo (λ e. (stamp_of e).turn) (λ e. (stamp_of e).pass) ps last seat2.me.0.seen → seen ≡ up_to (λ e. (stamp_of e).turn) last seat2.me.0.seen → calls_by (λ e. (stamp_of e).pass) ps seat2.me.0.seen ≡ calls_by (λ e. (stamp_of e).pass) ps seen
      own ps last seen o f = sym (own_calls (λ e. (stamp_of e).turn) (λ e. (stamp_of e).pass) ps last seat2.me.0.seen o) ∙ ap (calls_by (λ e. (stamp_of e).pass) ps) (sym f)

  pub joined_belongs : (turn pass : E → ℕ) (seat seat' seat2 : Seat (Option O) (View E S)) (number made : ℕ) (t : TurnState S) (v : PassState E S) → pass_state seat number made ≡ v → BelongsTo t v → seat2.table_id ≡ seat.table_id
      → Glued turn pass seat.me.0 seat'.me.0 seat2.me.0 → BelongsTo t (pass_state seat2 number made)
  joined_belongs turn pass seat seat' seat2 number made t v is own table g = record {
    id = table ∙ ap (λ (p : PassState E S). p.turn_id) is ∙ own.id;
    settings = ap (λ (x : View E S). x.settings) g.joined ∙ ap (λ (p : PassState E S). p.settings) is ∙ own.settings;
  }

  pub joined_idle : (turn pass : E → ℕ) (seat seat' seat2 : Seat (Option O) (View E S)) (number made last number' made' last' now : ℕ) → IsIdle seat number made last → IsIdle seat' number' made' last' → Glued turn pass seat.me.0 seat'.me.0 seat2.me.0 → seat2.me.1 ≡ []
      → now ≡ max last last' → IsIdle seat2 number made now
  joined_idle turn pass seat seat' seat2 number made last number' made' last' now i i' g empty is =
      let v = seat.me.0 in let w = seat'.me.0 in
      let passes = ap (λ (x : View E S). x.passes) g.joined in
      let turns_length : length seat2.me.0.turns ≡ length v.turns + length w.turns = ap (λ (x : View E S). length x.turns) g.joined ∙ length-append v.turns w.turns in
      let passes_length : length seat2.me.0.passes ≡ length v.passes + length w.passes = ap (λ (x : View E S). length x.passes) g.joined ∙ length-append v.passes w.passes in
      record {
        empty = empty;
        free = ap (λ (x : View E S). x.stage) g.joined;
        named = let t = times_append number v.passes w.passes in let h = has_times number v.passes i.named in subst (λ ps. has number ps ≡ true) (sym passes) (times_has number (v.passes ++ w.passes) (omega arith));
        last_is = is ∙ (λ k. max (i.last_is k) (i'.last_is k)) ∙ sym (ap (λ (x : View E S). x.last) g.joined);
        greatest_is = is ∙ (λ k. max (i.greatest_is k) (i'.greatest_is k)) ∙ sym (ap (λ (x : View E S). greatest x.turns) g.joined ∙ greatest_append v.turns w.turns);
        some_made = i.some_made;
        few = let a = i.few in let b = i'.few in let c = i'.some_made in omega arith;
      }

module _ {O E S : Type 0} (journal : O → List E) (settings : O → S) (turn pass : E → ℕ) (n : ℕ) (chosen : S) where
  pub ended : (id : ℕ) (v : View E S) (ws : List ℕ) (xs : List (Option O)) (slot : Option O) → Final (Seen (Kept journal settings turn pass n chosen) id v) ws xs → v.stage ≡ Free → 0 < n → length v.passes ≡ n → get_elem? xs 0 ≡ some slot
      → (o : O) × (slot ≡ Some o) × (journal o ≡ v.seen) × (settings o ≡ chosen) × AllBefore pass n (journal o)
  ended id v ws xs slot f free some_pass all at =
      let c = closes journal settings turn pass n chosen f.0 f.1.0 id v f.1.1 free some_pass all in
      let there = f.4 0 (Some c.0) (ap (λ hs. get_elem? hs 0) c.1) in
      (c.0, some-injective slot (Some c.0) (sym at ∙ there), c.2, c.3, c.4)

pub no_none : {A : Type 0} (x : Option A) (o : A) → x ≡ Some o → x ≡ None → ⊥
no_none x o a b = subst is_there (sym a ∙ b) tt
  where
    is_there : {A : Type 0} → Option A → Type 0
    is_there None = ⊥
    is_there (Some y) = Unit {0}

pub new_passes_more : {E S : Type 0} (t : TurnState S) (a n : ℕ) → new_passes {E = E} t a n ++ new_pass t (a + n) ∷ [] ≡ new_passes t a (suc n)
new_passes_more {E = E} t a zero = let e : a + 0 ≡ a = omega arith in ap (λ (k : ℕ). new_pass {E = E} t k ∷ []) e
new_passes_more {E = E} t a (suc n) =
    let e : a + suc n ≡ suc a + n = omega arith in
    ap (λ l. new_pass {E = E} t a ∷ l) (ap (λ (k : ℕ). new_passes {E = E} t (suc a) n ++ new_pass t k ∷ []) e ∙ new_passes_more {E = E} t (suc a) n)

module _ {O E S : Type 0} where
  -- one number is cut off
  pub cut_kept : (chosen : S) (a m k : ℕ) (me me' : Me (Option O) (View E S)) → m ≡ suc k → me ≡ (dealt_view chosen a m, []) → me' ≡ (kept_view me.0, me.1) → me' ≡ (dealt_view chosen (suc a) k, [])
  cut_kept chosen a m k me me' more is cut = cut ∙ ap (λ z. (kept_view z.0, z.1)) (is ∙ ap (λ (x : ℕ). (dealt_view chosen a x, [])) more)

  pub cut_given : (chosen : S) (a m k : ℕ) (me new : Me (Option O) (View E S)) → m ≡ suc k → me ≡ (dealt_view chosen a m, []) → new ≡ (given_view me.0, []) → new ≡ (dealt_view chosen a 1, [])
  cut_given chosen a m k me new more is given = given ∙ ap (λ z. (given_view z.0, [])) (is ∙ ap (λ (x : ℕ). (dealt_view chosen a x, [])) more)

  pub may_cut : (chosen : S) (a m : ℕ) (me : Me (Option O) (View E S)) → me ≡ (dealt_view chosen a m, []) → 1 < m → (me.0.stage ≡ Free) × (1 < length me.0.passes) × (me.0.turns ≡ [])
  may_cut chosen a m me is two = (ap (λ z. z.0.stage) is, subst (λ (x : ℕ). 1 < x) (sym (ap (λ z. length z.0.passes) is ∙ numbers_length a m)) two, ap (λ z. z.0.turns) is)

  pub new_idle : (chosen : S) (a : ℕ) (seat : Seat (Option O) (View E S)) → seat.me ≡ (dealt_view chosen a 1, []) → IsIdle seat a 0 0
  new_idle chosen a seat is = record {
    empty = ap (λ z. z.1) is;
    free = ap (λ z. z.0.stage) is;
    named = subst (λ (z : Me (Option O) (View E S)). has a z.0.passes ≡ true) (sym is) (let o = same_one a a refl in times_has a (a ∷ []) (omega arith));
    last_is = sym (ap (λ z. z.0.last) is);
    greatest_is = sym (ap (λ z. greatest z.0.turns) is);
    some_made = omega arith;
    few = let t : length seat.me.0.turns ≡ 0 = ap (λ z. length z.0.turns) is in let p : length seat.me.0.passes ≡ 1 = ap (λ z. length z.0.passes) is in omega arith;
  }

  pub new_state : (t : TurnState S) (a : ℕ) (seat : Seat (Option O) (View E S)) → seat.table_id ≡ t.turn_id → seat.me ≡ (dealt_view t.settings a 1, []) → pass_state seat a 0 ≡ new_pass t a
  new_state t a seat table is = λ i. record { turn_id = table i; settings = (is i).0.settings; number = a; numbers = (is i).0.passes; seen = (is i).0.seen; last = (is i).0.last; turns = (is i).0.turns; made = 0 }

pub new_passes_next : {E S : Type 0} (t : TurnState S) (n : ℕ) → new_passes {E = E} t 0 n ++ new_pass t n ∷ [] ≡ new_passes t 0 (suc n)
new_passes_next {E = E} t n = let e : n ≡ 0 + n = omega arith in ap (λ (k : ℕ). new_passes {E = E} t 0 n ++ new_pass t k ∷ []) e ∙ new_passes_more {E = E} t 0 n

pub new_passes_single : {E S : Type 0} (t : TurnState S) (a n : ℕ) → All (IsSingle t) (new_passes {E = E} t a n)
new_passes_single t a zero = All-nil (IsSingle t)
new_passes_single t a (suc n) = All-cons (IsSingle t) (new_pass t a) (new_passes t (suc a) n) record { own = record { id = refl; settings = refl }; alone = refl } (new_passes_single t (suc a) n)
