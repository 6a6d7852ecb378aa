-- Each step keeps the rule of a turn.
use Rattle.std.proofs.Common.{◌≡◌, ◌≢◌, ℕ, zero, suc, ◌+◌, ◌*◌, ◌%◌, ◌^◌, ◌<◌, ◌≤◌, List, [], ◌∷◌, ◌++◌, length, get_or, set, Option, Some, true, refl, sym, ap, ◌∙◌, subst, inl, inr, ⊎_elim, arith, length-append}
use mathlib.Core.Option.{some, none, some-ne-none, some-injective}
use Rattle.std.specs.Option.{unwrap_or}
use mathlib.Core.Logic.{dite}
use native.Mathlib.Decide.{ℕ_discrete, dec_le}
use lib.ListN.{get_elem?}
use Rattle.atomic_table.specs.Table.{State, Me, Step, step, keeps, takes, gives, put_back, rest, opening, Allows, Splits, Joins}
use Rattle.atomic_table.proofs.Lists.{at_set, at_snoc, at_longer, set_again, set_here, set_else}
use Rattle.book_turn.specs.declared.rule.View.{View}
use Rattle.book_turn.specs.declared.rule.Stage.{Stage}
use Rattle.book_turn.specs.declared.rule.Stage.TheVariants.{Free, Waiting, Called}
use Rattle.book_turn.specs.Entries.{AllBefore, AllAfter, up_to, calls_by, IsOneOf, OwnUpTo, Rises}
use Rattle.book_turn.specs.NumberLists.{same, times, has}
use Rattle.book_turn.specs.PassViews.{staged, IsInTurn, IsCalled, first_view, drawn_view, called_view, done_view, kept_view, given_view, both_views, spent_view, compared_view, awaited}
use Rattle.book_turn.specs.TurnSteps.{AreBeginnings, Glued, drew, looked, passed, compared, journal_in, Comes, Adds}
use Rattle.book_turn.specs.Rule.{total, Fits, NobodyIsCalled, Placed, Kept}
use Rattle.book_turn.proofs.Totals.{total_set, total_snoc, times_append, cut_times, cut_length, in_first, in_others, total_only, times_empty, numbers_length, numbers_in, numbers_out, has_first, has_last, total_at, total_two, total_bounded, same_one, same_none, has_times, times_has}
use Rattle.book_turn.proofs.Prefixes.{before_append, before_later, up_to_all, up_to_later, up_to_splits, own_append, own_drop, own_all, own_none, one_up_to, one_since, one_rises, one_known, one_other, own_fewer, own_later, own_both, begins_later, begins_of, picked, own_whole}
use lib.Seq.{set-get_or}

at_below : {A : Type 0} (l : List A) (i : ℕ) (a : A) → get_elem? l i ≡ some a → i < length l
at_below [] i a e = absurd (some-ne-none a (sym e))
at_below (x ∷ xs) zero a e = omega arith
at_below (x ∷ xs) (suc i) a e = let h = at_below xs i a e in omega arith

pub some-inj : {A : Type 0} {x y : A} → Some x ≡ Some y → x ≡ y
some-inj {A} {x} {y} e = ap (λ (o : Option A). unwrap_or o x) e

uncalled : (st : Stage) → st ≡ Free → IsCalled st → ⊥
uncalled st is c = subst IsCalled is c

called_turn : (serving last : ℕ) (st : Stage) → IsCalled st → IsInTurn serving last st → staged serving st ≡ 1
called_turn serving last Free c i = absurd c
called_turn serving last (Waiting t) c i = absurd c
called_turn serving last (Called t) c i = same_one serving t (sym i.0)

-- a view that isn't called stays so
later_turn : (serving last : ℕ) (st : Stage) → (IsCalled st → ⊥) → IsInTurn serving last st → (last < serving) × IsInTurn (serving + 1) last st
later_turn serving last Free c i = (i, omega arith)
later_turn serving last (Waiting t) c i = (i, omega arith)
later_turn serving last (Called t) c i = absurd (c tt)

module _ {O E S : Type 0} (journal : O → List E) (settings : O → S) (turn pass : E → ℕ) (n : ℕ) (chosen : S) where
  abbrev V : Type 0
  V = View E S

  abbrev St : Type 0
  St = State (Option O) V

  abbrev Rule : St → Type 0
  Rule = Kept journal settings turn pass n chosen

  abbrev Fit : List E → ℕ → V → Type 0
  Fit = Fits journal settings turn pass n chosen

  abbrev Place : List E → List (mathlib.Core.Option.Option (Option O)) → List V → Type 0
  Place = Placed journal settings turn pass n chosen

  -- each view stands after a change of one
  each_set : (P : V → Type 0) (views : List V) (id : ℕ) (w : V) → P w → ((j : ℕ) (u : V) → j ≢ id → get_elem? views j ≡ some u → P u) → (j : ℕ) (u : V) → get_elem? (set views id w) j ≡ some u → P u
  each_set P views id w mine others j u e = ⊎_elim (λ (t : (j ≡ id) × (w ≡ u)). subst P t.1 mine) (λ (t : (j ≢ id) × (get_elem? views j ≡ some u)). others j u t.0 t.1) (at_set views id j w u e)

  placed_stays : (h : List E) (homes : List (mathlib.Core.Option.Option (Option O))) (views : List V) (id : ℕ) (v w : V) → get_elem? views id ≡ some v → (IsCalled v.stage → ⊥) → (IsCalled w.stage → ⊥) → Place h homes views → Place h homes (set views id w)
  placed_stays h homes views id v w at off off' p = ⊎_elim
      (λ (t : (o : O) × (homes ≡ some (Some o) ∷ []) × (journal o ≡ h) × (settings o ≡ chosen) × NobodyIsCalled journal settings turn pass n chosen views). inl (t.0, t.1, t.2, t.3, each_set (λ u. IsCalled u.stage → ⊥) views id w off' (λ j u _ e. t.4 j u e)))
      (λ (t : (j : ℕ) × (u : V) × (get_elem? views j ≡ some u) × IsCalled u.stage × (homes ≡ none ∷ [])). inr (t.0, t.1, set_else views id t.0 w (λ e. off (subst (λ (x : V). IsCalled x.stage) (some-injective t.1 v (sym t.2 ∙ ap (get_elem? views) e ∙ at)) t.3)) ∙ t.2, t.3, t.4))
      p

  each_snoc : (P : V → Type 0) (views : List V) (w : V) → P w → ((j : ℕ) (u : V) → get_elem? views j ≡ some u → P u) → (j : ℕ) (u : V) → get_elem? (views ++ w ∷ []) j ≡ some u → P u
  each_snoc P views w mine others j u e = ⊎_elim (others j u) (λ (t : w ≡ u). subst P t mine) (at_snoc views w u j e)

  placed_more : (h : List E) (homes : List (mathlib.Core.Option.Option (Option O))) (views : List V) (w : V) → (IsCalled w.stage → ⊥) → Place h homes views → Place h homes (views ++ w ∷ [])
  placed_more h homes views w off p = ⊎_elim
      (λ (t : (o : O) × (homes ≡ some (Some o) ∷ []) × (journal o ≡ h) × (settings o ≡ chosen) × NobodyIsCalled journal settings turn pass n chosen views). inl (t.0, t.1, t.2, t.3, each_snoc (λ u. IsCalled u.stage → ⊥) views w off t.4))
      (λ (t : (j : ℕ) × (u : V) × (get_elem? views j ≡ some u) × IsCalled u.stage × (homes ≡ none ∷ [])). inr (t.0, t.1, at_longer views (w ∷ []) t.0 t.1 t.2, t.3, t.4))
      p

  module _ (s : St) (r : Rule s) where
    -- while one view waits for the served turn, or has it, no other is called
    nobody_else : (id : ℕ) (v : V) → get_elem? s.views id ≡ some v → staged r.serving v.stage ≡ 1 → (j : ℕ) (u : V) → j ≢ id → get_elem? s.views j ≡ some u → IsCalled u.stage → ⊥
    nobody_else id v at mine j u other there called =
        let fit = r.each j u there in
        let one : staged r.serving u.stage ≡ 1 = called_turn r.serving u.last u.stage called (fit.stands (fit.named called)).in_turn in
        let two = total_two (λ (x : V). staged r.serving x.stage) s.views id j v u (λ e. other (sym e)) at there in
        let most = r.stages r.serving in absurd (omega arith)

    number_below : (id : ℕ) (v : V) → get_elem? s.views id ≡ some v → (x : ℕ) → has x v.passes ≡ true → x < n
    number_below id v at x is = let a = has_times x v.passes is in let b = total_at (λ (u : V). times x u.passes) s.views id v at in dite (dec_le (suc x) n) (λ l. l) (λ not. let z = r.no_numbers x (omega arith) in absurd (omega arith))

    number_once : (id j : ℕ) (v u : V) → j ≢ id → get_elem? s.views id ≡ some v → get_elem? s.views j ≡ some u → (x : ℕ) → has x v.passes ≡ true → has x u.passes ≡ true → ⊥
    number_once id j v u other at there x a b =
        let p = has_times x v.passes a in let q = has_times x u.passes b in let two = total_two (λ (w : V). times x w.passes) s.views id j v u (λ e. other (sym e)) at there in
        let one = r.numbers x (number_below id v at x a) in absurd (omega arith)

    small_ticket : r.ticket < 2 ^ 47
    small_ticket =
        let b : total (λ (v : V). length v.turns) s.views ≤ 1099511627776 * total (λ (v : V). length v.passes) s.views = total_bounded (λ (v : V). length v.turns) (λ (v : V). length v.passes) s.views (λ j v e. (r.each j v e).few) in
        let c = r.counted in let d = r.numbered in let m = r.most in omega arith

    draws_at : (id : ℕ) (cs : List (ℕ × Option O)) (v : V) → get_elem? s.views id ≡ some v → v.stage ≡ Free → 0 < length v.passes → length v.turns < 2 ^ 40 * length v.passes
        → Rule record { words = (r.ticket + 1) % 2 ^ 64 ∷ r.serving ∷ []; homes = s.homes; views = set s.views id (drawn_view v r.ticket) }
    draws_at id cs v at free some_pass few =
        let t : ℕ = r.ticket in let w : V = drawn_view v t in let vs = s.views in let small = small_ticket in
        let fit = r.each id v at in let stands = fit.stands some_pass in
        let more : length w.turns ≡ length v.turns + 1 = omega arith in
        record {
          history = r.history;
          ticket = t + 1;
          serving = r.serving;
          words = ap (λ (x : ℕ). x ∷ r.serving ∷ []) (omega arith);
          starts = r.starts;
          in_order = let o = r.in_order in omega arith;
          most = r.most;
          counted = let c = r.counted in let k = total_set (λ (u : V). length u.turns) vs id v w at in omega arith;
          numbered = let k = total_set (λ (u : V). length u.passes) vs id v w at in let d = r.numbered in omega arith;
          numbers = λ x l. let k = total_set (λ (u : V). times x u.passes) vs id v w at in let d = r.numbers x l in omega arith;
          no_numbers = λ x l. let k = total_set (λ (u : V). times x u.passes) vs id v w at in let d = r.no_numbers x l in omega arith;
          turns = λ x. let k = total_set (λ (u : V). times x u.turns) vs id v w at in dite (ℕ_discrete x t)
              (λ e. let one = same_one x t e in let z = r.no_turns x (omega arith) in omega arith)
              (λ e. let no = same_none x t e in let d = r.turns x in omega arith);
          no_turns = λ x l. let k = total_set (λ (u : V). times x u.turns) vs id v w at in let no = same_none x t (λ e. omega arith) in let d = r.no_turns x (omega arith) in omega arith;
          stages = λ x. let k = total_set (λ (u : V). staged x u.stage) vs id v w at in let f : staged x v.stage ≡ 0 = ap (staged x) free in dite (ℕ_discrete x t)
              (λ e. let one = same_one x t e in let z = r.no_stages x (omega arith) in omega arith)
              (λ e. let no = same_none x t e in let d = r.stages x in omega arith);
          no_stages = λ x l. let k = total_set (λ (u : V). staged x u.stage) vs id v w at in let f : staged x v.stage ≡ 0 = ap (staged x) free in let no = same_none x t (λ e. omega arith) in let d = r.no_stages x (omega arith) in omega arith;
          each = each_set (Fit r.history r.serving) vs id w
              record { few = omega arith; named = λ c. absurd c; stands = λ _. record { same = stands.same; seen = stands.seen; own = stands.own; in_turn = subst (IsInTurn r.serving v.last) free stands.in_turn; begins = tt } }
              (λ j u _ e. r.each j u e);
          placed = placed_stays r.history s.homes vs id v w at (uncalled v.stage free) (λ c. c) r.placed;
          rises = r.rises;
          before = r.before;
          known = r.known;
        }

  pub draws : (slots id : ℕ) (me : Me (Option O) V) → me.0.stage ≡ Free → 0 < length me.0.passes → length me.0.turns < 2 ^ 40 * length me.0.passes
      → Allows Rule slots id me 0 (λ x. (x + 1) % 2 ^ 64) (drew (step slots 0 1 0 none) me)
  draws slots id me free some_pass few s r _ at _ =
      let v : V = me.0 in let w : V = drawn_view v r.ticket in
      let last : v.last < r.serving = subst (IsInTurn r.serving v.last) free ((r.each id v at).stands some_pass).in_turn in
      let order = r.in_order in let below = small_ticket s r in (
        w,
        keeps,
        tt,
        subst (λ (ws : List ℕ). Rule record { words = set ws 0 ((get_or ws 0 0 + 1) % 2 ^ 64); homes = s.homes; views = set s.views id w }) (sym r.words) (draws_at s r id me.1 v at free some_pass few),
        subst (λ (ws : List ℕ). drew (step slots 0 1 0 none) me (get_or ws 0 0) (w, me.1)) (sym r.words) (refl, omega arith, below),
      )

  -- nothing is done
  unmoved : (s : St) (r : Rule s) (i id : ℕ) (v : V) → get_elem? s.views id ≡ some v → Rule record { words = set s.words i (get_or s.words i 0); homes = s.homes; views = set s.views id v }
  unmoved s r i id v at = subst (λ (z : List ℕ × List V). Rule record { words = z.0; homes = s.homes; views = z.1 }) (λ k. (sym (set-get_or s.words i 0) k, sym (set_again s.views id v at) k)) r

  called_at : (s : St) (r : Rule s) (id : ℕ) (v : V) → get_elem? s.views id ≡ some v → (t : ℕ) → v.stage ≡ Waiting t → r.serving ≡ t → 0 < length v.passes
      → (o : O) × (news : List E) × (s.homes ≡ some (Some o) ∷ []) × (journal o ≡ v.seen ++ news) × (v.settings ≡ Some (settings o)) × AllAfter turn v.last news × AllBefore turn r.serving (v.seen ++ news) × (calls_by pass v.passes news ≡ []) × Rises turn (v.seen ++ news)
      × Rule record { words = r.ticket ∷ r.serving ∷ []; homes = none ∷ []; views = set s.views id (called_view v r.serving (v.seen ++ news)) }
  called_at s r id v at t is hit some_pass =
      let h = r.history in let vs = s.views in let stands = (r.each id v at).stands some_pass in
      let k = up_to_splits turn v.last h r.rises in let news : List E = k.0 in
      let whole : h ≡ v.seen ++ news = k.1 ∙ ap (λ l. l ++ news) (sym stands.seen) in
      let w : V = called_view v r.serving (v.seen ++ news) in
      let mine : staged r.serving v.stage ≡ 1 = ap (staged r.serving) is ∙ same_one r.serving t hit in
      let apart = nobody_else s r id v at mine in
      let off : IsCalled v.stage → ⊥ = subst IsCalled is in
      let nobody : NobodyIsCalled journal settings turn pass n chosen vs = λ j u e c. dite (ℕ_discrete j id)
      (λ same_seat. off (subst (λ (x : V). IsCalled x.stage) (some-injective u v (sym e ∙ ap (get_elem? vs) same_seat ∙ at)) c))
      (λ other. apart j u other e c) in
      let rule : Rule record { words = r.ticket ∷ r.serving ∷ []; homes = none ∷ []; views = set vs id w } = record {
        history = h;
        ticket = r.ticket;
        serving = r.serving;
        words = refl;
        starts = r.starts;
        in_order = r.in_order;
        most = r.most;
        counted = let c = r.counted in let q = total_set (λ (u : V). length u.turns) vs id v w at in omega arith;
        numbered = let d = r.numbered in let q = total_set (λ (u : V). length u.passes) vs id v w at in omega arith;
        numbers = λ x l. let d = r.numbers x l in let q = total_set (λ (u : V). times x u.passes) vs id v w at in omega arith;
        no_numbers = λ x l. let d = r.no_numbers x l in let q = total_set (λ (u : V). times x u.passes) vs id v w at in omega arith;
        turns = λ x. let d = r.turns x in let q = total_set (λ (u : V). times x u.turns) vs id v w at in omega arith;
        no_turns = λ x l. let d = r.no_turns x l in let q = total_set (λ (u : V). times x u.turns) vs id v w at in omega arith;
        stages = λ x. let d = r.stages x in let q = total_set (λ (u : V). staged x u.stage) vs id v w at in let f : staged x v.stage ≡ same x r.serving = ap (staged x) is ∙ ap (same x) (sym hit) in omega arith;
        no_stages = λ x l. let d = r.no_stages x l in let q = total_set (λ (u : V). staged x u.stage) vs id v w at in let f : staged x v.stage ≡ same x r.serving = ap (staged x) is ∙ ap (same x) (sym hit) in omega arith;
        each = each_set (Fit h r.serving) vs id w
            record {
              few = (r.each id v at).few;
              named = λ _. some_pass;
              stands = λ _. record {
                same = stands.same;
                seen = sym whole ∙ sym (up_to_all turn r.serving h (before_later turn r.serving (r.serving + 1) h (omega arith) r.before));
                own = own_all turn pass v.passes r.serving h (before_later turn r.serving (r.serving + 1) h (omega arith) r.before);
                in_turn = (refl, refl);
                begins = tt;
              };
            }
            (λ j u _ e. r.each j u e);
        placed = inr (id, w, set_here vs id w (at_below vs id v at), tt, refl);
        rises = r.rises;
        before = r.before;
        known = r.known;
      } in
      ⊎_elim
      (λ (p : (o : O) × (s.homes ≡ some (Some o) ∷ []) × (journal o ≡ h) × (settings o ≡ chosen) × NobodyIsCalled journal settings turn pass n chosen vs). (
        p.0,
        news,
        p.1,
        p.2 ∙ whole,
        stands.same ∙ ap Some (sym p.3),
        k.2,
        subst (AllBefore turn r.serving) whole r.before,
        own_none turn pass v.passes v.last news (own_drop turn pass v.passes v.last v.seen news (subst (OwnUpTo turn pass v.passes v.last) whole stands.own)) k.2,
        subst (Rises turn) whole r.rises,
        rule,
      ))
      (λ (p : (j : ℕ) × (u : V) × (get_elem? vs j ≡ some u) × IsCalled u.stage × (s.homes ≡ none ∷ [])). absurd (nobody p.0 p.1 p.2 p.3))
      r.placed

  pub looks : (slots id : ℕ) (me : Me (Option O) V) (t : ℕ) → me.0.stage ≡ Waiting t → 0 < length me.0.passes → me.1 ≡ []
      → Allows Rule slots id me 1 (λ x. x) (looked journal settings turn pass (step slots 1 0 0 none) me)
  looks slots id me t is some_pass empty s r _ at _ =
      let v : V = me.0 in let found : ℕ = get_or s.words 1 0 in
      let e : found ≡ r.serving = ap (λ (ws : List ℕ). get_or ws 1 0) r.words in
      let a : awaited v.stage ≡ t = ap awaited is in
      dite (ℕ_discrete r.serving t)
      (λ hit. let c = called_at s r id v at t is hit some_pass in let w : V = called_view v r.serving (v.seen ++ c.1) in (
        w,
        takes 0 (Some c.0),
        ap (λ hs. get_elem? hs 0) c.2,
        subst (λ (z : List ℕ × List (mathlib.Core.Option.Option (Option O))). Rule record { words = set z.0 1 (get_or z.0 1 0); homes = set z.1 0 none; views = set s.views id w }) (λ k. (sym r.words k, sym c.2 k)) c.9,
        (
          (λ not. absurd (not (e ∙ hit ∙ sym a))),
          λ _. subst (λ (x : ℕ). Comes journal settings turn pass x me (w, (0, Some c.0) ∷ me.1)) (sym e) (c.0, c.1, ap (λ l. (w, (0, Some c.0) ∷ l)) empty, c.3, c.4, c.5, c.6, c.7, c.8),
        ),
      ))
      (λ miss. (v, keeps, tt, unmoved s r 1 id v at, ((λ _. refl), λ same_turn. absurd (miss (sym e ∙ same_turn ∙ a)))))

  done_at : (s : St) (r : Rule s) (id : ℕ) (v : V) → get_elem? s.views id ≡ some v → (t : ℕ) (o : O) → v.stage ≡ Called t → 0 < length v.passes
      → (news : List E) → journal o ≡ v.seen ++ news → IsOneOf turn pass t v.passes news → v.settings ≡ Some (settings o)
      → (s.homes ≡ none ∷ []) × Rule record { words = r.ticket ∷ (r.serving + 1) % 2 ^ 64 ∷ []; homes = some (Some o) ∷ []; views = set s.views id (done_view v (journal o)) }
  done_at s r id v at t o is some_pass news whole one chosen_is =
      let h = r.history in let vs = s.views in let stands = (r.each id v at).stands some_pass in
      let w : V = done_view v (journal o) in
      let turn_is = subst (IsInTurn r.serving v.last) is stands.in_turn in
      let one' : IsOneOf turn pass r.serving v.passes news = subst (λ (x : ℕ). IsOneOf turn pass x v.passes news) turn_is.0 one in
      let before' : AllBefore turn (r.serving + 1) h = before_later turn r.serving (r.serving + 1) h (omega arith) r.before in
      let seen_all : v.seen ≡ h = stands.seen ∙ ap (λ (x : ℕ). up_to turn x h) turn_is.1 ∙ up_to_all turn r.serving h before' in
      let now : journal o ≡ h ++ news = whole ∙ ap (λ l. l ++ news) seen_all in
      let after : AllBefore turn (r.serving + 1) (h ++ news) = before_append turn (r.serving + 1) h news before' (one_up_to turn pass r.serving v.passes news one') in
      let called : IsCalled v.stage = subst IsCalled (sym is) tt in
      let mine : staged r.serving v.stage ≡ 1 = called_turn r.serving v.last v.stage called stands.in_turn in
      let apart = nobody_else s r id v at mine in
      let small = small_ticket s r in let order = r.in_order in
      let room : r.serving + 1 ≤ r.ticket = dite (dec_le (r.serving + 1) r.ticket) (λ l. l) (λ not. let z = r.no_stages r.serving (omega arith) in let b = total_at (λ (u : V). staged r.serving u.stage) vs id v at in absurd (omega arith)) in
      let free : Fit (h ++ news) (r.serving + 1) w = record {
        few = (r.each id v at).few;
        named = λ c. absurd c;
        stands = λ _. record {
          same = stands.same;
          seen = now ∙ sym (ap (λ (x : ℕ). up_to turn x (h ++ news)) turn_is.1 ∙ up_to_all turn r.serving (h ++ news) after);
          own = subst (λ (x : ℕ). OwnUpTo turn pass v.passes x (h ++ news)) (sym turn_is.1) (own_all turn pass v.passes r.serving (h ++ news) after);
          in_turn = let l : v.last ≡ r.serving = turn_is.1 in omega arith;
          begins = tt;
        };
      } in
      let others : (j : ℕ) (u : V) → j ≢ id → get_elem? vs j ≡ some u → Fit (h ++ news) (r.serving + 1) u = λ j u other e.
      let fit = r.each j u e in record {
        few = fit.few;
        named = fit.named;
        stands = λ p. let st = fit.stands p in let l = later_turn r.serving u.last u.stage (apart j u other e) st.in_turn in record {
          same = st.same;
          seen = st.seen ∙ sym (up_to_later turn u.last h news (one_since turn pass u.last r.serving v.passes news one' l.0));
          own = own_append turn pass u.passes u.last h news st.own (one_other turn pass r.serving v.passes u.passes u.last news one' (number_once s r id j v u other at e));
          in_turn = l.1;
          begins = begins_later turn pass u.passes u.begins u.last h news (one_since turn pass u.last r.serving v.passes news one' l.0) (λ qs b sub. one_other turn pass r.serving v.passes qs b news one' (λ x mine theirs. number_once s r id j v u other at e x mine (sub x theirs))) st.begins;
        };
      } in
      let rule : Rule record { words = r.ticket ∷ (r.serving + 1) % 2 ^ 64 ∷ []; homes = some (Some o) ∷ []; views = set vs id w } = record {
        history = h ++ news;
        ticket = r.ticket;
        serving = r.serving + 1;
        words = ap (λ (x : ℕ). r.ticket ∷ x ∷ []) (omega arith);
        starts = omega arith;
        in_order = room;
        most = r.most;
        counted = let c = r.counted in let q = total_set (λ (u : V). length u.turns) vs id v w at in omega arith;
        numbered = let d = r.numbered in let q = total_set (λ (u : V). length u.passes) vs id v w at in omega arith;
        numbers = λ x l. let d = r.numbers x l in let q = total_set (λ (u : V). times x u.passes) vs id v w at in omega arith;
        no_numbers = λ x l. let d = r.no_numbers x l in let q = total_set (λ (u : V). times x u.passes) vs id v w at in omega arith;
        turns = λ x. let d = r.turns x in let q = total_set (λ (u : V). times x u.turns) vs id v w at in omega arith;
        no_turns = λ x l. let d = r.no_turns x l in let q = total_set (λ (u : V). times x u.turns) vs id v w at in omega arith;
        stages = λ x. let d = r.stages x in let q = total_set (λ (u : V). staged x u.stage) vs id v w at in omega arith;
        no_stages = λ x l. let d = r.no_stages x l in let q = total_set (λ (u : V). staged x u.stage) vs id v w at in omega arith;
        each = each_set (Fit (h ++ news) (r.serving + 1)) vs id w free others;
        placed = inl (o, refl, now, some-inj (sym chosen_is ∙ stands.same), each_set (λ u. IsCalled u.stage → ⊥) vs id w (λ c. c) apart);
        rises = one_rises turn pass h r.serving v.passes news one' r.rises r.before;
        before = after;
        known = before_append pass n h news r.known (one_known turn pass n r.serving v.passes news one' (number_below s r id v at));
      } in (
        ⊎_elim
            (λ (p : (o : O) × (s.homes ≡ some (Some o) ∷ []) × (journal o ≡ h) × (settings o ≡ chosen) × NobodyIsCalled journal settings turn pass n chosen vs). absurd (p.4 id v at called))
            (λ (p : (j : ℕ) × (u : V) × (get_elem? vs j ≡ some u) × IsCalled u.stage × (s.homes ≡ none ∷ [])). p.4)
            r.placed,
        rule,
      )

  pub goes_on : (slots id : ℕ) (me : Me (Option O) V) (t : ℕ) (o : O) → me.0.stage ≡ Called t → 0 < length me.0.passes → me.1 ≡ (0, Some o) ∷ []
      → Adds journal settings turn pass t o me.0 → Allows Rule slots id me 1 (λ x. (x + 1) % 2 ^ 64) (passed journal (step slots 1 1 0 none) me)
  goes_on slots id me t o is some_pass hand adds s r _ at _ =
      let d = done_at s r id me.0 at t o is some_pass adds.1 adds.2 adds.3 adds.0 in let w : V = done_view me.0 (journal o) in (
        w,
        gives,
        tt,
        subst (λ (z : List ℕ × List (ℕ × Option O) × List (mathlib.Core.Option.Option (Option O))). Rule record { words = set z.0 1 ((get_or z.0 1 0 + 1) % 2 ^ 64); homes = put_back z.2 z.1; views = set s.views id w })
            (λ k. (sym r.words k, sym hand k, sym d.0 k)) d.1,
        λ k. (done_view me.0 (journal_in journal (sym hand k)), rest (hand k)),
      )

  pub splits : (id : ℕ) (v : V) → v.stage ≡ Free → 1 < length v.passes → v.turns ≡ [] → Splits Rule id v (kept_view v) (given_view v)
  splits id v free two no_turns s r at =
      let vs = s.views in let left : V = kept_view v in let right : V = given_view v in let all : List V = set vs id left in
      let fit = r.each id v at in let stands = fit.stands (omega arith) in
      let none_taken : length v.turns ≡ 0 = ap (λ (l : List ℕ). length l) no_turns in
      let cut = cut_length v.passes in
      record {
        history = r.history;
        ticket = r.ticket;
        serving = r.serving;
        words = r.words;
        starts = r.starts;
        in_order = r.in_order;
        most = r.most;
        counted = let c = r.counted in let q = total_set (λ (u : V). length u.turns) vs id v left at in let q' = total_snoc (λ (u : V). length u.turns) all right in omega arith;
        numbered = let d = r.numbered in let q = total_set (λ (u : V). length u.passes) vs id v left at in let q' = total_snoc (λ (u : V). length u.passes) all right in omega arith;
        numbers = λ x l. let d = r.numbers x l in let q = total_set (λ (u : V). times x u.passes) vs id v left at in let q' = total_snoc (λ (u : V). times x u.passes) all right in let k = cut_times x v.passes in omega arith;
        no_numbers = λ x l. let d = r.no_numbers x l in let q = total_set (λ (u : V). times x u.passes) vs id v left at in let q' = total_snoc (λ (u : V). times x u.passes) all right in let k = cut_times x v.passes in omega arith;
        turns = λ x. let d = r.turns x in let q = total_set (λ (u : V). times x u.turns) vs id v left at in let q' = total_snoc (λ (u : V). times x u.turns) all right in omega arith;
        no_turns = λ x l. let d = r.no_turns x l in let q = total_set (λ (u : V). times x u.turns) vs id v left at in let q' = total_snoc (λ (u : V). times x u.turns) all right in omega arith;
        stages = λ x. let d = r.stages x in let q = total_set (λ (u : V). staged x u.stage) vs id v left at in let q' = total_snoc (λ (u : V). staged x u.stage) all right in omega arith;
        no_stages = λ x l. let d = r.no_stages x l in let q = total_set (λ (u : V). staged x u.stage) vs id v left at in let q' = total_snoc (λ (u : V). staged x u.stage) all right in omega arith;
        each = each_snoc (Fit r.history r.serving) all right
            record { few = omega arith; named = λ c. absurd c; stands = λ _. record { same = stands.same; seen = stands.seen; own = own_fewer turn pass v.passes right.passes v.last r.history (in_first v.passes) stands.own; in_turn = subst (IsInTurn r.serving v.last) free stands.in_turn; begins = tt } }
            (each_set (Fit r.history r.serving) vs id left
            record { few = omega arith; named = λ c. absurd (uncalled v.stage free c); stands = λ _. record { same = stands.same; seen = stands.seen; own = own_fewer turn pass v.passes left.passes v.last r.history (in_others v.passes) stands.own; in_turn = stands.in_turn; begins = tt } }
            (λ j u _ e. r.each j u e));
        placed = placed_more r.history s.homes all right (λ c. c) (placed_stays r.history s.homes vs id v left at (uncalled v.stage free) (uncalled v.stage free) r.placed);
        rises = r.rises;
        before = r.before;
        known = r.known;
      }

  pub joins : (id : ℕ) (v : V) (other : ℕ) (w : V) → v.stage ≡ Free → w.stage ≡ Free → 0 < length v.passes → 0 < length w.passes → Joins Rule id v other w (both_views v w) spent_view
  joins id v other w free free' some_pass some_pass' s r at apart there =
      let vs = s.views in let b : V = both_views v w in let z : V = spent_view {E = E} {S = S} in let one : List V = set vs id b in
      let at' : get_elem? vs other ≡ some w = sym (set_else vs id other b apart) ∙ there in
      let fit = r.each id v at in let fit' = r.each other w at' in let stands = fit.stands some_pass in let stands' = fit'.stands some_pass' in
      let turns_length = length-append v.turns w.turns in let passes_length = length-append v.passes w.passes in
      let low : v.last < r.serving = subst (IsInTurn r.serving v.last) free stands.in_turn in
      let low' : w.last < r.serving = subst (IsInTurn r.serving w.last) free' stands'.in_turn in
      let most : (v.last ≤ b.last) × (w.last ≤ b.last) = (omega arith, omega arith) in
      let few = fit.few in let few' = fit'.few in
      record {
        history = r.history;
        ticket = r.ticket;
        serving = r.serving;
        words = r.words;
        starts = r.starts;
        in_order = r.in_order;
        most = r.most;
        counted = let c = r.counted in let q = total_set (λ (u : V). length u.turns) vs id v b at in let q' = total_set (λ (u : V). length u.turns) one other w z there in omega arith;
        numbered = let d = r.numbered in let q = total_set (λ (u : V). length u.passes) vs id v b at in let q' = total_set (λ (u : V). length u.passes) one other w z there in omega arith;
        numbers = λ x l. let d = r.numbers x l in let q = total_set (λ (u : V). times x u.passes) vs id v b at in let q' = total_set (λ (u : V). times x u.passes) one other w z there in let k = times_append x v.passes w.passes in omega arith;
        no_numbers = λ x l. let d = r.no_numbers x l in let q = total_set (λ (u : V). times x u.passes) vs id v b at in let q' = total_set (λ (u : V). times x u.passes) one other w z there in let k = times_append x v.passes w.passes in omega arith;
        turns = λ x. let d = r.turns x in let q = total_set (λ (u : V). times x u.turns) vs id v b at in let q' = total_set (λ (u : V). times x u.turns) one other w z there in let k = times_append x v.turns w.turns in omega arith;
        no_turns = λ x l. let d = r.no_turns x l in let q = total_set (λ (u : V). times x u.turns) vs id v b at in let q' = total_set (λ (u : V). times x u.turns) one other w z there in let k = times_append x v.turns w.turns in omega arith;
        stages = λ x. let d = r.stages x in let q = total_set (λ (u : V). staged x u.stage) vs id v b at in let q' = total_set (λ (u : V). staged x u.stage) one other w z there in omega arith;
        no_stages = λ x l. let d = r.no_stages x l in let q = total_set (λ (u : V). staged x u.stage) vs id v b at in let q' = total_set (λ (u : V). staged x u.stage) one other w z there in omega arith;
        each = each_set (Fit r.history r.serving) one other z
            record { few = omega arith; named = λ c. absurd c; stands = λ p. absurd (omega arith) }
            (λ j u _ e. each_set (Fit r.history r.serving) vs id b
            record {
              few = omega arith;
              named = λ c. absurd c;
              stands = λ _. record {
                same = stands.same;
                seen = picked turn r.history v.last w.last v.seen w.seen stands.seen stands'.seen;
                own = own_both turn pass v.passes w.passes b.last r.history (own_later turn pass v.passes v.last b.last r.history most.0 stands.own) (own_later turn pass w.passes w.last b.last r.history most.1 stands'.own);
                in_turn = omega arith;
                begins = ((stands.seen, most.0, has_first v.passes w.passes, stands.own), ((stands'.seen, most.1, has_last v.passes w.passes, stands'.own), tt));
              };
            }
            (λ i x _ e'. r.each i x e') j u e);
        placed = placed_stays r.history s.homes one other w z there (uncalled w.stage free') (λ c. c) (placed_stays r.history s.homes vs id v b at (uncalled v.stage free) (λ c. c) r.placed);
        rises = r.rises;
        before = r.before;
        known = r.known;
      }

  pub compares : (slots id : ℕ) (me : Me (Option O) V) → me.0.stage ≡ Free → 0 < length me.0.passes → Allows Rule slots id me 0 (λ x. x) (compared turn pass (step slots 0 0 0 none) me)
  compares slots id me free some_pass s r _ at _ =
      let v : V = me.0 in let w : V = compared_view v in let vs = s.views in let stands = (r.each id v at).stands some_pass in
      let k = up_to_splits turn v.last r.history r.rises in
      let whole : r.history ≡ v.seen ++ k.0 = k.1 ∙ ap (λ l. l ++ k.0) (sym stands.seen) in (
        w,
        keeps,
        tt,
        subst (λ (ws : List ℕ). Rule record { words = ws; homes = s.homes; views = set vs id w }) (sym (set-get_or s.words 0 0)) record {
          history = r.history;
          ticket = r.ticket;
          serving = r.serving;
          words = r.words;
          starts = r.starts;
          in_order = r.in_order;
          most = r.most;
          counted = let c = r.counted in let q = total_set (λ (u : V). length u.turns) vs id v w at in omega arith;
          numbered = let d = r.numbered in let q = total_set (λ (u : V). length u.passes) vs id v w at in omega arith;
          numbers = λ x l. let d = r.numbers x l in let q = total_set (λ (u : V). times x u.passes) vs id v w at in omega arith;
          no_numbers = λ x l. let d = r.no_numbers x l in let q = total_set (λ (u : V). times x u.passes) vs id v w at in omega arith;
          turns = λ x. let d = r.turns x in let q = total_set (λ (u : V). times x u.turns) vs id v w at in omega arith;
          no_turns = λ x l. let d = r.no_turns x l in let q = total_set (λ (u : V). times x u.turns) vs id v w at in omega arith;
          stages = λ x. let d = r.stages x in let q = total_set (λ (u : V). staged x u.stage) vs id v w at in omega arith;
          no_stages = λ x l. let d = r.no_stages x l in let q = total_set (λ (u : V). staged x u.stage) vs id v w at in omega arith;
          each = each_set (Fit r.history r.serving) vs id w
              record { few = (r.each id v at).few; named = (r.each id v at).named; stands = λ _. record { same = stands.same; seen = stands.seen; own = stands.own; in_turn = stands.in_turn; begins = tt } }
              (λ j u _ e. r.each j u e);
          placed = placed_stays r.history s.homes vs id v w at (uncalled v.stage free) (uncalled v.stage free) r.placed;
          rises = r.rises;
          before = r.before;
          known = r.known;
        },
        (
          refl,
          begins_of turn pass v.passes v.begins v.last v.seen k.0 k.2 (subst (AreBeginnings turn pass v.passes v.begins v.last) whole stands.begins),
          λ x. let a = total_at (λ (u : V). times x u.turns) vs id v at in let d = r.turns x in omega arith,
        ),
      )

  -- the view that has all passes knows all, and the object is at home
  pub closes : (s : St) (r : Rule s) (id : ℕ) (v : V) → get_elem? s.views id ≡ some v → v.stage ≡ Free → 0 < n → length v.passes ≡ n
      → (o : O) × (s.homes ≡ some (Some o) ∷ []) × (journal o ≡ v.seen) × (settings o ≡ chosen) × AllBefore pass n (journal o)
  closes s r id v at free some_pass all =
      let vs = s.views in let h = r.history in let stands = (r.each id v at).stands (omega arith) in
      let none_else : (j : ℕ) (u : V) → j ≢ id → get_elem? vs j ≡ some u → length u.passes ≡ 0 = λ j u other e. let two = total_two (λ (w : V). length w.passes) vs id j v u (λ k. other (sym k)) at e in let d = r.numbered in omega arith in
      let nobody : (j : ℕ) (u : V) → get_elem? vs j ≡ some u → IsCalled u.stage → ⊥ = λ j u e c. dite (ℕ_discrete j id)
      (λ here. uncalled v.stage free (subst (λ (x : V). IsCalled x.stage) (some-injective u v (sym e ∙ ap (get_elem? vs) here ∙ at)) c))
      (λ other. let z = none_else j u other e in let some = (r.each j u e).named c in absurd (omega arith)) in
      let every : (x : ℕ) → x < n → has x v.passes ≡ true = λ x l. let one = r.numbers x l in let only = total_only (λ (w : V). times x w.passes) vs id v at (λ j u other e. times_empty x u.passes (none_else j u other e)) in times_has x v.passes (omega arith) in
      let whole : v.seen ≡ h = stands.seen ∙ up_to_all turn v.last h (own_whole turn pass v.passes n v.last h every r.known stands.own) in
      ⊎_elim
      (λ (p : (o : O) × (s.homes ≡ some (Some o) ∷ []) × (journal o ≡ h) × (settings o ≡ chosen) × NobodyIsCalled journal settings turn pass n chosen vs). (p.0, p.1, p.2 ∙ sym whole, p.3, subst (AllBefore pass n) (sym p.2) r.known))
      (λ (p : (j : ℕ) × (u : V) × (get_elem? vs j ≡ some u) × IsCalled u.stage × (s.homes ≡ none ∷ [])). absurd (nobody p.0 p.1 p.2 p.3))
      r.placed

  -- the table at the start
  pub opens : (o : O) → journal o ≡ [] → settings o ≡ chosen → 0 < n → n ≤ 64 → Rule (opening (1 ∷ 1 ∷ []) (Some o ∷ []) (first_view chosen n))
  opens o empty known some_pass most = record {
    history = [];
    ticket = 1;
    serving = 1;
    words = refl;
    starts = omega arith;
    in_order = omega arith;
    most = most;
    counted = omega arith;
    numbered = let l = numbers_length 0 n in omega arith;
    numbers = λ x l. let t = numbers_in x 0 n (omega arith) (omega arith) in omega arith;
    no_numbers = λ x l. let t = numbers_out x 0 n (inr (omega arith)) in omega arith;
    turns = λ x. omega arith;
    no_turns = λ x l. omega arith;
    stages = λ x. omega arith;
    no_stages = λ x l. omega arith;
    each = one;
    placed = inl (o, refl, empty, known, (λ j u e c. (off j u e c)));
    rises = tt;
    before = tt;
    known = tt;
  }
    where
      fit : Fit [] 1 (first_view chosen n)
      fit = record { few = omega arith; named = λ c. absurd c; stands = λ _. record { same = refl; seen = refl; own = tt; in_turn = omega arith; begins = tt } }

      one : (j : ℕ) (u : V) → get_elem? (first_view chosen n ∷ []) j ≡ some u → Fit [] 1 u
      one zero u e = subst (Fit [] 1) (some-injective (first_view chosen n) u e) fit
      one (suc j) u e = absurd (some-ne-none u (sym e))

      off : (j : ℕ) (u : V) → get_elem? (first_view chosen n ∷ []) j ≡ some u → IsCalled u.stage → ⊥
      off zero u e c = subst (λ (x : V). IsCalled x.stage) (sym (some-injective (first_view chosen n) u e)) c
      off (suc j) u e c = absurd (some-ne-none u (sym e))

-- what two views that were joined know once they were compared
pub glues : {O E S : Type 0} (turn pass : E → ℕ) (v w : View E S) (cs : List (ℕ × Option O)) (me me' : Me (Option O) (View E S)) (st : Step (Option O)) (r : ℕ) → me ≡ (both_views v w, cs) → compared turn pass st me r me' → Glued turn pass v w me'.0 × (me'.1 ≡ cs)
glues {E = E} {S = S} turn pass v w cs me me' st r is told =
    let t = subst (λ m. compared turn pass st m r me') is told in
    let same_view : me'.0 ≡ compared_view (both_views v w) = ap (λ m. m.0) t.0 in (
      record {
        joined = same_view;
        first = t.1.0.0 ∙ ap (λ (x : View E S). up_to turn v.last x.seen) (sym same_view);
        own_first = subst (λ (x : View E S). OwnUpTo turn pass v.passes v.last x.seen) (sym same_view) t.1.0.3;
        own_second = subst (λ (x : View E S). OwnUpTo turn pass w.passes w.last x.seen) (sym same_view) t.1.1.0.3;
        second = t.1.1.0.0 ∙ ap (λ (x : View E S). up_to turn w.last x.seen) (sym same_view);
        once = λ x. let a = t.2 x in let k = times_append x v.turns w.turns in omega arith;
      },
      ap (λ m. m.1) t.0,
    )
