-- How marks are set along ways.
use Rattle.std.proofs.Common.{◌≡◌, ◌≢◌, ℕ, ◌+◌, ◌<◌, ◌⊎◌, inl, inr, Option, Some, None, MatchOption, List, [], ◌∷◌, ◌++◌, length, get_or, set, sum_by, Contains, refl, sym, ap, ◌∙◌, subst, arith, length-append, get_or-set_same, get_or-set_other}
use Rattle.std.proofs.lemmas.List.{get_or_append_left, get_or_push}
use Rattle.std.proofs.lemmas.List.Elements.{Contains-append_left, Contains-push}
use Rattle.std.proofs.lemmas.List.Sums.{sum_by-set}
use Rattle.std.proofs.lemmas.Option.{same_Some}
use Rattle.ifc_instances.proofs.Rising.{below_next}
use Rattle.spatial_tree.specs.declared.step.Step.{Step}
use Rattle.spatial_tree.specs.declared.mark.Mark.{Mark}
use Rattle.spatial_tree.specs.declared.mark.Mark.TheVariants.{Unseen, OnWay, Looped, Settled}
use Rattle.spatial_tree.specs.inner.UpwardSteps.{Goes, AreWithin}
use Rattle.spatial_tree.specs.inner.StoreyMarks.{mark_at, WasPut, IsWay, EndsSeen, Climbed}
use Rattle.spatial_tree.proofs.Rounds.{decide, one_up}

pub mark_same : (marks : List Mark) (at : ℕ) (m : Mark) → at < length marks → mark_at (set marks at m) at ≡ m
mark_same marks at m l = get_or-set_same marks at m Unseen l

pub mark_other : (marks : List Mark) (at j : ℕ) (m : Mark) → (j ≡ at → ⊥) → mark_at (set marks at m) j ≡ mark_at marks j
mark_other marks at j m n = get_or-set_other marks at j m Unseen n

-- a mark of this or another place
pub set_cases : (marks : List Mark) (at j : ℕ) (m : Mark) → at < length marks → ((j ≡ at) × (mark_at (set marks at m) j ≡ m)) ⊎ ((j ≡ at → ⊥) × (mark_at (set marks at m) j ≡ mark_at marks j))
set_cases marks at j m l = elim (decide j at) [
  | inl e ↦ inl (e, ap (mark_at (set marks at m)) e ∙ mark_same marks at m l)
  | inr n ↦ inr (n, mark_other marks at j m n)
]

-- Ways that grow and shrink by an end.

pub push_length : (way : List ℕ) (at : ℕ) → length (way ++ at ∷ []) ≡ length way + 1
push_length way at = length-append way (at ∷ [])

push_front : (way : List ℕ) (at k : ℕ) → k < length way → get_or (way ++ at ∷ []) k 0 ≡ get_or way k 0
push_front way at k l = get_or_append_left way (at ∷ []) 0 k l

pub push_end : (way : List ℕ) (at k : ℕ) → k ≡ length way → get_or (way ++ at ∷ []) k 0 ≡ at
push_end way at k e = get_or_push way at 0 k (sym e)

pub way_push : (steps : List Step) (way : List ℕ) (at : ℕ) → IsWay steps way → at < length steps → ((k : ℕ) → k + 1 ≡ length way → Goes steps (get_or way k 0) at) → IsWay steps (way ++ at ∷ [])
way_push steps way at w l g = record {
  within = λ k b. (let n = push_length way at in elim (below_next k (length way) (omega arith)) [
    | inl f ↦ subst (λ x. x < length steps) (sym (push_front way at k f)) (w.within k f)
    | inr e ↦ subst (λ x. x < length steps) (sym (push_end way at k e)) l
  ]);
  chain = λ k b. (let n = push_length way at in elim (below_next (k + 1) (length way) (omega arith)) [
    | inl f ↦ subst (λ x. Goes steps x (get_or (way ++ at ∷ []) (k + 1) 0)) (sym (push_front way at k (omega arith))) (subst (λ x. Goes steps (get_or way k 0) x) (sym (push_front way at (k + 1) f)) (w.chain k f))
    | inr e ↦ subst (λ x. Goes steps x (get_or (way ++ at ∷ []) (k + 1) 0)) (sym (push_front way at k (omega arith))) (subst (λ x. Goes steps (get_or way k 0) x) (sym (push_end way at (k + 1) e)) (g k e))
  ]);
}

pub way_pop : (steps : List Step) (way : List ℕ) (at : ℕ) → IsWay steps (way ++ at ∷ []) → IsWay steps way
way_pop steps way at w = record {
  within = λ k b. (let n = push_length way at in subst (λ x. x < length steps) (push_front way at k b) (w.within k (omega arith)));
  chain = λ k b. (let n = push_length way at in
      subst (λ x. Goes steps x (get_or way (k + 1) 0)) (push_front way at k (omega arith)) (subst (λ x. Goes steps (get_or (way ++ at ∷ []) k 0) x) (push_front way at (k + 1) b) (w.chain k (omega arith))));
}

-- the end of what is left leads to what was popped
pub pop_next : (steps : List Step) (way : List ℕ) (at : ℕ) → IsWay steps (way ++ at ∷ []) → (k up : ℕ) → k + 1 ≡ length way → Goes steps (get_or way k 0) up → up ≡ at
pop_next steps way at w k up e g =
    let n = push_length way at in
    let c = w.chain k (omega arith) in
    let d = subst (λ x. Goes steps x (get_or (way ++ at ∷ []) (k + 1) 0)) (push_front way at k (omega arith)) c in
    one_up steps (get_or way k 0) up at g (subst (λ x. Goes steps (get_or way k 0) x) (push_end way at (k + 1) e) d)

-- Climbing.

pub record Ahead (steps : List Step) (marks : List Mark) (way : List ℕ) (up : ℕ) : Type 0 where
  pub within : up < length steps
  pub unseen : mark_at marks up ≡ Unseen
  pub joins : (k : ℕ) → k + 1 ≡ length way → Goes steps (get_or way k 0) up

pub record Climbing (steps : List Step) (old marks : List Mark) (way : List ℕ) (next : Option ℕ) (start : ℕ) : Type 0 where
  pub changed : (at : ℕ) → (mark_at marks at ≡ mark_at old at) ⊎ WasPut old marks way at
  pub is_way : IsWay steps way
  pub within : (up : ℕ) → next ≡ Some up → up < length steps
  pub ahead : (up : ℕ) → next ≡ Some up → Ahead steps marks way up
  pub ends : next ≡ None → EndsSeen steps marks way
  pub started : (mark_at marks start ≢ Unseen) ⊎ (next ≡ Some start)

put_more : (old marks : List Mark) (way : List ℕ) (at j : ℕ) → at < length marks → (mark_at marks j ≡ mark_at old j) ⊎ WasPut old marks way j → mark_at marks at ≡ Unseen
    → (mark_at old at ≡ Unseen) → (mark_at (set marks at OnWay) j ≡ mark_at old j) ⊎ WasPut old (set marks at OnWay) (way ++ at ∷ []) j
put_more old marks way at j l c u o = elim (set_cases marks at j OnWay l) [
  | inl s ↦ inr (record {
    before = ap (mark_at old) s.0 ∙ o;
    after = s.1;
    there = subst (λ n. Contains (way ++ at ∷ []) n) (sym s.0) (Contains-push way at);
  })
  | inr n ↦ elim c [
    | inl e ↦ inl (n.1 ∙ e)
    | inr w ↦ inr (record { before = w.before; after = n.1 ∙ w.after; there = Contains-append_left way (at ∷ []) j w.there })
  ]
]

was_unseen : (old marks : List Mark) (way : List ℕ) (at : ℕ) → (mark_at marks at ≡ mark_at old at) ⊎ WasPut old marks way at → mark_at marks at ≡ Unseen → mark_at old at ≡ Unseen
was_unseen old marks way at c u = elim c [ inl e ↦ sym e ∙ u | inr w ↦ w.before ]

on_way_seen : (m : Mark) → m ≡ OnWay → m ≢ Unseen
on_way_seen m e f = cc

pub climb_goes_on : (steps : List Step) (old marks : List Mark) (way : List ℕ) (start at : ℕ) (next after : Option ℕ) → AreWithin steps → length marks ≡ length steps → Climbing steps old marks way next start → next ≡ Some at
    → MatchOption after ((up : ℕ) → Goes steps at up → mark_at (set marks at OnWay) up ≢ Unseen) (λ up. Goes steps at up × (mark_at (set marks at OnWay) up ≡ Unseen))
    → Climbing steps old (set marks at OnWay) (way ++ at ∷ []) after start
climb_goes_on steps old marks way start at next after w size c is m =
    let a = c.ahead at is in
    let l : at < length marks = (let b = a.within in omega arith) in
    record {
      changed = λ j. put_more old marks way at j l (c.changed j) a.unseen (was_unseen old marks way at (c.changed at) a.unseen);
      is_way = way_push steps way at c.is_way a.within a.joins;
      within = λ up e. (let a = going steps (set marks at OnWay) way at up after w e m in a.within);
      ahead = λ up e. going steps (set marks at OnWay) way at up after w e m;
      ends = λ e k up f g. ended steps (set marks at OnWay) way at after e m k up f g;
      started = inl (elim (set_cases marks at start OnWay l) [
        | inl s ↦ on_way_seen (mark_at (set marks at OnWay) start) s.1
        | inr n ↦ elim c.started [
          | inl h ↦ (λ f. h (sym n.1 ∙ f))
          | inr e ↦ absurd (n.0 (same_Some start at (sym e ∙ is)))
        ]
      ]);
    }
  where
    going : (steps : List Step) (marks : List Mark) (way : List ℕ) (at up : ℕ) (after : Option ℕ) → AreWithin steps → after ≡ Some up
        → MatchOption after ((up : ℕ) → Goes steps at up → mark_at marks up ≢ Unseen) (λ up. Goes steps at up × (mark_at marks up ≡ Unseen)) → Ahead steps marks (way ++ at ∷ []) up
    going steps marks way at up None w e m = absurd cc
    going steps marks way at up (Some v) w e m =
        let s : v ≡ up = same_Some v up e in
        let g = subst (λ n. Goes steps at n) s m.0 in
        record {
          within = w at up g;
          unseen = subst (λ n. mark_at marks n ≡ Unseen) s m.1;
          joins = λ k f. (let n = push_length way at in subst (λ x. Goes steps x up) (sym (push_end way at k (omega arith))) g);
        }

    ended : (steps : List Step) (marks : List Mark) (way : List ℕ) (at : ℕ) (after : Option ℕ) → after ≡ None
        → MatchOption after ((up : ℕ) → Goes steps at up → mark_at marks up ≢ Unseen) (λ up. Goes steps at up × (mark_at marks up ≡ Unseen)) → EndsSeen steps marks (way ++ at ∷ [])
    ended steps marks way at None e m k up f g = (let n = push_length way at in m up (subst (λ x. Goes steps x up) (push_end way at k (omega arith)) g))
    ended steps marks way at (Some v) e m k up f g = absurd cc

-- how many places are unseen, or not on a marked loop
pub unseen_one : Mark → ℕ
unseen_one Unseen = 1
unseen_one _ = 0

pub unlooped_one : Mark → ℕ
unlooped_one Looped = 0
unlooped_one _ = 1

abbrev pub unseen_count : List Mark → ℕ
unseen_count marks = sum_by unseen_one marks

abbrev pub unlooped_count : List Mark → ℕ
unlooped_count marks = sum_by unlooped_one marks

pub unseen_falls : (marks : List Mark) (at : ℕ) → at < length marks → mark_at marks at ≡ Unseen → unseen_count (set marks at OnWay) < unseen_count marks
unfolding unseen_one
unseen_falls marks at l u = (let s = sum_by-set unseen_one marks at OnWay Unseen l in let o : unseen_one (get_or marks at Unseen) ≡ 1 = ap unseen_one u in omega arith)

pub unlooped_falls : (marks : List Mark) (at : ℕ) → at < length marks → mark_at marks at ≢ Looped → unlooped_count (set marks at Looped) < unlooped_count marks
unfolding unlooped_one
unlooped_falls marks at l u = (let s = sum_by-set unlooped_one marks at Looped Unseen l in let o : unlooped_one (get_or marks at Unseen) ≡ 1 = one (get_or marks at Unseen) u in omega arith)
  where
    one : (m : Mark) → m ≢ Looped → unlooped_one m ≡ 1
    one Looped n = absurd (n refl)
    one Unseen n = refl
    one OnWay n = refl
    one (Settled s) n = refl
