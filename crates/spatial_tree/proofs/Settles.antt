-- How loops are marked, and how the places of a way are settled.
use Rattle.std.proofs.Common.{◌≡◌, ◌≢◌, ℕ, zero, suc, ◌+◌, ◌-◌, ◌<◌, ◌≤◌, ◌⊎◌, inl, inr, Option, Some, None, MatchOption, List, [], ◌∷◌, ◌++◌, length, get_or, set, take, drop, replicate, refl, sym, ap, ◌∙◌, subst, arith}
use Rattle.std.specs.List.{slice_get}
use Rattle.std.proofs.lemmas.Option.{slice_get_within, slice_get-get_or, get_or_from_slice_get, same_Some}
use Rattle.std.proofs.lemmas.List.{length-set, length-replicate, take-append-le, take_all}
use Rattle.std.proofs.lemmas.List.Elements.{Contains-push_cases}
use Rattle.ifc_instances.proofs.Rising.{below_next}
use Rattle.spatial_tree.specs.declared.step.Step.{Step}
use Rattle.spatial_tree.specs.declared.mark.Mark.{Mark}
use Rattle.spatial_tree.specs.declared.mark.Mark.TheVariants.{Unseen, OnWay, Looped, Settled}
use Rattle.spatial_tree.specs.Climbing.{IsAbove}
use Rattle.spatial_tree.specs.inner.UpwardSteps.{up_of, storey_at, Goes, AreWithin, IsRound, Finds, here, further}
use Rattle.spatial_tree.specs.inner.StoreyMarks.{mark_at, told_by, Answers, IsSettled, Says, AreRight, AreIdle, KeepsSeen, Climbed, Known, IsDone, Rounded, Settling, IsSurveyed}
use Rattle.spatial_tree.proofs.Rounds.{one_up, rotated, back_to, kept_above, first_step, comes_round}
use Rattle.spatial_tree.proofs.Marking.{set_cases, way_pop, pop_next, push_length, push_end, mark_same}

-- Marking a loop.

pub record Rounding (steps : List Step) (old marks : List Mark) (next : Option ℕ) (start : ℕ) : Type 0 where
  pub changed : (at : ℕ) → (mark_at marks at ≡ mark_at old at) ⊎ ((mark_at marks at ≡ Looped) × IsRound steps at)
  pub closed : (at up : ℕ) → mark_at marks at ≡ Looped → Goes steps at up → (mark_at marks up ≡ Looped) ⊎ (next ≡ Some up)
  pub within : (up : ℕ) → next ≡ Some up → up < length steps
  pub unlooped : (up : ℕ) → next ≡ Some up → mark_at marks up ≢ Looped
  pub round : (up : ℕ) → next ≡ Some up → IsRound steps up
  pub started : (mark_at marks start ≡ Looped) ⊎ (next ≡ Some start)

pub round_goes_on : (steps : List Step) (old marks : List Mark) (start at : ℕ) (next after : Option ℕ) → AreWithin steps → length marks ≡ length steps → Rounding steps old marks next start → next ≡ Some at
    → MatchOption after ((up : ℕ) → Goes steps at up → mark_at (set marks at Looped) up ≡ Looped) (λ up. Goes steps at up × (mark_at (set marks at Looped) up ≢ Looped))
    → Rounding steps old (set marks at Looped) after start
round_goes_on steps old marks start at next after w size r is m =
    let l : at < length marks = (let b = r.within at is in omega arith) in
    record {
      changed = λ j. elim (set_cases marks at j Looped l) [
        | inl s ↦ inr (s.1, subst (λ n. IsRound steps n) (sym s.0) (r.round at is))
        | inr n ↦ elim (r.changed j) [ inl e ↦ inl (n.1 ∙ e) | inr h ↦ inr (n.1 ∙ h.0, h.1) ]
      ];
      closed = λ j up k g. elim (set_cases marks at j Looped l) [
        | inl s ↦ from_here up after m (subst (λ n. Goes steps n up) s.0 g)
        | inr n ↦ elim (r.closed j up (sym n.1 ∙ k) g) [
          | inl h ↦ inl (elim (set_cases marks at up Looped l) [ inl s ↦ s.1 | inr o ↦ o.1 ∙ h ])
          | inr e ↦ inl (elim (set_cases marks at up Looped l) [ inl s ↦ s.1 | inr o ↦ absurd (o.0 (same_Some up at (sym e ∙ is))) ])
        ]
      ];
      within = λ up e. w at up (goes up after e m);
      unlooped = λ up e. unlike up after e m;
      round = λ up e. rotated (Goes steps) (one_up steps) at up (goes up after e m) (r.round at is);
      started = inl (elim (set_cases marks at start Looped l) [
        | inl s ↦ s.1
        | inr n ↦ elim r.started [ inl h ↦ n.1 ∙ h | inr e ↦ absurd (n.0 (same_Some start at (sym e ∙ is))) ]
      ]);
    }
  where
    goes : (up : ℕ) (o : Option ℕ) → o ≡ Some up → MatchOption o ((up : ℕ) → Goes steps at up → mark_at (set marks at Looped) up ≡ Looped) (λ up. Goes steps at up × (mark_at (set marks at Looped) up ≢ Looped)) → Goes steps at up
    goes up None e m = absurd cc
    goes up (Some v) e m = subst (λ n. Goes steps at n) (same_Some v up e) m.0

    unlike : (up : ℕ) (o : Option ℕ) → o ≡ Some up → MatchOption o ((up : ℕ) → Goes steps at up → mark_at (set marks at Looped) up ≡ Looped) (λ up. Goes steps at up × (mark_at (set marks at Looped) up ≢ Looped)) → mark_at (set marks at Looped) up ≢ Looped
    unlike up None e m = absurd cc
    unlike up (Some v) e m = subst (λ n. mark_at (set marks at Looped) n ≢ Looped) (same_Some v up e) m.1

    from_here : (up : ℕ) (o : Option ℕ) → MatchOption o ((up : ℕ) → Goes steps at up → mark_at (set marks at Looped) up ≡ Looped) (λ up. Goes steps at up × (mark_at (set marks at Looped) up ≢ Looped)) → Goes steps at up → (mark_at (set marks at Looped) up ≡ Looped) ⊎ (o ≡ Some up)
    from_here up None m g = inl (m up g)
    from_here up (Some v) m g = inr (ap Some (one_up steps at v up m.0 g))

-- From climbing to settling.

says_moved : (steps : List Step) (at : ℕ) (m n : Mark) → m ≡ n → Says steps at n → Says steps at m
says_moved steps at m n e s = subst (λ x. Says steps at x) (sym e) s

last_place : (way : List ℕ) (top : ℕ) → slice_get way (length way - 1) ≡ Some top → ((length way - 1) + 1 ≡ length way) × (get_or way (length way - 1) 0 ≡ top)
last_place way top e = (let l = slice_get_within way (length way - 1) top e in omega arith, get_or_from_slice_get way (length way - 1) top 0 e)

pub top_round : (steps : List Step) (marks : List Mark) (way : List ℕ) (top up : ℕ) → Known steps marks way → slice_get way (length way - 1) ≡ Some top → Goes steps top up → mark_at marks up ≡ OnWay → IsRound steps up
top_round steps marks way top up k e g m =
    let p = last_place way top e in
    comes_round steps way k.is_way (length way - 1) up p.0 (subst (λ x. Goes steps x up) (sym p.1) g) (k.listed up m)

-- Settling.

pub single : (steps : List Step) (marks : List Mark) (at : ℕ) → AreRight steps marks → ((up : ℕ) → Goes steps at up → IsDone (mark_at marks up)) → mark_at marks at ≢ Looped → IsRound steps at → ⊥
single steps marks at r d n h =
    let f = first_step (Goes steps) at at h in
    by_mark f.to f.step (back_to (Goes steps) (one_up steps) at f.to f.step h) (mark_at marks f.to) refl (d f.to f.step)
  where
    by_mark : (up : ℕ) → Goes steps at up → (up ≡ at) ⊎ IsAbove (Goes steps) up at → (m : Mark) → mark_at marks up ≡ m → IsDone m → ⊥
    by_mark up g b Unseen e i = i
    by_mark up g b OnWay e i = i
    by_mark up g b Looped e i = n (elim b [
      | inl s ↦ ap (mark_at marks) (sym s) ∙ e
      | inr p ↦ kept_above (Goes steps) (λ x. mark_at marks x ≡ Looped) (λ x y c q. r.closed x y c q) up at e p
    ])
    by_mark up g b (Settled s) e i = (let t : IsSettled steps up s = subst (λ x. Says steps up x) e (r.says up) in t.single (rotated (Goes steps) (one_up steps) at up g h))

pub settle_skips : (steps : List Step) (marks : List Mark) (way rest : List ℕ) (at : ℕ) → way ≡ rest ++ at ∷ [] → mark_at marks at ≡ Looped → Settling steps marks way → Settling steps marks rest
settle_skips steps marks way rest at split l s = from (subst (λ w. Settling steps marks w) split s)
  where
    unlike : (m : Mark) → m ≡ Looped → m ≡ OnWay → ⊥
    unlike m e f = cc

    from : Settling steps marks (rest ++ at ∷ []) → Settling steps marks rest
    from s = record {
      right = s.right;
      is_way = way_pop steps rest at s.is_way;
      listed = λ j m. elim (Contains-push_cases rest at j (s.listed j m)) [ inl c ↦ c | inr e ↦ absurd (unlike (mark_at marks j) (ap (mark_at marks) (sym e) ∙ l) m) ];
      ends = λ k up e g. (let t = pop_next steps rest at s.is_way k up e g in subst (λ x. IsDone (mark_at marks x)) (sym t) (subst IsDone (sym l) tt));
    }

pub popped_done : (steps : List Step) (marks : List Mark) (way rest : List ℕ) (at : ℕ) → way ≡ rest ++ at ∷ [] → Settling steps marks way → (up : ℕ) → Goes steps at up → IsDone (mark_at marks up)
popped_done steps marks way rest at split s up g = from (subst (λ w. Settling steps marks w) split s)
  where
    from : Settling steps marks (rest ++ at ∷ []) → IsDone (mark_at marks up)
    from s = (let n = push_length rest at in s.ends (length rest) up (omega arith) (subst (λ x. Goes steps x up) (sym (push_end rest at (length rest) refl)) g))

pub popped_within : (steps : List Step) (marks : List Mark) (way rest : List ℕ) (at : ℕ) → way ≡ rest ++ at ∷ [] → Settling steps marks way → at < length steps
popped_within steps marks way rest at split s = from (subst (λ w. Settling steps marks w) split s)
  where
    from : Settling steps marks (rest ++ at ∷ []) → at < length steps
    from s = (let n = push_length rest at in subst (λ x. x < length steps) (push_end rest at (length rest) refl) (s.is_way.within (length rest) (omega arith)))

pub settle_sets : (steps : List Step) (marks : List Mark) (way rest : List ℕ) (at : ℕ) (storey : Option ℕ) → way ≡ rest ++ at ∷ [] → mark_at marks at ≢ Looped → Answers steps at storey → Settling steps marks way → Settling steps (set marks at (Settled storey)) rest
settle_sets steps marks way rest at storey split n a s = from (subst (λ w. Settling steps marks w) split s) (popped_within steps marks way rest at split s) (popped_done steps marks way rest at split s)
  where
    unlike : (m : Mark) → m ≡ Settled storey → m ≡ OnWay → ⊥
    unlike m e f = cc

    other : (m : Mark) → m ≡ Settled storey → m ≡ Looped → ⊥
    other m e f = cc

    from : Settling steps marks (rest ++ at ∷ []) → at < length steps → ((up : ℕ) → Goes steps at up → IsDone (mark_at marks up)) → Settling steps (set marks at (Settled storey)) rest
    from s b d =
        let l : at < length marks = (let z = s.right.size in omega arith) in
        record {
          right = record {
            size = length-set marks at (Settled storey) ∙ s.right.size;
            says = λ j. elim (set_cases marks at j (Settled storey) l) [
              | inl e ↦ says_moved steps j _ _ e.1 (record {
                single = subst (λ x. IsRound steps x → ⊥) (sym e.0) (single steps marks at s.right d n);
                answers = subst (λ x. Answers steps x storey) (sym e.0) a;
              })
              | inr e ↦ says_moved steps j _ _ e.1 (s.right.says j)
            ];
            closed = λ j up m g. elim (set_cases marks at j (Settled storey) l) [
              | inl e ↦ absurd (other _ e.1 m)
              | inr e ↦ (let h = s.right.closed j up (sym e.1 ∙ m) g in elim (set_cases marks at up (Settled storey) l) [
                | inl f ↦ absurd (n (ap (mark_at marks) (sym f.0) ∙ h))
                | inr f ↦ f.1 ∙ h
              ])
            ];
          };
          is_way = way_pop steps rest at s.is_way;
          listed = λ j m. elim (set_cases marks at j (Settled storey) l) [
            | inl e ↦ absurd (unlike _ e.1 m)
            | inr e ↦ elim (Contains-push_cases rest at j (s.listed j (sym e.1 ∙ m))) [ inl c ↦ c | inr f ↦ absurd (e.0 (sym f)) ]
          ];
          ends = λ k up e g. (let t = pop_next steps rest at s.is_way k up e g in
              subst (λ x. IsDone (mark_at (set marks at (Settled storey)) x)) (sym t) (subst IsDone (sym (mark_same marks at (Settled storey) l)) tt));
        }

pub settled_seen : (marks : List Mark) (at : ℕ) (storey : Option ℕ) → at < length marks → KeepsSeen marks (set marks at (Settled storey))
settled_seen marks at storey l j h = elim (set_cases marks at j (Settled storey) l) [ inl e ↦ seen _ e.1 | inr e ↦ (λ f. h (sym e.1 ∙ f)) ]
  where
    seen : (m : Mark) → m ≡ Settled storey → m ≢ Unseen
    seen m e f = cc

-- Answers.

pub answers_here : (steps : List Step) (at storey : ℕ) → storey_at steps at ≡ Some storey → Answers steps at (Some storey)
answers_here steps at storey e = here at storey e

no_storey : (o : Option ℕ) (s : ℕ) → o ≡ None → o ≡ Some s → ⊥
no_storey o s e f = cc

pub answers_up : (steps : List Step) (marks : List Mark) (at up : ℕ) (m : Mark) → AreRight steps marks → storey_at steps at ≡ None → Goes steps at up → mark_at marks up ≡ m → IsDone m → Answers steps at (told_by m)
answers_up steps marks at up Unseen r e g is d = absurd d
answers_up steps marks at up OnWay r e g is d = absurd d
answers_up steps marks at up Looped r e g is d = (let h : IsRound steps up = subst (λ x. Says steps up x) is (r.says up) in inr (record { member = up; round = h }))
answers_up steps marks at up (Settled None) r e g is d =
    let t : IsSettled steps up None = subst (λ x. Says steps up x) is (r.says up) in
    elim t.answers [ inl n ↦ inl (λ s f. lower at s e g n f) | inr h ↦ inr h ]
  where
    lower : (at s : ℕ) → storey_at steps at ≡ None → Goes steps at up → ((s : ℕ) → Finds steps up s → ⊥) → Finds steps at s → ⊥
    lower _ _ e g n (here at s f) = no_storey (storey_at steps at) s e f
    lower _ _ e g n (further at u s f h i) = n s (subst (λ x. Finds steps x s) (one_up steps at u up h g) i)
answers_up steps marks at up (Settled (Some s)) r e g is d =
    let t : IsSettled steps up (Some s) = subst (λ x. Says steps up x) is (r.says up) in
    further at up s e g t.answers

-- Surveys.

unseen_all : (n at : ℕ) → mark_at (replicate n Unseen) at ≡ Unseen
unseen_all zero at = refl
unseen_all (suc n) zero = refl
unseen_all (suc n) (suc at) = unseen_all n at

pub starts_right : (steps : List Step) (marks : List Mark) → marks ≡ replicate (length steps) Unseen → AreRight steps marks
starts_right steps marks e = record {
  size = ap length e ∙ length-replicate (length steps) Unseen;
  says = λ at. says_moved steps at _ _ (ap (λ m. mark_at m at) e ∙ unseen_all (length steps) at) tt;
  closed = λ at up m g. absurd (unlike _ (ap (λ m. mark_at m at) e ∙ unseen_all (length steps) at) m);
}
  where
    unlike : (m : Mark) → m ≡ Unseen → m ≡ Looped → ⊥
    unlike m e f = cc

pub starts_idle : (n : ℕ) (marks : List Mark) → marks ≡ replicate n Unseen → AreIdle marks
starts_idle n marks e at m = unlike _ (ap (λ m. mark_at m at) e ∙ unseen_all n at) m
  where
    unlike : (m : Mark) → m ≡ Unseen → m ≡ OnWay → ⊥
    unlike m e f = cc

pub surveyed : (steps : List Step) (marks : List Mark) (count : ℕ) → length steps ≤ count → AreRight steps marks → AreIdle marks → ((k : ℕ) → k < count → mark_at marks k ≢ Unseen) → IsSurveyed steps marks
surveyed steps marks count l r i s = record { size = r.size; says = r.says; done = λ at b. done (mark_at marks at) (s at (omega arith)) (i at) }
  where
    done : (m : Mark) → m ≢ Unseen → m ≢ OnWay → IsDone m
    done Unseen a b = absurd (a refl)
    done OnWay a b = absurd (b refl)
    done Looped a b = tt
    done (Settled s) a b = tt

pub seen_more : (old new : List Mark) (at : ℕ) → KeepsSeen old new → mark_at new at ≢ Unseen → ((k : ℕ) → k < at → mark_at old k ≢ Unseen) → (k : ℕ) → k < at + 1 → mark_at new k ≢ Unseen
seen_more old new at keeps now h k l = elim (below_next k at l) [ inl a ↦ keeps k (h k a) | inr e ↦ subst (λ n. mark_at new n ≢ Unseen) (sym e) now ]

pub written : (n : ℕ) (xs ys : List Mark) → length xs ≡ n → take n (xs ++ drop (length xs) ys) ≡ xs
written n xs ys e = take-append-le n xs (drop (length xs) ys) (omega arith) ∙ take_all n xs (omega arith)
